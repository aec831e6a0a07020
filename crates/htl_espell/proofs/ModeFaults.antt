-- The first departure of a mode, list by list, and of all modes.
use Rattle.std.proofs.Common.{◌≡◌, ◌↔◌, Result, IsOk, refl, ℕ, zero, suc, ◌+◌, ◌≤◌, ◌<◌, List, length, Option, Some, None, Ok, Err, sym, ap, ◌∙◌, arith, add-one, ◌⊎◌, inl, inr}
use Rattle.htl_espell.proofs.Words.{Tables, ECode, EInstr, EFault, enter_chain, begin_chain, decide_chain, read, steps_of, target_of, fault_of, either, entered, block_begun, decided, first_target, enter_fault, begin_fault, phase_fault, decide_fault, mode_fault, departure_before, departure, Spells, spelled_departs_not, departs_not_spells, phase_departure, enter_read, begin_read, decide_read, cases_at_most}
use Rattle.htl_espell.proofs.Whole.{enter_fault_is, begin_fault_is, begin_targets, decide_fault_is}

either_first : (a b : Option EFault) (e : EFault) → Some e ≡ a → Some e ≡ either a b
either_first a b e h = ap (λ z. either z b) h

either_second : (a b c : Option EFault) → None ≡ a → c ≡ b → c ≡ either a b
either_second a b c h g = g ∙ ap (λ z. either z b) h

module _ (t : Tables) (code : ECode) (m enter begin decide : ℕ) (js : List EInstr) (es : List ℕ) (js_is : js ≡ code.instrs) (es_is : es ≡ code.enter) (enter_is : enter ≡ entered code m)
    (begin_is : begin ≡ block_begun code m) (decide_is : decide ≡ decided code m) where
  entering : (f : Option EFault) → f ≡ fault_of (enter_read js t begin m enter) → f ≡ enter_fault t code m
  entering f h =
      h
      ∙ ap (λ z. fault_of (enter_read z t begin m enter)) js_is
      ∙ enter_fault_is code.instrs t begin m enter
      ∙ ap (λ a. fault_of (read code.instrs a (enter_chain t begin m))) enter_is
      ∙ ap (λ b. fault_of (read code.instrs (entered code m) (enter_chain t b m))) begin_is

  beginning : (f : Option EFault) → f ≡ fault_of (begin_read js t decide m begin) → f ≡ begin_fault t code m
  beginning f h =
      h
      ∙ ap (λ z. fault_of (begin_read z t decide m begin)) js_is
      ∙ begin_fault_is code.instrs t decide m begin
      ∙ ap (λ a. fault_of (read code.instrs a (begin_chain t decide m))) begin_is
      ∙ ap (λ d. fault_of (read code.instrs (block_begun code m) (begin_chain t d m))) decide_is

  target_at : (p : ℕ) → target_of p (begin_chain t decide m) (steps_of (read code.instrs begin (begin_chain t decide m))) ≡ first_target t code m p
  target_at p =
      ap (λ a. target_of p (begin_chain t decide m) (steps_of (read code.instrs a (begin_chain t decide m)))) begin_is
      ∙ ap (λ d. target_of p (begin_chain t d m) (steps_of (read code.instrs (block_begun code m) (begin_chain t d m)))) decide_is

  deciding : (f : Option EFault) → f ≡ fault_of (decide_read js t begin es m decide) → f ≡ decide_fault t code m
  deciding f h =
      h
      ∙ ap (λ z. fault_of (decide_read z t begin es m decide)) js_is
      ∙ ap (λ z. fault_of (decide_read code.instrs t begin z m decide)) es_is
      ∙ decide_fault_is code.instrs t begin code.enter m decide
      ∙ ap (λ a. fault_of (read code.instrs a (decide_chain t begin code.enter m))) decide_is
      ∙ ap (λ b. fault_of (read code.instrs (decided code m) (decide_chain t b code.enter m))) begin_is

  pub enter_departs : (e : EFault) → Some e ≡ fault_of (enter_read js t begin m enter) → Some e ≡ mode_fault t code m
  enter_departs e h = either_first (enter_fault t code m) _ e (entering (Some e) h)

  module _ (enters : None ≡ fault_of (enter_read js t begin m enter)) where
    pub begin_departs : (e : EFault) → Err e ≡ begin_read js t decide m begin → Some e ≡ mode_fault t code m
    begin_departs e h =
        either_second (enter_fault t code m) _ (Some e) (entering None enters) (either_first (begin_fault t code m) _ e (beginning (Some e) (ap (λ r. fault_of r) h)))

    module _ (x : Option ℕ × Option ℕ) (begins : Ok x ≡ begin_read js t decide m begin) where
      to_writes : (f rest : Option EFault) → f ≡ rest → f ≡ either (enter_fault t code m) (either (begin_fault t code m) rest)
      to_writes f rest h = either_second (enter_fault t code m) _ f (entering None enters) (either_second (begin_fault t code m) rest f (beginning None (ap (λ r. fault_of r) begins)) h)

      writing : (f : Option EFault) → f ≡ phase_departure t js m 1 x.0 → f ≡ phase_fault t code m 1
      writing f h =
          h ∙ ap (λ z. phase_departure t z m 1 x.0) js_is
          ∙ ap (phase_departure t code.instrs m 1) ((begin_targets code.instrs t decide m begin x (sym (begins ∙ ap (λ z. begin_read z t decide m begin) js_is))).0 ∙ target_at 1)

      reading : (f : Option EFault) → f ≡ phase_departure t js m 3 x.1 → f ≡ phase_fault t code m 3
      reading f h =
          h ∙ ap (λ z. phase_departure t z m 3 x.1) js_is
          ∙ ap (phase_departure t code.instrs m 3) ((begin_targets code.instrs t decide m begin x (sym (begins ∙ ap (λ z. begin_read z t decide m begin) js_is))).1 ∙ target_at 3)

      pub writes_depart : (e : EFault) → Some e ≡ phase_departure t js m 1 x.0 → Some e ≡ mode_fault t code m
      writes_depart e h = to_writes (Some e) _ (either_first (phase_fault t code m 1) _ e (writing (Some e) h))

      pub reads_depart : None ≡ phase_departure t js m 1 x.0 → (e : EFault) → Some e ≡ phase_departure t js m 3 x.1 → Some e ≡ mode_fault t code m
      reads_depart w e h =
          to_writes (Some e) _ (either_second (phase_fault t code m 1) _ (Some e) (writing None w) (either_first (phase_fault t code m 3) (decide_fault t code m) e (reading (Some e) h)))

      pub decided_last : None ≡ phase_departure t js m 1 x.0 → None ≡ phase_departure t js m 3 x.1 → (f : Option EFault) → f ≡ fault_of (decide_read js t begin es m decide) → f ≡ mode_fault t code m
      decided_last w r f h =
          to_writes f _ (either_second (phase_fault t code m 1) _ f (writing None w) (either_second (phase_fault t code m 3) (decide_fault t code m) f (reading None r) (deciding f h)))

-- ---- all modes

pub modes_more : (t : Tables) (code : ECode) (m : ℕ) → departure_before t code m ≡ None → None ≡ mode_fault t code m → departure_before t code (m + 1) ≡ None
modes_more t code m h g = ap (departure_before t code) (add-one m) ∙ sym (either_second (departure_before t code m) (mode_fault t code m) None (sym h) g)

-- a departure below n stays the first
stays_first : (t : Tables) (code : ECode) (e : EFault) (m n : ℕ) → m ≤ n → Some e ≡ departure_before t code m → Some e ≡ departure_before t code n
stays_first t code e m zero h g = (let same : m ≡ zero = omega arith in g ∙ ap (departure_before t code) same)
stays_first t code e m (suc n) h g = by_order (cases_at_most m n h) (λ q. stays_first t code e m n q g)
  where
    by_order : (m ≤ n) ⊎ (m ≡ suc n) → (m ≤ n → Some e ≡ departure_before t code n) → Some e ≡ departure_before t code (suc n)
    by_order (inl q) ih = either_first (departure_before t code n) (mode_fault t code n) e (ih q)
    by_order (inr q) ih = g ∙ ap (departure_before t code) q

pub mode_departs : (t : Tables) (code : ECode) (e : EFault) (m : ℕ) → m < length t.modes → departure_before t code m ≡ None → Some e ≡ mode_fault t code m → Some e ≡ departure t code
mode_departs t code e m below h g =
    stays_first t code e (suc m) (length t.modes) (omega arith) (either_second (departure_before t code m) (mode_fault t code m) (Some e) (sym h) g)

-- an answer that has the first departure is Ok exactly where the code spells the tables
pub judged : {A : Type 0} (t : Tables) (code : ECode) (r : Result A EFault) → fault_of r ≡ departure t code → IsOk r ↔ Spells t code
judged t code (Ok x) e = (λ h. departs_not_spells t code (sym e), λ s. refl)
judged t code (Err f) e = (λ h. absurd (let z : ⊥ = cc in z), λ s. absurd (let none : departure t code ≡ None = spelled_departs_not t code s in let z : ⊥ = cc in z))
