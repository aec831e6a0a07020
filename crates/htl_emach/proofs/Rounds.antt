-- A round that begins, and a mode that is entered: what is passed, what stands there, what it does.
use Rattle.std.proofs.Common.{◌≡◌, ℕ, suc, ◌+◌, ◌-◌, ◌≤◌, Bool, true, false, cond, List, [], ◌∷◌, ◌++◌, length, slice_get, set, map, Option, Some, None, refl, sym, ap, ◌∙◌, subst, arith, inl, inr}
use Rattle.htl_emach.proofs.Words.{Module, places_from, Tables, mode_period, ECode, EInstr, next_offset, phase_offsets, Requirement, Exactly, EndOfRound, AtAnchor, all_do, waits_for, begin_chain, enter_chain, children, is_child, jump_to, Step, steps_of, passed_by, target_of, block_begun, entered, decided, block_at, begin_path, enter_path, chain_path, round_end, turn_step, IsLeast, least_is, kept, kept_one, kept_are, instrs_of, ModeReads, spelled_stands, spelled_first, Trigger, Calendar, goes, with_trigger, entry_of, calendar_effect, Leads, Ends, trigger_at, next_block, ending}
use Rattle.htl_ecode.specs.declared.instr.EInstr.TheVariants as I
use Rattle.htl_emach.proofs.{Blocks.IsBlock, Blocks.AllGoOn, Blocks.block_ends, Blocks.chain_leads, Blocks.ends_on, Effects.calendar_after, Effects.AllAllowed, Effects.WantsAllowed, Effects.allowed_instrs, Effects.with_next}
use Rattle.htl_emach.proofs.Triggers.{set_next, length_read}

-- a path of the switch phase in module k: it ends a block, holds what may stand, and does f
pub record Passes (t : Tables) (code : ECode) (at k : ℕ) (go : ℕ → EInstr → Option ℕ) (a : ℕ) (path : List ℕ) (f : Calendar → Calendar) : Type 0 where
  pub ends : Ends code.instrs go a path
  pub allowed : AllAllowed t 2 k (kept code.instrs path)
  pub does : (c : Calendar) → calendar_after t code at k (kept code.instrs path) c ≡ f c

-- ---- a round begins

abbrev pub begun_calendar : Tables → ECode → ℕ → ℕ → ℕ → Calendar → Calendar
begun_calendar t code at k m c =
    with_trigger 2 k (Some (ending t code (record { mode = m; start = at }))) (with_next 3 k (next_block t code m 3 at 0) (with_next 1 k (next_block t code m 1 at 0) c))

begin_block : (code : List EInstr) (hs rs : ℕ → Bool) (p d : ℕ) (w r : Option ℕ) → IsBlock code hs rs (waits_for 0 1 w ++ (waits_for 0 3 r ++ EndOfRound p d ∷ Exactly I.Return ∷ []))
begin_block code hs rs p d None None = (tt, refl)
begin_block code hs rs p d (Some x) (Some y) = (tt, (tt, (tt, refl)))
begin_block code hs rs p d _ _ = (tt, (tt, refl))

begin_wants : (t : Tables) (k p d : ℕ) (w r : Option ℕ) → WantsAllowed t 2 k (waits_for 0 1 w ++ (waits_for 0 3 r ++ EndOfRound p d ∷ Exactly I.Return ∷ []))
begin_wants t k p d None None = (tt, (tt, tt))
begin_wants t k p d (Some x) (Some y) = (tt, (tt, (tt, (tt, tt))))
begin_wants t k p d _ _ = (tt, (tt, (tt, tt)))

begin_does : (t : Tables) (code : ECode) (at k p d : ℕ) (w r : Option ℕ) (ss : List Step) (c : Calendar) → length ss ≡ length (waits_for 0 1 w ++ (waits_for 0 3 r ++ EndOfRound p d ∷ Exactly I.Return ∷ [])) →
    (let ws : List Requirement = waits_for 0 1 w ++ (waits_for 0 3 r ++ EndOfRound p d ∷ Exactly I.Return ∷ []) in
    calendar_after t code at k (instrs_of ws ss) c
    ≡ with_trigger 2 k (Some (record { at = at + p; target = (turn_step ws ss).target })) (set_next at k 3 0 r (target_of 3 ws ss) (set_next at k 1 0 w (target_of 1 ws ss) c)))
begin_does t code at k p d None None [] c e = absurd (omega (arith, e))
begin_does t code at k p d None None (a ∷ []) c e = absurd (omega (arith, e))
begin_does t code at k p d None None (a ∷ b ∷ x ∷ xs) c e = absurd (omega (arith, e))
begin_does t code at k p d None (Some y) [] c e = absurd (omega (arith, e))
begin_does t code at k p d None (Some y) (a ∷ []) c e = absurd (omega (arith, e))
begin_does t code at k p d None (Some y) (a ∷ b ∷ []) c e = absurd (omega (arith, e))
begin_does t code at k p d None (Some y) (a ∷ b ∷ x ∷ z ∷ xs) c e = absurd (omega (arith, e))
begin_does t code at k p d (Some u) None [] c e = absurd (omega (arith, e))
begin_does t code at k p d (Some u) None (a ∷ []) c e = absurd (omega (arith, e))
begin_does t code at k p d (Some u) None (a ∷ b ∷ []) c e = absurd (omega (arith, e))
begin_does t code at k p d (Some u) None (a ∷ b ∷ x ∷ z ∷ xs) c e = absurd (omega (arith, e))
begin_does t code at k p d (Some u) (Some y) (a ∷ b ∷ x ∷ z ∷ []) c e = refl
begin_does t code at k p d (Some u) (Some y) _ c e = absurd (omega (arith, e))
begin_does t code at k p d _ _ _ c e = refl

-- the trigger of a round's start is that of the first block
sets_first : (t : Tables) (code : ECode) (m p s k : ℕ) (c : Calendar) (n x : Option ℕ) → ((o : ℕ) → n ≡ Some o → (a : ℕ) × (block_at t code m p o ≡ Some a) × (x ≡ Some a)) →
    set_next s k p 0 n x c ≡ with_next p k (elim n as (λ _. Option Trigger) [ Some q ↦ trigger_at (s + q) (block_at t code m p q) | None ↦ None ]) c
sets_first t code m p s k c None x h = refl
sets_first t code m p s k c (Some o) x h =
    let g = h o refl in
    let same : o - 0 ≡ o = omega arith in
    ap (λ z. with_trigger p k (trigger_at (s + (o - 0)) z) c) g.2
    ∙ ap (λ n. with_trigger p k (Some (record { at = s + n; target = g.0 })) c) same
    ∙ sym (ap (λ z. with_next p k (trigger_at (s + o) z) c) g.1)

pub begin_passes : (t : Tables) (code : ECode) (at k m : ℕ) (hs rs : ℕ → Bool) → ModeReads t code m → Passes t code at k (goes hs rs) (block_begun code m) (begin_path t code m) (begun_calendar t code at k m)
begin_passes t code at k m hs rs r =
    subst (λ xs. Passes t code at k (goes hs rs) (block_begun code m) xs (begun_calendar t code at k m)) (sym path)
    (record {
      ends = block_ends code.instrs hs rs (begin_chain t (decided code m) m) (block_begun code m) r.begins.0 (begin_block code.instrs hs rs (mode_period t m) (decided code m) (next_offset t m 1 0) (next_offset t m 3 0)) r.begins.1;
      allowed = subst (AllAllowed t 2 k) (sym are) (allowed_instrs t 2 k (begin_chain t (decided code m) m) r.begins.0 (begin_wants t k (mode_period t m) (decided code m) (next_offset t m 1 0) (next_offset t m 3 0)));
      does = λ c. ap (λ is. calendar_after t code at k is c) are
          ∙ begin_does t code at k (mode_period t m) (decided code m) (next_offset t m 1 0) (next_offset t m 3 0) r.begins.0 c (length_read code.instrs (begin_chain t (decided code m) m) (block_begun code m) r.begins.0 r.begins.1)
          ∙ ap (λ z. with_trigger 2 k (Some (record { at = at + mode_period t m; target = z })) (set_next at k 3 0 (next_offset t m 3 0) (target_of 3 (begin_chain t (decided code m) m) r.begins.0) (set_next at k 1 0 (next_offset t m 1 0) (target_of 1 (begin_chain t (decided code m) m) r.begins.0) c))) (sym turn_is)
          ∙ ap (λ z. with_trigger 2 k (Some (ending t code (record { mode = m; start = at }))) (set_next at k 3 0 (next_offset t m 3 0) (target_of 3 (begin_chain t (decided code m) m) r.begins.0) z)) (sets_first t code m 1 at k c (next_offset t m 1 0) (target_of 1 (begin_chain t (decided code m) m) r.begins.0) first_write)
          ∙ ap (λ z. with_trigger 2 k (Some (ending t code (record { mode = m; start = at }))) z) (sets_first t code m 3 at k (with_next 1 k (next_block t code m 1 at 0) c) (next_offset t m 3 0) (target_of 3 (begin_chain t (decided code m) m) r.begins.0) first_read);
    })
  where
    path : begin_path t code m ≡ passed_by r.begins.0
    path = ap (λ z. passed_by (steps_of z)) r.begins.1

    are : kept code.instrs (passed_by r.begins.0) ≡ instrs_of (begin_chain t (decided code m) m) r.begins.0
    are = kept_are code.instrs (begin_chain t (decided code m) m) (block_begun code m) r.begins.0 r.begins.1

    turn_is : round_end t code m ≡ (turn_step (begin_chain t (decided code m) m) r.begins.0).target
    turn_is = ap (λ z. (turn_step (begin_chain t (decided code m) m) (steps_of z)).target) r.begins.1

    first_write : (o : ℕ) → next_offset t m 1 0 ≡ Some o → (a : ℕ) × (block_at t code m 1 o ≡ Some a) × (target_of 1 (begin_chain t (decided code m) m) r.begins.0 ≡ Some a)
    first_write o e =
        let least : IsLeast 0 (phase_offsets t m 1) (Some o) = subst (IsLeast 0 (phase_offsets t m 1)) e (least_is 0 (phase_offsets t m 1)) in
        let b = spelled_stands t code m 1 o (inl refl) r least.1 in
        (b.address, b.found, sym (ap (λ z. target_of 1 (begin_chain t (decided code m) m) (steps_of z)) r.begins.1) ∙ sym (spelled_first t code m 1 o (inl refl) r e) ∙ b.found)

    first_read : (o : ℕ) → next_offset t m 3 0 ≡ Some o → (a : ℕ) × (block_at t code m 3 o ≡ Some a) × (target_of 3 (begin_chain t (decided code m) m) r.begins.0 ≡ Some a)
    first_read o e =
        let least : IsLeast 0 (phase_offsets t m 3) (Some o) = subst (IsLeast 0 (phase_offsets t m 3)) e (least_is 0 (phase_offsets t m 3)) in
        let b = spelled_stands t code m 3 o (inr refl) r least.1 in
        (b.address, b.found, sym (ap (λ z. target_of 3 (begin_chain t (decided code m) m) (steps_of z)) r.begins.1) ∙ sym (spelled_first t code m 3 o (inr refl) r e) ∙ b.found)

-- ---- a mode is entered

-- modules are forked
abbrev pub forked : Tables → ECode → ℕ → List ℕ → Calendar → Calendar
forked t code at [] c = c
forked t code at (j ∷ js) c = forked t code at js (with_trigger 2 j (Some (record { at = at; target = entry_of t code j })) c)

abbrev pub with_mode : ℕ → Option ℕ → Calendar → Calendar
with_mode k m c = record c { modes = set c.modes k m }

abbrev pub entered_calendar : Tables → ECode → ℕ → ℕ → ℕ → Calendar → Calendar
entered_calendar t code at k m c = begun_calendar t code at k m (forked t code at (children t m) (with_mode k (Some m) c))

forks_go : (code : List EInstr) (hs rs : ℕ → Bool) (js : List ℕ) → AllGoOn code hs rs (all_do (map (λ j. I.Fork j) js))
forks_go code hs rs [] = tt
forks_go code hs rs (j ∷ js) = (λ a. refl, forks_go code hs rs js)

forks_wants : (t : Tables) (k x : ℕ) (test : Module → Bool) (n : ℕ) (xs : List Module) → n + length xs ≤ length t.modules → WantsAllowed t 2 k (all_do (map (λ j. I.Fork j) (places_from test n xs)) ++ AtAnchor x ∷ [])
forks_wants t k x test n [] h = (tt, tt)
forks_wants t k x test n (y ∷ ys) h = by_test (test y) (forks_wants t k x test (suc n) ys (omega (arith, h)))
  where
    by_test : (b : Bool) → WantsAllowed t 2 k (all_do (map (λ j. I.Fork j) (places_from test (suc n) ys)) ++ AtAnchor x ∷ []) →
        WantsAllowed t 2 k (all_do (map (λ j. I.Fork j) (cond b (n ∷ places_from test (suc n) ys) (places_from test (suc n) ys))) ++ AtAnchor x ∷ [])
    by_test true rest = (omega (arith, h), rest)
    by_test false rest = rest

forks_do : (t : Tables) (code : ECode) (at k x : ℕ) (js : List ℕ) (ss : List Step) (c : Calendar) → length ss ≡ length (all_do (map (λ j. I.Fork j) js) ++ AtAnchor x ∷ []) →
    calendar_after t code at k (instrs_of (all_do (map (λ j. I.Fork j) js) ++ AtAnchor x ∷ []) ss) c ≡ forked t code at js c
forks_do t code at k x [] (s ∷ u ∷ ss) c e = absurd (omega (arith, e))
forks_do t code at k x (j ∷ js) [] c e = absurd (omega (arith, e))
forks_do t code at k x (j ∷ js) (s ∷ ss) c e = forks_do t code at k x js ss (with_trigger 2 j (Some (record { at = at; target = entry_of t code j })) c) (omega (arith, e))
forks_do t code at k x [] _ c e = refl

pub kept_more : (code : List EInstr) (xs ys : List ℕ) → kept code (xs ++ ys) ≡ kept code xs ++ kept code ys
kept_more code [] ys = refl
kept_more code (x ∷ xs) ys = by_instr (kept_more code xs ys) (slice_get code x)
  where
    by_jump : kept code (xs ++ ys) ≡ kept code xs ++ kept code ys → (i : EInstr) (o : Option ℕ) →
        ◌≡◌ {A = List EInstr} (elim o [ Some z ↦ kept code (xs ++ ys) | None ↦ i ∷ kept code (xs ++ ys) ]) (elim o as (λ _. List EInstr) [ Some z ↦ kept code xs | None ↦ i ∷ kept code xs ] ++ kept code ys)
    by_jump ih i (Some z) = ih
    by_jump ih i None = ap (λ zs. i ∷ zs) ih

    by_instr : kept code (xs ++ ys) ≡ kept code xs ++ kept code ys → (o : Option EInstr) → kept_one o (kept code (xs ++ ys)) ≡ kept_one o (kept code xs) ++ kept code ys
    by_instr ih None = ih
    by_instr ih (Some i) = by_jump ih i (jump_to i)

pub all_more : (t : Tables) (p k : ℕ) (is js : List EInstr) → AllAllowed t p k is → AllAllowed t p k js → AllAllowed t p k (is ++ js)
all_more t p k [] js a b = b
all_more t p k (i ∷ is) js a b = (a.0, all_more t p k is js a.1 b)

pub after_more : (t : Tables) (code : ECode) (at k : ℕ) (is js : List EInstr) (c : Calendar) → calendar_after t code at k (is ++ js) c ≡ calendar_after t code at k js (calendar_after t code at k is c)
after_more t code at k [] js c = refl
after_more t code at k (i ∷ is) js c = after_more t code at k is js (calendar_effect t code at k i c)

-- what leads there, and then passes
pub leads_then : (t : Tables) (code : ECode) (at k : ℕ) (hs rs : ℕ → Bool) (a b : ℕ) (xs ys : List ℕ) (f g : Calendar → Calendar) → Leads code.instrs (goes hs rs) a xs b → AllAllowed t 2 k (kept code.instrs xs) →
    ((c : Calendar) → calendar_after t code at k (kept code.instrs xs) c ≡ g c) → Passes t code at k (goes hs rs) b ys f → Passes t code at k (goes hs rs) a (xs ++ ys) (λ c. f (g c))
leads_then t code at k hs rs a b xs ys f g leads allowed does p =
    record {
      ends = ends_on code.instrs hs rs a b xs ys leads p.ends;
      allowed = subst (AllAllowed t 2 k) (sym (kept_more code.instrs xs ys)) (all_more t 2 k (kept code.instrs xs) (kept code.instrs ys) allowed p.allowed);
      does = λ c. ap (λ is. calendar_after t code at k is c) (kept_more code.instrs xs ys) ∙ after_more t code at k (kept code.instrs xs) (kept code.instrs ys) c
          ∙ ap (λ z. calendar_after t code at k (kept code.instrs ys) z) (does c) ∙ p.does (g c);
    }

pub enter_passes : (t : Tables) (code : ECode) (at k m : ℕ) (hs rs : ℕ → Bool) → ModeReads t code m → Passes t code at k (goes hs rs) (entered code m) (enter_path t code m) (entered_calendar t code at k m)
enter_passes t code at k m hs rs r =
    subst (λ xs. Passes t code at k (goes hs rs) (entered code m) (xs ++ begin_path t code m) (entered_calendar t code at k m)) (sym path)
    (leads_then t code at k hs rs (entered code m) (block_begun code m) (passed_by r.enters.0) (begin_path t code m) (begun_calendar t code at k m) (λ c. forked t code at (children t m) (with_mode k (Some m) c))
    (chain_leads code.instrs hs rs (Exactly (I.Enter m) ∷ all_do (map (λ j. I.Fork j) (children t m))) (entered code m) (block_begun code m) r.enters.0 (λ a. refl, forks_go code.instrs hs rs (children t m)) r.enters.1)
    (subst (AllAllowed t 2 k) (sym are) (allowed_instrs t 2 k (enter_chain t (block_begun code m) m) r.enters.0 (tt, forks_wants t k (block_begun code m) (is_child m) 0 t.modules (omega arith))))
    (λ c. ap (λ is. calendar_after t code at k is c) are ∙ by_steps r.enters.0 (length_read code.instrs (enter_chain t (block_begun code m) m) (entered code m) r.enters.0 r.enters.1) c)
    (begin_passes t code at k m hs rs r))
  where
    path : chain_path code (entered code m) (enter_chain t (block_begun code m) m) ≡ passed_by r.enters.0
    path = ap (λ z. passed_by (steps_of z)) r.enters.1

    are : kept code.instrs (passed_by r.enters.0) ≡ instrs_of (enter_chain t (block_begun code m) m) r.enters.0
    are = kept_are code.instrs (enter_chain t (block_begun code m) m) (entered code m) r.enters.0 r.enters.1

    by_steps : (ss : List Step) → length ss ≡ length (enter_chain t (block_begun code m) m) → (c : Calendar) → calendar_after t code at k (instrs_of (enter_chain t (block_begun code m) m) ss) c ≡ forked t code at (children t m) (with_mode k (Some m) c)
    by_steps [] e c = absurd (omega (arith, e))
    by_steps (s ∷ ss) e c = forks_do t code at k (block_begun code m) (children t m) ss (with_mode k (Some m) c) (omega (arith, e))
