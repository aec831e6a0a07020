-- Between two blocks: the first module with a trigger that is due is the first with a block.
use Rattle.std.proofs.Common.{◌≡◌, ℕ, zero, suc, ◌+◌, ◌-◌, ◌<◌, ◌≤◌, Bool, true, false, cond, eqb, List, [], ◌∷◌, ◌++◌, length, Option, Some, None, refl, sym, ap, ◌∙◌, subst, arith, inl, inr}
use Rattle.htl_emach.proofs.Words.{Event, Tables, ECode, Done, Trigger, Calendar, list_at, triggers_of, target_at, first_due, with_trigger, Between, entry_at, phase_blocks, from_module, blocks_to_come, IsInBlock, IsBetweenBlocks, not_both, cases_le}
use Rattle.htl_emach.proofs.ModuleLaws.{trigger_in, due_target, ModuleLaws}

-- ---- the first trigger that is due

pub due_none : (at k : ℕ) (xs : List (Option Trigger)) → first_due at k xs ≡ None → (j : ℕ) → target_at at (list_at xs j) ≡ None
due_none at k [] e j = refl
due_none at k (x ∷ xs) e j = by_head (due_none at (suc k) xs) (target_at at x) refl e j
  where
    by_head : (first_due at (suc k) xs ≡ None → (j : ℕ) → target_at at (list_at xs j) ≡ None) → (o : Option ℕ) → target_at at x ≡ o → ◌≡◌ {A = Option (ℕ × ℕ)} (elim o [ Some a ↦ Some (k, a) | None ↦ first_due at (suc k) xs ]) None → (j : ℕ) → target_at at (list_at (x ∷ xs) j) ≡ None
    by_head ih (Some a) is h j = absurd (let z : ⊥ = cc in z)
    by_head ih None is h zero = is
    by_head ih None is h (suc j) = ih h j

-- the trigger at place j is the first that is due
pub record IsFirst (at k : ℕ) (xs : List (Option Trigger)) (p : ℕ × ℕ) : Type 0 where
  pub place : ℕ
  pub number : p.0 ≡ k + place
  pub due : target_at at (list_at xs place) ≡ Some p.1
  pub first : (i : ℕ) → i < place → target_at at (list_at xs i) ≡ None

pub due_some : (at k : ℕ) (xs : List (Option Trigger)) (p : ℕ × ℕ) → first_due at k xs ≡ Some p → IsFirst at k xs p
due_some at k [] p e = absurd (let z : ⊥ = cc in z)
due_some at k (x ∷ xs) p e = by_head (due_some at (suc k) xs p) (target_at at x) refl e
  where
    by_head : (first_due at (suc k) xs ≡ Some p → IsFirst at (suc k) xs p) → (o : Option ℕ) → target_at at x ≡ o → ◌≡◌ {A = Option (ℕ × ℕ)} (elim o [ Some a ↦ Some (k, a) | None ↦ first_due at (suc k) xs ]) (Some p) → IsFirst at k (x ∷ xs) p
    by_head ih (Some a) is h =
        let same : (k, a) ≡ p = cc in
        record {
          place = 0;
          number = sym (ap (λ (q : ℕ × ℕ). q.0) same) ∙ omega arith;
          due = is ∙ ap (λ (q : ℕ × ℕ). Some q.1) same;
          first = λ i less. absurd (omega (arith, less));
        }
    by_head ih None is h =
        let r = ih h in
        record {
          place = suc r.place;
          number = r.number ∙ omega arith;
          due = r.due;
          first = λ i. by_place i r.first;
        }
      where
        by_place : (i : ℕ) {n : ℕ} → ((m : ℕ) → m < n → target_at at (list_at xs m) ≡ None) → i < suc n → target_at at (list_at (x ∷ xs) i) ≡ None
        by_place zero h less = is
        by_place (suc i) h less = h i (omega (arith, less))

-- ---- triggers by module

trigger_of_module : (phase : ℕ) (c : Calendar) (j : ℕ) → list_at (triggers_of phase c) j ≡ trigger_in phase (entry_at c j)
trigger_of_module phase c j = by_test (eqb phase 1) (eqb phase 2)
  where
    by_test : (a b : Bool) → list_at (cond a c.writes (cond b c.switches c.reads)) j ≡ cond a (list_at c.writes j) (cond b (list_at c.switches j) (list_at c.reads j))
    by_test true b = refl
    by_test false true = refl
    by_test false false = refl

pub module_some : (at : ℕ) (xs : List (Option Trigger)) (j a : ℕ) → target_at at (list_at xs j) ≡ Some a → j < length xs
module_some at [] j a e = absurd (let z : ⊥ = cc in z)
module_some at (x ∷ xs) zero a e = omega arith
module_some at (x ∷ xs) (suc j) a e = let ih = module_some at xs j a e in omega (arith, ih)

pub triggers_sized : (phase n : ℕ) (c : Calendar) → length c.writes ≡ n → length c.switches ≡ n → length c.reads ≡ n → length (triggers_of phase c) ≡ n
triggers_sized phase n c w s r = by_test (eqb phase 1) (eqb phase 2)
  where
    by_test : (a b : Bool) → length (cond a c.writes (cond b c.switches c.reads)) ≡ n
    by_test true b = w
    by_test false true = s
    by_test false false = r

module _ (t : Tables) (code : ECode) (es : List Event) (now phase : ℕ) (laws : (j : ℕ) → j < length t.modules → ModuleLaws t code es now phase j) where
  come_next : (k : ℕ) → k < length t.modules → blocks_to_come t code es now phase k ≡ phase_blocks t code es now phase k ++ blocks_to_come t code es now phase (suc k)
  come_next k h =
      let more : length t.modules - k ≡ suc (length t.modules - suc k) = omega (arith, h) in
      ap (λ n. from_module (phase_blocks t code es now phase) n k) more

  -- the modules from k on, below j, are passed
  skips : (n k : ℕ) (c : Calendar) (rest : List Done) → k + n ≤ length t.modules → ((i : ℕ) → i < k + n → target_at now (list_at (triggers_of phase c) i) ≡ None) → Between t code es now phase c k →
      rest ≡ blocks_to_come t code es now phase k → Between t code es now phase c (k + n) × (rest ≡ blocks_to_come t code es now phase (k + n))
  skips zero k c rest within none h left =
      let same : k ≡ k + zero = omega arith in
      (subst (Between t code es now phase c) same h, left ∙ ap (blocks_to_come t code es now phase) same)
  skips (suc n) k c rest within none h left =
      let less : k < length t.modules = omega (arith, within) in
      let due : due_target t code es now phase k ≡ None =
      sym (ap (λ e. target_at now (trigger_in phase e)) (h.above k (omega arith) less)) ∙ sym (ap (target_at now) (trigger_of_module phase c k)) ∙ none k (omega arith) in
      let idle = (laws k less).idle due in
      let next : blocks_to_come t code es now phase k ≡ blocks_to_come t code es now phase (suc k) =
      come_next k less ∙ ap (λ xs. xs ++ blocks_to_come t code es now phase (suc k)) idle.0 in
      let same : suc k + n ≡ k + suc n = omega arith in
      let r = skips n (suc k) c rest (omega (arith, within)) (λ i g. none i (omega (arith, g))) (idle.1 c h) (left ∙ next) in
      (subst (Between t code es now phase c) same r.0, r.1 ∙ ap (blocks_to_come t code es now phase) same)

  -- a trigger that is due is of a module whose block isn't done
  not_passed : (k j a : ℕ) (c : Calendar) → Between t code es now phase c k → k ≤ length t.modules → target_at now (list_at (triggers_of phase c) j) ≡ Some a → k ≤ j
  not_passed k j a c h within due = elim (cases_le k j) [ inl less ↦ less | inr more ↦ absurd (not_both (target_at now (list_at (triggers_of phase c) j)) a (none more) due) ]
    where
      none : j < k → target_at now (list_at (triggers_of phase c) j) ≡ None
      none more = ap (target_at now) (trigger_of_module phase c j) ∙ ap (λ e. target_at now (trigger_in phase e)) (h.below j more) ∙ (laws j (omega (arith, more, within))).passed

  -- no trigger is due: nothing is to come
  pub no_block : (c : Calendar) (rest : List Done) → IsBetweenBlocks t code es now phase c rest → first_due now 0 (triggers_of phase c) ≡ None →
      (rest ≡ []) × Between t code es now phase c (length t.modules)
  no_block c rest h e =
      let n : ℕ = length t.modules - h.«module» in
      let same : h.«module» + n ≡ length t.modules = omega (arith, h.within) in
      let r = skips n h.«module» c rest (omega (arith, same)) (λ i g. due_none now 0 (triggers_of phase c) e i) h.calendar h.left in
      let over : length t.modules - (h.«module» + n) ≡ 0 = omega (arith, same) in
      (r.1 ∙ ap (λ m. from_module (phase_blocks t code es now phase) m (h.«module» + n)) over, subst (Between t code es now phase c) same r.0)

  -- the first trigger that is due begins a block
  pub begins : (c : Calendar) (rest : List Done) (p : ℕ × ℕ) → IsBetweenBlocks t code es now phase c rest → first_due now 0 (triggers_of phase c) ≡ Some p →
      IsInBlock t code es now phase (with_trigger phase p.0 None c) (record { «module» = p.0; address = p.1; at = now }) rest
  begins c rest p h e =
      let f = due_some now 0 (triggers_of phase c) p e in
      let number : p.0 ≡ f.place = f.number ∙ omega arith in
      let due : target_at now (list_at (triggers_of phase c) p.0) ≡ Some p.1 = ap (λ j. target_at now (list_at (triggers_of phase c) j)) number ∙ f.due in
      let inside : p.0 < length t.modules =
      subst (λ n. p.0 < n) (triggers_sized phase (length t.modules) c h.calendar.sized.writes h.calendar.sized.switches h.calendar.sized.reads) (module_some now (triggers_of phase c) p.0 p.1 due) in
      let from : h.«module» ≤ p.0 = not_passed h.«module» p.0 p.1 c h.calendar h.within due in
      let n : ℕ = p.0 - h.«module» in
      let same : h.«module» + n ≡ p.0 = omega (arith, from) in
      let r = skips n h.«module» c rest (omega (arith, same, inside)) (λ i g. f.first i (omega (arith, g, same, number))) h.calendar h.left in
      let here : Between t code es now phase c p.0 = subst (Between t code es now phase c) same r.0 in
      let to_come : rest ≡ blocks_to_come t code es now phase p.0 = r.1 ∙ ap (blocks_to_come t code es now phase) same in
      let at : due_target t code es now phase p.0 ≡ Some p.1 =
      sym (ap (λ e. target_at now (trigger_in phase e)) (here.above p.0 (omega arith) inside)) ∙ sym (ap (target_at now) (trigger_of_module phase c p.0)) ∙ due in
      let busy = (laws p.0 inside).busy p.1 at in
      record {
        at = refl;
        path = busy.0;
        runs = busy.2 c here;
        left = to_come ∙ come_next p.0 inside ∙ ap (λ xs. xs ++ blocks_to_come t code es now phase (suc p.0)) busy.1;
      }
