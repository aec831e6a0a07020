-- A block passes no address twice, so it is no longer than the code.
use Rattle.std.proofs.Common.{◌≡◌, ℕ, zero, suc, ◌+◌, ◌-◌, ◌*◌, ◌<◌, ◌≤◌, Bool, true, false, ◌||◌, eqb, List, [], ◌∷◌, ◌++◌, length, length-append, slice_get, Option, Some, None, ℤ, refl, sym, ap, ◌∙◌, subst, arith, ◌⊎◌, inl, inr}
use Rattle.std.specs.List.{list_any, AllByRecursion, IsDistinct}
use Rattle.htl_runs.proofs.Words.{eqb-true, length-map, length-le_from_distinct_below, slice_get_within, same_Some, Event, state, Tables, ECode, EInstr, Done, on, EDone, Calendar, Standing, done_in, standing_after, with_trigger, Midway, Onward, calendar_replay, done_of, from_module, phase_blocks, phase_path, Between, next_of_block, IsPhase, call_onward, every_module, steps, ModuleLaws, due_target, from_zero, is_sound, phase_is, Sound, spelled_departs_not, Spells, KeptApart, AreInRange, nothing_ends}
use Rattle.htl_emach.specs.Leading.{Ends}

none_all : (p : ℕ → Bool) (xs : List ℕ) → list_any p xs ≡ false → AllByRecursion (λ y. p y ≡ false) xs
none_all p [] e = tt
none_all p (x ∷ xs) e = by (λ f. none_all p xs f) (p x) refl
  where
    by : (list_any p xs ≡ false → AllByRecursion (λ y. p y ≡ false) xs) → (d : Bool) → p x ≡ d → (p x ≡ false) × AllByRecursion (λ y. p y ≡ false) xs
    by again true f = absurd (let z : true ≡ false = sym (ap (λ (d : Bool). d || list_any p xs) f) ∙ e in let y : ⊥ = cc in y)
    by again false f = (f, again (sym (ap (λ (d : Bool). d || list_any p xs) f) ∙ e))

module _ (code : List EInstr) (go : ℕ → EInstr → Option ℕ) where
  -- one path leads from an address to the end of its block
  one_path : (a : ℕ) (xs ys : List ℕ) → Ends code go a xs → Ends code go a ys → length xs ≡ length ys
  one_path a [] ys p q = absurd (nothing_ends p.0 p.1 p.3)
  one_path a (x ∷ xs) [] p q = absurd (nothing_ends q.0 q.1 q.3)
  one_path a (x ∷ xs) (y ∷ ys) p q =
      let r = next_of_block code go a x xs p in
      let s = next_of_block code go a y ys q in
      ap suc (by (λ c p' q'. one_path c xs ys p' q') r.1.0 s.1.0 (same_Some r.1.0 s.1.0 (sym r.1.1 ∙ s.1.1)) r.1.2 s.1.2)
    where
      none_some : (n : ℕ) → None ≡ Some n → ⊥
      none_some n e = cc

      by : ((c : ℕ) → Ends code go c xs → Ends code go c ys → length xs ≡ length ys) → (i j : EInstr) → i ≡ j → ((go a i ≡ None) × (xs ≡ [])) ⊎ ((c : ℕ) × (go a i ≡ Some c) × Ends code go c xs)
          → ((go a j ≡ None) × (ys ≡ [])) ⊎ ((c : ℕ) × (go a j ≡ Some c) × Ends code go c ys) → length xs ≡ length ys
      by again i j same (inl h) (inl k) = ap length h.1 ∙ sym (ap length k.1)
      by again i j same (inl h) (inr k) = absurd (none_some k.0 (sym h.0 ∙ ap (go a) same ∙ k.1))
      by again i j same (inr h) (inl k) = absurd (none_some h.0 (sym k.0 ∙ sym (ap (go a) same) ∙ h.1))
      by again i j same (inr h) (inr k) =
          again k.0 (subst (λ c. Ends code go c xs) (same_Some h.0 k.0 (sym h.1 ∙ ap (go a) same ∙ k.1)) h.2) k.2

  -- from an address on it a path goes on to the same end
  goes_from : (a b : ℕ) (xs : List ℕ) → Ends code go a xs → list_any (eqb b) xs ≡ true → (ys : List ℕ) × (length ys ≤ length xs) × Ends code go b ys
  goes_from a b [] p e = absurd (nothing_ends p.0 p.1 p.3)
  goes_from a b (x ∷ xs) p e = by (λ c p' e'. goes_from c b xs p' e') (eqb b x) refl
    where
      r : (x ≡ a) × ((i : EInstr) × (slice_get code a ≡ Some i) × (((go a i ≡ None) × (xs ≡ [])) ⊎ ((c : ℕ) × (go a i ≡ Some c) × Ends code go c xs)))
      r = next_of_block code go a x xs p

      later : ((c : ℕ) → Ends code go c xs → list_any (eqb b) xs ≡ true → (ys : List ℕ) × (length ys ≤ length xs) × Ends code go b ys) → list_any (eqb b) xs ≡ true → ((go a r.1.0 ≡ None) × (xs ≡ [])) ⊎ ((c : ℕ) × (go a r.1.0 ≡ Some c) × Ends code go c xs) → (ys : List ℕ) × (length ys ≤ suc (length xs)) × Ends code go b ys
      later again f (inl h) = absurd (let none : list_any (eqb b) [] ≡ true = sym (ap (list_any (eqb b)) h.1) ∙ f in let z : ⊥ = cc in z)
      later again f (inr h) = let m = again h.0 h.2 f in (m.0, omega (arith, m.1), m.2)

      by : ((c : ℕ) → Ends code go c xs → list_any (eqb b) xs ≡ true → (ys : List ℕ) × (length ys ≤ length xs) × Ends code go b ys) → (d : Bool) → eqb b x ≡ d
          → (ys : List ℕ) × (length ys ≤ suc (length xs)) × Ends code go b ys
      by again true f = (x ∷ xs, omega arith, subst (λ z. Ends code go z (x ∷ xs)) (sym (eqb-true b x f ∙ r.0)) p)
      by again false f = later again (sym (ap (λ (d : Bool). d || list_any (eqb b) xs) f) ∙ e) r.1.2

  -- no address stands twice on it
  distinct : (a : ℕ) (xs : List ℕ) → Ends code go a xs → IsDistinct eqb xs
  unfolding IsDistinct
  distinct a [] p = absurd (nothing_ends p.0 p.1 p.3)
  distinct a (x ∷ xs) p = (none_all (eqb x) xs (not_again (list_any (eqb x) xs) refl), rest (λ c q. distinct c xs q) r.1.2)
    where
      r : (x ≡ a) × ((i : EInstr) × (slice_get code a ≡ Some i) × (((go a i ≡ None) × (xs ≡ [])) ⊎ ((c : ℕ) × (go a i ≡ Some c) × Ends code go c xs)))
      r = next_of_block code go a x xs p

      again : list_any (eqb x) xs ≡ true → ((go a r.1.0 ≡ None) × (xs ≡ [])) ⊎ ((c : ℕ) × (go a r.1.0 ≡ Some c) × Ends code go c xs) → ⊥
      again f (inl h) = (let none : list_any (eqb x) [] ≡ true = sym (ap (list_any (eqb x)) h.1) ∙ f in let z : ⊥ = cc in z)
      again f (inr h) =
          let m = goes_from h.0 x xs h.2 f in
          omega (arith, m.1, one_path x m.0 (x ∷ xs) m.2 (subst (λ z. Ends code go z (x ∷ xs)) (sym r.0) p))

      not_again : (d : Bool) → list_any (eqb x) xs ≡ d → list_any (eqb x) xs ≡ false
      not_again false f = f
      not_again true f = absurd (again f r.1.2)

      rest : ((c : ℕ) → Ends code go c xs → IsDistinct eqb xs) → ((go a r.1.0 ≡ None) × (xs ≡ [])) ⊎ ((c : ℕ) × (go a r.1.0 ≡ Some c) × Ends code go c xs) → IsDistinct eqb xs
      rest again (inl h) = subst (IsDistinct eqb) (sym h.1) tt
      rest again (inr h) = again h.0 h.2

  -- each stands in the code
  in_code : (a : ℕ) (xs : List ℕ) → Ends code go a xs → (q : ℕ) → list_any (eqb q) xs ≡ true → q < length code
  in_code a xs p q e =
      let m = goes_from a q xs p e in
      first m.0 m.2
    where
      first : (ys : List ℕ) → Ends code go q ys → q < length code
      first [] h = absurd (nothing_ends h.0 h.1 h.3)
      first (y ∷ ys) h = let r = next_of_block code go q y ys h in slice_get_within code q r.1.0 r.1.1

  pub block_short : (a : ℕ) (xs : List ℕ) → Ends code go a xs → length xs ≤ length code
  block_short a xs p = length-le_from_distinct_below xs (length code) (distinct a xs p) (in_code a xs p)

-- ---- a phase

module _ (t : Tables) (code : ECode) (es : List Event) (now phase : ℕ) (sound : Sound t code) (is : IsPhase phase) where
  short_from : (n k : ℕ) (c : Calendar) → k + n ≡ length t.modules → Between t code es now phase c k → length (from_module (phase_blocks t code es now phase) n k) ≤ n * length code.instrs
  short_from zero k c all b = omega arith
  short_from (suc n) k c all b = by (λ d h. short_from n (suc k) d (omega (arith, all)) h) (due_target t code es now phase k) refl
    where
      laws : ModuleLaws t code es now phase k
      laws = every_module t code es now phase sound is k (omega (arith, all))

      count : length (phase_blocks t code es now phase k ++ from_module (phase_blocks t code es now phase) n (suc k)) ≡ length (phase_blocks t code es now phase k) + length (from_module (phase_blocks t code es now phase) n (suc k))
      count = length-append (phase_blocks t code es now phase k) (from_module (phase_blocks t code es now phase) n (suc k))

      add : (a b m l total : ℕ) → total ≡ a + b → a ≤ l → b ≤ m * l → total ≤ suc m * l
      add a b m l total e f g = grind (arith, e, f, g)

      joined : length (phase_blocks t code es now phase k) ≤ length code.instrs → length (from_module (phase_blocks t code es now phase) n (suc k)) ≤ n * length code.instrs
          → length (phase_blocks t code es now phase k ++ from_module (phase_blocks t code es now phase) n (suc k)) ≤ suc n * length code.instrs
      joined f g = add (length (phase_blocks t code es now phase k)) (length (from_module (phase_blocks t code es now phase) n (suc k))) n (length code.instrs) _ count f g

      by : ((d : Calendar) → Between t code es now phase d (suc k) → length (from_module (phase_blocks t code es now phase) n (suc k)) ≤ n * length code.instrs) → (o : Option ℕ) → due_target t code es now phase k ≡ o → length (phase_blocks t code es now phase k ++ from_module (phase_blocks t code es now phase) n (suc k)) ≤ suc n * length code.instrs
      by again None e =
          let h = laws.idle e in
          joined (omega (arith, ap length h.0)) (again c (h.1 c b))
      by again (Some a) e =
          let h = laws.busy a e in
          let r = h.2 c b in
          let long : length (phase_blocks t code es now phase k) ≡ length h.0 = ap length h.1 ∙ length-map h.0 _ in
          joined (omega (arith, long, block_short code.instrs _ a h.0 r.ends)) (again (calendar_replay t code now k h.0 (with_trigger phase k None c)) r.leads)

  pub phase_short : (c : Calendar) → Between t code es now phase c 0 → length (phase_path t code es now phase) ≤ length t.modules * length code.instrs
  phase_short c b = grind (arith, from_zero, short_from)

-- ---- the instructions that are left, counted without the events

pub steps_for : (t : Tables) (code : ECode) (es : List Event) (now phase : ℕ) (values : List ℤ) (n : ℕ) (m : Standing) (done rest : List Done) → Sound t code → IsPhase phase → (eqb phase 2 ≡ true → values ≡ (state t es now).values) → length rest ≤ n
    → Midway t code es now phase m done rest → steps n t code values phase now m ≡ length rest
steps_for t code es now phase values zero m done [] h p same few mid = refl
steps_for t code es now phase values zero m done (d ∷ rest) h p same few mid = absurd (omega (arith, few))
steps_for t code es now phase values (suc n) m done rest h p same few mid =
    by_result (λ x ds rs small at. steps_for t code es now phase values n x ds rs h p same small at) (done_in code phase now m) (call_onward t code es now phase values m done rest h p same mid)
  where
    by_result : ((x : Standing) (ds rs : List Done) → length rs ≤ n → Midway t code es now phase x ds rs → steps n t code values phase now x ≡ length rs) → (o : Option EDone)
        → Onward t code es now phase (standing_after t code values phase now m o) done rest o
        → ◌≡◌ {A = ℕ} (elim o [ Some d ↦ suc (steps n t code values phase now (standing_after t code values phase now m (Some d))) | None ↦ 0 ]) (length rest)
    by_result ih None on = sym (ap length on.0)
    by_result ih (Some d) on = grind (arith, rest)

-- fewer are left after one
pub fewer_then : (t : Tables) (code : ECode) (es : List Event) (now phase : ℕ) (values : List ℤ) (m next : Standing) (d : EDone) (done rest : List Done) (c : Calendar) → AreInRange t → KeptApart t 12 → Spells t code → (1 ≤ phase) × (phase ≤ 3)
    → (phase ≡ 2 → values ≡ (state t es now).values) → Between t code es now phase c 0 → Midway t code es now phase m done rest → Onward t code es now phase next done rest (Some d)
    → steps (length t.modules * length code.instrs) t code values phase now next < steps (length t.modules * length code.instrs) t code values phase now m
fewer_then t code es now phase values m next d done rest c r kept spelled p two b mid on =
    let s = is_sound t code 12 (omega arith) r kept (spelled_departs_not t code spelled) in
    let is = phase_is phase p in
    let enough : length (phase_path t code es now phase) ≤ length t.modules * length code.instrs = phase_short t code es now phase s is c b in
    let whole : length (phase_path t code es now phase) ≡ length done + length rest = ap length mid.path ∙ length-append done rest in
    let one : length rest ≡ suc (length on.0) = ap length on.1 in
    let x : steps (length t.modules * length code.instrs) t code values phase now m ≡ length rest =
    steps_for t code es now phase values (length t.modules * length code.instrs) m done rest s is (λ e. two (eqb-true phase 2 e)) (omega (arith, whole, enough)) mid in
    let y : steps (length t.modules * length code.instrs) t code values phase now next ≡ length on.0 =
    steps_for t code es now phase values (length t.modules * length code.instrs) next (done ++ done_of d ∷ []) on.0 s is (λ e. two (eqb-true phase 2 e)) (omega (arith, whole, enough, one)) on.4 in
    omega (arith, x, y, one)
