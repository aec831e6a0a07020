-- Who has a job in the rounds that begin at an instant: each concrete invocation whose mode runs then and begins a round, and it has one.
use Rattle.std.proofs.Common.{◌≡◌, ℕ, zero, suc, ◌+◌, ◌%◌, ◌<◌, inl, inr, Bool, true, false, cond, eqb, List, [], ◌∷◌, ◌++◌, length, map, Option, Some, None, refl, sym, ◌∙◌, ap, subst, arith}
use Rattle.htl_audit.proofs.Words.{slice_get, filter, flat_map, eqb-true, eq-eqb, slice_get_within, none-some, Inv, Mode, Module, StandsFor, itself, below, chosen, KeptApart, unit_period, AreInRange, IsInvInRange, parent_mode, entry, Runs, IsEntry, IsSelection, is_root, root_modules, inv_of_mode, invs_of, Tables, is_concrete, mode_module, mode_period, running_invs, Under, same, under_more, one_top, no_parent, chosen_exact_apart, mapped, map_at, of_flat, in_flat, of_places, at_place, AreRising, running_rise, unit_period_is, has_root, climb, down, beginning, each_at, get_either, get_front, into_back}

-- ---- the items that pass a test

filter_of : {A : Type 0} (test : A → Bool) (xs : List A) (j : ℕ) (x : A) → slice_get (filter test xs) j ≡ Some x → (i : ℕ) × (slice_get xs i ≡ Some x) × (test x ≡ true)
filter_of test [] j x at = absurd (none-some x at)
filter_of {A} test (y ∷ ys) j x at = by (test y) refl j at (λ q e. filter_of test ys q x e)
  where
    by : (b : Bool) → test y ≡ b → (q : ℕ) → slice_get (cond b (y ∷ filter test ys) (filter test ys)) q ≡ Some x
        → ((q : ℕ) → slice_get (filter test ys) q ≡ Some x → (i : ℕ) × (slice_get ys i ≡ Some x) × (test x ≡ true)) → (i : ℕ) × (slice_get (y ∷ ys) i ≡ Some x) × (test x ≡ true)
    by true is zero e next = let one : y ≡ x = cc in (0, e, ap test (sym one) ∙ is)
    by true is (suc q) e next = let n = next q e in (suc n.0, n.1, n.2)
    by false is q e next = let n = next q e in (suc n.0, n.1, n.2)

filter_in : {A : Type 0} (test : A → Bool) (xs : List A) (i : ℕ) (x : A) → slice_get xs i ≡ Some x → test x ≡ true → (j : ℕ) × (slice_get (filter test xs) j ≡ Some x)
filter_in test [] i x at pass = absurd (none-some x at)
filter_in test (y ∷ ys) zero x at pass =
    let one : y ≡ x = cc in
    (0, ap (λ b. slice_get (cond b (y ∷ filter test ys) (filter test ys)) 0) (ap test one ∙ pass) ∙ at)
filter_in {A} test (y ∷ ys) (suc i) x at pass = by (test y) (filter_in test ys i x at pass)
  where
    by : (b : Bool) → (j : ℕ) × (slice_get (filter test ys) j ≡ Some x) → (j : ℕ) × (slice_get (cond b (y ∷ filter test ys) (filter test ys)) j ≡ Some x)
    by true n = (suc n.0, n.1)
    by false n = n

-- ---- lists in which no number stands twice

abbrev AreOnce : List ℕ → Type 0
AreOnce xs = (p q k : ℕ) → slice_get xs p ≡ Some k → slice_get xs q ≡ Some k → p ≡ q

rising_once : (xs : List ℕ) → AreRising xs → AreOnce xs
rising_once [] r p q k a b = absurd (none-some k a)
rising_once (x ∷ xs) r zero zero k a b = refl
rising_once (x ∷ xs) r zero (suc q) k a b = let one : x ≡ k = cc in absurd (omega (arith, one, r.0 k (q, b)))
rising_once (x ∷ xs) r (suc p) zero k a b = let one : x ≡ k = cc in absurd (omega (arith, one, r.0 k (p, a)))
rising_once (x ∷ xs) r (suc p) (suc q) k a b = ap suc (rising_once xs r.1 p q k a b)

-- so it is of the parts that pass a test
module _ (g : ℕ → List ℕ) (test : ℕ → Bool) where
  back_once : (xs ys : List ℕ) → AreOnce (xs ++ ys) → AreOnce ys
  back_once xs ys once p q k a b = let same = once (length xs + p) (length xs + q) k (into_back xs ys p k a) (into_back xs ys q k b) in omega (arith, same)

  passed_in : (us : List ℕ) (p k : ℕ) → slice_get (flat_map g (filter test us)) p ≡ Some k → (q : ℕ) × (slice_get (flat_map g us) q ≡ Some k)
  passed_in us p k e =
      let f = of_flat g (filter test us) p k e in
      let u = filter_of test us f.0 f.1 f.2 in
      in_flat g us u.0 f.3 f.1 k u.1 f.4

  parts_once : (us : List ℕ) → AreOnce (flat_map g us) → AreOnce (flat_map g (filter test us))
  parts_once [] once = once
  parts_once (u ∷ us) once = by (test u) (parts_once us (back_once (g u) (flat_map g us) once))
    where
      xs : List ℕ
      xs = g u

      rest : List ℕ
      rest = flat_map g (filter test us)

      apart : (p k m : ℕ) → slice_get (g u) p ≡ Some k → slice_get (flat_map g (filter test us)) m ≡ Some k → ⊥
      apart p k m a b =
          let q = passed_in us m k b in
          let same = once p (length (g u) + q.0) k (get_front (g u) (flat_map g us) p k a) (into_back (g u) (flat_map g us) q.0 k q.1) in
          omega (arith, same, slice_get_within (g u) p k a)

      both : AreOnce (flat_map g (filter test us)) → AreOnce (g u ++ flat_map g (filter test us))
      both later p q k a b = elim (get_either (g u) (flat_map g (filter test us)) p k a) [
        | inl c ↦ elim (get_either (g u) (flat_map g (filter test us)) q k b) [
          | inl d ↦ once p q k (get_front (g u) (flat_map g us) p k c) (get_front (g u) (flat_map g us) q k d)
          | inr d ↦ absurd (apart p k d.0 c d.2)
        ]
        | inr c ↦ elim (get_either (g u) (flat_map g (filter test us)) q k b) [
          | inl d ↦ absurd (apart q k c.0 d c.2)
          | inr d ↦ (let same = later c.0 d.0 k c.2 d.2 in omega (arith, c.1, d.1, same))
        ]
      ]

      by : (b : Bool) → AreOnce (flat_map g (filter test us)) → AreOnce (flat_map g (cond b (u ∷ filter test us) (filter test us)))
      by true later = both later
      by false later = later

-- ---- the root modules

module _ (t : Tables) (range : AreInRange t) (kept : KeptApart t 16) where
  -- ---- who has a job at an instant

  module _ (modes : List (Option ℕ)) (selection : IsSelection t modes) (s : ℕ) where
    -- who stands at the positions of the rounds that begin
    abbrev pub whose : List (Option ℕ)
    whose = map (chosen t modes) (flat_map (running_invs t modes) (beginning t s))

    pub record Begins (c : ℕ) : Type 0 where
      pub inv : Inv
      pub known : slice_get t.invs c ≡ Some inv
      pub concrete : is_concrete t inv ≡ true
      pub runs : Runs t modes inv.mode
      pub whole : s % mode_period t inv.mode ≡ 0

    -- a root module whose round begins
    pub record IsRootAt : Type 0 where
      pub number : ℕ
      pub unit : ℕ
      pub at : slice_get (root_modules t) number ≡ Some unit
      pub whole : s % unit_period t unit ≡ 0

    running_of : (u j k : ℕ) → slice_get (running_invs t modes u) j ≡ Some k → (q : ℕ) × (entry modes u ≡ Some q) × (slice_get (invs_of t q) j ≡ Some k)
    running_of u j k e = by (entry modes u) refl e
      where
        by : (o : Option ℕ) → entry modes u ≡ o → slice_get (elim o as (λ _. List ℕ) [ Some q ↦ invs_of t q | None ↦ [] ]) j ≡ Some k → (q : ℕ) × (entry modes u ≡ Some q) × (slice_get (invs_of t q) j ≡ Some k)
        by None g h = absurd (none-some k h)
        by (Some q) g h = (q, g, h)

    -- the root invocation at a position
    record IsOfRoot (k : ℕ) : Type 0 where
      inv : Inv
      unit : IsRootAt
      at : slice_get t.invs k ≡ Some inv
      root : parent_mode t inv.mode ≡ None
      runs : Runs t modes inv.mode
      period : mode_period t inv.mode ≡ unit_period t unit.unit
      whole : s % mode_period t inv.mode ≡ 0

    at_position : (p k : ℕ) → slice_get (flat_map (running_invs t modes) (beginning t s)) p ≡ Some k → IsOfRoot k
    at_position p k e =
        let f = of_flat (running_invs t modes) (beginning t s) p k e in
        let u = f.1 in
        let b = filter_of (λ v. eqb (s % unit_period t v) 0) (root_modules t) f.0 u f.2 in
        let m = of_places is_root 0 t.modules b.0 u b.1 in
        let unit_at : slice_get t.modules u ≡ Some m.1 = ap (slice_get t.modules) (let z : u ≡ m.0 = omega (arith, m.2) in z) ∙ m.3 in
        let run = running_of u f.3 k f.4 in
        let own : IsEntry t modes u m.1.parent (Some run.0) = subst (IsEntry t modes u m.1.parent) run.1 (selection.each u m.1 unit_at) in
        let mode_at = own.0 in
        let unit : mode_module t run.0 ≡ u = ap (λ (o : Option Mode). elim o [ Some z ↦ z.«module» | None ↦ 0 ]) mode_at.1 ∙ mode_at.2 in
        let kx = of_places (inv_of_mode run.0) 0 t.invs f.3 k run.2 in
        let inv_at : slice_get t.invs k ≡ Some kx.1 = ap (slice_get t.invs) (let z : k ≡ kx.0 = omega (arith, kx.2) in z) ∙ kx.3 in
        let mode : kx.1.mode ≡ run.0 = eqb-true kx.1.mode run.0 kx.4 in
        let is_of : mode_module t kx.1.mode ≡ u = ap (mode_module t) mode ∙ unit in
        let period : mode_period t kx.1.mode ≡ unit_period t u = ap (mode_period t) mode ∙ unit_period_is t range kept u run.0 m.1 unit_at (slice_get_within t.modes run.0 mode_at.0 mode_at.1) unit in
        record {
          inv = kx.1;
          unit = record { number = b.0; unit = u; at = b.1; whole = eqb-true (s % unit_period t u) 0 b.2 };
          at = inv_at;
          root = ap (λ (v : ℕ). elim (slice_get t.modules v) as (λ _. Option ℕ) [ Some z ↦ z.parent | None ↦ None ]) is_of ∙ ap (λ (o : Option Module). elim o as (λ _. Option ℕ) [ Some z ↦ z.parent | None ↦ None ]) unit_at ∙ rootless m.1 m.4;
          runs = ap (entry modes) is_of ∙ run.1 ∙ ap (λ z. Some z) (sym mode);
          period = period;
          whole = ap (λ z. s % z) period ∙ eqb-true (s % unit_period t u) 0 b.2;
        }
      where
        rootless : (x : Module) → is_root x ≡ true → x.parent ≡ None
        rootless x e = by x.parent refl
          where
            by : (o : Option ℕ) → x.parent ≡ o → x.parent ≡ None
            by None f = f
            by (Some n) f = absurd (let z : ⊥ = cc in z)

    stands_for : (p c : ℕ) → slice_get whose p ≡ Some (Some c) → (k : ℕ) × (slice_get (flat_map (running_invs t modes) (beginning t s)) p ≡ Some k) × StandsFor t modes k c
    stands_for p c e =
        let m = mapped (chosen t modes) (flat_map (running_invs t modes) (beginning t s)) p (Some c) e in
        (m.0, m.1, (chosen_exact_apart t modes range kept m.0 c).0 m.2)

    -- its round, which is one of a root module of its period
    pub record HasRound (c : ℕ) : Type 0 where
      pub begins : Begins c
      pub unit : IsRootAt
      pub period : mode_period t begins.inv.mode ≡ unit_period t unit.unit

    -- who stands at a position is concrete, its mode runs, and a round of it begins
    pub whose_round : (p c : ℕ) → slice_get whose p ≡ Some (Some c) → HasRound c
    whose_round p c e =
        let f = stands_for p c e in
        let x = at_position p f.0 f.1 in
        let d = down t range kept modes selection f.0 c x.inv x.at x.runs f.2 in
        record {
          begins = record { inv = d.0; known = d.1; concrete = d.2; runs = d.3; whole = ap (λ z. s % z) d.4 ∙ x.whole };
          unit = x.unit;
          period = d.4 ∙ x.period;
        }

    -- and each such invocation stands at one
    pub has_position_of : (c : ℕ) → Begins c → (p : ℕ) × (slice_get whose p ≡ Some (Some c))
    has_position_of c b =
        let top = climb t range kept modes selection (suc (mode_module t b.inv.mode)) c c (mode_period t b.inv.mode) b.inv (omega arith) b.known b.runs (itself c b.inv b.known b.concrete) refl in
        let q = top.inv.mode in
        let real : q < length t.modes = (each_at (IsInvInRange t) t.invs range.invs top.number top.inv top.at).owner in
        let h = has_root t range kept q real top.root in
        let u = mode_module t q in
        let whole : s % unit_period t u ≡ 0 = ap (λ z. s % z) (sym h.period ∙ top.period) ∙ b.whole in
        let begun = filter_in (λ v. eqb (s % unit_period t v) 0) (root_modules t) h.index u h.at (eq-eqb (s % unit_period t u) 0 whole) in
        let j = at_place (inv_of_mode q) t.invs top.number top.inv top.at (eq-eqb q q refl) in
        let running : slice_get (running_invs t modes u) j.0 ≡ Some top.number = ap (λ (o : Option ℕ). slice_get (elim o as (λ _. List ℕ) [ Some z ↦ invs_of t z | None ↦ [] ]) j.0) top.runs ∙ j.1 in
        let p = in_flat (running_invs t modes) (beginning t s) begun.0 j.0 u top.number begun.1 running in
        let is : chosen t modes top.number ≡ Some c = (chosen_exact_apart t modes range kept top.number c).1 top.stands in
        (p.0, map_at (chosen t modes) (flat_map (running_invs t modes) (beginning t s)) p.0 top.number p.1 ∙ ap (λ (o : Option ℕ). Some o) is)

    under : (k c : ℕ) → StandsFor t modes k c → Under t c k
    under k c (itself _ i at concrete) = same k
    under k c (below _ n _ i x at abstract at_n par runs_n rest) = under_more t c n k x (under n c rest) at_n par

    -- nobody stands at two
    pub one_place : (p q c : ℕ) → slice_get whose p ≡ Some (Some c) → slice_get whose q ≡ Some (Some c) → p ≡ q
    one_place p q c a b =
        let f = stands_for p c a in
        let g = stands_for q c b in
        let top : f.0 ≡ g.0 = one_top t c f.0 g.0 (under f.0 c f.2) (under g.0 c g.2) (top_of p f.0 f.1) (top_of q g.0 g.1) in
        parts_once (running_invs t modes) (λ u. eqb (s % unit_period t u) 0) (root_modules t) all_once p q g.0 (f.1 ∙ ap (λ z. Some z) top) g.1
      where
        top_of : (p k : ℕ) → slice_get (flat_map (running_invs t modes) (beginning t s)) p ≡ Some k → (x : Inv) → slice_get t.invs k ≡ Some x → x.parent ≡ None
        top_of p k at x here =
            let y = at_position p k at in
            let one : Some y.inv ≡ Some x = sym y.at ∙ here in
            let is : y.inv ≡ x = cc in
            no_parent t range kept k x here (subst (λ (z : Inv). parent_mode t z.mode ≡ None) is y.root)

        all_once : AreOnce (flat_map (running_invs t modes) (root_modules t))
        all_once = rising_once (flat_map (running_invs t modes) (root_modules t)) (running_rise t modes range selection)
