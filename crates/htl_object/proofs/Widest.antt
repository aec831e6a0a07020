-- A selection of each root module's widest mode.
use Rattle.std.proofs.Common.{◌≡◌, ◌≤◌, ◌<◌, ◌⊎◌, ◌+◌, ◌*◌, ◌/◌, ◌%◌, ℕ, zero, suc, max, Bool, true, false, cond, eqb, List, [], ◌∷◌, length, drop, get_or, slice_get, Option, Some, None, refl, sym, ◌∙◌, ap, arith, inl, inr, length-append}
use Rattle.htl_object.proofs.Words.{flat_map, count_by, mul_comm, mul_assoc, nat_tests, div-mul-add, mod-mul-add, mul-add-lt, slice_get-get_or, slice_get_within, modes_some, no_modules, KeepsLimits, places_from, AreInRange, is_root, root_modules, mode_of_module, inv_of_mode, modes_of, invs_of, choices_from, selection_count, root_mode, Tables, Inv, Mode, Module, widest_to, positions_to, is_mode_of, count_places}
use Rattle.htl_object.proofs.{Limits.dropped, Limits.root_same, Limits.count_some, ListRanges.mode_of}

-- ---- the widest mode of a module

-- the greatest number of invocations is 0, or that of some mode of the module
abbrev IsAttained : List Mode → List Inv → ℕ → ℕ → ℕ → Type 0
IsAttained modes invs k n most = (most ≡ 0) ⊎ ((q : ℕ) × (q < n) × (is_mode_of modes k q ≡ true) × (most ≡ count_by (λ i. eqb i.mode q) invs))

attained : (modes : List Mode) (invs : List Inv) (k n : ℕ) → IsAttained modes invs k n (widest_to modes invs k n)
attained modes invs k zero = inl refl
attained modes invs k (suc n) = by (is_mode_of modes k n) refl (attained modes invs k n)
  where
    c : ℕ
    c = count_by (λ (i : Inv). eqb i.mode n) invs

    w : ℕ
    w = widest_to modes invs k n

    either : (a b : ℕ) → (max a b ≡ a) ⊎ (max a b ≡ b)
    either a b = grind arith

    same : (b : Bool) → is_mode_of modes k n ≡ b → widest_to modes invs k (suc n) ≡ max w (cond b c 0)
    same b is = ap (λ (x : Bool). max w (cond x c 0)) is

    kept : widest_to modes invs k (suc n) ≡ w → IsAttained modes invs k n w → IsAttained modes invs k (suc n) (widest_to modes invs k (suc n))
    kept e (inl z) = inl (e ∙ z)
    kept e (inr h) = inr (h.0, omega (arith, h.1), h.2, e ∙ h.3)

    by : (b : Bool) → is_mode_of modes k n ≡ b → IsAttained modes invs k n w → IsAttained modes invs k (suc n) (widest_to modes invs k (suc n))
    by true is h = elim (either w c) [ inl e ↦ kept (same true is ∙ e) h | inr e ↦ inr (n, omega arith, is, same true is ∙ e) ]
    by false is h = kept (same false is ∙ (let z : max w 0 ≡ w = omega arith in z)) h

-- what passes the test is listed
place_listed : {A : Type 0} (test : A → Bool) (k q : ℕ) (xs : List A) (x : A) → slice_get xs q ≡ Some x → test x ≡ true → (j : ℕ) × (slice_get (places_from test k xs) j ≡ Some (k + q))
place_listed test k q [] x e h = cc
place_listed test k zero (y ∷ ys) x e h =
    let same : y ≡ x = cc in
    let rest : List ℕ = places_from test (suc k) ys in
    let first : k ≡ k + 0 = omega arith in
    (0, ap (λ (b : Bool). slice_get (cond b (k ∷ rest) rest) 0) (ap test same ∙ h) ∙ ap (λ (n : ℕ). Some n) first)
place_listed test k (suc q) (y ∷ ys) x e h = by (test y) (place_listed test (suc k) q ys x e h)
  where
    later : suc k + q ≡ k + suc q
    later = omega arith

    by : (b : Bool) → (j : ℕ) × (slice_get (places_from test (suc k) ys) j ≡ Some (suc k + q)) → (j : ℕ) × (slice_get (cond b (k ∷ places_from test (suc k) ys) (places_from test (suc k) ys)) j ≡ Some (k + suc q))
    by true i = (suc i.0, i.1 ∙ ap (λ (n : ℕ). Some n) later)
    by false i = (i.0, i.1 ∙ ap (λ (n : ℕ). Some n) later)

-- ---- the selection

module _ (t : Tables) (r : AreInRange t) where
  -- a place among the modes of a module whose mode has the most invocations
  best_of : (k : ℕ) → k < length t.modules → (p : ℕ) × (p < length (modes_of t k)) × (widest_to t.modes t.invs k (length t.modes) ≤ length (invs_of t (get_or (modes_of t k) p 0)))
  best_of k less = elim (attained t.modes t.invs k (length t.modes)) [
    | inl z ↦ (0, modes_some t k r less, omega (arith, z))
    | inr h ↦
        let m = mode_of t.modes k h.0 h.2 in
        let passes : eqb m.0.«module» k ≡ true = (let e = m.2 in grind (arith, nat_tests)) in
        let j = place_listed (mode_of_module k) 0 h.0 t.modes m.0 m.1 passes in
        let inside : j.0 < length (modes_of t k) = slice_get_within (modes_of t k) j.0 (0 + h.0) j.1 in
        let there : Some (get_or (modes_of t k) j.0 0) ≡ Some (0 + h.0) = sym (slice_get-get_or (modes_of t k) j.0 0 inside) ∙ j.1 in
        let one : get_or (modes_of t k) j.0 0 ≡ 0 + h.0 = cc in
        let is : get_or (modes_of t k) j.0 0 ≡ h.0 = omega (arith, one) in
        let count : length (invs_of t (get_or (modes_of t k) j.0 0)) ≡ count_by (λ (i : Inv). eqb i.mode h.0) t.invs = ap (λ (n : ℕ). length (invs_of t n)) is ∙ count_places (inv_of_mode h.0) 0 t.invs in
        (j.0, inside, omega (arith, count, h.3))
  ]

  -- a number of a choice of modes for the modules from k on, whose positions are the most, whatever stands before it
  abbrev IsWidest : ℕ → List Module → ℕ → Type 0
  IsWidest k xs s =
      (s < choices_from t k xs)
      × ((sel high : ℕ) → sel ≡ high * choices_from t k xs + s
      → positions_to t.modes t.modules t.invs (k + length xs) ≤ length (flat_map (λ u. invs_of t (root_mode t sel u)) (places_from is_root k xs)) + positions_to t.modes t.modules t.invs k)

  widest_from : (k : ℕ) (xs : List Module) → drop k t.modules ≡ xs → k + length xs ≤ length t.modules → (s : ℕ) × IsWidest k xs s
  widest_from k [] e size =
      (0, (omega arith, λ sel high is. let same : positions_to t.modes t.modules t.invs (k + 0) ≡ positions_to t.modes t.modules t.invs k = ap (positions_to t.modes t.modules t.invs) (let z : k + 0 ≡ k = omega arith in z) in omega (arith, same)))
  widest_from k (x ∷ xs) e size = by (is_root x) refl (widest_from (suc k) xs d.1 (omega (arith, size)))
    where
      d : (slice_get t.modules k ≡ Some x) × (drop (suc k) t.modules ≡ xs)
      d = dropped t.modules xs k x e

      c : ℕ
      c = choices_from t (suc k) xs

      n : ℕ
      n = length (modes_of t k)

      wide : ℕ
      wide = widest_to t.modes t.invs k (length t.modes)

      end : positions_to t.modes t.modules t.invs (suc k + length xs) ≡ positions_to t.modes t.modules t.invs (k + suc (length xs))
      end = ap (positions_to t.modes t.modules t.invs) (let z : suc k + length xs ≡ k + suc (length xs) = omega arith in z)

      step : (b : Bool) → is_root x ≡ b → positions_to t.modes t.modules t.invs (suc k) ≡ positions_to t.modes t.modules t.invs k + cond b wide 0
      step b is = ap (λ (a : Bool). positions_to t.modes t.modules t.invs k + cond a wide 0) (root_same t.modules k x d.0 ∙ is)

      later : choices_from t (k + 1) (drop (k + 1) t.modules) ≡ c
      later =
          let z : k + 1 ≡ suc k = omega arith in
          ap (λ (m : ℕ). choices_from t m (drop m t.modules)) z ∙ ap (choices_from t (suc k)) d.1

      shift : (high p s : ℕ) → high * (n * c) + (p * c + s) ≡ (high * n + p) * c + s
      shift high p s = let one = mul_assoc high n c in let two : (high * n + p) * c ≡ high * n * c + p * c = right_dist (high * n) p c in omega (arith, one, two)
        where
          right_dist : (a b m : ℕ) → (a + b) * m ≡ a * m + b * m
          right_dist a b m = grind arith

      -- the mode that the selection has at k
      chosen : (sel high p s : ℕ) → p < n → s < c → sel ≡ (high * n + p) * c + s → root_mode t sel k ≡ get_or (modes_of t k) p 0
      chosen sel high p s inside less is =
          ap (λ (m : ℕ). get_or (modes_of t k) (sel / m % n) 0) later
          ∙ ap (λ (q : ℕ). get_or (modes_of t k) (q % n) 0) (ap (λ (a : ℕ). a / c) is ∙ div-mul-add (high * n + p) c s less)
          ∙ ap (λ (q : ℕ). get_or (modes_of t k) q 0) (mod-mul-add high n p inside)

      goal : Bool → ℕ → Type 0
      goal b s = (s < cond b n 1 * c)
          × ((sel high : ℕ) → sel ≡ high * (cond b n 1 * c) + s
          → positions_to t.modes t.modules t.invs (k + suc (length xs)) ≤ length (flat_map (λ u. invs_of t (root_mode t sel u)) (cond b (k ∷ places_from is_root (suc k) xs) (places_from is_root (suc k) xs))) + positions_to t.modes t.modules t.invs k)

      by : (b : Bool) → is_root x ≡ b → (s : ℕ) × IsWidest (suc k) xs s → (s : ℕ) × goal b s
      by true is next =
          let p = best_of k (omega (arith, size)) in
          let s : ℕ = p.0 * c + next.0 in
          let less : s < n * c = (let z = mul-add-lt p.0 c next.0 n p.1 next.1.0 in omega (arith, z, mul_comm n c)) in (
            s,
            (
              less,
              λ sel high at.
                  let moved : sel ≡ (high * n + p.0) * c + next.0 = at ∙ shift high p.0 next.0 in
                  let rest = next.1.1 sel (high * n + p.0) moved in
                  let f : ℕ → List ℕ = λ u. invs_of t (root_mode t sel u) in
                  let here : length (f k) ≡ length (invs_of t (get_or (modes_of t k) p.0 0)) = ap (λ (m : ℕ). length (invs_of t m)) (chosen sel high p.0 next.0 p.1 next.1.0 moved) in
                  omega (arith, rest, here, p.2, end, step true is, length-append (f k) (flat_map f (places_from is_root (suc k) xs))),
            ),
          )
      by false is next =
          let one : 1 * c ≡ c = omega arith in (
            next.0,
            (
              omega (arith, next.1.0, one),
              λ sel high at.
                  let moved : sel ≡ high * c + next.0 = at ∙ ap (λ (m : ℕ). high * m + next.0) one in
                  let rest = next.1.1 sel high moved in
                  omega (arith, rest, end, step false is),
            ),
          )

  -- where each selection has few positions, the most positions are few
  pub most_few : KeepsLimits t → positions_to t.modes t.modules t.invs (length t.modules) ≤ 128
  most_few limits = by (slice_get (root_modules t) 0) refl
    where
      whole : positions_to t.modes t.modules t.invs (0 + length t.modules) ≡ positions_to t.modes t.modules t.invs (length t.modules)
      whole = ap (positions_to t.modes t.modules t.invs) (let z : 0 + length t.modules ≡ length t.modules = omega arith in z)

      by : (o : Option ℕ) → slice_get (root_modules t) 0 ≡ o → positions_to t.modes t.modules t.invs (length t.modules) ≤ 128
      by None e = let none : positions_to t.modes t.modules t.invs (length t.modules) ≡ 0 = ap (positions_to t.modes t.modules t.invs) (no_modules t t.modules r refl e) in omega (arith, none)
      by (Some u) e =
          let w = widest_from 0 t.modules refl (omega arith) in
          let below : w.0 < selection_count t = omega (arith, w.1.0, count_some t (root_modules t) u e) in
          let few = limits.positions w.0 below in
          let most = w.1.1 w.0 0 (let z : w.0 ≡ 0 * choices_from t 0 t.modules + w.0 = omega arith in z) in
          omega (arith, few, most, whole)
