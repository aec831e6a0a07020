-- Each selection of running modes has a root selection.
use Rattle.std.proofs.Common.{◌≡◌, ◌≤◌, ◌<◌, ℕ, zero, suc, ◌+◌, ◌*◌, ◌/◌, ◌%◌, Bool, true, false, cond, eqb, List, [], ◌∷◌, length, get_or, drop, Option, Some, None, refl, sym, ◌∙◌, ap, subst, arith, add-one}
use Rattle.htl_refine.proofs.Words.{slice_get, flat_map, Module, AreInRange, no_modules, KeepsLimits, is_root, root_modules, mode_of_module, modes_of, choices_from, selection_count, positions, Tables, running_invs, running_positions, IsOfSelection, place_among, entry_place, selection_from, selection_of, entry, IsSelection, IsEntry, IsModeOf, eq-eqb, eqb-true, none-some}
use Rattle.htl_refine.proofs.{Members.at_place, MixedRadix.digits, MixedRadix.regroup, MixedRadix.digit, Positions.rootless, Positions.root_is, Positions.same_positions}

-- ---- a place in a list

pub place_found : (m : ℕ) (xs : List ℕ) (r : ℕ) → slice_get xs r ≡ Some m → (place_among m xs < length xs) × (get_or xs (place_among m xs) 0 ≡ m)
place_found m [] r e = absurd (none-some m e)
place_found m (x ∷ xs) zero e = grind (arith, eq-eqb)
place_found m (x ∷ xs) (suc r) e = grind (arith, eqb-true, place_found m xs r e)

-- what comes before the last digits of a number
leading : (b : Bool) (d l c e r : ℕ) → (m : ℕ) × (d * (cond b l 1 * c) + (cond b (e * c) 0 + r) ≡ m * c + r)
leading true d l c e r = (d * l + e, regroup d l c e r)
leading false d l c e r = (d, plain d c r)
  where
    plain : (d c r : ℕ) → d * (1 * c) + (0 + r) ≡ d * c + r
    plain d c r = grind arith

module _ (t : Tables) (modes : List (Option ℕ)) where
  -- the places of root modules from number k on are places of modes
  abbrev Fits : ℕ → List Module → Type 0
  Fits k xs = (j : ℕ) (x : Module) → slice_get xs j ≡ Some x → is_root x ≡ true → entry_place t modes (k + j) < length (modes_of t (k + j))

  fits_later : (k : ℕ) (x : Module) (xs : List Module) → Fits k (x ∷ xs) → Fits (suc k) xs
  fits_later k x xs h j y at root = subst (λ n. entry_place t modes n < length (modes_of t n)) (omega arith) (h (suc j) y at root)

  fits_here : (k : ℕ) (x : Module) (xs : List Module) → Fits k (x ∷ xs) → is_root x ≡ true → entry_place t modes k < length (modes_of t k)
  fits_here k x xs h root = let zero_add : k + 0 ≡ k = omega arith in subst (λ n. entry_place t modes n < length (modes_of t n)) zero_add (h 0 x refl root)

  -- a number in mixed radix is below the number of choices
  pub below_choices : (k : ℕ) (xs : List Module) → Fits k xs → selection_from t modes k xs < choices_from t k xs
  below_choices k [] h = omega arith
  below_choices k (x ∷ xs) h = by (is_root x) refl (below_choices (suc k) xs (fits_later k x xs h))
    where
      by : (b : Bool) → is_root x ≡ b → selection_from t modes (suc k) xs < choices_from t (suc k) xs
          → cond b (entry_place t modes k * choices_from t (suc k) xs) 0 + selection_from t modes (suc k) xs < cond b (length (modes_of t k)) 1 * choices_from t (suc k) xs
      by true is later = digits (entry_place t modes k) (choices_from t (suc k) xs) (length (modes_of t k)) (selection_from t modes (suc k) xs) (fits_here k x xs h is) later
      by false is later = omega (arith, later)

  -- ---- the digit of a root module

  abbrev pub digit_at : ℕ → ℕ → List Module → ℕ → ℕ
  digit_at n u xs j = n / choices_from t (suc u) (drop (suc j) xs) % length (modes_of t u)

  -- whatever comes before these modules
  pub digit_is : (k d : ℕ) (xs : List Module) → Fits k xs → (j : ℕ) (x : Module) → slice_get xs j ≡ Some x → is_root x ≡ true
      → digit_at (d * choices_from t k xs + selection_from t modes k xs) (k + j) xs j ≡ entry_place t modes (k + j)
  digit_is k d [] h j x at root = absurd (none-some x at)
  digit_is k d (y ∷ ys) h zero x at root =
      let same : y ≡ x = cc in
      let test : is_root y ≡ true = ap is_root same ∙ root in
      let l = length (modes_of t k) in
      let c = choices_from t (suc k) ys in
      let e = entry_place t modes k in
      let r = selection_from t modes (suc k) ys in
      subst (λ n. digit_at (d * choices_from t k (y ∷ ys) + selection_from t modes k (y ∷ ys)) n (y ∷ ys) 0 ≡ entry_place t modes n) (omega arith)
      (ap (λ b. (d * (cond b l 1 * c) + (cond b (e * c) 0 + r)) / c % l) test
      ∙ digit d l c e r (fits_here k y ys h test) (below_choices (suc k) ys (fits_later k y ys h)))
  digit_is k d (y ∷ ys) h (suc j) x at root =
      let m = leading (is_root y) d (length (modes_of t k)) (choices_from t (suc k) ys) (entry_place t modes k) (selection_from t modes (suc k) ys) in
      subst (λ n. digit_at (d * choices_from t k (y ∷ ys) + selection_from t modes k (y ∷ ys)) n (y ∷ ys) (suc j) ≡ entry_place t modes n) (omega arith)
      (ap (λ n. digit_at n (suc k + j) ys j) m.1 ∙ digit_is (suc k) m.0 ys (fits_later k y ys h) j x at root)

  -- ---- a selection of running modes

  module _ (s : IsSelection t modes) where
    -- the mode of a root module
    pub root_entry : (u : ℕ) (x : Module) → slice_get t.modules u ≡ Some x → x.parent ≡ None → (m : ℕ) × (entry modes u ≡ Some m) × IsModeOf t u m
    root_entry u x at root = grind arith

    pub root_place : (u : ℕ) (x : Module) → slice_get t.modules u ≡ Some x → x.parent ≡ None
        → (entry_place t modes u < length (modes_of t u)) × (entry modes u ≡ Some (get_or (modes_of t u) (entry_place t modes u) 0))
    root_place u x at root =
        let m = root_entry u x at root in
        let own = m.2 in
        let r = at_place (mode_of_module u) t.modes m.0 own.0 own.1 (eq-eqb own.0.«module» u own.2) in
        let place = place_found m.0 (modes_of t u) r.0 r.1 in
        let is : entry_place t modes u ≡ place_among m.0 (modes_of t u) = ap (λ (o : Option ℕ). elim o [ Some n ↦ place_among n (modes_of t u) | None ↦ 0 ]) m.1 in (
          omega (arith, is, place.0),
          m.1 ∙ ap (λ (n : ℕ). Some n) (sym (ap (λ n. get_or (modes_of t u) n 0) is ∙ place.1)),
        )

    all_fit : Fits 0 t.modules
    all_fit j x at root = subst (λ n. entry_place t modes n < length (modes_of t n)) (omega arith) (root_place j x at (rootless x root)).0

    -- the root modules are in the modes of its root selection
    pub is_of_selection : IsOfSelection t (selection_of t modes) modes
    is_of_selection u x at root =
        let digit : digit_at (selection_of t modes) u t.modules u ≡ entry_place t modes u =
        subst (λ n. digit_at (selection_of t modes) n t.modules u ≡ entry_place t modes n) (omega arith)
        (subst (λ m. digit_at m (0 + u) t.modules u ≡ entry_place t modes (0 + u)) (omega arith) (digit_is 0 0 t.modules all_fit u x at (root_is x root))) in
        (root_place u x at root).1
        ∙ ap (λ (n : ℕ). Some (get_or (modes_of t u) n 0)) (sym digit)
        ∙ ap (λ (n : ℕ). Some (get_or (modes_of t u) (selection_of t modes / choices_from t n (drop n t.modules) % length (modes_of t u)) 0)) (sym (add-one u))

    -- which is one, where there is a module
    pub selection_below : (k : ℕ) (ks : List ℕ) → root_modules t ≡ k ∷ ks → selection_of t modes < selection_count t
    selection_below k ks e = grind (arith, below_choices, all_fit)

    -- there are at most as many positions as in a root selection
    pub few_positions : KeepsLimits t → length (running_positions t modes) ≤ 128
    few_positions limits = by (root_modules t) refl
      where
        by : (us : List ℕ) → root_modules t ≡ us → length (running_positions t modes) ≤ 128
        by [] e = let none : length (running_positions t modes) ≡ 0 = ap (λ us. length (flat_map (running_invs t modes) us)) e in omega arith
        by (k ∷ ks) e =
            let same : length (running_positions t modes) ≡ length (positions t (selection_of t modes)) = ap length (same_positions t (selection_of t modes) modes is_of_selection) in
            omega (arith, same, limits.positions (selection_of t modes) (selection_below k ks e))

pub roots_some : (t : Tables) → AreInRange t → 0 < length t.modules → (k : ℕ) × (ks : List ℕ) × (root_modules t ≡ k ∷ ks)
roots_some t range some = by (root_modules t) refl
  where
    by : (us : List ℕ) → root_modules t ≡ us → (k : ℕ) × (ks : List ℕ) × (root_modules t ≡ k ∷ ks)
    by (k ∷ ks) e = (k, ks, e)
    by [] e = let none : length t.modules ≡ 0 = no_modules t t.modules range refl (ap (λ us. slice_get us 0) e) in absurd (omega arith)

pub below_count : (t : Tables) (modes : List (Option ℕ)) → AreInRange t → IsSelection t modes → 0 < length t.modules → selection_of t modes < selection_count t
below_count t modes range s some = let root = roots_some t range some in selection_below t modes s root.0 root.1 root.2
