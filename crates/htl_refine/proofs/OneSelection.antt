-- A selection of running modes has one root selection.
use Rattle.std.proofs.Common.{◌≡◌, ◌≤◌, ◌<◌, ℕ, zero, suc, ◌+◌, ◌*◌, ◌/◌, ◌%◌, Bool, true, false, cond, eqb, List, [], ◌∷◌, length, get_or, drop, Option, Some, None, refl, sym, ◌∙◌, ap, ap₂, subst, arith, add-one}
use Rattle.htl_refine.proofs.Words.{slice_get, div-add-mod, div-lt_iff_lt-mul, mod-lt, mul_comm, nat_tests, Module, places_from, AreInRange, is_root, mode_of_module, modes_of, choices_from, selection_count, Tables, modes_some, slice_get_within, IsOfSelection, place_among, entry_place, selection_from, selection_of, entry, eq-eqb}
use Rattle.htl_refine.proofs.{MixedRadix.regroup, MixedRadix.digit, Positions.rootless, RootSelection.digit_at, RootSelection.roots_some}

-- a factor of a number above 0 is above 0
factor : (e c : ℕ) → 0 < e * c → 0 < c
factor e zero h = absurd (let none : e * 0 ≡ 0 = omega arith in omega arith)
factor e (suc c) h = omega arith

-- ---- the place of an item among places

above : {A : Type 0} (test : A → Bool) (k : ℕ) (xs : List A) (d : ℕ) → d < length (places_from test k xs) → k ≤ get_or (places_from test k xs) d 0
above test k [] d h = absurd (omega arith)
above test k (x ∷ xs) d h = by (test x) d (λ i below. above test (suc k) xs i below) h
  where
    by : (b : Bool) (i : ℕ) → ((i : ℕ) → i < length (places_from test (suc k) xs) → suc k ≤ get_or (places_from test (suc k) xs) i 0)
        → i < length (cond b (k ∷ places_from test (suc k) xs) (places_from test (suc k) xs)) → k ≤ get_or (cond b (k ∷ places_from test (suc k) xs) (places_from test (suc k) xs)) i 0
    by true zero later f = omega arith
    by true (suc i) later f = omega (arith, later i (omega arith))
    by false i later f = omega (arith, later i f)

place_is : {A : Type 0} (test : A → Bool) (k : ℕ) (xs : List A) (d : ℕ) → d < length (places_from test k xs) → place_among (get_or (places_from test k xs) d 0) (places_from test k xs) ≡ d
place_is test k [] d h = absurd (omega arith)
place_is test k (x ∷ xs) d h = by (test x) d (λ i below. place_is test (suc k) xs i below) h
  where
    other : (a b : ℕ) → suc a ≤ b → eqb a b ≡ false
    other a b h = grind (arith, nat_tests)

    by : (b : Bool) (i : ℕ) → ((i : ℕ) → i < length (places_from test (suc k) xs) → place_among (get_or (places_from test (suc k) xs) i 0) (places_from test (suc k) xs) ≡ i)
        → i < length (cond b (k ∷ places_from test (suc k) xs) (places_from test (suc k) xs))
        → place_among (get_or (cond b (k ∷ places_from test (suc k) xs) (places_from test (suc k) xs)) i 0) (cond b (k ∷ places_from test (suc k) xs) (places_from test (suc k) xs)) ≡ i
    by true zero later f = ap (λ c. cond c 0 (suc (place_among k (places_from test (suc k) xs)))) (eq-eqb k k refl)
    by true (suc i) later f = grind (arith, other, above)
    by false i later f = later i f

-- ---- a number by its digits

module _ (t : Tables) (modes : List (Option ℕ)) where
  -- the digits of a number at the root modules from number k on are the places of these modes
  abbrev HasDigits : ℕ → ℕ → List Module → Type 0
  HasDigits n k xs = (j : ℕ) (x : Module) → slice_get xs j ≡ Some x → is_root x ≡ true → digit_at t modes n (k + j) xs j ≡ entry_place t modes (k + j)

  -- whatever comes before these modules
  abbrev IsMade : ℕ → List Module → Type 0
  IsMade k xs = (d n : ℕ) → n < choices_from t k xs → HasDigits (d * choices_from t k xs + n) k xs → n ≡ selection_from t modes k xs

  made : (k : ℕ) (xs : List Module) → IsMade k xs
  made k [] d n less digits = omega arith
  made k (x ∷ xs) d n less digits = by (made (suc k) xs) (is_root x) refl less
    where
      later : (m q : ℕ) → d * choices_from t k (x ∷ xs) + n ≡ m * choices_from t (suc k) xs + q → HasDigits (m * choices_from t (suc k) xs + q) (suc k) xs
      later m q e j y at pass =
          let next : k + suc j ≡ suc k + j = omega arith in
          ap (λ z. digit_at t modes z (suc k + j) xs j) (sym e) ∙ subst (λ u. digit_at t modes (d * choices_from t k (x ∷ xs) + n) u (x ∷ xs) (suc j) ≡ entry_place t modes u) next (digits (suc j) y at pass)

      plain : (d c n : ℕ) → d * (1 * c) + n ≡ d * c + n
      plain d c n = grind arith

      by : IsMade (suc k) xs → (b : Bool) → is_root x ≡ b → n < cond b (length (modes_of t k)) 1 * choices_from t (suc k) xs
          → n ≡ cond b (entry_place t modes k * choices_from t (suc k) xs) 0 + selection_from t modes (suc k) xs
      by ih true is f =
          let l = length (modes_of t k) in
          let c = choices_from t (suc k) xs in
          let some : 0 < c = factor l c (omega (arith, f)) in
          let turn : n / c * c + n % c ≡ n = ap (λ w. w + n % c) (mul_comm (n / c) c) ∙ div-add-mod n c in
          let high : n / c < l = (div-lt_iff_lt-mul {k = c} {x = n} {y = l} some).1 f in
          let number : d * choices_from t k (x ∷ xs) + n ≡ d * (l * c) + (n / c * c + n % c) = ap (λ b. d * (cond b l 1 * c) + n) is ∙ ap (λ w. d * (l * c) + w) (sym turn) in
          let zero_add : k + 0 ≡ k = omega arith in
          let own : (d * choices_from t k (x ∷ xs) + n) / c % l ≡ entry_place t modes k = subst (λ u. digit_at t modes (d * choices_from t k (x ∷ xs) + n) u (x ∷ xs) 0 ≡ entry_place t modes u) zero_add (digits 0 x refl is) in
          let low : n % c ≡ selection_from t modes (suc k) xs = ih (d * l + n / c) (n % c) (mod-lt n some) (later (d * l + n / c) (n % c) (number ∙ regroup d l c (n / c) (n % c))) in
          sym turn ∙ ap₂ (λ w q. w * c + q) (sym (digit d l c (n / c) (n % c) high (mod-lt n some)) ∙ ap (λ w. w / c % l) (sym number) ∙ own) low
      by ih false is f =
          let c = choices_from t (suc k) xs in
          let number : d * choices_from t k (x ∷ xs) + n ≡ d * c + n = ap (λ b. d * (cond b (length (modes_of t k)) 1 * c) + n) is ∙ plain d c n in
          ih d n (omega (arith, f)) (later d n number) ∙ (let z : selection_from t modes (suc k) xs ≡ 0 + selection_from t modes (suc k) xs = omega arith in z)

  -- the root selection with these root modes
  pub one_selection : AreInRange t → 0 < length t.modules → (sel : ℕ) → sel < selection_count t → IsOfSelection t sel modes → sel ≡ selection_of t modes
  one_selection range some sel less roots = made 0 t.modules 0 sel below (subst (λ n. HasDigits n 0 t.modules) (omega arith) digits)
    where
      below : sel < choices_from t 0 t.modules
      below =
          let root = roots_some t range some in
          let count : selection_count t ≡ choices_from t 0 t.modules = ap (λ (us : List ℕ). elim us [ [] ↦ 0 | v ∷ vs ↦ choices_from t 0 t.modules ]) root.2 in
          omega (arith, count, less)

      digits : HasDigits sel 0 t.modules
      digits j x at pass = subst (λ u. digit_at t modes sel u t.modules j ≡ entry_place t modes u) (omega arith) (here j x at pass)
        where
          here : (u : ℕ) (x : Module) → slice_get t.modules u ≡ Some x → is_root x ≡ true → digit_at t modes sel u t.modules u ≡ entry_place t modes u
          here u x at pass =
              let l = length (modes_of t u) in
              let d = digit_at t modes sel u t.modules u in
              let more : 0 < l = modes_some t u range (slice_get_within t.modules u x at) in
              let within : d < l = mod-lt (sel / choices_from t (suc u) (drop (suc u) t.modules)) more in
              let mode : entry modes u ≡ Some (get_or (modes_of t u) d 0) =
              roots u x at (rootless x pass) ∙ ap (λ (n : ℕ). Some (get_or (modes_of t u) (sel / choices_from t n (drop n t.modules) % l) 0)) (add-one u) in
              sym (ap (λ (o : Option ℕ). elim o [ Some m ↦ place_among m (modes_of t u) | None ↦ 0 ]) mode ∙ place_is (mode_of_module u) 0 t.modes d within)
