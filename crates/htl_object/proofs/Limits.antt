-- What is read of a file keeps the limits on selections and positions.
use Rattle.std.proofs.Common.{◌≡◌, ◌≤◌, ◌<◌, ◌+◌, ◌*◌, ◌/◌, ◌%◌, ℕ, zero, suc, Bool, true, false, cond, ◌&&◌, eqb, List, [], ◌∷◌, ◌++◌, length, drop, slice_get, Option, Some, None, refl, sym, ◌∙◌, ap, arith, inl, inr, length-append}
use Rattle.htl_object.proofs.Words.{nat_le, is_none, flat_map, count_by, mul_comm, mul_assoc, nat_tests, sum_by-cons, slice_get-get_or, slice_get_within, is_mode_of, IsFileInRange, is_root_at, selections_to, selections_of, widest_to, positions_to, is_node_count, Lists, modes_some, no_modules, KeepsLimits, frame_limit, nodes, places_from, AreInRange, is_root, root_modules, mode_of_module, inv_of_mode, modes_of, invs_of, choices_from, selection_count, root_mode, positions, Tables, Inv, Mode, Module, tables_of_lists, eqb-true, cases_below, count_places}
pub use Rattle.htl_model.proofs.SelectionLaws.{place_passes}
use Rattle.htl_object.proofs.ListRanges.{at_most, lists_in_range}

-- ---- places that pass, and how many

pub dropped : {A : Type 0} (xs ys : List A) (k : ℕ) (y : A) → drop k xs ≡ y ∷ ys → (slice_get xs k ≡ Some y) × (drop (suc k) xs ≡ ys)
dropped [] ys zero y e = cc
dropped [] ys (suc k) y e = cc
dropped (x ∷ xs) ys zero y e = (let one : x ≡ y = cc in ap (λ z. Some z) one, (let two : xs ≡ ys = cc in two))
dropped (x ∷ xs) ys (suc k) y e = dropped xs ys k y e

pub root_same : (modules : List Module) (k : ℕ) (x : Module) → slice_get modules k ≡ Some x → is_root_at modules k ≡ is_root x
root_same modules k x e = ap (λ (o : Option Module). elim o as (λ _. Bool) [ Some m ↦ is_none m.parent | None ↦ false ]) e ∙ by x.parent
  where
    by : (o : Option ℕ) → is_none o ≡ elim o as (λ _. Bool) [ Some p ↦ false | None ↦ true ]
    by None = refl
    by (Some p) = refl

-- ---- selections

turned : (c r s : ℕ) → c * r * s ≡ r * (s * c)
turned c r s = ap (λ (n : ℕ). n * s) (mul_comm c r) ∙ mul_assoc r c s ∙ ap (λ (n : ℕ). r * n) (mul_comm c s)

choices_are : (t : Tables) (k : ℕ) (xs : List Module) → drop k t.modules ≡ xs → choices_from t k xs * selections_to t.modes t.modules k ≡ selections_to t.modes t.modules (k + length xs)
choices_are t k [] e =
    let one : 1 * selections_to t.modes t.modules k ≡ selections_to t.modes t.modules k = omega arith in
    one ∙ ap (selections_to t.modes t.modules) (let z : k ≡ k + 0 = omega arith in z)
choices_are t k (x ∷ xs) e =
    let d = dropped t.modules xs k x e in
    let s : ℕ = selections_to t.modes t.modules k in
    let c : ℕ = cond (is_root x) (length (modes_of t k)) 1 in
    let r : ℕ = choices_from t (suc k) xs in
    let here : c ≡ cond (is_root_at t.modules k) (count_by (λ (q : Mode). eqb q.«module» k) t.modes) 1 =
    ap (λ (n : ℕ). cond (is_root x) n 1) (count_places (mode_of_module k) 0 t.modes) ∙ ap (λ (b : Bool). cond b (count_by (λ (q : Mode). eqb q.«module» k) t.modes) 1) (sym (root_same t.modules k x d.0)) in
    turned c r s ∙ ap (λ (n : ℕ). r * (s * n)) here ∙ choices_are t (suc k) xs d.1
    ∙ ap (selections_to t.modes t.modules) (let z : suc k + length xs ≡ k + suc (length xs) = omega arith in z)

-- ---- positions

widest_at : (modes : List Mode) (invs : List Inv) (k m n : ℕ) → m < n → is_mode_of modes k m ≡ true → count_by (λ i. eqb i.mode m) invs ≤ widest_to modes invs k n
widest_at modes invs k m zero less h = absurd (omega arith)
widest_at modes invs k m (suc n) less h = elim (cases_below m n less) [
  | inl low ↦ omega (arith, widest_at modes invs k m n low h)
  | inr same ↦
      let here : cond (is_mode_of modes k n) (count_by (λ (i : Inv). eqb i.mode n) invs) 0 ≡ count_by (λ (i : Inv). eqb i.mode m) invs =
      ap (λ (q : ℕ). cond (is_mode_of modes k q) (count_by (λ (i : Inv). eqb i.mode q) invs) 0) (sym same) ∙ ap (λ (b : Bool). cond b (count_by (λ (i : Inv). eqb i.mode m) invs) 0) h in
      omega (arith, here)
]

mode_at_place : (modes : List Mode) (k m : ℕ) (x : Mode) → slice_get modes m ≡ Some x → eqb x.«module» k ≡ true → is_mode_of modes k m ≡ true
mode_at_place modes k m x e h = ap (λ (o : Option Mode). elim o as (λ _. Bool) [ Some y ↦ eqb y.«module» k | None ↦ false ]) e ∙ h

module _ (t : Tables) (r : AreInRange t) (sel : ℕ) where
  unit_most : (k : ℕ) → k < length t.modules → length (invs_of t (root_mode t sel k)) ≤ widest_to t.modes t.invs k (length t.modes)
  unit_most k less =
      let m : ℕ = root_mode t sel k in
      let some : 0 < length (modes_of t k) = modes_some t k r less in
      let place : ℕ = sel / choices_from t (k + 1) (drop (k + 1) t.modules) % length (modes_of t k) in
      let inside : place < length (modes_of t k) = omega arith in
      let p = place_passes (mode_of_module k) 0 place m t.modes (slice_get-get_or (modes_of t k) place 0 inside) in
      let same : p.0 ≡ m = omega (arith, p.1) in
      let there : slice_get t.modes m ≡ Some p.2 = ap (slice_get t.modes) (sym same) ∙ p.3 in
      omega (arith, count_places (inv_of_mode m) 0 t.invs, widest_at t.modes t.invs k m (length t.modes) (slice_get_within t.modes m p.2 there) (mode_at_place t.modes k m p.2 there p.4))

  positions_most : (k : ℕ) (xs : List Module) → drop k t.modules ≡ xs → k + length xs ≤ length t.modules
      → length (flat_map (λ u. invs_of t (root_mode t sel u)) (places_from is_root k xs)) + positions_to t.modes t.modules t.invs k ≤ positions_to t.modes t.modules t.invs (k + length xs)
  positions_most k [] e size = let same : positions_to t.modes t.modules t.invs (k + 0) ≡ positions_to t.modes t.modules t.invs k = ap (positions_to t.modes t.modules t.invs) (let z : k + 0 ≡ k = omega arith in z) in omega (arith, same)
  positions_most k (x ∷ xs) e size =
      let d = dropped t.modules xs k x e in
      let f : ℕ → List ℕ = λ u. invs_of t (root_mode t sel u) in
      let next = positions_most (suc k) xs d.1 (omega (arith, size)) in
      let end : positions_to t.modes t.modules t.invs (suc k + length xs) ≡ positions_to t.modes t.modules t.invs (k + suc (length xs)) =
      ap (positions_to t.modes t.modules t.invs) (let z : suc k + length xs ≡ k + suc (length xs) = omega arith in z) in
      let step : positions_to t.modes t.modules t.invs (suc k) ≡ positions_to t.modes t.modules t.invs k + cond (is_root x) (widest_to t.modes t.invs k (length t.modes)) 0 =
      ap (λ (b : Bool). positions_to t.modes t.modules t.invs k + cond b (widest_to t.modes t.invs k (length t.modes)) 0) (root_same t.modules k x d.0) in
      omega (arith, next, end, step, by (is_root x) (length-append (f k) (flat_map f (places_from is_root (suc k) xs))) (unit_most k (omega (arith, size))))
    where
      by : (b : Bool) → length (invs_of t (root_mode t sel k) ++ flat_map (λ u. invs_of t (root_mode t sel u)) (places_from is_root (suc k) xs)) ≡ length (invs_of t (root_mode t sel k)) + length (flat_map (λ u. invs_of t (root_mode t sel u)) (places_from is_root (suc k) xs))
          → length (invs_of t (root_mode t sel k)) ≤ widest_to t.modes t.invs k (length t.modes)
          → length (flat_map (λ u. invs_of t (root_mode t sel u)) (cond b (k ∷ places_from is_root (suc k) xs) (places_from is_root (suc k) xs)))
          ≤ cond b (widest_to t.modes t.invs k (length t.modes)) 0 + length (flat_map (λ u. invs_of t (root_mode t sel u)) (places_from is_root (suc k) xs))
      by true e most = omega (arith, e, most)
      by false e most = omega arith

  positions_few : length (positions t sel) ≤ positions_to t.modes t.modules t.invs (length t.modules)
  positions_few =
      let whole = positions_most 0 t.modules refl (omega arith) in
      let same : positions_to t.modes t.modules t.invs (0 + length t.modules) ≡ positions_to t.modes t.modules t.invs (length t.modules) =
      ap (positions_to t.modes t.modules t.invs) (let z : 0 + length t.modules ≡ length t.modules = omega arith in z) in
      omega (arith, whole, same)

-- ---- the law

parts : (a b c d : Bool) → ((a && b) && (c && d)) ≡ true → (a ≡ true) × (b ≡ true) × (c ≡ true) × (d ≡ true)
parts true true true true h = (refl, refl, refl, refl)
parts true true true false h = absurd (let z : ⊥ = cc in z)
parts true true false d h = absurd (let z : ⊥ = cc in z)
parts true false c d h = absurd (let z : ⊥ = cc in z)
parts false b c d h = absurd (let z : ⊥ = cc in z)

pub count_some : (t : Tables) (roots : List ℕ) (u : ℕ) → slice_get roots 0 ≡ Some u → elim roots as (λ _. ℕ) [ [] ↦ 0 | k ∷ ks ↦ choices_from t 0 t.modules ] ≡ choices_from t 0 t.modules
count_some t [] u e = cc
count_some t (k ∷ ks) u e = refl

count_none : (t : Tables) (roots : List ℕ) → slice_get roots 0 ≡ None → elim roots as (λ _. ℕ) [ [] ↦ 0 | k ∷ ks ↦ choices_from t 0 t.modules ] ≡ 0
count_none t [] e = refl
count_none t (k ∷ ks) e = cc

none_or : (n s : ℕ) → n ≡ 0 → cond (eqb n 0) 0 s ≡ 0
none_or n s h = let e : eqb n 0 ≡ true = grind (arith, nat_tests) in ap (λ (b : Bool). cond b 0 s) e

some_or : (n s : ℕ) → 0 < n → cond (eqb n 0) 0 s ≡ s
some_or n s h = let e : eqb n 0 ≡ false = grind (arith, nat_tests) in ap (λ (b : Bool). cond b 0 s) e

-- the count of selections is that of the tables
pub selections_are : (t : Tables) → AreInRange t → selections_of t.modes t.modules ≡ selection_count t
selections_are t r = by (slice_get (root_modules t) 0) refl
  where
    by : (o : Option ℕ) → slice_get (root_modules t) 0 ≡ o → selections_of t.modes t.modules ≡ selection_count t
    by None e = none_or (length t.modules) (selections_to t.modes t.modules (length t.modules)) (no_modules t t.modules r refl e) ∙ sym (count_none t (root_modules t) e)
    by (Some u) e =
        let p = place_passes is_root 0 0 u t.modules e in
        let some : 0 < length t.modules = omega (arith, slice_get_within t.modules p.0 p.2 p.3) in
        let made = choices_are t 0 t.modules refl in
        let same : selections_to t.modes t.modules (0 + length t.modules) ≡ selections_to t.modes t.modules (length t.modules) =
        ap (selections_to t.modes t.modules) (let z : 0 + length t.modules ≡ length t.modules = omega arith in z) in
        let one : choices_from t 0 t.modules * 1 ≡ choices_from t 0 t.modules = omega arith in
        some_or (length t.modules) (selections_to t.modes t.modules (length t.modules)) some ∙ sym same ∙ sym made ∙ one ∙ sym (count_some t (root_modules t) u e)

-- what a count of schedules says of the tables
pub record IsCounted (t : Tables) (n : ℕ) : Type 0 where
  pub selections : selections_of t.modes t.modules ≤ 1024
  pub positions : positions_to t.modes t.modules t.invs (length t.modules) ≤ 128
  pub frames : frame_limit t ≡ None
  pub same : n ≡ nodes t

pub counted_so : (t : Tables) (n : ℕ) → is_node_count t n ≡ true → IsCounted t n
counted_so t n h =
    let count : ℕ = selections_of t.modes t.modules in
    let most : ℕ = positions_to t.modes t.modules t.invs (length t.modules) in
    let p = parts (nat_le count 1024) (nat_le most 128) (is_none (frame_limit t)) (eqb n (nodes t)) h in
    record { selections = at_most count 1024 p.0; positions = at_most most 128 p.1; frames = none_is (frame_limit t) p.2; same = eqb-true n (nodes t) p.3 }
  where
    none_is : (o : Option (ℕ × (ℕ × ℕ))) → is_none o ≡ true → o ≡ None
    none_is None e = refl
    none_is (Some x) e = cc

pub frames_kept : (l : Lists) → IsFileInRange l → frame_limit (tables_of_lists l) ≡ None
frames_kept l h = (counted_so (tables_of_lists l) (length l.schedules) h.schedule_count.1).frames

-- the schedules of the file are as many as the nodes of the tables
pub counted_schedules : (l : Lists) → IsFileInRange l → length l.schedules ≡ nodes (tables_of_lists l)
counted_schedules l h = (counted_so (tables_of_lists l) (length l.schedules) h.schedule_count.1).same

pub lists_keep_limits : (l : Lists) → IsFileInRange l → KeepsLimits (tables_of_lists l)
lists_keep_limits l h =
    let t : Tables = tables_of_lists l in
    let r : AreInRange t = lists_in_range l h.front in
    let p = counted_so t (length l.schedules) h.schedule_count.1 in
    record {
      selections = omega (arith, selections_are t r, p.selections);
      positions = λ sel less. omega (arith, positions_few t r sel, p.positions);
    }
