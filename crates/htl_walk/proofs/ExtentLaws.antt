-- One item more of a list, in the table of where the items of each owner stand.
use Rattle.std.proofs.Common.{◌≡◌, ◌<◌, ◌+◌, ◌-◌, ℕ, zero, suc, Bool, true, false, cond, eqb, List, [], ◌∷◌, length, drop, drop-cons, get_or, add-one, refl, sym, ap, ◌∙◌, subst, set, replicate, arith}
use Rattle.std.proofs.{lemmas.Bool.eqb-false, lemmas.Bool.eqb-true, lemmas.List.get_or-set_other, lemmas.List.get_or-set_same}
use Rattle.htl_walk.proofs.Words.{places_from, Stand, no_items, widened, Extent, Extents, AreExtents, Tables, modes_of, mode_of_module}

none_stand : (size n : ℕ) → get_or (replicate size no_items) n no_items ≡ no_items
none_stand (suc size) (suc n) = none_stand size n
none_stand _ _ = refl

stand_first : {X : Type 0} (test : X → Bool) (items : List X) → Stand test 0 (places_from test 0 items) no_items items
stand_first test items = record { first = refl; end = refl; count = omega arith; few = omega arith; order = omega arith; within = omega arith }

pub stands_first : {X : Type 0} (size : ℕ) (test : X → Bool) (items : List X) (n : ℕ) → Stand test 0 (places_from test 0 items) (get_or (replicate size no_items) n no_items) items
stands_first size test items n = subst (λ e. Stand test 0 (places_from test 0 items) e items) (sym (none_stand size n)) (stand_first test items)

pub stand_count : {X : Type 0} (test : X → Bool) (items : List X) (e : Extent) (k : ℕ) → Stand test k [] e items → e.count ≡ length (places_from test 0 items)
stand_count test items e k s = let c : e.count + 0 ≡ length (places_from test 0 items) = s.count in omega (arith, c)

module _ {X : Type 0} (test : X → Bool) (items : List X) (k : ℕ) (x : X) (below_end : k < length items) (at : x ≡ get_or items k x) where
  cut : places_from test k (drop k items) ≡ cond (test x) (k ∷ places_from test (suc k) (drop (suc k) items)) (places_from test (suc k) (drop (suc k) items))
  cut = ap (places_from test k) (drop-cons items k x below_end ∙ ap (λ z. z ∷ drop (suc k) items) (sym at))

  pub stands_here : test x ≡ true → places_from test k (drop k items) ≡ k ∷ places_from test (k + 1) (drop (k + 1) items)
  stands_here e = grind (arith, cut, test, add-one)

  pub stands_later : test x ≡ false → places_from test k (drop k items) ≡ places_from test (k + 1) (drop (k + 1) items)
  stands_later e = grind (arith, cut, test, add-one)

  pub place_here : (left : ℕ) → test x ≡ true → (left ≡ 0 → ⊥) → get_or (places_from test (k + 1) (drop (k + 1) items)) (left - 1) 0 ≡ get_or (places_from test k (drop k items)) left 0
  place_here zero h some = absurd (some refl)
  place_here (suc n) h some = grind (arith, test, stands_here)

  pub place_later : (left : ℕ) → test x ≡ false → get_or (places_from test (k + 1) (drop (k + 1) items)) left 0 ≡ get_or (places_from test k (drop k items)) left 0
  place_later left h = ap (λ (ks : List ℕ). get_or ks left 0) (sym (stands_later h))

  module _ (e : Extent) (s : Stand test k (places_from test k (drop k items)) e items) where
    stand_with : test x ≡ true → Stand test (k + 1) (places_from test (k + 1) (drop (k + 1) items)) (widened k e) items
    stand_with h = grind (arith, test, stands_here, eqb-true)

    stand_without : test x ≡ false → Stand test (k + 1) (places_from test (k + 1) (drop (k + 1) items)) e items
    stand_without h = grind (arith, stands_later)

-- the table with one item more
pub stand_next : {X : Type 0} (owner : X → ℕ) (items : List X) (k : ℕ) (x : X) (table : List Extent) (e : Extent) → k < length items → x ≡ get_or items k x → owner x < length table → e ≡ widened k (get_or table (owner x) no_items)
    → ((n : ℕ) → Stand (λ y. eqb (owner y) n) k (places_from (λ y. eqb (owner y) n) k (drop k items)) (get_or table n no_items) items)
    → (n : ℕ) → Stand (λ y. eqb (owner y) n) (k + 1) (places_from (λ y. eqb (owner y) n) (k + 1) (drop (k + 1) items)) (get_or (set table (owner x) e) n no_items) items
stand_next {X} owner items k x table e below at room is s n = by (eqb (owner x) n) refl
  where
    test : X → Bool
    test y = eqb (owner y) n

    by : (b : Bool) → eqb (owner x) n ≡ b → Stand test (k + 1) (places_from test (k + 1) (drop (k + 1) items)) (get_or (set table (owner x) e) n no_items) items
    by true h = grind (arith, eqb-true, set, get_or-set_same, test, stand_with)
    by false h = grind (arith, set, get_or-set_other, eqb-false, test, stand_without)

-- the modes of a module by its extent
pub found : (t : Tables) (x : Extents) (u : ℕ) (e : Extent) → AreExtents t x → e ≡ get_or x.modes u no_items → e.count ≡ length (modes_of t u)
found t x u e s is = ap (λ (e : Extent). e.count) is ∙ stand_count (mode_of_module u) t.modes (get_or x.modes u no_items) (length t.modes) (s.modes u)
