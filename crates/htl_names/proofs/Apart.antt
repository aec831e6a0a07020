-- In a tree of programs each module stands once in the order, so the modules in order have no more of a kind than the source.
use Rattle.std.proofs.Common.{◌≡◌, inl, inr, ℕ, zero, suc, ◌+◌, ◌≤◌, ◌<◌, Bool, true, false, cond, eqb, List, [], ◌∷◌, length, take, slice_get, Option, Some, None, refl, sym, ◌∙◌, ap, ap₂, subst, arith, ◌≢◌, map, set, sum, sum_by, length-set, get_or-set_other, flat_map, count_by, ltb}
use Rattle.htl_names.proofs.Words.{cases_eq, ne_eqb, nat_tests, same_Some, slice_get_within, get_or_from_slice_get, slice_get-get_or, length-flat_map, sum_by-le, sum-map, sum_by-cons, sum_by-append, sum_by_push, sum_by-set, get_or-le-sum_by, list_to, get_mapped, modules_of, PlainProgram, PlainMode, PlainModule, Key, ModeAt, ModuleAt, is_module, flat_map_at, place_in, refined_place, nth_module, mode_in, modules_at, modes_at, modules_in, mode_children, children, order, module_at, mode_at, module_modes, mode_order, refining_program, refinements, refined_by, modes_of, below}
use Rattle.htl_names.proofs.{FlatMaps.at_part, FlatMaps.same_part, FlatMaps.flat_map_is, FlatMaps.most_in_part, ListLaws.flat_map_flat_map, ListLaws.flat_map_places, Places.program_of_module, Places.within, Places.modes_there}
use Rattle.htl_names.proofs.{ModulePlaces.Exists, ModulePlaces.Comes, ModulePlaces.top, ModulePlaces.under, ModulePlaces.child, ModulePlaces.comes, Refinements.IsRefined, Refinements.in_refinements, Refinements.refined_none}
use Rattle.htl_names.proofs.TreeLevels.{IsTree, refined_at, root_refines_none, root_refines_no_mode}

-- where one item passes at most, it is the first
place_is : {A : Type 0} (test : A → Bool) (xs : List A) (k : ℕ) (x : A) → count_by test xs ≤ 1 → slice_get xs k ≡ Some x → test x ≡ true → place_in test xs ≡ k
place_is test [] k x few e p = absurd cc
place_is test (z ∷ xs) zero x few e p = let same = same_Some z x e in grind arith
place_is test (z ∷ xs) (suc k) x few e p =
    let first = sum_by-cons (λ y. cond (test y) 1 0) z xs in
    let some = get_or-le-sum_by (λ y. cond (test y) 1 0) xs k x (slice_get_within xs k x e) in
    let one = get_or_from_slice_get xs k x x e in
    let rest = place_is test xs k x in
    grind arith

-- ---- each module stands once

-- once at most among the modules of its program
in_program : (p u q : ℕ) (parent : Option ModeAt) (n : ℕ) → count_by (is_module p u) (list_to (nth_module q parent) n) ≤ cond (eqb q p) (cond (ltb u n) 1 0) 0
in_program p u q parent zero = omega arith
in_program p u q parent (suc n) =
    let both = sum_by_push (λ s. cond (is_module p u s) 1 0) (list_to (nth_module q parent) n) (nth_module q parent n) in
    let front = in_program p u q parent n in
    grind (arith, nat_tests)

-- the module of this mode
abbrev is_over : Option ModeAt → ModuleAt → Bool
is_over None s = false
is_over (Some a) s = is_module a.program a.«module» s

module _ (symbols : List (Key × ℕ)) (ps : List PlainProgram) (tree : IsTree symbols ps) where
  -- a module stands once at most among those below the modes of one, and only below the one that its program refines
  children_few : (p u : ℕ) → p < length ps → (s : ModuleAt) → count_by (is_module p u) (children symbols ps s) ≤ cond (is_over (refined_by symbols ps p) s) 1 0
  children_few p u lt s =
      most_in_part (is_module p u) (mode_children symbols ps s.program s.«module») (refined_place (refined_by symbols ps p)) (cond (is_over (refined_by symbols ps p) s) 1 0)
      (modes_at ps s.program s.«module») (λ i x there. by i x there (refining_program symbols x) refl)
    where
      by : (i : ℕ) (x : PlainMode) → slice_get (modes_at ps s.program s.«module») i ≡ Some x → (o : Option ℕ) → refining_program symbols x ≡ o
          → count_by (is_module p u) (elim o [ Some q ↦ modules_in ps (Some (mode_in s i)) q | None ↦ [] ])
          ≤ cond (eqb i (refined_place (refined_by symbols ps p))) (cond (is_over (refined_by symbols ps p) s) 1 0) 0
      by i x there None e = omega arith
      by i x there (Some q) e =
          let few = in_program p u q (Some (mode_in s i)) (length (modules_at ps q)) in
          elim (cases_eq q p) [
            | inl is ↦
                let refined = refined_at symbols ps tree (mode_in s i) p lt (record { mode = x; there = there; refined = e ∙ ap Some is }) in
                subst (λ (o : Option ModeAt). count_by (is_module p u) (modules_in ps (Some (mode_in s i)) q) ≤ cond (eqb i (refined_place o)) (cond (is_over o s) 1 0) 0) (sym refined)
                (grind (arith, nat_tests))
            | inr other ↦ let no = ne_eqb q p other in grind (arith, nat_tests)
          ]

  -- so it stands no more often than that one, but for the modules from which the order starts
  module _ (test over : ModuleAt → Bool) (few : (s : ModuleAt) → count_by test (children symbols ps s) ≤ cond (over s) 1 0) where
    flat_few : (f : ModuleAt → List ModuleAt) → ((s : ModuleAt) → count_by test (f s) ≤ cond (test s) 1 0 + count_by over (f s)) → (xs : List ModuleAt)
        → count_by test (flat_map f xs) ≤ count_by test xs + count_by over (flat_map f xs)
    flat_few f own [] = omega arith
    flat_few f own (s ∷ xs) =
        omega (
          arith,
          sum_by-append (λ r. cond (test r) 1 0) (f s) (flat_map f xs),
          sum_by-append (λ r. cond (over r) 1 0) (f s) (flat_map f xs),
          sum_by-cons (λ r. cond (test r) 1 0) s xs,
          own s,
          flat_few f own xs,
        )

    below_few : (n : ℕ) (s : ModuleAt) → count_by test (below n symbols ps s) ≤ cond (test s) 1 0 + count_by over (below n symbols ps s)
    below_few zero s = omega arith
    below_few (suc n) s =
        let rest = flat_map (below n symbols ps) (children symbols ps s) in
        omega (
          arith,
          sum_by-cons (λ r. cond (test r) 1 0) s rest,
          sum_by-cons (λ r. cond (over r) 1 0) s rest,
          flat_few (below n symbols ps) (below_few n) (children symbols ps s),
          few s,
        )

  all : (p u : ℕ) (o : Option ModeAt) → p < length ps → refined_by symbols ps p ≡ o
      → count_by (is_module p u) (order symbols ps) ≤ cond (eqb 0 p) 1 0 + count_by (is_over o) (order symbols ps)
  all p u o lt refined =
      let few = subst (λ (o : Option ModeAt). (t : ModuleAt) → count_by (is_module p u) (children symbols ps t) ≤ cond (is_over o t) 1 0) refined (children_few p u lt) in
      let along = flat_few (is_module p u) (is_over o) few (below (length ps) symbols ps) (below_few (is_module p u) (is_over o) few (length ps)) (modules_in ps None 0) in
      let roots = in_program p u 0 None (length (modules_at ps 0)) in
      grind (arith, nat_tests)

  once : (n k : ℕ) (s : ModuleAt) → k < n → Comes symbols ps (order symbols ps) k s → count_by (is_module s.program s.«module») (order symbols ps) ≤ 1
  once zero k s less h = absurd (omega (arith, less))
  once (suc n) k s less (top u y its) =
      let some = within ps 0 u y its in
      let few = all 0 u None some (refined_none 0 (refinements symbols ps) (root_refines_none symbols ps tree some)) in
      omega (arith, few, sum_by-le (λ r. cond (is_over None r) 1 0) 0 (order symbols ps) (λ k d below. omega arith))
  once (suc n) k s less (under j t r lower there (child m q u y names its)) =
      let before = once n j t (omega (arith, lower, less)) (comes symbols ps j t there) in
      let few = all q u (Some (mode_in t m)) (within ps q u y its) (refined_at symbols ps tree (mode_in t m) q (within ps q u y its) names) in
      let no_root = ne_eqb 0 q (λ is. root_refines_no_mode symbols ps tree (omega (arith, within ps q u y its)) (mode_in t m) (in_refinements symbols ps (mode_in t m) 0 (subst (IsRefined symbols ps (mode_in t m)) (sym is) names))) in
      omega (arith, few, before, ap {B = ℕ} (λ b. cond b 1 0) no_root)

  pub order_number : (k : ℕ) (s : ModuleAt) → slice_get (order symbols ps) k ≡ Some s → place_in (is_module s.program s.«module») (order symbols ps) ≡ k
  order_number k s e = place_is (is_module s.program s.«module») (order symbols ps) k s (once (suc k) k s (omega arith) (comes symbols ps k s e)) e (grind (arith, nat_tests))

-- ---- the modules in order have no more of a kind than the source

-- a sum over items of different places is at most the sum over all places
sum_few : {A : Type 0} (at f : A → ℕ) (ws : List ℕ) (xs : List A) → ((k : ℕ) (x : A) → slice_get xs k ≡ Some x → slice_get ws (at x) ≡ Some (f x))
    → ((j k : ℕ) (x y : A) → slice_get xs j ≡ Some x → slice_get xs k ≡ Some y → at x ≡ at y → j ≡ k) → sum_by f xs ≤ sum ws
sum_few at f ws [] has apart = omega arith
sum_few at f ws (x ∷ xs) has apart =
    let within = slice_get_within ws (at x) (f x) (has 0 x refl) in
    let rest = sum_few at f (set ws (at x) 0) xs
    (λ k y e.
    let there = has (suc k) y e in
    let apart_places : at y ≢ at x = λ same. omega (arith, apart (suc k) 0 y x e refl same) in
    slice_get-get_or (set ws (at x) 0) (at y) (f y) (omega (arith, slice_get_within ws (at y) (f y) there, length-set ws (at x) 0))
    ∙ ap (λ (n : ℕ). Some n) (get_or-set_other ws (at x) (at y) 0 (f y) apart_places ∙ get_or_from_slice_get ws (at y) (f y) (f y) there))
    (λ j k y z p q same. omega (arith, apart (suc j) (suc k) y z p q same)) in
    omega (arith, rest, sum_by-set (λ n. n) ws (at x) 0 0 within, sum_by-cons f x xs, get_or_from_slice_get ws (at x) (f x) 0 (has 0 x refl))

module _ (ps : List PlainProgram) where
  -- the number of a module among all modules of the source
  abbrev number : ModuleAt → ℕ
  number s = length (flat_map_at (λ k (x : PlainProgram). x.modules) 0 (take s.program ps)) + s.«module»

  there : (s : ModuleAt) (h : Exists ps s) → slice_get (modules_of ps) (number s) ≡ Some h.0
  there s h =
      let x = program_of_module ps s.program s.«module» h.0 h.1 in
      ap (λ ys. slice_get ys (number s)) (sym (flat_map_is (λ (x : PlainProgram). x.modules) 0 ps))
      ∙ at_part (λ k (x : PlainProgram). x.modules) ps s.program s.«module» x.0 h.0 x.1 x.2

  -- no other has it
  own_number : (s r : ModuleAt) → Exists ps s → Exists ps r → number s ≡ number r → (s.program ≡ r.program) × (s.«module» ≡ r.«module»)
  own_number s r h g same =
      let x = program_of_module ps s.program s.«module» h.0 h.1 in
      let y = program_of_module ps r.program r.«module» g.0 g.1 in
      let part = same_part (λ k (x : PlainProgram). x.modules) ps s.program r.program s.«module» r.«module» x.0 y.0 x.1 y.1
      (slice_get_within x.0.modules s.«module» h.0 x.2) (slice_get_within y.0.modules r.«module» g.0 y.2) same in
      (part, omega (arith, same, ap (λ (p : ℕ). length (flat_map_at (λ k (x : PlainProgram). x.modules) 0 (take p ps))) part))

  module _ (modules : List ModuleAt) (h : (k : ℕ) (s : ModuleAt) → slice_get modules k ≡ Some s → Exists ps s)
      (d : (k : ℕ) (s : ModuleAt) → slice_get modules k ≡ Some s → place_in (is_module s.program s.«module») modules ≡ k) where
    -- what the modules in order have, the source has
    pub few : {B C : Type 0} (at : ModuleAt → List B) (part : PlainModule → List C) → ((s : ModuleAt) (y : PlainModule) → module_at ps s.program s.«module» ≡ Some y → length (at s) ≡ length (part y))
        → length (flat_map at modules) ≤ length (flat_map part (modules_of ps))
    few at part same =
        let size : PlainModule → ℕ = λ y. length (part y) in
        let total = sum_few number (λ s. length (at s)) (map size (modules_of ps)) modules
        (λ k s e. let x = h k s e in get_mapped size (modules_of ps) (number s) x.0 (there s x) ∙ ap (λ (n : ℕ). Some n) (sym (same s x.0 x.1)))
        (λ j k s r e f is. let own = own_number s r (h j s e) (h k r f) is in sym (d j s e) ∙ ap₂ (λ p u. place_in (is_module p u) modules) own.0 own.1 ∙ d k r f) in
        omega (arith, total, length-flat_map at modules, sum-map size (modules_of ps), length-flat_map part (modules_of ps))

    -- what the modes in order have, the source has
    pub few_in_modes : {B : Type 0} (part : PlainMode → List B)
        → length (flat_map (λ (a : ModeAt). elim (mode_at ps a) [ Some x ↦ part x | None ↦ [] ]) (mode_order ps modules)) ≤ length (flat_map part (modes_of (modules_of ps)))
    few_in_modes {B} part =
        rw (flat_map_flat_map at (module_modes ps) modules, flat_map_flat_map part (λ (y : PlainModule). y.modes) (modules_of ps))
        (few (λ s. flat_map at (module_modes ps s)) (λ (y : PlainModule). flat_map part y.modes) (λ s y e. ap length (same s y e)))
      where
        at : ModeAt → List B
        at a = elim (mode_at ps a) [ Some x ↦ part x | None ↦ [] ]

        same : (s : ModuleAt) (y : PlainModule) → module_at ps s.program s.«module» ≡ Some y → flat_map at (module_modes ps s) ≡ flat_map part y.modes
        same s y e =
            flat_map_places at (mode_in s) part (modes_at ps s.program s.«module») (λ k z g. ap (λ (o : Option PlainMode). elim o [ Some x ↦ part x | None ↦ [] ]) g)
            ∙ ap (flat_map part) (modes_there ps s.program s.«module» y e)
