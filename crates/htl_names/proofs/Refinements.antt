-- Refinements, and the levels of programs by the table of refined modes.
use Rattle.std.proofs.Common.{◌≡◌, ℕ, zero, suc, ◌≤◌, ◌<◌, Bool, true, cond, eqb, List, [], ◌∷◌, map, length, slice_get, Some, None, refl, ◌∙◌, ap, arith, ◌+◌, count_by}
use Rattle.htl_names.proofs.Words.{list_any, nat_tests, sum_by-cons, slice_get_within, none-some, same_Some, PlainProgram, PlainMode, Key, ModeAt, symbols_of, mode_at, refining_program, edges, edge_targets, edges_from, refinement, refinement_by, Refinement, mode_refinement, module_refinements, program_refinements, refinements, refined_in, level_by, level, levels_by, levels, RefinedModes, AreRefinedModes, map_at, list_to, greatest, refined_at, from_map}
use Rattle.htl_names.proofs.{Members.In, Members.Each, Members.in_part_at, Members.each_at, Members.each_flat_map_at, Members.each_weaker, ListLaws.among_place, Places.program_of_module, Places.module_of_mode}

-- ---- the refinement of a mode

-- program q refines the mode at this place
pub record IsRefined (symbols : List (Key × ℕ)) (ps : List PlainProgram) (a : ModeAt) (q : ℕ) : Type 0 where
  pub mode : PlainMode
  pub there : mode_at ps a ≡ Some mode
  pub refined : refining_program symbols mode ≡ Some q

abbrev place_of : ℕ → ℕ → ℕ → ModeAt
place_of p u m = record { program = p; «module» = u; mode = m }

pub in_refinements : (symbols : List (Key × ℕ)) (ps : List PlainProgram) (a : ModeAt) (q : ℕ) → IsRefined symbols ps a q → In {A = Refinement} (refinement a q) (refinements symbols ps)
in_refinements symbols ps a q h =
    let o = module_of_mode ps a.program a.«module» a.mode h.mode h.there in
    let x = program_of_module ps a.program a.«module» o.0 o.1 in
    let own : In {A = Refinement} (refinement a q) (mode_refinement symbols a.program a.«module» a.mode h.mode) = (0, ap (λ n. slice_get (refinement_by a n) 0) h.refined) in
    in_part_at (program_refinements symbols) ps a.program x.0 x.1
    (in_part_at (module_refinements symbols a.program) x.0.modules a.«module» o.0 x.2 (in_part_at (mode_refinement symbols a.program a.«module») o.0.modes a.mode h.mode o.2 own))

-- ---- the one mode

-- the test whether a refinement is by program q
abbrev refines_it : ℕ → Refinement → Bool
refines_it q x = eqb q x.program

pub refinement_counts : (a : ModeAt) (q : ℕ) (xs : List Refinement) (k : ℕ) → slice_get xs k ≡ Some (refinement a q) → 1 ≤ count_by (refines_it q) xs
refinement_counts a q [] k h = absurd (none-some {A = Refinement} (refinement a q) h)
refinement_counts a q (x ∷ xs) zero h = let is = ap (λ (y : Refinement). y.program) (same_Some x (refinement a q) h) in grind (arith, nat_tests, sum_by-cons (λ y. cond (refines_it q y) 1 0) x xs)
refinement_counts a q (x ∷ xs) (suc k) h = grind (arith, sum_by-cons (λ y. cond (refines_it q y) 1 0) x xs, refinement_counts a q xs k h)

-- a program that refines one mode refines that one
pub refined_one : (a : ModeAt) (q : ℕ) (xs : List Refinement) (k : ℕ) → slice_get xs k ≡ Some (refinement a q) → count_by (refines_it q) xs ≡ 1 → refined_in q xs ≡ Some a
refined_one a q [] k h c = absurd (none-some {A = Refinement} (refinement a q) h)
refined_one a q (x ∷ xs) zero h c =
    let same = same_Some x (refinement a q) h in
    grind (arith, nat_tests)
refined_one a q (x ∷ xs) (suc k) h c =
    let first = sum_by-cons (λ y. cond (refines_it q y) 1 0) x xs in
    let here = refinement_counts a q xs k h in
    let rest = refined_one a q xs k h in
    grind (arith, nat_tests)

-- a program that refines no mode has none
pub refined_none : (q : ℕ) (xs : List Refinement) → count_by (refines_it q) xs ≡ 0 → refined_in q xs ≡ None
refined_none q [] h = refl
refined_none q (x ∷ xs) h = let first = sum_by-cons (λ y. cond (refines_it q y) 1 0) x xs in grind (arith, nat_tests, refined_none q xs)

-- ---- edges are refinements

-- the modes of a program's row stand in it
row_programs : (symbols : List (Key × ℕ)) (p : ℕ) (x : PlainProgram) → Each (λ (y : Refinement). y.mode.program ≡ p) (program_refinements symbols p x)
row_programs symbols p x =
    each_flat_map_at P (module_refinements symbols p) 0 x.modules (λ u i y is its.
    each_flat_map_at P (mode_refinement symbols p u) 0 y.modes (λ m j z at own.
    elim (refining_program symbols z) as (λ o. Each P (refinement_by (place_of p u m) o)) [ Some q ↦ (refl, tt) | None ↦ tt ]))
  where
    P : Refinement → Type 0
    P y = y.mode.program ≡ p

-- a mode that is refined stands in a program of the source
pub refinement_below : (symbols : List (Key × ℕ)) (ps : List PlainProgram) → Each (λ (x : Refinement). x.mode.program < length ps) (refinements symbols ps)
refinement_below symbols ps =
    each_flat_map_at (λ (x : Refinement). x.mode.program < length ps) (program_refinements symbols) 0 ps (λ p j x is there.
    let within = slice_get_within ps j x there in
    each_weaker (λ (y : Refinement). y.mode.program ≡ p) (λ (y : Refinement). y.mode.program < length ps) (λ y same. omega (arith, is, within, same)) (program_refinements symbols p x) (row_programs symbols p x))

row_at : (symbols : List (Key × ℕ)) (k : ℕ) (ps : List PlainProgram) (p q n : ℕ) → n ≡ k + p → list_any (eqb q) (edges_from (map edge_targets (map_at (program_refinements symbols) k ps)) p) ≡ true
    → (x : PlainProgram) × (slice_get ps p ≡ Some x) × (list_any (eqb q) (edge_targets (program_refinements symbols n x)) ≡ true)
row_at symbols k [] p q n is h = cc
row_at symbols k (x ∷ ps) zero q n is h = (x, refl, ap (λ (m : ℕ). list_any (eqb q) (edge_targets (program_refinements symbols m x))) (omega (arith, is)) ∙ h)
row_at symbols k (x ∷ ps) (suc p) q n is h = row_at symbols (suc k) ps p q n (omega (arith, is)) h

target_of : (q : ℕ) (row : List Refinement) → list_any (eqb q) (edge_targets row) ≡ true → (a : ModeAt) × In {A = Refinement} (refinement a q) row
target_of q row e =
    let at = among_place (edge_targets row) q e in
    let from = from_map (λ (x : Refinement). x.program) row at.0 q at.1 in
    (from.0.mode, (at.0, from.1 ∙ ap (λ (n : ℕ). Some (refinement from.0.mode n)) from.2))

-- an edge is the refinement of a mode
pub edge_refines : (symbols : List (Key × ℕ)) (ps : List PlainProgram) (p q : ℕ) → list_any (eqb q) (edges_from (edges symbols ps) p) ≡ true
    → (a : ModeAt) × (a.program ≡ p) × In {A = Refinement} (refinement a q) (refinements symbols ps)
edge_refines symbols ps p q h =
    let row = row_at symbols 0 ps p q p (omega arith) h in
    let found = target_of q (program_refinements symbols p row.0) row.2 in (
      found.0,
      each_at (λ (y : Refinement). y.mode.program ≡ p) (program_refinements symbols p row.0) found.1.0 (refinement found.0 q) (row_programs symbols p row.0) found.1.1,
      in_part_at (program_refinements symbols) ps p row.0 row.1 found.1,
    )

refined_below : (n q : ℕ) (a : ModeAt) (xs : List Refinement) → Each (λ (x : Refinement). x.mode.program < n) xs → refined_in q xs ≡ Some a → a.program < n
refined_below n q a [] h e = absurd (none-some {A = ModeAt} a e)
refined_below n q a (x ∷ xs) h e = let here = h.0 in let later = refined_below n q a xs h.1 in grind arith

-- ---- the table agrees with the definition

same_below : (n : ℕ) (f g : ℕ → ℕ) → ((k : ℕ) → k < n → f k ≡ g k) → list_to f n ≡ list_to g n
same_below zero f g h = refl
same_below (suc n) f g h = let front = same_below n f g (λ k small. h k (omega (arith, small))) in let last = h n (omega arith) in cc

module _ (ps : List PlainProgram) (table : List RefinedModes) (are : AreRefinedModes ps table) where
  table-level : (n p : ℕ) → p < length ps → level_by (refined_at table) n p ≡ level (refinements (symbols_of ps) ps) n p
  table-level zero p small = refl
  table-level (suc n) p small =
      let same = ap (λ (m : RefinedModes). m.mode) (are.says p small) in
      let above = table-level n in
      let below = λ (a : ModeAt). refined_below (length ps) p a (refinements (symbols_of ps) ps) (refinement_below (symbols_of ps) ps) in
      grind arith

  pub table-levels : levels_by (refined_at table) (length table) ≡ levels (symbols_of ps) ps
  table-levels =
      ap (levels_by (refined_at table)) are.len
      ∙ ap (greatest 0) (same_below (length ps) (level_by (refined_at table) (length ps)) (level (refinements (symbols_of ps) ps) (length ps)) (table-level (length ps)))
