-- The table of refined modes, and the test whether a program is out of place.
use Rattle.std.proofs.Common.{◌≡◌, ◌<◌, ℕ, suc, zero, Bool, true, false, cond, eqb, List, [], ◌∷◌, length, Option, Some, None, refl, sym, ◌∙◌, ap, arith, inl, inr, get_or, fold, map, min, ◌+◌, ◌≤◌, subst, count_by}
use Rattle.htl_names.proofs.Words.{nat_tests, common_steps, get_or_default, length-map, sum_by-cons, PlainProgram, symbols_of, ModeAt, RefinedModes, refines_none, with_refined, with_refinement, is_misplaced, AreRefinedModes, MarksReached, IsMisplaced, Refinement, refined_count, Reached, program_refinements, refinements, refinement_rows, edge_targets, edges, refined_in}
use Rattle.std.proofs.Math.ListN.{replicate}
use Rattle.htl_names.proofs.Walking.{length-map_at}

-- ---- one program of the table

with_refinement-get : (table : List RefinedModes) (x : Refinement) (p : ℕ) → p < length table
    → get_or (with_refinement table x) p refines_none ≡ cond (eqb x.program p) (with_refined x.mode (get_or table p refines_none)) (get_or table p refines_none)
with_refinement-get table x p small = grind (arith, common_steps, nat_tests)

length-with_refinement : (table : List RefinedModes) (xs : List Refinement) → length (fold with_refinement table xs) ≡ length table
length-with_refinement table [] = refl
length-with_refinement table (x ∷ xs) = grind (arith, common_steps, length-with_refinement (with_refinement table x) xs)

-- the first mode that a program refines, else this one
abbrev or_refined : Option ModeAt → Option ModeAt → Option ModeAt
or_refined (Some a) o = Some a
or_refined None o = o

-- the modes that program p refines, after these refinements too
abbrev refined_after : RefinedModes → ℕ → List Refinement → RefinedModes
refined_after n p xs = record { count = min (n.count + count_by (λ (x : Refinement). eqb p x.program) xs) 255; mode = or_refined n.mode (refined_in p xs) }

all-get : (table : List RefinedModes) (xs : List Refinement) (p : ℕ) → p < length table → (get_or table p refines_none).count ≤ 255 → get_or (fold with_refinement table xs) p refines_none ≡ refined_after (get_or table p refines_none) p xs
all-get table [] p small few = let n = get_or table p refines_none in grind arith
all-get table (x ∷ xs) p small few =
    let next = with_refinement-get table x p small in
    let rest = all-get (with_refinement table x) xs p (grind (arith, common_steps)) (grind arith) in
    let more = sum_by-cons (λ (y : Refinement). cond (eqb p y.program) 1 0) x xs in
    grind (arith, nat_tests)

pub refined_table : (ps : List PlainProgram) (table : List RefinedModes) → table ≡ fold with_refinement (replicate (length ps) refines_none) (refinements (symbols_of ps) ps) → AreRefinedModes ps table
refined_table ps table is =
    let xs = refinements (symbols_of ps) ps in
    record {
      len = let len = ap length is ∙ length-with_refinement (replicate (length ps) refines_none) xs in grind (arith, common_steps);
      says = λ p small. ap (λ (t : List RefinedModes). get_or t p refines_none) is ∙ all-get (replicate (length ps) refines_none) xs p (grind (arith, common_steps)) (grind (arith, common_steps)) ∙ grind (arith, common_steps);
    }

-- ---- the test whether a program is out of place

module _ (ps : List PlainProgram) (rows : List (List Refinement)) (table : List RefinedModes) (seen : List Bool) (is : rows ≡ refinement_rows (symbols_of ps) ps)
    (are : AreRefinedModes ps table) (marked : MarksReached (map edge_targets rows) seen) where
  reached : (p : ℕ) → p < length table → (r : Bool) → r ≡ get_or seen p r → (r ≡ true → Reached (edges (symbols_of ps) ps) p) × (Reached (edges (symbols_of ps) ps) p → r ≡ true)
  reached p below r at =
      let size = length-map rows edge_targets in
      let same = ap length is ∙ length-map_at (program_refinements (symbols_of ps)) 0 ps in
      let m = subst (λ rs. MarksReached (map edge_targets rs) seen) is marked in
      let inside : p < length seen = omega (arith, below, size, same, marked.len, are.len) in
      (λ yes. m.says p (get_or_default seen p false r inside ∙ sym at ∙ yes), λ h. at ∙ get_or_default seen p r true inside ∙ m.marks p h)

  counted : (p : ℕ) → p < length table → (get_or table p refines_none).count ≡ min (refined_count (symbols_of ps) ps p) 255
  counted p below = ap (λ (n : RefinedModes). n.count) (are.says p (omega (arith, below, are.len)))

  pub misplaced_here : (p : ℕ) → p < length table → (r : Bool) → r ≡ get_or seen p r → is_misplaced p (get_or table p refines_none).count r ≡ true → IsMisplaced (symbols_of ps) ps p
  misplaced_here zero below r at h = let said = counted 0 below in grind (arith, nat_tests)
  misplaced_here (suc p) below true at h = let said = counted (suc p) below in inl (λ one. grind (arith, nat_tests))
  misplaced_here (suc p) below false at h = inr (λ yes. let same = (reached (suc p) below false at).1 yes in absurd cc)

  pub placed_here : (p : ℕ) → p < length table → (r : Bool) → r ≡ get_or seen p r → is_misplaced p (get_or table p refines_none).count r ≡ false → IsMisplaced (symbols_of ps) ps p → ⊥
  placed_here zero below r at h some = let said = counted 0 below in grind (arith, nat_tests)
  placed_here (suc p) below r at h (inl other) = let said = counted (suc p) below in other (grind (arith, nat_tests))
  placed_here (suc p) below true at h (inr lost) = lost ((reached (suc p) below true at).0 refl)
  placed_here (suc p) below false at h (inr lost) = grind (arith, nat_tests)
