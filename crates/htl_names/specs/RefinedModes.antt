-- The modes that programs refine: of each program how many, counted up to 255, and the first of them; and which are reached.
use Rattle.std.specs.Prelude.{◌≡◌, ◌<◌, ◌+◌, ◌||◌, ℕ, zero, suc, Bool, not, eqb, ltb, false, true, min, List, length, get_or, slice_set, Option, Some, None}
use Rattle.htl_names.specs.{Trees.PlainProgram, Trees.ModeAt, Trees.RefinedModes, Trees.Refinement, Flat.symbols_of, Programs.Graph, Programs.Reached, Programs.refined_count, Programs.refined_by}

-- a program that refines no mode
abbrev pub refines_none : RefinedModes
refines_none = record { count = 0; mode = None }

-- with one mode more, behind the others
abbrev pub with_refined : ModeAt → RefinedModes → RefinedModes
with_refined a n = record { count = min (n.count + 1) 255; mode = Some (elim n.mode [ Some b ↦ b | None ↦ a ]) }

-- the table with one refinement more; a number of no program is passed over
abbrev pub with_refinement : List RefinedModes → Refinement → List RefinedModes
with_refinement table x = slice_set table x.program (with_refined x.mode (get_or table x.program refines_none))

-- the mode that a program refines, by the table
abbrev pub refined_at : List RefinedModes → ℕ → Option ModeAt
refined_at table p = (get_or table p refines_none).mode

-- whether a program is out of place, by how many modes it refines, and whether it is reached
abbrev pub is_misplaced : ℕ → ℕ → Bool → Bool
is_misplaced zero count is_reached = ltb 0 count
is_misplaced (suc p) count is_reached = not (eqb count 1) || not is_reached

-- the table has how many modes each program refines, counted up to 255, and the first of them
pub record AreRefinedModes (ps : List PlainProgram) (table : List RefinedModes) : Type 0 where
  pub len : length table ≡ length ps
  pub says : (p : ℕ) → p < length ps → get_or table p refines_none ≡ record { count = min (refined_count (symbols_of ps) ps p) 255; mode = refined_by (symbols_of ps) ps p }

-- the marks are at the programs that are reached, and only there
pub record MarksReached (g : Graph) (seen : List Bool) : Type 0 where
  pub len : length seen ≡ length g
  pub says : (p : ℕ) → get_or seen p false ≡ true → Reached g p
  pub marks : (p : ℕ) → Reached g p → get_or seen p true ≡ true
