-- The tree of programs: each program but the root refines one mode, which names it in its head.
use Rattle.std.specs.Prelude.{ℕ, zero, suc, ◌≡◌, ◌≢◌, ◌<◌, ◌⊎◌, true, false, eqb, ◌∷◌, List, [], map, length, get_or, Option, Some, None}
use Rattle.std.specs.List.{list_any, count_by}
use Rattle.htl_names.specs.{Trees.list_to, Trees.greatest, Trees.PlainProgram, Trees.PlainModule, Trees.PlainMode, Trees.Key, Trees.ModeAt, Trees.Refinement, Keys.look_up, Keys.program_key, Lists.map_at, Lists.flat_map_at}

-- the program that refines a mode: it stands in the mode's head
abbrev pub refining_program : List (Key × ℕ) → PlainMode → Option ℕ
refining_program symbols x = elim x.program [ Some id ↦ look_up (program_key id.name) symbols | None ↦ None ]

-- ---- refinements

-- a mode, and the program that refines it
abbrev pub refinement : ModeAt → ℕ → Refinement
refinement a q = record { mode = a; program = q }

-- that of a mode by a program, where there is one
abbrev pub refinement_by : ModeAt → Option ℕ → List Refinement
refinement_by a (Some q) = refinement a q ∷ []
refinement_by a None = []

abbrev pub mode_refinement : List (Key × ℕ) → ℕ → ℕ → ℕ → PlainMode → List Refinement
mode_refinement symbols p u m x = refinement_by (record { program = p; «module» = u; mode = m }) (refining_program symbols x)

abbrev pub module_refinements : List (Key × ℕ) → ℕ → ℕ → PlainModule → List Refinement
module_refinements symbols p u x = flat_map_at (mode_refinement symbols p u) 0 x.modes

abbrev pub program_refinements : List (Key × ℕ) → ℕ → PlainProgram → List Refinement
program_refinements symbols p x = flat_map_at (module_refinements symbols p) 0 x.modules

-- the refinements of a source, in source order
abbrev pub refinements : List (Key × ℕ) → List PlainProgram → List Refinement
refinements symbols ps = flat_map_at (program_refinements symbols) 0 ps

-- how many modes a program refines
abbrev pub refined_count : List (Key × ℕ) → List PlainProgram → ℕ → ℕ
refined_count symbols ps p = count_by (λ (x : Refinement). eqb p x.program) (refinements symbols ps)

-- ---- the graph of programs: of each program those that refine its modes

abbrev pub Graph : Type 0
Graph = List (List ℕ)

abbrev pub edge_targets : List Refinement → List ℕ
edge_targets row = map (λ (x : Refinement). x.program) row

-- the refinements, by the program in which the mode stands
abbrev pub refinement_rows : List (Key × ℕ) → List PlainProgram → List (List Refinement)
refinement_rows symbols ps = map_at (program_refinements symbols) 0 ps

abbrev pub edges : List (Key × ℕ) → List PlainProgram → Graph
edges symbols ps = map edge_targets (refinement_rows symbols ps)

abbrev pub edges_from : Graph → ℕ → List ℕ
edges_from g p = get_or g p []

-- the root, and those that refine modes of a program that is reached
pub data Reached (g : Graph) : ℕ → Type 0 where
  root : Reached g 0
  below : (p q : ℕ) → Reached g p → list_any (eqb q) (edges_from g p) ≡ true → Reached g q

-- The root refines a mode; or another program does not refine exactly one, or is not reached from the root.
abbrev pub IsMisplaced : List (Key × ℕ) → List PlainProgram → ℕ → Type 0
IsMisplaced symbols ps zero = 0 < refined_count symbols ps zero
IsMisplaced symbols ps (suc p) = (refined_count symbols ps (suc p) ≢ 1) ⊎ (Reached (edges symbols ps) (suc p) → ⊥)

-- ---- the mode that a program refines

-- the first mode that program p refines
abbrev pub refined_in : ℕ → List Refinement → Option ModeAt
refined_in p [] = None
refined_in p (x ∷ xs) = elim (eqb x.program p) [ true ↦ Some x.mode | false ↦ refined_in p xs ]

-- the mode that program p refines
abbrev pub refined_by : List (Key × ℕ) → List PlainProgram → ℕ → Option ModeAt
refined_by symbols ps p = refined_in p (refinements symbols ps)

-- ---- levels

-- how many programs lead from the root to program p, both counted, by the modes that programs refine, going back at most so many
abbrev pub level_by : (ℕ → Option ModeAt) → ℕ → ℕ → ℕ
level_by refined zero p = 0
level_by refined (suc n) p = elim (refined p) [ Some a ↦ suc (level_by refined n a.program) | None ↦ 1 ]

abbrev pub level : List Refinement → ℕ → ℕ → ℕ
level xs n p = level_by (λ q. refined_in q xs) n p

-- the greatest level of so many programs
abbrev pub levels_by : (ℕ → Option ModeAt) → ℕ → ℕ
levels_by refined n = greatest 0 (list_to (level_by refined n) n)

abbrev pub levels : List (Key × ℕ) → List PlainProgram → ℕ
levels symbols ps = levels_by (refined_by symbols ps) (length ps)
