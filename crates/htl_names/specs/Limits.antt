-- How much of each kind a source has, and how much it may have.
use Rattle.std.specs.Prelude.{ℕ, ◌*◌, List, [], ◌∷◌, length, map, sum}
use Rattle.htl_base.specs.declared.limits.TheConstants.{MAX_COMMUNICATORS, MAX_MODULES, MAX_MODES, MAX_PORTS, MAX_TASKS, MAX_INVOCATIONS, MAX_SWITCHES, MAX_MODE_INVOCATIONS, MAX_LEVELS, MAX_SELECTIONS, MAX_POSITIONS}
use Rattle.htl_names.specs.Trees.{greatest, comms_of, modules_of, modes_of, ports_of, tasks_of, invokes_of, switches_of, PlainProgram, PlainModule, PlainMode, Key}
use Rattle.htl_names.specs.{Order.modules_at, Programs.levels}

-- how many choices of one mode for each module there are
abbrev pub choices : List PlainModule → ℕ
choices [] = 1
choices (x ∷ xs) = length x.modes * choices xs

-- how many root selections there are: none without root modules
abbrev pub selections : List PlainProgram → ℕ
selections ps = elim (modules_at ps 0) [ [] ↦ 0 | x ∷ xs ↦ choices (x ∷ xs) ]

-- the most invocations that a mode of a module has
abbrev pub most_invokes : List PlainMode → ℕ
most_invokes xs = greatest 0 (map (λ x. length x.invokes) xs)

-- the most positions that a root selection has: of each root module the mode with the most invocations
abbrev pub most_positions : List PlainProgram → ℕ
most_positions ps = sum (map (λ x. most_invokes x.modes) (modules_at ps 0))

-- communicators, modules, modes, ports, tasks, invocations, switches, the most invocations in one mode, levels of
-- programs, root selections, the most positions in one selection
abbrev pub counts : List (Key × ℕ) → List PlainProgram → List ℕ
counts symbols ps =
    length (comms_of ps)
    ∷ length (modules_of ps)
    ∷ length (modes_of (modules_of ps))
    ∷ length (ports_of (modes_of (modules_of ps)))
    ∷ length (tasks_of (modules_of ps))
    ∷ length (invokes_of (modes_of (modules_of ps)))
    ∷ length (switches_of (modes_of (modules_of ps)))
    ∷ most_invokes (modes_of (modules_of ps))
    ∷ levels symbols ps
    ∷ selections ps
    ∷ most_positions ps
    ∷ []

-- the limits, in the same order
abbrev pub limits : List ℕ
limits =
    MAX_COMMUNICATORS ∷ MAX_MODULES ∷ MAX_MODES ∷ MAX_PORTS ∷ MAX_TASKS ∷ MAX_INVOCATIONS ∷ MAX_SWITCHES ∷ MAX_MODE_INVOCATIONS
    ∷ MAX_LEVELS ∷ MAX_SELECTIONS ∷ MAX_POSITIONS ∷ []
