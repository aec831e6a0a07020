-- The names after `parent`, in source order, and those that stand for nothing.
use Rattle.std.specs.Prelude.{ℕ, zero, suc, ◌≡◌, ◌∷◌, List, [], Option, Some, None}
use Rattle.std.specs.List.{flat_map}
use Rattle.htl_names.specs.{Trees.PlainProgram, Trees.PlainModule, Trees.PlainMode, Trees.Id, Trees.InvokeNode, Trees.Key, Trees.ModeAt, Trees.RefinedModes, Keys.look_up, Keys.invoke_key, Lists.flat_map_at, RefinedModes.refined_at}
use Rattle.htl_names.specs.Programs.{refined_by}

-- a name after `parent`, in an invocation of program p
pub record ParentUse : Type 0 where
  pub program : ℕ
  pub id : Id

abbrev pub invoke_parent : ℕ → InvokeNode → List ParentUse
invoke_parent p i = elim i.parent [ Some id ↦ record { program = p; id = id } ∷ [] | None ↦ [] ]

abbrev pub mode_parents : ℕ → PlainMode → List ParentUse
mode_parents p x = flat_map (invoke_parent p) x.invokes

abbrev pub module_parents : ℕ → PlainModule → List ParentUse
module_parents p x = flat_map (mode_parents p) x.modes

abbrev pub program_parents : ℕ → PlainProgram → List ParentUse
program_parents p x = flat_map (module_parents p) x.modules

abbrev pub parents : List PlainProgram → List ParentUse
parents ps = flat_map_at program_parents 0 ps

-- the place of the invocation that the name means in the refined mode
abbrev pub parent_place : List (Key × ℕ) → ModeAt → List ℕ → Option ℕ
parent_place symbols a n = look_up (invoke_key a.program a.«module» a.mode n) symbols

abbrev pub parent_in : List (Key × ℕ) → Option ModeAt → List ℕ → Option ℕ
parent_in symbols None n = None
parent_in symbols (Some a) n = parent_place symbols a n

-- it stands in the root program, or is no invocation of the refined mode
abbrev pub IsUnmatchedParent : List (Key × ℕ) → List PlainProgram → ℕ → Id → Type 0
IsUnmatchedParent symbols ps zero id = Unit {0}
IsUnmatchedParent symbols ps (suc p) id = parent_in symbols (refined_by symbols ps (suc p)) id.name ≡ None

-- ---- names after `parent` that stand for nothing, as a test

abbrev pub absent : Option ℕ → ℕ → Option ℕ
absent None token = Some token
absent (Some n) token = None

-- the token, where the name in a program stands for nothing; by a table of the modes that programs refine
abbrev pub unmatched_at : List (Key × ℕ) → List RefinedModes → ℕ → Id → Option ℕ
unmatched_at symbols refined zero id = Some id.token
unmatched_at symbols refined (suc p) id = absent (parent_in symbols (refined_at refined (suc p)) id.name) id.token

abbrev pub unmatched_token : List (Key × ℕ) → List RefinedModes → ParentUse → Option ℕ
unmatched_token symbols refined u = unmatched_at symbols refined u.program u.id
