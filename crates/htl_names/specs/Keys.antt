-- Keys, and what a name means: the first item of its list with that name.
use Rattle.std.specs.Prelude.{ℕ, Bool, cond, eqb, ◌&&◌, Option, Some, None, List, [], ◌∷◌}
use Rattle.std.specs.Str.{bytes_eq}
use Rattle.htl_names.specs.Trees.{Space, Key, Scope, Entry}
use Rattle.htl_names.specs.declared.key.Space.TheVariants as space

-- a number for each kind of list
abbrev pub space_code : Space → ℕ
space_code space.Programs = 0
space_code space.Comms = 1
space_code space.Modules = 2
space_code space.Tasks = 3
space_code space.Modes = 4
space_code space.Params = 5
space_code space.Ports = 6
space_code space.Invokes = 7

abbrev pub same_key : Key → Key → Bool
same_key a b =
    eqb (space_code a.scope.space) (space_code b.scope.space) && eqb a.scope.program b.scope.program && eqb a.scope.«module» b.scope.«module» && eqb a.scope.item b.scope.item
    && bytes_eq a.name b.name

-- the number of the first entry with the key
abbrev pub look_up : Key → List (Key × ℕ) → Option ℕ
look_up k [] = None
look_up k (e ∷ es) = cond (same_key k e.0) (Some e.1) (look_up k es)

abbrev pub pair_of : Entry → Key × ℕ
pair_of e = (e.key, e.number)

abbrev pub key_in : Scope → List ℕ → Key
key_in s n = record { scope = s; name = n }

-- ---- the lists

abbrev pub list_of : Space → ℕ → ℕ → ℕ → Scope
list_of s p u i = record { space = s; program = p; «module» = u; item = i }

abbrev pub program_key : List ℕ → Key
program_key n = key_in (list_of space.Programs 0 0 0) n

abbrev pub comm_key : List ℕ → Key
comm_key n = key_in (list_of space.Comms 0 0 0) n

abbrev pub module_key : List ℕ → Key
module_key n = key_in (list_of space.Modules 0 0 0) n

-- of module u of program p
abbrev pub task_key : ℕ → ℕ → List ℕ → Key
task_key p u n = key_in (list_of space.Tasks p u 0) n

abbrev pub mode_key : ℕ → ℕ → List ℕ → Key
mode_key p u n = key_in (list_of space.Modes p u 0) n

-- of its task k
abbrev pub param_key : ℕ → ℕ → ℕ → List ℕ → Key
param_key p u k n = key_in (list_of space.Params p u k) n

-- of its mode m
abbrev pub port_key : ℕ → ℕ → ℕ → List ℕ → Key
port_key p u m n = key_in (list_of space.Ports p u m) n

abbrev pub invoke_key : ℕ → ℕ → ℕ → List ℕ → Key
invoke_key p u m n = key_in (list_of space.Invokes p u m) n
