-- The names of items, each under its owner.
use Rattle.std.specs.Prelude.{ℕ, ◌==◌, ◌&&◌, Bool, List, map}
use Rattle.htl_object.specs.{Common.bytes_eq, Common.Comm, Common.Mode, Common.Module, Common.Port, Common.Task, declared.names.OwnedName.OwnedName}

abbrev pub owned : ℕ → List ℕ → OwnedName
owned owner name = record { owner = owner; name = name }

-- the second is the name of the same owner
abbrev pub same_name : OwnedName → OwnedName → Bool
same_name a b = (b.owner == a.owner) && bytes_eq b.name a.name

-- ---- the names of a list; communicators and modules have no owners

abbrev pub comm_names : List Comm → List OwnedName
comm_names = map (λ (c : Comm). owned 0 c.name)

abbrev pub mode_names : List Mode → List OwnedName
mode_names = map (λ (m : Mode). owned m.«module» m.name)

abbrev pub module_names : List Module → List OwnedName
module_names = map (λ (m : Module). owned 0 m.name)

abbrev pub port_names : List Port → List OwnedName
port_names = map (λ (p : Port). owned p.mode p.name)

abbrev pub task_names : List Task → List OwnedName
task_names = map (λ (t : Task). owned t.«module» t.name)
