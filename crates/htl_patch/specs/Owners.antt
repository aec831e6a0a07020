-- The owners of the items of tables, and the places of the items of one owner.
use Rattle.std.specs.Prelude.{ℕ, Bool, eqb, List, map}
use Rattle.htl_model.specs.{declared.parts.Inv.Inv, declared.parts.Mode.Mode, declared.parts.Port.Port, declared.parts.Switch.Switch, declared.parts.Task.Task, Lists.places_from, Tables.Tables}

-- the modules of the modes
abbrev pub mode_owners : Tables → List ℕ
mode_owners t = map (λ (x : Mode). x.«module») t.modes

-- the modes of the ports
abbrev pub port_owners : Tables → List ℕ
port_owners t = map (λ (x : Port). x.mode) t.ports

-- the modules of the tasks
abbrev pub task_owners : Tables → List ℕ
task_owners t = map (λ (x : Task). x.«module») t.tasks

-- the modes of the invocations
abbrev pub inv_owners : Tables → List ℕ
inv_owners t = map (λ (x : Inv). x.mode) t.invs

-- the modes of the switches
abbrev pub switch_owners : Tables → List ℕ
switch_owners t = map (λ (x : Switch). x.mode) t.switches

abbrev pub is_owner : ℕ → ℕ → Bool
is_owner m x = eqb x m

-- the places of what m owns
abbrev pub owned_by : List ℕ → ℕ → List ℕ
owned_by owners m = places_from (is_owner m) 0 owners
