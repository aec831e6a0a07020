-- Items with their new numbers, which lists of new numbers by old ones tell.
use Rattle.std.specs.Prelude.{◌≡◌, ◌<◌, ℕ, ◌+◌, List, length, map, get_or, Option, IfSome, All, option_map}
use Rattle.htl_model.specs.{declared.parts.End.End, declared.parts.Inv.Inv, declared.parts.Mode.Mode, declared.parts.Module.Module, declared.parts.Port.Port, declared.parts.Switch.Switch, declared.parts.Task.Task, Tables.Tables}
use Rattle.htl_model.specs.declared.parts.End.TheVariants as E
use Rattle.htl_patch.specs.{declared.numbers.NewNumbers.NewNumbers, Renumbered.Numbering, Renumbered.place_among}

-- for each number below the count its place among the keys
pub record ArePlacesOf (count : ℕ) (keys places : List ℕ) : Type 0 where
  pub size : length places ≡ count
  pub at : (k : ℕ) → k < count → get_or places k 0 ≡ place_among k keys

-- the new numbers of all items of the tables
pub record ArePlaces (u : Tables) (n : Numbering) (p : NewNumbers) : Type 0 where
  pub units : ArePlacesOf (length u.modules) n.modules p.units.items
  pub modes : ArePlacesOf (length u.modes) n.modes p.modes.items
  pub ports : ArePlacesOf (length u.ports) n.ports p.ports.items
  pub tasks : ArePlacesOf (length u.tasks) n.tasks p.tasks.items
  pub invs : ArePlacesOf (length u.invs) n.invs p.invs.items

-- the new number of an item with so many before its list
abbrev pub placed : List ℕ → ℕ → ℕ → ℕ
placed places before k = get_or places (before + k) 0

abbrev pub placed_mode : List ℕ → ℕ → Mode → Mode
placed_mode units before x = record x { «module» = placed units before x.«module» }

-- a module that refines the given mode, by its old number
abbrev pub placed_module : List ℕ → ℕ → Option ℕ → Module → Module
placed_module modes before parent x = record x { parent = option_map (λ (p : ℕ). get_or modes p 0) parent; start = placed modes before x.start }

abbrev pub placed_port : List ℕ → ℕ → Port → Port
placed_port modes before x = record x { mode = placed modes before x.mode }

abbrev pub placed_task : List ℕ → ℕ → Task → Task
placed_task units before x = record x { «module» = placed units before x.«module» }

abbrev pub placed_end : List ℕ → ℕ → End → End
placed_end ports before (E.Comm c k) = E.Comm c k
placed_end ports before (E.Port p) = E.Port (placed ports before p)

-- an end of which the place of its port is told
abbrev pub HasPlace : ℕ → ℕ → End → Type 0
HasPlace count before (E.Comm c k) = Unit {0}
HasPlace count before (E.Port p) = before + p < count

-- an invocation that stands in the place of the given one, by its old number; so many modes, tasks and ports are before its lists
abbrev pub placed_inv : NewNumbers → ℕ → ℕ → ℕ → Option ℕ → Inv → Inv
placed_inv p modes tasks ports parent x =
    record {
      mode = placed p.modes.items modes x.mode;
      task = placed p.tasks.items tasks x.task;
      parent = option_map (λ (k : ℕ). get_or p.invs.items k 0) parent;
      reads = map (placed_end p.ports.items ports) x.reads;
      writes = map (placed_end p.ports.items ports) x.writes;
    }

-- the places that an invocation asks for are told
pub record HasPlaces (p : NewNumbers) (modes tasks ports : ℕ) (parent : Option ℕ) (x : Inv) : Type 0 where
  pub mode : modes + x.mode < length p.modes.items
  pub task : tasks + x.task < length p.tasks.items
  pub parent_in : IfSome parent (λ k. k < length p.invs.items)
  pub reads : All (HasPlace (length p.ports.items) ports) x.reads
  pub writes : All (HasPlace (length p.ports.items) ports) x.writes

abbrev pub placed_switch : List ℕ → ℕ → Switch → Switch
placed_switch modes before x = record x { mode = placed modes before x.mode; target = placed modes before x.target }
