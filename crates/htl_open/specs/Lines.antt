-- The lines that tell why a file isn't had, or isn't accepted as an object.
use Rattle.std.specs.Prelude.{ℕ, ◌≡◌, ◌⊎◌, List, [], ◌++◌, Option, None, Some, slice_get, codes, decimal}
use Rattle.std.specs.Io.KnownBytes.{append_known}
use Rattle.htl_ecode.specs.declared.fault.EKind.{EKind}
use Rattle.htl_ecode.specs.declared.fault.EKind.TheVariants as departure
use Rattle.htl_edge.specs.{Causes.Rose, Content.AppendsPrefix}
use Rattle.htl_load.specs.declared.fault.ObjectFault.{ObjectFault}
use Rattle.htl_load.specs.declared.fault.ObjectFault.TheVariants as object
use Rattle.htl_model.specs.{Lines.module_name, Lines.mode_name, Tables.Tables, declared.form_fault.FormFault.FormFault}
use Rattle.htl_object.specs.declared.malformed.MalKind.{MalKind}
use Rattle.htl_object.specs.declared.malformed.MalKind.TheVariants as field
use Rattle.htl_walk.specs.declared.miss.Miss.{Miss}
use Rattle.htl_walk.specs.declared.miss.Miss.TheVariants as miss
use Rattle.htl_open.specs.{declared.stop.ShelfCause.ShelfCause, declared.stop.ShelfCause.TheVariants.Failed, declared.stop.ShelfCause.TheVariants.TooLong}

-- ---- a broken form rule

-- the name of an invocation's task
abbrev pub inv_task_name : Tables → ℕ → List ℕ
inv_task_name t i =
    elim (slice_get t.invs i) [ Some x ↦ elim (slice_get t.tasks x.task) [ Some k ↦ k.name | None ↦ [] ] | None ↦ [] ]

-- `module.mode`
abbrev pub mode_place_text : Tables → FormFault → List ℕ
mode_place_text t fault = module_name t fault.«module» ++ codes "." ++ mode_name t fault.mode

-- `module.mode`, or `module.mode.task` where an invocation is the place
abbrev pub place_of_fault : Tables → FormFault → List ℕ
place_of_fault t fault = elim fault.inv [ Some i ↦ mode_place_text t fault ++ codes "." ++ inv_task_name t i | None ↦ mode_place_text t fault ]

-- the place by the names of tables; nothing where there are none
abbrev pub place_in : Option Tables → FormFault → List ℕ
place_in (Some t) fault = place_of_fault t fault
place_in None fault = []

-- the rule, the place and the two numbers
abbrev pub form_text : Option Tables → FormFault → List ℕ
form_text tables fault =
    decimal fault.rule ++ codes " at " ++ place_in tables fault ++ codes " have " ++ decimal fault.have ++ codes " need " ++ decimal fault.need
    ++ codes "\n"

-- ---- a fault of an object

-- the kind of a bad field
abbrev pub field_word : MalKind → List ℕ
field_word field.Magic = codes "magic"
field_word field.Version = codes "version"
field_word field.Short = codes "short"
field_word field.Index = codes "index"
field_word field.Tag = codes "tag"
field_word field.Spelling = codes "spelling"
field_word field.Trailing = codes "trailing"

-- the kind of a departure of E code
abbrev pub departure_word : EKind → List ℕ
departure_word departure.Target = codes "target"
departure_word departure.Action = codes "action"
departure_word departure.Delay = codes "delay"
departure_word departure.Endless = codes "endless"
departure_word departure.Branch = codes "branch"

-- the first miss of a schedule, by positions and places
abbrev pub miss_text : Miss → List ℕ
miss_text (miss.Late p finish window_end) = codes "late " ++ decimal p ++ codes " finish " ++ decimal finish ++ codes " end " ++ decimal window_end
miss_text (miss.Unfinished p left) = codes "unfinished " ++ decimal p ++ codes " left " ++ decimal left
miss_text (miss.Before p predecessor at) = codes "before " ++ decimal p ++ codes " " ++ decimal predecessor ++ codes " at " ++ decimal at
miss_text (miss.Order instr) = codes "order " ++ decimal instr

abbrev pub object_line : Option Tables → ObjectFault → List ℕ
object_line tables (object.Malformed bad) = codes "htl: object malformed " ++ field_word bad.kind ++ codes " " ++ decimal bad.offset ++ codes "\n"
object_line tables (object.IllFormed fault) = codes "htl: object ill-formed " ++ form_text tables fault
object_line tables (object.Function k) = codes "htl: object function " ++ decimal k ++ codes "\n"
object_line tables (object.ECode fault) = codes "htl: object ecode " ++ decimal fault.address ++ codes " " ++ departure_word fault.kind ++ codes "\n"
object_line tables (object.Schedule sel m) = codes "htl: object schedule " ++ decimal sel ++ codes " " ++ miss_text m ++ codes "\n"

-- ---- a file

abbrev pub shelf_line : ShelfCause → List ℕ
shelf_line Failed = codes "htl: shelf failed\n"
shelf_line (TooLong seen) = codes "htl: shelf too-long " ++ decimal seen ++ codes "\n"

-- ---- what tells of an answer

-- What is told on a sink: the whole line, or a prefix of it where the count of faults rose.
abbrev pub Tells : Option (List ℕ) → Option (List ℕ) → ℕ → ℕ → List ℕ → Type 0
Tells old new before now line = (new ≡ append_known old line) ⊎ (Rose before now × AppendsPrefix old new line)
