-- The status of each answer, and the line that tells of it.
use Rattle.std.specs.Prelude.{ℕ, List, [], Option, None, Some, codes}
use Rattle.htl_load.specs.declared.fault.ObjectFault.{ObjectFault}
use Rattle.htl_load.specs.declared.fault.ObjectFault.TheVariants as fault
use Rattle.htl_model.specs.Tables.{Tables}
use Rattle.htl_open.specs.Lines.{object_line, shelf_line}
use Rattle.htl_times_top.specs.declared.outcome.Outcome.{Outcome}
use Rattle.htl_times_top.specs.declared.outcome.Outcome.TheVariants.{Done, Usage, Object, Shelf, Write, Memory}

abbrev pub status_of : Outcome → ℕ
status_of Done = 0
status_of Usage = 2
status_of (Object f) = 6
status_of (Shelf why) = 8
status_of Write = 10
status_of Memory = 11

-- The line that tells of an answer; none tells of Done. That of a broken form rule names its place by tables.
abbrev pub fault_line : Option Tables → Outcome → List ℕ
fault_line tables Done = []
fault_line tables Usage = codes "htl-times: usage\n"
fault_line tables (Object f) = object_line tables f
fault_line tables (Shelf why) = shelf_line why
fault_line tables Write = codes "htl: write\n"
fault_line tables Memory = codes "htl: memory\n"

-- The line of a fault of an object was told. Where it breaks a form rule, the line has names of its tables.
abbrev pub IsFaultTold : ((Tables → Type 0) → Type 0) → (List ℕ → Type 0) → ObjectFault → Type 0
IsFaultTold HasObject Told (fault.IllFormed f) = HasObject (λ tables. Told (fault_line (Some tables) (Object (fault.IllFormed f))))
IsFaultTold HasObject Told (fault.Malformed m) = Told (fault_line None (Object (fault.Malformed m)))
IsFaultTold HasObject Told (fault.Function k) = Told (fault_line None (Object (fault.Function k)))
IsFaultTold HasObject Told (fault.ECode e) = Told (fault_line None (Object (fault.ECode e)))
IsFaultTold HasObject Told (fault.Schedule sel m) = Told (fault_line None (Object (fault.Schedule sel m)))

-- The line of an answer was told. That of an object that breaks a form rule has names of its tables; no other needs tables.
abbrev pub IsLineTold : ((Tables → Type 0) → Type 0) → (List ℕ → Type 0) → Outcome → Type 0
IsLineTold HasObject Told (Object f) = IsFaultTold HasObject Told f
IsLineTold HasObject Told Done = Told (fault_line None Done)
IsLineTold HasObject Told Usage = Told (fault_line None Usage)
IsLineTold HasObject Told (Shelf why) = Told (fault_line None (Shelf why))
IsLineTold HasObject Told Write = Told (fault_line None Write)
IsLineTold HasObject Told Memory = Told (fault_line None Memory)
