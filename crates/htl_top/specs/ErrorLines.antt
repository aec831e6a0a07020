-- The line that tells of an answer, and the tables whose names it has.
use Rattle.std.specs.Prelude.{ℕ, ◌≡◌, Option, Some, None, List}
use Rattle.htl_top.specs.{Common.coded, Common.ObjectFault, Common.Tables, Common.PatchFault, PatchedFiles.SpeaksOfPatch, Status.fault_line, declared.outcome.Outcome.Outcome}
use Rattle.htl_load.specs.declared.fault.ObjectFault.TheVariants as fault
use Rattle.htl_patch.specs.declared.fault.PatchFault.TheVariants as patch
use Rattle.htl_open.specs.Objects.{SpeaksOfObject}
use Rattle.htl_top.specs.declared.outcome.Outcome.TheVariants.{Done, Usage, Source, IllFormed, Unschedulable, Platform, Task, Log, Patch, Object, Script, Shelf, Read, Write, Memory}

-- The tables that the line of an answer speaks of: those of the source, with code, of the object, or those with a donor's refinement, where
-- they break a form rule.
abbrev pub SpeaksOf : ((Tables → Type 0) → Type 0) → ((Tables → Type 0) → Type 0) → Outcome → Option Tables → Type 0
SpeaksOf HasSource HasObject (IllFormed f) tables = HasSource (λ t. tables ≡ Some (coded t))
SpeaksOf HasSource HasObject (Object f) tables = SpeaksOfObject HasObject f tables
SpeaksOf HasSource HasObject (Patch f) tables = SpeaksOfPatch HasSource f tables
SpeaksOf HasSource HasObject _ tables = Unit {0}

-- The line of a fault of an object was told. Where it breaks a form rule, the line has names of its tables.
abbrev pub IsFaultTold : ((Tables → Type 0) → Type 0) → (List ℕ → Type 0) → ObjectFault → Type 0
IsFaultTold HasObject Told (fault.IllFormed f) = HasObject (λ tables. Told (fault_line (Some tables) (Object (fault.IllFormed f))))
IsFaultTold HasObject Told (fault.Malformed m) = Told (fault_line None (Object (fault.Malformed m)))
IsFaultTold HasObject Told (fault.Function k) = Told (fault_line None (Object (fault.Function k)))
IsFaultTold HasObject Told (fault.ECode e) = Told (fault_line None (Object (fault.ECode e)))
IsFaultTold HasObject Told (fault.Schedule sel m) = Told (fault_line None (Object (fault.Schedule sel m)))

-- The line of a fault of a patch was told. Where the new tables break a form rule, it has names of them.
abbrev pub IsPatchFaultTold : ((Tables → Type 0) → Type 0) → (List ℕ → Type 0) → PatchFault → Type 0
IsPatchFaultTold HasNew Told (patch.IllFormed f) = HasNew (λ tables. Told (fault_line (Some tables) (Patch (patch.IllFormed f))))
IsPatchFaultTold HasNew Told (patch.Malformed m) = Told (fault_line None (Patch (patch.Malformed m)))
IsPatchFaultTold HasNew Told patch.Mode = Told (fault_line None (Patch patch.Mode))
IsPatchFaultTold HasNew Told (patch.Comms place) = Told (fault_line None (Patch (patch.Comms place)))
IsPatchFaultTold HasNew Told (patch.Parent inv) = Told (fault_line None (Patch (patch.Parent inv)))
IsPatchFaultTold HasNew Told (patch.Twice unit) = Told (fault_line None (Patch (patch.Twice unit)))
IsPatchFaultTold HasNew Told (patch.Limit which count) = Told (fault_line None (Patch (patch.Limit which count)))
IsPatchFaultTold HasNew Told (patch.Function k) = Told (fault_line None (Patch (patch.Function k)))

-- The line of an answer was told. That of IllFormed has names of the tables of the source, that of an object that breaks a form rule
-- those of its tables, and that of a patch that breaks one those of the new tables; no other needs tables.
abbrev pub IsLineTold : ((Tables → Type 0) → Type 0) → ((Tables → Type 0) → Type 0) → (List ℕ → Type 0) → Outcome → Type 0
IsLineTold HasSource HasObject Told (IllFormed f) = HasSource (λ tables. Told (fault_line (Some tables) (IllFormed f)))
IsLineTold HasSource HasObject Told (Object f) = IsFaultTold HasObject Told f
IsLineTold HasSource HasObject Told Done = Told (fault_line None Done)
IsLineTold HasSource HasObject Told Usage = Told (fault_line None Usage)
IsLineTold HasSource HasObject Told (Platform f) = Told (fault_line None (Platform f))
IsLineTold HasSource HasObject Told Task = Told (fault_line None Task)
IsLineTold HasSource HasObject Told (Log f) = Told (fault_line None (Log f))
IsLineTold HasSource HasObject Told (Patch f) = IsPatchFaultTold HasSource Told f
IsLineTold HasSource HasObject Told (Source f) = Told (fault_line None (Source f))
IsLineTold HasSource HasObject Told (Unschedulable sel a b demand) = Told (fault_line None (Unschedulable sel a b demand))
IsLineTold HasSource HasObject Told (Script f) = Told (fault_line None (Script f))
IsLineTold HasSource HasObject Told (Shelf cause) = Told (fault_line None (Shelf cause))
IsLineTold HasSource HasObject Told Read = Told (fault_line None Read)
IsLineTold HasSource HasObject Told Write = Told (fault_line None Write)
IsLineTold HasSource HasObject Told Memory = Told (fault_line None Memory)
