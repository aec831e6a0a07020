-- The status of each answer, and the line that tells of it.
use Rattle.std.specs.Prelude.{ℕ, List, [], ◌++◌, Option, codes, decimal}
use Rattle.htl_open.specs.Lines.{field_word, form_text, object_line, shelf_line}
use Rattle.htl_top.specs.{Common.LogFault, Common.LogKind, Common.Tables, Common.ScriptFault, Common.ScriptKind, Common.PatchFault, Common.PlatformFault, declared.outcome.Outcome.Outcome}
use Rattle.htl_audit.specs.declared.slice.LogKind.TheVariants as log
use Rattle.htl_model.specs.declared.form_fault.FormFault.{FormFault}
use Rattle.htl_script.specs.declared.fault.ScriptKind.TheVariants as kind
use Rattle.htl_patch.specs.declared.fault.PatchFault.TheVariants as patch
use Rattle.htl_platform.specs.declared.fault.PlatformFault.TheVariants as platform
use Rattle.htl_top.specs.declared.outcome.Outcome.TheVariants.{Done, Usage, Source, IllFormed, Unschedulable, Platform, Task, Log, Patch, Object, Script, Shelf, Read, Write, Memory}
use Rattle.htl_compile.specs.declared.source_fault.SourceFault.{SourceFault}
use Rattle.htl_compile.specs.declared.source_fault.SourceFault.TheVariants.{TooLong as LongSource, Char, Number, NameLong, Long, Syntax, Twice, Unknown, Kind, NotATree, Limit, IllTyped, Deep}

abbrev pub status_of : Outcome → ℕ
status_of Done = 0
status_of Usage = 2
status_of (Source fault) = 3
status_of (IllFormed fault) = 4
status_of (Unschedulable sel a b demand) = 5
status_of (Object fault) = 6
status_of (Script fault) = 7
status_of (Shelf cause) = 8
status_of Read = 9
status_of Write = 10
status_of Memory = 11
status_of (Platform fault) = 12
status_of Task = 15
status_of (Log f) = 13
status_of (Patch fault) = 14

abbrev pub source_line : SourceFault → List ℕ
source_line (LongSource seen) = codes "htl: source too-long " ++ decimal seen ++ codes "\n"
source_line (Char at) = codes "htl: source char " ++ decimal at ++ codes "\n"
source_line (Number at) = codes "htl: source number " ++ decimal at ++ codes "\n"
source_line (NameLong at) = codes "htl: source name-long " ++ decimal at ++ codes "\n"
source_line (Long at) = codes "htl: source long " ++ decimal at ++ codes "\n"
source_line (Syntax at) = codes "htl: source syntax " ++ decimal at ++ codes "\n"
source_line (Twice at) = codes "htl: source twice " ++ decimal at ++ codes "\n"
source_line (Unknown at) = codes "htl: source unknown " ++ decimal at ++ codes "\n"
source_line (Kind at) = codes "htl: source kind " ++ decimal at ++ codes "\n"
source_line (NotATree program) = codes "htl: source not-a-tree " ++ decimal program ++ codes "\n"
source_line (Limit which count) = codes "htl: source limit " ++ decimal which ++ codes " count " ++ decimal count ++ codes "\n"
source_line (IllTyped at) = codes "htl: source type " ++ decimal at ++ codes "\n"
source_line (Deep at) = codes "htl: source deep " ++ decimal at ++ codes "\n"

-- ---- a broken form rule

abbrev pub form_line : Option Tables → FormFault → List ℕ
form_line tables fault = codes "htl: ill-formed " ++ form_text tables fault

-- ---- an overloaded path

abbrev pub overload_line : ℕ → ℕ → ℕ → ℕ → List ℕ
overload_line sel a b demand =
    codes "htl: unschedulable " ++ decimal sel ++ codes " from " ++ decimal a ++ codes " to " ++ decimal b ++ codes " demand " ++ decimal demand ++ codes "\n"

-- ---- a fault of a script

abbrev pub kind_text : ScriptKind → List ℕ
kind_text kind.Form = codes "form"
kind_text kind.Long = codes "long"
kind_text kind.Unknown = codes "unknown"
kind_text kind.Order = codes "order"
kind_text kind.Range = codes "range"
kind_text (kind.Overrun took worst) = codes "overrun " ++ decimal took ++ codes " " ++ decimal worst
kind_text kind.NoEnd = codes "no-end"
kind_text kind.After = codes "after"
kind_text kind.Size = codes "size"

abbrev pub script_line : ScriptFault → List ℕ
script_line fault = codes "htl: script " ++ decimal fault.line ++ codes " " ++ kind_text fault.kind ++ codes "\n"

-- ----

-- the entries of a platform file are numbered
abbrev pub platform_line : PlatformFault → List ℕ
platform_line platform.Text = codes "htl: platform text\n"
platform_line (platform.Shape entry) = codes "htl: platform shape " ++ decimal entry ++ codes "\n"
platform_line (platform.Unknown entry) = codes "htl: platform unknown " ++ decimal entry ++ codes "\n"
platform_line (platform.Range entry) = codes "htl: platform range " ++ decimal entry ++ codes "\n"

-- the kind of a fault of a log
abbrev pub log_word : LogKind → List ℕ
log_word log.Form = codes "form"
log_word log.Unknown = codes "unknown"
log_word log.Order = codes "order"
log_word log.Outside = codes "outside"
log_word log.Over = codes "over"
log_word log.Before = codes "before"
log_word log.Short = codes "short"

abbrev pub log_line : LogFault → List ℕ
log_line fault = codes "htl: log " ++ decimal fault.line ++ codes " " ++ log_word fault.kind ++ codes "\n"

-- why a refinement isn't taken over; a broken form rule is one of the new tables
abbrev pub patch_line : Option Tables → PatchFault → List ℕ
patch_line tables (patch.Malformed bad) = codes "htl: patch malformed " ++ field_word bad.kind ++ codes " " ++ decimal bad.offset ++ codes "\n"
patch_line tables patch.Mode = codes "htl: patch mode\n"
patch_line tables (patch.Comms place) = codes "htl: patch comms " ++ decimal place ++ codes "\n"
patch_line tables (patch.Parent inv) = codes "htl: patch parent " ++ decimal inv ++ codes "\n"
patch_line tables (patch.Twice unit) = codes "htl: patch twice " ++ decimal unit ++ codes "\n"
patch_line tables (patch.Limit which count) = codes "htl: patch limit " ++ decimal which ++ codes " count " ++ decimal count ++ codes "\n"
patch_line tables (patch.IllFormed fault) = codes "htl: patch ill-formed " ++ form_text tables fault
patch_line tables (patch.Function k) = codes "htl: patch function " ++ decimal k ++ codes "\n"

-- The line that tells of an answer; none tells of Done. Those of a broken form rule name its place by tables.
abbrev pub fault_line : Option Tables → Outcome → List ℕ
fault_line tables Done = []
fault_line tables Usage = codes "htl: usage\n"
fault_line tables (Source fault) = source_line fault
fault_line tables (IllFormed fault) = form_line tables fault
fault_line tables (Unschedulable sel a b demand) = overload_line sel a b demand
fault_line tables (Object fault) = object_line tables fault
fault_line tables (Script fault) = script_line fault
fault_line tables (Shelf cause) = shelf_line cause
fault_line tables Read = codes "htl: read\n"
fault_line tables Write = codes "htl: write\n"
fault_line tables Memory = codes "htl: memory\n"
fault_line tables (Platform fault) = platform_line fault
fault_line tables Task = codes "htl: task\n"
fault_line tables (Log f) = log_line f
fault_line tables (Patch fault) = patch_line tables fault
