-- What a run of a small object writes, whole and before the fault of its script, and the lines that tell of faults, worked.
use Rattle.std.proofs.Common.{◌≡◌, List, [], ◌∷◌, ◌++◌, Option, Some, None, pos, codes, refl}
use Rattle.std.specs.{Fmt.digits, Prelude.decimal}
use Rattle.htl_compile.specs.declared.source_fault.SourceFault.TheVariants as fault
use Rattle.htl_top.proofs.Vocabulary.{layout, Values, Jobs, doubling, empty_mode, Event, Tables, Object, sample, fault_line, place_of_fault, text_before_fault, text_of_script, Source, IllFormed, Unschedulable, Script, Dispatch, End}
use Rattle.htl_model.proofs.Sources.{mode, call, two_periods}
use Rattle.htl_model.specs.declared.event.Event.TheVariants as event
use Rattle.htl_model.specs.declared.parts.End.TheVariants as E
use Rattle.htl_top.specs.Checked.{check_text}
use Rattle.htl_script.specs.Script.{script_of, Whole, Bad}
use Rattle.htl_script.specs.declared.fault.ScriptKind.TheVariants as kind

-- ---- the text of a script

-- `sensor int s period 10 init 0; communicator int u period 10 init 7;` and a module `M` whose mode `m` has the period 20 and invokes a
-- task `dbl` of 4 ticks: it reads `s` at 0 and writes twice that to `u` at 10
abbrev object : Object
object = record { tables = doubling; ecode = layout doubling; schedules = (record { instrs = Dispatch 0 4 ∷ End ∷ [] }) ∷ []; platform = None }

no_end : script_of doubling (codes "at 0\nsense s 3\nat 10\nsense s 5\n")
    ≡ Bad 5 kind.NoEnd (event.At 0 ∷ event.Sense 0 (pos 3) ∷ event.At 10 ∷ event.Sense 0 (pos 5) ∷ [])
no_end = refl

abbrev two_readings : List Event
two_readings = event.At 0 ∷ event.Sense 0 (pos 3) ∷ event.At 10 ∷ event.Sense 0 (pos 5) ∷ []

-- the whole script has all lines and the totals
to_the_end : text_of_script object Jobs (Whole (two_readings ++ event.End 10 ∷ []) 10)
    ≡ codes "v 0 s 3\nv 0 u 7\nm 0 M m\nj 0 4 M.m.dbl\nd 4 M.m.dbl\nv 10 s 5\nv 10 u 6\nend 10 jobs 1 e 10 s 2\n"
unfolding digits
to_the_end = refl

-- without jobs
values_to_the_end : text_of_script object Values (Whole (two_readings ++ event.End 10 ∷ []) 10)
    ≡ codes "v 0 s 3\nv 0 u 7\nm 0 M m\nv 10 s 5\nv 10 u 6\nend 10 jobs 1 e 10 s 2\n"
unfolding digits
values_to_the_end = refl

before_the_last_reading : text_before_fault object Jobs two_readings ≡ codes "v 0 s 3\nv 0 u 7\nm 0 M m\nj 0 4 M.m.dbl\nd 4 M.m.dbl\n"
unfolding digits
before_the_last_reading = refl

no_reading : text_before_fault object Jobs [] ≡ []
no_reading = refl

reading_at_0 : text_before_fault object Jobs (event.At 0 ∷ event.Sense 0 (pos 3) ∷ []) ≡ []
reading_at_0 = refl

-- a fault behind the end: all lines but the totals
behind_the_end : text_before_fault object Jobs (two_readings ++ event.End 10 ∷ [])
    ≡ codes "v 0 s 3\nv 0 u 7\nm 0 M m\nj 0 4 M.m.dbl\nd 4 M.m.dbl\nv 10 s 5\nv 10 u 6\n"
unfolding digits
behind_the_end = refl

-- ---- lines

script_line : (tables : Option Tables) → fault_line tables (Script (record { line = 5; kind = kind.NoEnd })) ≡ codes "htl: script " ++ decimal 5 ++ codes " " ++ codes "no-end" ++ codes "\n"
script_line tables = refl

overrun_line : (tables : Option Tables) → fault_line tables (Script (record { line = 12; kind = kind.Overrun 5 4 }))
    ≡ codes "htl: script " ++ decimal 12 ++ codes " " ++ (codes "overrun " ++ decimal 5 ++ codes " " ++ decimal 4) ++ codes "\n"
overrun_line tables = refl

limit_line : (tables : Option Tables) → fault_line tables (Source (fault.Limit 2 65)) ≡ codes "htl: source limit " ++ decimal 2 ++ codes " count " ++ decimal 65 ++ codes "\n"
limit_line tables = refl

overload_line : (tables : Option Tables) → fault_line tables (Unschedulable 0 0 10 11)
    ≡ codes "htl: unschedulable " ++ decimal 0 ++ codes " from " ++ decimal 0 ++ codes " to " ++ decimal 10 ++ codes " demand " ++ decimal 11 ++ codes "\n"
overload_line tables = refl

-- a mode is the place, and an invocation is
mode_place : place_of_fault empty_mode (record { rule = 1; «module» = 0; mode = 0; inv = None; have = 20; need = 10 }) ≡ codes "M.m"
mode_place = refl

-- a number that names nothing has no name
no_module_place : place_of_fault empty_mode (record { rule = 1; «module» = 1; mode = 0; inv = None; have = 20; need = 10 }) ≡ codes ".m"
no_module_place = refl

invocation_place : place_of_fault sample (record { rule = 16; «module» = 0; mode = 0; inv = Some 0; have = 5; need = 4 }) ≡ codes "M.m.dbl"
invocation_place = refl

mode_line : fault_line (Some empty_mode) (IllFormed (record { rule = 1; «module» = 0; mode = 0; inv = None; have = 20; need = 10 }))
    ≡ codes "htl: ill-formed " ++ decimal 1 ++ codes " at " ++ codes "M.m" ++ codes " have " ++ decimal 20 ++ codes " need " ++ decimal 10 ++ codes "\n"
mode_line = refl

-- ---- what `check` tells

check_both : check_text two_periods ≡ codes "accepted selections 1 positions 3\n"
unfolding digits
check_both = refl

-- F has a second mode, which invokes twice: it can be in either from 0 and from 10
abbrev two_modes : Tables
two_modes =
    record two_periods {
      modes = mode (codes "m") 0 10 ∷ mode (codes "m") 1 20 ∷ mode (codes "n") 0 10 ∷ [];
      invs =
          call 0 0 None (E.Comm 0 0 ∷ []) (E.Comm 0 1 ∷ []) ∷ call 1 1 None (E.Comm 0 0 ∷ []) (E.Comm 1 2 ∷ []) ∷ call 2 0 None (E.Comm 0 0 ∷ []) (E.Comm 0 1 ∷ [])
          ∷ call 2 0 None (E.Comm 0 0 ∷ []) (E.Comm 0 1 ∷ []) ∷ [];
    }

check_modes : check_text two_modes ≡ codes "accepted selections 4 positions 5\n"
unfolding digits
check_modes = refl
