-- Worked examples: each rule on refinement just kept and just broken, the jobs of a round, root selections, and the records of a run.
use Rattle.std.specs.Prelude.{ℕ, true, false, ◌≡◌, List, [], ◌∷◌, Option, Some, None, refl, codes, map, pos}
use Rattle.htl_refine.proofs.Words.{IntTy, Event, Inv, Mode, Module, Port, Task, FormFault, is_selection, selection_count, positions, Tables, plain, mode, module_named, task, call, switch, int_one, refined, reentered, Job, SInstr, Dispatch, Stop, absent_job, abstract_jobs, Left, concrete_jobs, took, round_records, selection_of, refinement_rules, first_refinement_fault}
use Rattle.htl_model.specs.declared.event.Event.TheVariants as V
use Rattle.htl_model.specs.declared.parts.End.{End}
use Rattle.htl_model.specs.declared.parts.End.TheVariants as E
use Rattle.htl_form.specs.{Cycles.precedes_itself, WriterFaults.stand_together}
use Rattle.htl_form.specs.Rules as form
use Rattle.htl_form.specs.Search as form_search
use Rattle.htl_refine.specs.Refining.{inv_precedes}

-- ---- the rules, one by one

-- what each of the rules 13 to 16 finds by itself
abbrev faults : Tables → List (Option FormFault)
faults t = map (λ r. first_refinement_fault t (r ∷ [])) refinement_rules

-- the first broken one of the rules 1 to 12
abbrev form_fault : Tables → Option FormFault
form_fault t = form_search.first_form_fault t form.all_rules

abbrev none : List (Option FormFault)
none = None ∷ None ∷ None ∷ None ∷ []

abbrev fault : ℕ → ℕ → ℕ → ℕ → ℕ → ℕ → Option FormFault
fault rule module_number mode inv have need = Some (record { rule = rule; «module» = module_number; mode = mode; inv = Some inv; have = have; need = need })

-- three communicators of period 5
abbrev tables : List Module → List Mode → List Port → List Task → List Inv → Tables
tables modules modes ports tasks invs =
    record {
      comms = plain (codes "x") 5 (pos 0) ∷ plain (codes "y") 5 (pos 0) ∷ plain (codes "z") 5 (pos 0) ∷ [];
      modes = modes;
      modules = modules;
      ports = ports;
      tasks = tasks;
      invs = invs;
      switches = [];
      functions = [];
    }

-- a module with a refined mode, and the module that refines it
abbrev refinement : List Task → List Inv → Tables
refinement tasks invs =
    tables (module_named (codes "M") None 0 ∷ module_named (codes "N") (Some 0) 1 ∷ []) (mode (codes "m") 0 10 ∷ mode (codes "n") 1 10 ∷ []) [] tasks invs

-- an abstract task of the first module, and a concrete one of the second
abbrev parent_and_child : List Task
parent_and_child = task (codes "plan") 0 true 4 [] ∷ task (codes "part") 1 false 4 [] ∷ []

-- an invocation without inputs, which writes instance 2 of a communicator: at the period's end
abbrev call_at_end : ℕ → ℕ → Option ℕ → ℕ → Inv
call_at_end m k parent c = call m k parent [] (E.Comm c 2 ∷ [])

abbrev abstract_call : Inv
abstract_call = call_at_end 0 0 None 1

-- ---- 13: an abstract invocation stands only in a refined mode

abbrev unrefined : Tables
unrefined = tables (module_named (codes "M") None 0 ∷ []) (mode (codes "m") 0 10 ∷ []) [] (task (codes "plan") 0 true 4 [] ∷ []) (abstract_call ∷ [])

in_no_refined_mode : faults unrefined ≡ fault 13 0 0 0 0 1 ∷ None ∷ None ∷ None ∷ []
in_no_refined_mode = refl

nothing_else : form_fault unrefined ≡ None
unfolding precedes_itself stand_together
nothing_else = refl

-- a refinement without invocations is enough
in_a_refined_mode : faults (refinement parent_and_child (abstract_call ∷ [])) ≡ none
in_a_refined_mode = refl

-- ---- 14: parents

right_parent : faults (refinement parent_and_child (abstract_call ∷ call_at_end 1 1 (Some 0) 1 ∷ [])) ≡ none
right_parent = refl

no_parent : faults (refinement parent_and_child (abstract_call ∷ call_at_end 1 1 None 1 ∷ [])) ≡ None ∷ fault 14 1 1 1 0 1 ∷ None ∷ None ∷ []
no_parent = refl

concrete_parent : faults (refinement parent_and_child (abstract_call ∷ call_at_end 1 1 (Some 1) 1 ∷ [])) ≡ None ∷ fault 14 1 1 1 2 1 ∷ None ∷ None ∷ []
concrete_parent = refl

-- an abstract parent in another mode than the refined one
abbrev two_refinements : ℕ → Tables
two_refinements parent =
    tables (module_named (codes "M") None 0 ∷ module_named (codes "N") (Some 0) 2 ∷ module_named (codes "O") (Some 1) 3 ∷ [])
    (mode (codes "m") 0 10 ∷ mode (codes "l") 0 10 ∷ mode (codes "n") 1 10 ∷ mode (codes "o") 2 10 ∷ []) [] parent_and_child
    (abstract_call ∷ call_at_end 1 0 None 1 ∷ call_at_end 2 1 (Some parent) 1 ∷ [])

parent_in_the_refined_mode : faults (two_refinements 0) ≡ none
parent_in_the_refined_mode = refl

parent_in_another_mode : faults (two_refinements 1) ≡ None ∷ fault 14 1 2 2 2 1 ∷ None ∷ None ∷ []
parent_in_another_mode = refl

-- a root invocation has no parent
abbrev beside : Option ℕ → Tables
beside parent = refinement (task (codes "plan") 0 true 4 [] ∷ task (codes "fix") 0 false 4 [] ∷ []) (abstract_call ∷ call_at_end 0 1 parent 2 ∷ [])

root_without_parent : faults (beside None) ≡ none
root_without_parent = refl

root_with_parent : faults (beside (Some 0)) ≡ None ∷ fault 14 0 0 1 2 0 ∷ None ∷ None ∷ []
root_with_parent = refl

-- ---- 15: invocations with one parent

-- a refinement with two modes, and a second module that refines the same mode; the children stand in these modes
abbrev children : List ℕ → Tables
children ms =
    tables (module_named (codes "M") None 0 ∷ module_named (codes "N") (Some 0) 1 ∷ module_named (codes "O") (Some 0) 3 ∷ [])
    (mode (codes "m") 0 10 ∷ mode (codes "n") 1 10 ∷ mode (codes "l") 1 10 ∷ mode (codes "o") 2 10 ∷ []) [] parent_and_child
    (abstract_call ∷ map (λ m. call_at_end m 1 (Some 0) 1) ms)

in_two_modes : faults (children (1 ∷ 2 ∷ [])) ≡ none
in_two_modes = refl

in_one_mode : faults (children (1 ∷ 1 ∷ [])) ≡ None ∷ None ∷ fault 15 1 1 2 1 0 ∷ None ∷ []
in_one_mode = refl

in_two_modules : faults (children (1 ∷ 3 ∷ [])) ≡ None ∷ None ∷ fault 15 2 3 2 1 0 ∷ None ∷ []
in_two_modules = refl

-- of several earlier ones the first is told
after_two : faults (children (1 ∷ 2 ∷ 3 ∷ [])) ≡ None ∷ None ∷ fault 15 2 3 3 1 0 ∷ None ∷ []
after_two = refl

-- ---- 16: windows and worst cases

-- a parent with this input, output and worst case, and a child with those
abbrev against : End → End → ℕ → End → End → ℕ → Tables
against in_parent out_parent worst_parent in_child out_child worst_child =
    refinement (task (codes "plan") 0 true worst_parent int_one ∷ task (codes "part") 1 false worst_child int_one ∷ [])
    (call 0 0 None (in_parent ∷ []) (out_parent ∷ []) ∷ call 1 1 (Some 0) (in_child ∷ []) (out_child ∷ []) ∷ [])

as_its_parent : faults (against (E.Comm 0 1) (E.Comm 1 2) 4 (E.Comm 0 1) (E.Comm 1 2) 4) ≡ none
as_its_parent = refl

keeps_the_others : form_fault (against (E.Comm 0 1) (E.Comm 1 2) 4 (E.Comm 0 1) (E.Comm 1 2) 4) ≡ None
unfolding precedes_itself stand_together
keeps_the_others = refl

-- released earlier, with more time, and for less work
asks_for_less : faults (against (E.Comm 0 1) (E.Comm 1 1) 4 (E.Comm 0 0) (E.Comm 1 2) 3) ≡ none
asks_for_less = refl

released_later : faults (against (E.Comm 0 0) (E.Comm 1 2) 4 (E.Comm 0 1) (E.Comm 1 2) 4) ≡ None ∷ None ∷ None ∷ fault 16 1 1 1 5 0 ∷ []
released_later = refl

ends_earlier : faults (against (E.Comm 0 0) (E.Comm 1 2) 4 (E.Comm 0 0) (E.Comm 1 1) 4) ≡ None ∷ None ∷ None ∷ fault 16 1 1 1 5 10 ∷ []
ends_earlier = refl

takes_longer : faults (against (E.Comm 0 0) (E.Comm 1 2) 4 (E.Comm 0 0) (E.Comm 1 2) 5) ≡ None ∷ None ∷ None ∷ fault 16 1 1 1 5 4 ∷ []
takes_longer = refl

-- the release is told before the window's end, and that before the worst case
all_at_once : faults (against (E.Comm 0 0) (E.Comm 1 2) 4 (E.Comm 0 1) (E.Comm 1 1) 5) ≡ None ∷ None ∷ None ∷ fault 16 1 1 1 5 0 ∷ []
all_at_once = refl

-- ---- 16: ports

-- three abstract invocations, of which the third reads the second's port; and children of the first and the third, of which the
-- second reads the first's port
abbrev ported : End → Tables
ported input =
    tables (module_named (codes "M") None 0 ∷ module_named (codes "N") (Some 0) 1 ∷ []) (mode (codes "m") 0 10 ∷ mode (codes "n") 1 10 ∷ [])
    (record { name = codes "p"; mode = 0; ty = IntTy } ∷ record { name = codes "q"; mode = 0; ty = IntTy } ∷ record { name = codes "r"; mode = 1; ty = IntTy } ∷ [])
    (task (codes "a") 0 true 4 [] ∷ task (codes "b") 0 true 3 int_one ∷ task (codes "c") 0 true 3 int_one ∷ task (codes "d") 1 false 4 [] ∷ task (codes "e") 1 false 3 int_one ∷ [])
    (call 0 0 None [] (E.Port 0 ∷ [])
    ∷ call 0 1 None (input ∷ []) (E.Port 1 ∷ [])
    ∷ call 0 2 None (E.Port 1 ∷ []) (E.Comm 1 2 ∷ [])
    ∷ call 1 3 (Some 0) [] (E.Port 2 ∷ [])
    ∷ call 1 4 (Some 2) (E.Port 2 ∷ []) (E.Comm 1 2 ∷ []) ∷ [])

-- the first precedes the third through the second
in_order : faults (ported (E.Port 0)) ≡ none
unfolding inv_precedes
in_order = refl

in_form : form_fault (ported (E.Port 0)) ≡ None
unfolding precedes_itself stand_together
in_form = refl

-- the second reads something else, and nothing leads from the first to the third
out_of_order : faults (ported (E.Comm 0 0)) ≡ None ∷ None ∷ None ∷ fault 16 1 1 4 0 2 ∷ []
unfolding inv_precedes
out_of_order = refl

-- ---- jobs

abbrev job : ℕ → ℕ → ℕ → Job
job inv worst preds = record { present = true; inv = inv; release = 0; end = 10; worst = worst; preds = preds }

-- the third position follows the first, where the second is absent
jobs_ported : concrete_jobs (ported (E.Port 0)) (Some 0 ∷ Some 1 ∷ []) ≡ job 3 4 0 ∷ absent_job ∷ job 4 3 1 ∷ []
jobs_ported = refl

jobs_above : abstract_jobs (ported (E.Port 0)) 0 ≡ job 0 4 0 ∷ job 1 3 1 ∷ job 2 3 2 ∷ []
jobs_above = refl

-- a refinement whose mode `off` leaves the abstract invocation out, and whose mode `on` stands for it
jobs_on : concrete_jobs refined (Some 0 ∷ Some 2 ∷ []) ≡ job 2 3 0 ∷ job 1 2 0 ∷ []
jobs_on = refl

jobs_off : concrete_jobs refined (Some 0 ∷ Some 1 ∷ []) ≡ absent_job ∷ job 1 2 0 ∷ []
jobs_off = refl

jobs_of_root : abstract_jobs refined 0 ≡ job 0 4 0 ∷ job 1 2 0 ∷ []
jobs_of_root = refl

-- a refined mode whose child is in its first or second mode, and a mode without invocations
jobs_reentered :
    map (concrete_jobs (reentered 1)) ((Some 0 ∷ Some 2 ∷ []) ∷ (Some 0 ∷ Some 3 ∷ []) ∷ (Some 1 ∷ None ∷ []) ∷ [])
    ≡ (job 1 3 0 ∷ []) ∷ (job 2 4 0 ∷ []) ∷ [] ∷ []
jobs_reentered = refl

-- a child that may take longer than its parent
abbrev longer_child : Tables
longer_child = record refined { tasks = task (codes "plan") 0 true 4 int_one ∷ task (codes "fix") 0 false 2 int_one ∷ task (codes "fast") 1 false 5 int_one ∷ [] }

worst_case_of_the_child : map (λ t. first_refinement_fault t refinement_rules) (refined ∷ longer_child ∷ []) ≡ None ∷ fault 16 1 2 2 5 4 ∷ []
worst_case_of_the_child = refl

-- ---- selections

-- a module of the refinement left out; a root module inactive; a mode of another module; an entry too many; a child that outlives
-- its mode
no_selections : map (is_selection refined) ((Some 0 ∷ None ∷ []) ∷ (None ∷ None ∷ []) ∷ (Some 0 ∷ Some 0 ∷ []) ∷ (Some 0 ∷ Some 1 ∷ None ∷ []) ∷ []) ≡ false ∷ false ∷ false ∷ false ∷ []
no_selections = refl

left_mode : map (is_selection (reentered 1)) ((Some 1 ∷ None ∷ []) ∷ (Some 1 ∷ Some 2 ∷ []) ∷ []) ≡ true ∷ false ∷ []
left_mode = refl

-- the modes of refinements don't count
roots_of : map (selection_of (reentered 1)) ((Some 0 ∷ Some 2 ∷ []) ∷ (Some 0 ∷ Some 3 ∷ []) ∷ (Some 1 ∷ None ∷ []) ∷ []) ≡ 0 ∷ 0 ∷ 1 ∷ []
roots_of = refl

number_of_roots : selection_count (reentered 1) ≡ 2
number_of_roots = refl

positions_of_roots : map (positions (reentered 1)) (0 ∷ 1 ∷ []) ≡ (0 ∷ []) ∷ [] ∷ []
positions_of_roots = refl

-- ---- two tanks: the abstract controller of the first has a refinement of two modes, and the second has a controller of its own

abbrev tanks : Tables
tanks =
    record refined {
      comms = plain (codes "h1") 100 (pos 0) ∷ plain (codes "h2") 100 (pos 0) ∷ plain (codes "u1") 100 (pos 0) ∷ plain (codes "u2") 100 (pos 0) ∷ [];
      modes = mode (codes "hold") 0 500 ∷ mode (codes "p") 1 500 ∷ mode (codes "pi") 1 500 ∷ mode (codes "hold") 2 500 ∷ [];
      modules = module_named (codes "T1") None 0 ∷ module_named (codes "C1") (Some 0) 1 ∷ module_named (codes "T2") None 3 ∷ [];
      tasks = task (codes "ctrl") 0 true 120 int_one ∷ task (codes "prop") 1 false 60 int_one ∷ task (codes "damp") 1 false 110 int_one ∷ task (codes "direct") 2 false 100 int_one ∷ [];
      invs = call 0 0 None (E.Comm 0 1 ∷ []) (E.Comm 2 4 ∷ [])
          ∷ call 1 1 (Some 0) (E.Comm 0 1 ∷ []) (E.Comm 2 4 ∷ [])
          ∷ call 2 2 (Some 0) (E.Comm 0 1 ∷ []) (E.Comm 2 4 ∷ [])
          ∷ call 3 3 None (E.Comm 1 1 ∷ []) (E.Comm 3 4 ∷ []) ∷ [];
      switches = switch 1 2 2 ∷ [];
      functions = [];
    }

abbrev tank_job : ℕ → ℕ → Job
tank_job inv worst = record { present = true; inv = inv; release = 100; end = 400; worst = worst; preds = 0 }

tanks_kept : faults tanks ≡ none
tanks_kept = refl

tanks_jobs : map (concrete_jobs tanks) ((Some 0 ∷ Some 1 ∷ Some 3 ∷ []) ∷ (Some 0 ∷ Some 2 ∷ Some 3 ∷ []) ∷ []) ≡ (tank_job 1 60 ∷ tank_job 3 100 ∷ []) ∷ (tank_job 2 110 ∷ tank_job 3 100 ∷ []) ∷ []
tanks_jobs = refl

tanks_above : abstract_jobs tanks 0 ≡ tank_job 0 120 ∷ tank_job 3 100 ∷ []
tanks_above = refl

-- ---- records

-- one schedule, for the one root selection
abbrev schedules : List (List SInstr)
schedules = (Dispatch 0 4 ∷ Dispatch 1 6 ∷ Stop ∷ []) ∷ []

-- the sensor turns at 10, so the second round has the mode `on`; from then on its job takes 1 tick
abbrev events : List Event
events = V.At 10 ∷ V.Sense 2 (pos 1) ∷ V.Took 2 1 ∷ V.End 20 ∷ []

lengths : map (took refined events 2) (0 ∷ 9 ∷ 10 ∷ []) ≡ 3 ∷ 3 ∷ 1 ∷ []
lengths = refl

abbrev passed_over : ℕ → ℕ → ℕ × Left
passed_over at p = (p, record { at = at; position = Some p; slice = None; finished = false })

abbrev ran : ℕ → ℕ → ℕ → ℕ × Left
ran from to p = (p, record { at = to; position = Some p; slice = Some (from, to); finished = true })

abbrev over : ℕ → ℕ × Left
over at = (2, record { at = at; position = None; slice = None; finished = false })

-- the first position is absent
records_off : map (round_records refined schedules events) (0 ∷ 1 ∷ 2 ∷ []) ≡ (passed_over 0 0 ∷ []) ∷ [] ∷ (ran 0 2 1 ∷ over 2 ∷ []) ∷ []
records_off = refl

records_on : map (round_records refined schedules events) (10 ∷ 11 ∷ 13 ∷ []) ≡ [] ∷ (ran 10 11 0 ∷ []) ∷ (ran 11 13 1 ∷ over 13 ∷ []) ∷ []
records_on = refl

-- the controllers of the two tanks, by the worst cases of the abstract one
abbrev tank_schedules : List (List SInstr)
tank_schedules = (Dispatch 0 220 ∷ Dispatch 1 320 ∷ Stop ∷ []) ∷ []

records_of_tanks : map (round_records tanks tank_schedules []) (100 ∷ 160 ∷ 260 ∷ []) ≡ [] ∷ (ran 100 160 0 ∷ []) ∷ (ran 160 260 1 ∷ over 260 ∷ []) ∷ []
records_of_tanks = refl
