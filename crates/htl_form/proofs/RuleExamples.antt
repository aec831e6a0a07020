-- For each rule a smallest table that breaks it and no other, and one that just keeps it; and which of two faults is told.
use Rattle.std.specs.Prelude.{◌≡◌, ℕ, Bool, true, false, List, [], ◌∷◌, ◌++◌, replicate, Option, Some, None, pos, refl, codes, map, ◌≤◌}
use Rattle.std.proofs.Common.{arith}
use Rattle.htl_form.proofs.CommonMultiples.{multiple_is}
use Rattle.htl_form.proofs.Words.{Ty, IntTy, BoolTy, FormFault, Comm, Mode, Module, Inv, End, Tables, plain, sensor, mode, module_named, task, call, switch, int_one, told, form_fault_of, IsLcmOf, le_of_dvd}
use Rattle.htl_model.specs.declared.parts.End.TheVariants as E
use Rattle.htl_form.specs.declared.rule.Rule.TheVariants as R

-- what nine of the rules tell, each by itself: 1 to 7, 10, 11
abbrev judged : Tables → List (Option FormFault)
judged t =
    map (form_fault_of t 0) (R.ModulePeriod ∷ R.FrameLimits ∷ R.Divides ∷ R.Offsets ∷ R.Ends ∷ R.Windows ∷ R.WorstCases ∷ R.AbstractPorts ∷ R.Sensors ∷ [])

-- a fault of rule n at an invocation of mode 0 of module 0; at a mode
abbrev at_inv : ℕ → ℕ → ℕ → ℕ → Option FormFault
at_inv n k have need = told n 0 0 (Some k) (Some (have, need))

abbrev at_mode : ℕ → ℕ → ℕ → ℕ → ℕ → Option FormFault
at_mode n u m have need = told n u m None (Some (have, need))

abbrev nothing : List (Option FormFault)
nothing = None ∷ None ∷ None ∷ None ∷ None ∷ None ∷ None ∷ None ∷ None ∷ []

-- ---- tables

abbrev modes_alone : List Module → List Mode → Tables
modes_alone modules modes = record { comms = []; modes = modes; modules = modules; ports = []; tasks = []; invs = []; switches = []; functions = [] }

-- one mode of period 10 with these communicators and one invocation of a task with these types
abbrev one_call : List Comm → ℕ → List Ty → List Ty → List End → List End → Tables
one_call comms worst ins outs reads writes =
    record {
      comms = comms;
      modes = mode (codes "m") 0 10 ∷ [];
      modules = module_named (codes "M") None 0 ∷ [];
      ports = [];
      tasks = record (task (codes "f") 0 false worst ins) { outputs = outs } ∷ [];
      invs = call 0 0 None reads writes ∷ [];
      switches = [];
      functions = [];
    }

-- a communicator of period 5, and one of the given period
abbrev five_and : ℕ → List Comm
five_and p = plain (codes "x") 5 (pos 0) ∷ plain (codes "y") p (pos 0) ∷ []

-- ---- rule 1: one period a module

abbrev two_modes : ℕ → Tables
two_modes p = modes_alone (module_named (codes "M") None 0 ∷ []) (mode (codes "a") 0 10 ∷ mode (codes "b") 0 p ∷ [])

periods_differ : judged (two_modes 20) ≡ at_mode 1 0 1 20 10 ∷ None ∷ None ∷ None ∷ None ∷ None ∷ None ∷ None ∷ None ∷ []
periods_differ = refl

periods_agree : judged (two_modes 10) ≡ nothing
periods_agree = refl

-- in a refinement every mode is held to the refined mode's period, the first one too
abbrev refinement : ℕ → ℕ → Tables
refinement p q =
    modes_alone (module_named (codes "M") None 0 ∷ module_named (codes "N") (Some 0) 1 ∷ []) (mode (codes "a") 0 10 ∷ mode (codes "b") 1 p ∷ mode (codes "c") 1 q ∷ [])

refined_period_differs : judged (refinement 20 20) ≡ at_mode 1 1 1 20 10 ∷ None ∷ None ∷ None ∷ None ∷ None ∷ None ∷ None ∷ None ∷ []
refined_period_differs = refl

later_mode_differs : judged (refinement 10 20) ≡ at_mode 1 1 2 20 10 ∷ None ∷ None ∷ None ∷ None ∷ None ∷ None ∷ None ∷ None ∷ []
later_mode_differs = refl

refined_period_agrees : judged (refinement 10 10) ≡ nothing
refined_period_agrees = refl

-- ---- rule 2: the limits of frames

-- what rule 2 alone tells
abbrev framed : Tables → Option FormFault
framed t = form_fault_of t 0 R.FrameLimits

abbrev pub two_roots : ℕ → Tables
two_roots p = modes_alone (module_named (codes "M") None 0 ∷ module_named (codes "N") None 1 ∷ []) (mode (codes "a") 0 10 ∷ mode (codes "b") 1 p ∷ mode (codes "c") 1 p ∷ [])

root_periods_differ : judged (two_roots 20) ≡ nothing
root_periods_differ = refl

-- modules of the given periods, with a mode each
abbrev three_roots : ℕ → ℕ → ℕ → Tables
three_roots p q r =
    modes_alone (module_named (codes "M") None 0 ∷ module_named (codes "N") None 1 ∷ module_named (codes "O") None 2 ∷ [])
    (mode (codes "a") 0 p ∷ mode (codes "b") 1 q ∷ mode (codes "c") 2 r ∷ [])

-- the multiple is too great from N on; there are too many starts, which are those of all
long_frame : framed (three_roots 1000000 999999 10) ≡ at_mode 2 1 1 999999000000 1000000
long_frame = refl

many_starts : framed (three_roots 10 330 10) ≡ at_mode 2 2 2 33 32
many_starts = refl

enough_starts : framed (three_roots 10 320 10) ≡ None
enough_starts = refl

-- a module that refines another has no part in it
refinement_apart : framed (refinement 330 330) ≡ None
refinement_apart = refl

-- two modes of period 10 in one module, a mode of the given period in another
abbrev two_and_one : ℕ → Tables
two_and_one p = modes_alone (module_named (codes "M") None 0 ∷ module_named (codes "N") None 2 ∷ []) (mode (codes "a") 0 10 ∷ mode (codes "b") 0 10 ∷ mode (codes "c") 1 p ∷ [])

many_paths : framed (two_and_one 110) ≡ at_mode 2 1 2 2048 1024
many_paths = refl

enough_paths : framed (two_and_one 100) ≡ None
enough_paths = refl

-- 25 rounds of five invocations, and one of so many
abbrev rounds_of_five : ℕ → Tables
rounds_of_five n =
    record (modes_alone (module_named (codes "M") None 0 ∷ module_named (codes "N") None 1 ∷ []) (mode (codes "a") 0 10 ∷ mode (codes "b") 1 250 ∷ [])) {
      invs = replicate 5 (call 0 0 None [] []) ++ replicate n (call 1 0 None [] []);
    }

many_positions : framed (rounds_of_five 4) ≡ at_mode 2 1 1 129 128
many_positions = refl

enough_positions : framed (rounds_of_five 3) ≡ None
enough_positions = refl

-- ---- rule 3: periods divide

abbrev reads_at : ℕ → ℕ → Tables
reads_at p n = one_call (five_and p) 1 int_one int_one (E.Comm 1 n ∷ []) (E.Comm 0 2 ∷ [])

period_of_4 : judged (reads_at 4 0) ≡ None ∷ None ∷ at_inv 3 0 4 10 ∷ None ∷ None ∷ None ∷ None ∷ None ∷ None ∷ []
period_of_4 = refl

period_of_2 : judged (reads_at 2 0) ≡ nothing
period_of_2 = refl

-- a switch of mode m that tests a communicator of period 4; invocations stand in modes a and b
abbrev tested : ℕ → List Inv → Tables
tested m invs =
    record {
      comms = five_and 4;
      modes = mode (codes "a") 0 10 ∷ mode (codes "b") 0 10 ∷ [];
      modules = module_named (codes "M") None 0 ∷ [];
      ports = [];
      tasks = task (codes "f") 0 false 1 int_one ∷ [];
      invs = invs;
      switches = switch m 0 1 ∷ [];
      functions = [];
    }

tested_period : judged (tested 0 []) ≡ None ∷ None ∷ at_mode 3 0 0 4 10 ∷ None ∷ None ∷ None ∷ None ∷ None ∷ None ∷ []
tested_period = refl

-- an invocation comes before the switches of its mode, and after those of an earlier mode
invocation_before_switch : form_fault_of (tested 0 (call 0 0 None (E.Comm 1 0 ∷ []) (E.Comm 0 2 ∷ []) ∷ [])) 0 R.Divides ≡ at_inv 3 0 4 10
invocation_before_switch = refl

switch_before_later_mode : form_fault_of (tested 0 (call 1 0 None (E.Comm 1 0 ∷ []) (E.Comm 0 2 ∷ []) ∷ [])) 0 R.Divides ≡ at_mode 3 0 0 4 10
switch_before_later_mode = refl

-- ---- rule 4: offsets within the period

-- a read at the end of the round, and a write behind it, so that the window isn't empty: the read is told
read_at_the_end : judged (one_call (five_and 5) 1 int_one int_one (E.Comm 0 2 ∷ []) (E.Comm 0 3 ∷ [])) ≡ None ∷ None ∷ None ∷ at_inv 4 0 10 10 ∷ None ∷ None ∷ None ∷ None ∷ None ∷ []
read_at_the_end = refl

write_behind_the_end : judged (one_call (five_and 5) 1 int_one int_one (E.Comm 0 1 ∷ []) (E.Comm 0 3 ∷ [])) ≡ None ∷ None ∷ None ∷ at_inv 4 0 15 10 ∷ None ∷ None ∷ None ∷ None ∷ None ∷ []
write_behind_the_end = refl

write_at_the_start : form_fault_of (one_call (five_and 5) 1 int_one int_one (E.Comm 0 0 ∷ []) (E.Comm 0 0 ∷ [])) 0 R.Offsets ≡ at_inv 4 0 0 10
write_at_the_start = refl

read_before_the_end : judged (one_call (five_and 5) 1 int_one int_one (E.Comm 0 1 ∷ []) (E.Comm 0 2 ∷ [])) ≡ nothing
read_before_the_end = refl

-- ---- rule 5: counts and types

no_input : judged (one_call (five_and 5) 1 int_one int_one [] (E.Comm 0 2 ∷ [])) ≡ None ∷ None ∷ None ∷ None ∷ at_inv 5 0 0 1 ∷ None ∷ None ∷ None ∷ None ∷ []
no_input = refl

two_outputs : judged (one_call (five_and 5) 1 int_one int_one (E.Comm 0 0 ∷ []) (E.Comm 0 2 ∷ E.Comm 1 2 ∷ [])) ≡ None ∷ None ∷ None ∷ None ∷ at_inv 5 0 2 1 ∷ None ∷ None ∷ None ∷ None ∷ []
two_outputs = refl

bool_input : judged (one_call (five_and 5) 1 (BoolTy ∷ []) int_one (E.Comm 0 0 ∷ []) (E.Comm 0 2 ∷ [])) ≡ None ∷ None ∷ None ∷ None ∷ at_inv 5 0 0 1 ∷ None ∷ None ∷ None ∷ None ∷ []
bool_input = refl

-- the count of inputs before that of outputs; counts before types; the type of an input before that of an output
inputs_counted_first : form_fault_of (one_call (five_and 5) 1 int_one int_one [] []) 0 R.Ends ≡ at_inv 5 0 0 1
inputs_counted_first = refl

counts_before_types : form_fault_of (one_call (five_and 5) 1 (BoolTy ∷ []) int_one (E.Comm 0 0 ∷ []) (E.Comm 0 1 ∷ E.Comm 0 2 ∷ [])) 0 R.Ends ≡ at_inv 5 0 2 1
counts_before_types = refl

input_type_first : form_fault_of (one_call (sensor (codes "g") BoolTy 5 ∷ five_and 5) 1 int_one (BoolTy ∷ []) (E.Comm 0 0 ∷ []) (E.Comm 1 2 ∷ [])) 0 R.Ends ≡ at_inv 5 0 1 0
input_type_first = refl

-- ---- rule 6: a window isn't empty

window_of_0 : judged (one_call (five_and 5) 1 int_one int_one (E.Comm 0 1 ∷ []) (E.Comm 0 1 ∷ [])) ≡ None ∷ None ∷ None ∷ None ∷ None ∷ at_inv 6 0 5 5 ∷ None ∷ None ∷ None ∷ []
window_of_0 = refl

window_of_1 : judged (one_call (five_and 1) 1 int_one int_one (E.Comm 0 1 ∷ []) (E.Comm 1 6 ∷ [])) ≡ nothing
window_of_1 = refl

-- ---- rule 7: a worst case isn't longer than the period

worst_of_11 : judged (one_call (five_and 5) 11 int_one int_one (E.Comm 0 1 ∷ []) (E.Comm 0 2 ∷ [])) ≡ None ∷ None ∷ None ∷ None ∷ None ∷ None ∷ at_inv 7 0 11 10 ∷ None ∷ None ∷ []
worst_of_11 = refl

worst_of_10 : judged (one_call (five_and 5) 10 int_one int_one (E.Comm 0 1 ∷ []) (E.Comm 0 2 ∷ [])) ≡ nothing
worst_of_10 = refl

-- ---- rule 10: no port from an abstract invocation into a concrete one

-- the first invocation reads communicator x, then a port that the second writes
abbrev port_from : Bool → Tables
port_from is_abstract =
    record {
      comms = five_and 5;
      modes = mode (codes "m") 0 10 ∷ [];
      modules = module_named (codes "M") None 0 ∷ [];
      ports = record { name = codes "p"; mode = 0; ty = IntTy } ∷ [];
      tasks = task (codes "f") 0 false 1 (IntTy ∷ IntTy ∷ []) ∷ task (codes "g") 0 is_abstract 1 [] ∷ [];
      invs = call 0 0 None (E.Comm 0 0 ∷ E.Port 0 ∷ []) (E.Comm 0 2 ∷ []) ∷ call 0 1 None [] (E.Port 0 ∷ []) ∷ [];
      switches = [];
      functions = [];
    }

port_of_an_abstract_one : judged (port_from true) ≡ None ∷ None ∷ None ∷ None ∷ None ∷ None ∷ None ∷ at_inv 10 0 1 0 ∷ None ∷ []
port_of_an_abstract_one = refl

port_of_a_concrete_one : judged (port_from false) ≡ nothing
port_of_a_concrete_one = refl

-- ---- rule 11: no sensor is written

abbrev writes_to : Comm → Tables
writes_to c = one_call (c ∷ five_and 5) 1 int_one (IntTy ∷ IntTy ∷ []) (E.Comm 0 0 ∷ []) (E.Comm 1 2 ∷ E.Comm 0 2 ∷ [])

sensor_written : judged (writes_to (sensor (codes "s") IntTy 5)) ≡ None ∷ None ∷ None ∷ None ∷ None ∷ None ∷ None ∷ None ∷ at_inv 11 0 1 0 ∷ []
sensor_written = refl

plain_written : judged (writes_to (plain (codes "s") 5 (pos 0))) ≡ nothing
plain_written = refl

-- 30 is the least common multiple of 10 and 15; 60 is a common one alone
thirty : IsLcmOf 10 (15 ∷ []) 30
thirty = multiple_is 10 (15 ∷ []) (omega arith, tt)

sixty : IsLcmOf 10 (15 ∷ []) 60 → ⊥
sixty lcm = let z : 60 ≤ 30 = le_of_dvd (omega arith) (lcm.least 30 thirty.first thirty.each) in omega (arith, z)
