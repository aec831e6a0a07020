use Rattle.std.specs.Prelude.{◌≡◌, List, [], ◌∷◌, Some, None, pos, refl}
use Rattle.htl_model.proofs.{Words.Event, Words.v, Words.m, Words.run_lines, Words.all_value_lines, Sources.empty_mode, Sources.doubling, Sources.preempted, Sources.refined, Sources.reentered, Sources.alternating, Sources.ports}
use Rattle.htl_model.specs.declared.event.Event.TheVariants.{At, Sense, End}

abbrev two_readings : List Event
two_readings = At 0 ∷ Sense 0 (pos 3) ∷ At 10 ∷ Sense 0 (pos 5) ∷ End 20 ∷ []

empty_mode_lines : all_value_lines empty_mode two_readings 20 ≡ v 0 0 (pos 3) ∷ v 0 1 (pos 7) ∷ m 0 0 (Some 0) ∷ v 10 0 (pos 5) ∷ []
empty_mode_lines = refl

doubling_lines : all_value_lines doubling two_readings 10 ≡ v 0 0 (pos 3) ∷ v 0 1 (pos 7) ∷ m 0 0 (Some 0) ∷ v 10 0 (pos 5) ∷ v 10 1 (pos 6) ∷ []
doubling_lines = refl

preempted_lines : all_value_lines preempted [] 10 ≡ v 0 0 (pos 1) ∷ v 0 1 (pos 0) ∷ v 0 2 (pos 0) ∷ m 0 0 (Some 0) ∷ v 6 1 (pos 5) ∷ v 10 2 (pos 2) ∷ []
preempted_lines = refl

port_lines : all_value_lines ports [] 10 ≡ v 0 0 (pos 2) ∷ v 0 1 (pos 0) ∷ m 0 0 (Some 0) ∷ v 10 1 (pos 14) ∷ []
port_lines = refl

refined_lines : all_value_lines refined (At 10 ∷ Sense 2 (pos 1) ∷ End 20 ∷ []) 20
    ≡ v 0 0 (pos 3) ∷ v 0 1 (pos 0) ∷ v 0 2 (pos 0) ∷ m 0 0 (Some 0) ∷ m 0 1 (Some 1) ∷ v 10 1 (pos 1) ∷ v 10 2 (pos 1) ∷ m 10 1 (Some 2) ∷ v 20 0 (pos 10) ∷ v 20 1 (pos 2) ∷ []
refined_lines = refl

-- the refined mode is left and entered again: its refinement starts anew
reentered_lines : all_value_lines (reentered 1) (At 10 ∷ Sense 0 (pos 1) ∷ At 20 ∷ Sense 0 (pos 0) ∷ End 30 ∷ []) 30
    ≡ v 0 0 (pos 0) ∷ v 0 1 (pos 0) ∷ m 0 0 (Some 0) ∷ m 0 1 (Some 2) ∷ v 10 0 (pos 1) ∷ v 10 1 (pos 1) ∷ m 10 0 (Some 1) ∷ m 10 1 None ∷ v 20 0 (pos 0) ∷ m 20 0 (Some 0) ∷ m 20 1 (Some 2) ∷ v 30 1 (pos 2) ∷ m 30 1 (Some 3) ∷ []
reentered_lines = refl

-- a switch to the mode that runs keeps its refinement as it is
kept_lines : all_value_lines (reentered 0) (At 10 ∷ Sense 0 (pos 1) ∷ End 20 ∷ []) 20
    ≡ v 0 0 (pos 0) ∷ v 0 1 (pos 0) ∷ m 0 0 (Some 0) ∷ m 0 1 (Some 2) ∷ v 10 0 (pos 1) ∷ v 10 1 (pos 1) ∷ m 10 1 (Some 3) ∷ v 20 1 (pos 101) ∷ []
kept_lines = refl

alternating_lines : all_value_lines alternating (At 10 ∷ Sense 0 (pos 1) ∷ End 20 ∷ []) 20
    ≡ v 0 0 (pos 0) ∷ v 0 1 (pos 0) ∷ m 0 0 (Some 0) ∷ v 10 0 (pos 1) ∷ v 10 1 (pos 1) ∷ m 10 0 (Some 1) ∷ v 20 1 (pos 101) ∷ []
alternating_lines = refl

reentered_by_instants : run_lines (reentered 1) (At 10 ∷ Sense 0 (pos 1) ∷ At 20 ∷ Sense 0 (pos 0) ∷ End 30 ∷ []) 30 ≡ all_value_lines (reentered 1) (At 10 ∷ Sense 0 (pos 1) ∷ At 20 ∷ Sense 0 (pos 0) ∷ End 30 ∷ []) 30
reentered_by_instants = refl

preempted_far : run_lines preempted [] 300 ≡ all_value_lines preempted [] 300
preempted_far = refl
