-- Worked examples: runs of the machine over the values that the meaning of the tables gives.
use Rattle.std.specs.Prelude.{◌≡◌, ℕ, zero, suc, List, [], ◌∷◌, ◌++◌, Some, None, ℤ, pos, refl, length, map}
use Rattle.htl_emach.proofs.Words.{Event, History, history, sense, Tables, doubling, preempted, ports, refined, reentered, alternating, tanks, ECode, EInstr, layout, EDone, Standing, first_standing, done_in, standing_after}
use Rattle.htl_model.specs.declared.event.Event.TheVariants.{At, Sense, End as Ends}
use Rattle.htl_ecode.specs.declared.instr.EInstr.TheVariants as I

-- what was done, each with its instant, and the machine afterwards
record Ran : Type 0 where
  told : List (ℕ × EDone)
  machine : Standing

-- at most so many instructions of a phase
abbrev phase_run : ℕ → Tables → ECode → List ℤ → ℕ → ℕ → Ran → Ran
phase_run zero t code values phase at r = r
phase_run (suc n) t code values phase at r =
    elim (done_in code phase at r.machine) [
      | None ↦ r
      | Some d ↦ phase_run n t code values phase at (record { told = r.told ++ (at, d) ∷ []; machine = standing_after t code values phase at r.machine (Some d) })
    ]

abbrev instant_run : Tables → ECode → List ℤ → ℕ → Ran → Ran
instant_run t code values at r = phase_run 20 t code values 3 at (phase_run 20 t code values 2 at (phase_run 20 t code values 1 at r))

-- over the instants of a history, the newest first
abbrev history_run : Tables → ECode → History → Ran
history_run t code [] = record { told = []; machine = first_standing t code }
history_run t code (x ∷ h) = instant_run t code x.values (length h) (history_run t code h)

abbrev run : Tables → ECode → List Event → ℕ → List (ℕ × EDone)
run t code es end = (history_run t code (history t (sense t es) end)).told

-- ---- what is told: the instant, the address and the instruction

abbrev lines : List (ℕ × EDone) → List (ℕ × ℕ × EInstr)
lines ds = map (λ d. (d.0, d.1.address, d.1.instr)) ds

doubling_lines : lines (run doubling (layout doubling) (At 0 ∷ Sense 0 (pos 3) ∷ At 10 ∷ Sense 0 (pos 5) ∷ Ends 10 ∷ []) 10)
    ≡ (0, 0, I.Enter 0) ∷ (0, 1, I.Future 10 1 5) ∷ (0, 2, I.Future 0 3 7) ∷ (0, 3, I.Future 20 2 10) ∷ (0, 4, I.Return) ∷ (0, 7, I.CallRead 0 0)
    ∷ (0, 8, I.Release 0) ∷ (0, 9, I.Return) ∷ (10, 5, I.CallWrite 0 0) ∷ (10, 6, I.Return) ∷ []
doubling_lines = refl

-- ---- how many instructions are done

abbrev count : Tables → List Event → ℕ → ℕ
count t es end = length (run t (layout t) es end)

preempted_count : count preempted [] 10 ≡ 26
preempted_count = refl

ports_count : count ports [] 10 ≡ 20
ports_count = refl

-- a refinement that is left out and then stands in
refined_count : count refined (At 10 ∷ Sense 2 (pos 1) ∷ Ends 20 ∷ []) 20 ≡ 54
refined_count = refl

-- a refined mode that is left and entered again
reentered_count : count (reentered 1) (At 10 ∷ Sense 0 (pos 1) ∷ At 20 ∷ Sense 0 (pos 0) ∷ Ends 30 ∷ []) 30 ≡ 50
reentered_count = refl

-- a switch to the mode that runs
kept_count : count (reentered 0) (At 10 ∷ Sense 0 (pos 1) ∷ Ends 20 ∷ []) 20 ≡ 41
kept_count = refl

alternating_count : count alternating (At 10 ∷ Sense 0 (pos 1) ∷ Ends 20 ∷ []) 20 ≡ 30
alternating_count = refl

tanks_count : count tanks (At 0 ∷ Sense 0 (pos 250) ∷ Sense 1 (pos 300) ∷ Ends 500 ∷ []) 500 ≡ 39
tanks_count = refl
