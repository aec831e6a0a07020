-- A whole instant, by the addresses of its path: records, the write phase, the sensors, the switch phase, the read phase.
use Rattle.std.proofs.Common.{◌≡◌, ℕ, ◌<◌, List, length, Some, ap, ◌∙◌}
use Rattle.htl_runs.proofs.Words.{Event, Stay, up_to, Tables, AreInRange, state, before, stay_of, sense, ECode, writes_done, switches_done, reads_done, ModeReads, Content, effects, all_writes, with_sensors, Turn, standing_at}
use Rattle.htl_runs.proofs.{values.PhasePaths.replay, values.PhasePaths.addresses, values.PhasePaths.write_phase, values.PhasePaths.read_phase, values.ModuleStays.standing_before, values.SwitchPhase.switch_phase}
use Rattle.htl_runs.specs.lists.RecordEffects.{with_records, next_world}

module _ (t : Tables) (code : ECode) (range : AreInRange t) (reads : (m : ℕ) → m < length t.modes → ModeReads t code m) (es : List Event) (now : ℕ) where
  -- what each phase's addresses do
  abbrev pub after_writes : Content → Content
  after_writes w = replay t code.instrs (addresses (up_to (writes_done t code now (before t es now)) (length t.modules))) w

  abbrev pub after_switches : Content → Content
  after_switches w = replay t code.instrs (addresses (up_to (switches_done t code now (before t es now) (state t es now)) (length t.modules))) w

  abbrev pub after_reads : Content → Content
  after_reads w = replay t code.instrs (addresses (up_to (reads_done t code now (state t es now)) (length t.modules))) w

  real_before : (k : ℕ) (y : Stay) → stay_of (before t es now).stays k ≡ Some y → y.mode < length t.modes
  real_before k y e = (standing_before t range es now).1.real k y e

  real_now : (k : ℕ) (y : Stay) → stay_of (state t es now).stays k ≡ Some y → y.mode < length t.modes
  real_now k y e = (standing_at t range es now).real k y e

  -- together they make the next world
  pub path_does : (turn : ℕ → Turn) (w : Content)
      → after_reads (after_switches (with_sensors t (sense t es) now (after_writes (with_records t turn now w)))) ≡ next_world t es turn now w
  path_does turn w =
      let v = with_records t turn now w in
      ap (λ z. after_reads (after_switches (with_sensors t (sense t es) now z))) (write_phase t code reads now (before t es now) real_before v)
      ∙ ap after_reads (switch_phase t code reads range now (before t es now) (state t es now) real_before real_now (length t.modules) (with_sensors t (sense t es) now (effects t (all_writes t now (before t es now).stays) v)))
      ∙ read_phase t code reads now (state t es now) real_now (with_sensors t (sense t es) now (effects t (all_writes t now (before t es now).stays) v))
