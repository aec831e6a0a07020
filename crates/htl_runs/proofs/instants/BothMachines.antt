-- The two machines meet: records, three phases and the sensors of an instant, as their own clauses say them, make the next world.
use Rattle.std.proofs.Common.{◌≡◌, ℕ, suc, ◌-◌, ◌≤◌, ◌<◌, List, [], ◌∷◌, length, slice_get, refl, ap, ◌∙◌, arith}
use Rattle.htl_runs.proofs.Words.{Event, Tables, state, before, sense, SInstr, Round, ECode, Done, ModeReads, phase_path, effects, all_writes, with_sensors, AreTookWithin, turn_at, SMachineStands, ValuesFollow, IsShaped, finished_before, IsLoaded, Leaves, Records, left_before, Turn, turn_walk, Content}
use Rattle.htl_runs.specs.values.PhaseEffects as running
use Rattle.htl_runs.proofs.{values.PhasePaths.replay, values.PhasePaths.addresses, values.PhasePaths.write_phase, values.WorldShapes.has_places, records.SMachineInstants.s_machine_opens, values.ModuleStays.standing_before}
use Rattle.htl_runs.specs.lists.RecordEffects.{with_records, next_world}
use Rattle.htl_runs.proofs.{frames.FrameValues.count_grows, lists.ListValues.values_now, lists.LoadedLists.loaded_turns}
use Rattle.htl_runs.proofs.instants.InstantPath.{after_writes, after_switches, after_reads, path_does}

-- what a phase's clause says of the world is what the addresses do
pub replay_same : (t : Tables) (code : ECode) (ds : List Done) (w : Content) → running.replay t code ds w ≡ replay t code.instrs (addresses ds) w
replay_same t code [] w = refl
replay_same t code (d ∷ ds) w = replay_same t code ds (running.effect_at t (slice_get code.instrs d.address) w)

-- the loop of records does what the list before owes
pub records_are : (t : Tables) (turn : ℕ → Turn) (n : ℕ) (r0 r1 : Round) (w0 w1 : Content) → (turn n).frame ≤ suc n → SMachineStands (turn n).plan (turn n).frame (suc n) r0
    → Records t r0 w0 r1 w1 (turn n).plan.schedule (suc n) → w1 ≡ with_records t turn (suc n) w0
records_are t turn n r0 r1 w0 w1 past f rec =
    let u = turn n in
    (rec u.plan u.frame (left_before u (suc n)) (suc n - u.frame) refl past (count_grows (suc n - u.frame) (suc (suc n) - u.frame) (turn_walk u) (omega arith)) (s_machine_opens u.plan u.frame (suc n) r0 f)).1

-- and it leaves the records
pub records_leave : (t : Tables) (r0 r1 : Round) (w0 w1 : Content) (code : List SInstr) (at : ℕ) → Records t r0 w0 r1 w1 code at → Leaves r0 r1 code at
records_leave t r0 r1 w0 w1 code at rec = λ p s k d same past few was. (rec p s k d same past few was).0

module _ (t : Tables) (code : ECode) (schedules : List (List SInstr)) (loaded : IsLoaded t schedules) (reads : (m : ℕ) → m < length t.modes → ModeReads t code m)
    (es : List Event) (within : AreTookWithin t es) (now : ℕ) where
  abbrev turn : ℕ → Turn
  turn = turn_at t schedules es

  -- the values that the switch phase asks for
  pub switch_values : (w0 w1 w2 w3 : Content) → ValuesFollow t es now (finished_before (turn_at t schedules es) now) w0 → IsShaped t w0 → w1 ≡ with_records t turn now w0 → w2 ≡ running.replay t code (phase_path t code es now 1) w1 → w3 ≡ with_sensors t (sense t es) now w2
      → w3.values ≡ (state t es now).values
  switch_values w0 w1 w2 w3 values shaped a b c =
      ap (λ (z : Content). z.values) c
      ∙ ap (λ z. (with_sensors t (sense t es) now z).values) (b ∙ replay_same t code (phase_path t code es now 1) w1 ∙ write_phase t code reads now (before t es now) (standing_before t loaded.range es now).1.real w1)
      ∙ ap (λ z. (with_sensors t (sense t es) now (effects t (all_writes t now (before t es now).stays) z)).values) a
      ∙ values_now t loaded.range loaded.kept es turn (loaded_turns t schedules loaded es within) now w0 values (has_places t w0 loaded.range loaded.kept shaped)

  -- records, writes, sensors, switches and reads make the next world
  pub next_is : (w0 w1 w2 w3 w4 w5 : Content) → w1 ≡ with_records t turn now w0 → w2 ≡ running.replay t code (phase_path t code es now 1) w1 → w3 ≡ with_sensors t (sense t es) now w2
      → w4 ≡ running.replay t code (phase_path t code es now 2) w3 → w5 ≡ running.replay t code (phase_path t code es now 3) w4 → w5 ≡ next_world t es turn now w0
  next_is w0 w1 w2 w3 w4 w5 a b c d e =
      e ∙ replay_same t code (phase_path t code es now 3) w4
      ∙ ap (after_reads t code loaded.range reads es now) (d ∙ replay_same t code (phase_path t code es now 2) w3)
      ∙ ap (λ z. after_reads t code loaded.range reads es now (after_switches t code loaded.range reads es now z)) c
      ∙ ap (λ z. after_reads t code loaded.range reads es now (after_switches t code loaded.range reads es now (with_sensors t (sense t es) now z))) (b ∙ replay_same t code (phase_path t code es now 1) w1)
      ∙ ap (λ z. after_reads t code loaded.range reads es now (after_switches t code loaded.range reads es now (with_sensors t (sense t es) now (after_writes t code loaded.range reads es now z)))) a
      ∙ path_does t code loaded.range reads es now turn w0
