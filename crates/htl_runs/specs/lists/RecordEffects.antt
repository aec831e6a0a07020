-- The lists of the processor, and what their records do to the world.
use Rattle.std.specs.Prelude.{ℕ, zero, suc, ◌-◌, Bool, false, List}
use Rattle.htl_runs.specs.{Common.Event, Common.Tables, Common.sense, Common.state, Common.before, Common.Content, values.FinishedJobs.run_records, values.InstantEffects.world_after}
use Rattle.htl_runs.specs.lists.StandingLists.{Turn, turn_walk, left_before, turn_finished_by}

-- the jobs of the present rounds that are finished before an instant
abbrev pub finished_before : (ℕ → Turn) → ℕ → ℕ → Bool
finished_before turn zero i = false
finished_before turn (suc n) i = let u = turn n in turn_finished_by u (left_before u (suc n)) i

-- ---- what records do

-- the records at an instant of the list that began before it
abbrev pub with_records : Tables → (ℕ → Turn) → ℕ → Content → Content
with_records t turn zero w = w
with_records t turn (suc n) w =
    let u = turn n in
    let a = left_before u (suc n) in
    run_records t u.plan.jobs (turn_walk u) (left_before u (suc (suc n)) - a) a w

-- a whole instant: records of the list that stood before it, the writes, the sensors, the reads
abbrev pub next_world : Tables → List Event → (ℕ → Turn) → ℕ → Content → Content
next_world t es turn now w = world_after t (sense t es) now (before t es now).stays (state t es now).stays (with_records t turn now w)
