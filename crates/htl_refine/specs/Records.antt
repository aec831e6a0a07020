-- What the processor does round by round: the jobs, how long each takes, and the records that the walk leaves.
use Rattle.std.specs.Prelude.{◌≤◌, ℕ, ◌+◌, ◌-◌, ◌*◌, ◌/◌, ◌%◌, cond, ◌&&◌, eqb, leb, List, [], ◌∷◌, ◌++◌, get_or, slice_get, map, Option, Some, None, option_map}
use Rattle.htl_refine.specs.{Common.filter, Common.Event, Common.Stay, Common.numbered, Common.up_to, Common.state, Common.root_period, Common.Tables, Common.task_worst, Common.Job, Common.SInstr, ConcreteJobs.concrete_jobs}
use Rattle.htl_model.specs.declared.event.Event.TheVariants as V
use Rattle.htl_walk.specs.Walk.{Left, walk}
use Rattle.htl_refine.specs.Roots.{selection_of}

-- ---- lengths

-- the length of the last `took` of invocation i in the events, of those that were read at u or before; x where there is none
abbrev pub last_took : ℕ → ℕ → ℕ → ℕ → List Event → ℕ
last_took i u reading x [] = x
last_took i u reading x (V.At t ∷ es) = last_took i u t x es
last_took i u reading x (V.Sense c y ∷ es) = last_took i u reading x es
last_took i u reading x (V.Took j n ∷ es) = last_took i u reading (cond (eqb i j && leb reading u) n x) es
last_took i u reading x (V.End t ∷ es) = last_took i u reading x es

abbrev pub inv_worst : Tables → ℕ → ℕ
inv_worst t i = elim (slice_get t.invs i) [ Some x ↦ task_worst t x.task | None ↦ 0 ]

-- how long a job of invocation i takes that is released at u: as the events tell, or its worst case
abbrev pub took : Tables → List Event → ℕ → ℕ → ℕ
took t es i u = last_took i u 0 (inv_worst t i) es

-- how long the jobs of the round take that begins at `start`
abbrev pub lengths_of : Tables → List Event → ℕ → List Job → List ℕ
lengths_of t es start jobs = map (λ j. took t es j.inv (start + j.release)) jobs

-- each `took` is of at least one tick and at most the worst case
abbrev pub IsTookWithin : Tables → Event → Type 0
IsTookWithin t (V.Took i n) = (1 ≤ n) × (n ≤ inv_worst t i)
IsTookWithin t _ = Unit {0}

abbrev pub AreTookWithin : Tables → List Event → Type 0
AreTookWithin t [] = Unit {0}
AreTookWithin t (e ∷ es) = IsTookWithin t e × AreTookWithin t es

-- ---- a round

-- the modes in which the modules are at an instant
abbrev pub modes_at : Tables → List Event → ℕ → List (Option ℕ)
modes_at t es now = map (λ (o : Option Stay). option_map (λ y. y.mode) o) (state t es now).stays

-- what the processor is given at the start of a round: the jobs, how long each takes, and the schedule of the root selection
pub record GivenRound : Type 0 where
  pub jobs : List Job
  pub lengths : List ℕ
  pub schedule : List SInstr

-- the round that begins at `start`, by the schedules of the root selections
abbrev pub round_at : Tables → List (List SInstr) → List Event → ℕ → GivenRound
round_at t schedules es start =
    let modes = modes_at t es start in
    let jobs = concrete_jobs t modes in
    record { jobs = jobs; lengths = lengths_of t es start jobs; schedule = get_or schedules (selection_of t modes) [] }

abbrev pub round_walk : GivenRound → List Left
round_walk r = walk r.jobs r.lengths r.schedule

-- a record of the walk, told by instants
abbrev pub shifted : ℕ → Left → Left
shifted start l =
    record { at = start + l.at; position = l.position; slice = option_map (λ (s : ℕ × ℕ). (start + s.0, start + s.1)) l.slice; finished = l.finished }

-- ---- the records of an instant

-- the records of the round that begins at `start` which are left at an instant, each with the place of its instruction
abbrev pub left_at : Tables → List (List SInstr) → List Event → ℕ → ℕ → List (ℕ × Left)
left_at t schedules es start now = filter (λ (l : ℕ × Left). eqb l.1.at now) (numbered 0 (map (shifted start) (round_walk (round_at t schedules es start))))

-- rounds begin at 0, at the period, at twice the period and so on: how many begin before an instant
abbrev pub rounds_before : ℕ → ℕ → ℕ
rounds_before period now = (now + period - 1) / period

-- the records at an instant of the rounds that began before it; without modules there are no rounds
abbrev pub old_round_records_by : Tables → List (List SInstr) → List Event → ℕ → Option ℕ → List (ℕ × Left)
old_round_records_by t schedules es now None = []
old_round_records_by t schedules es now (Some period) = up_to (λ k. left_at t schedules es (k * period) now) (rounds_before period now)

-- the records at an instant of the round that begins there
abbrev pub new_round_records_by : Tables → List (List SInstr) → List Event → ℕ → Option ℕ → List (ℕ × Left)
new_round_records_by t schedules es now None = []
new_round_records_by t schedules es now (Some period) = cond (eqb (now % period) 0) (left_at t schedules es now now) []

abbrev pub old_round_records : Tables → List (List SInstr) → List Event → ℕ → List (ℕ × Left)
old_round_records t schedules es now = old_round_records_by t schedules es now (root_period t)

abbrev pub new_round_records : Tables → List (List SInstr) → List Event → ℕ → List (ℕ × Left)
new_round_records t schedules es now = new_round_records_by t schedules es now (root_period t)

-- the records at an instant
abbrev pub round_records : Tables → List (List SInstr) → List Event → ℕ → List (ℕ × Left)
round_records t schedules es now = old_round_records t schedules es now ++ new_round_records t schedules es now
