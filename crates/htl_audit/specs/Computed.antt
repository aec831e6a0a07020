-- The values that a log gives, whoever scheduled: each job is computed where its slices add up to what it takes.
use Rattle.std.specs.Prelude.{◌≡◌, ◌≤◌, ℕ, zero, suc, Bool, false, cond, ◌&&◌, eqb, ltb, List, [], ◌∷◌, ◌++◌, slice_get, Option, Some, None}
use Rattle.std.specs.List.{list_any}
use Rattle.htl_model.specs.{declared.event.Event.Event, declared.state.Stay.Stay, declared.state.State.State, Lists.numbered, Meaning.before, Meaning.round_start, Meaning.sense, Meaning.state, Meaning.stays_at, Tables.Tables}
use Rattle.htl_object.specs.{declared.object.Object.Object, Accepted.IsAccepted}
use Rattle.htl_walk.specs.declared.job.Job.{Job}
use Rattle.htl_emach.specs.Contents.{Content, first_content, completed}
use Rattle.htl_refine.specs.Records.{AreTookWithin}
use Rattle.htl_runs.specs.{values.Values.ValuesFollow, values.InstantEffects.effects, values.InstantEffects.all_reads, values.InstantEffects.all_writes, values.InstantEffects.with_sensors}
use Rattle.htl_audit.specs.{declared.slice.Slice.Slice, Jobs.round_of, Legal.is_done, Legal.IsLegal}

-- ---- which jobs are finished

-- the lines of a log that end before an instant, and those that end at it
abbrev pub ended : ℕ → List Slice → List Slice
ended now [] = []
ended now (x ∷ xs) = cond (ltb x.to now) (x ∷ ended now xs) (ended now xs)

abbrev pub ending : ℕ → List Slice → List Slice
ending now [] = []
ending now (x ∷ xs) = cond (eqb x.to now) (x ∷ ending now xs) (ending now xs)

-- an invocation has a job in the rounds from s whose slices add up to what it takes
abbrev pub is_done_in : Tables → List Event → ℕ → List Slice → ℕ → Bool
is_done_in t es s lines i = list_any (λ (j : ℕ × Job). j.1.present && eqb j.1.inv i && is_done (round_of t es s) lines j) (numbered 0 (round_of t es s).jobs)

-- its job of the round in which it stands, where the modules are as `stays` says; none where it doesn't stand
abbrev pub is_done_from : Tables → List Event → List Slice → ℕ → Option ℕ → Bool
is_done_from t es lines i None = false
is_done_from t es lines i (Some s) = is_done_in t es s lines i

abbrev pub is_finished : Tables → List Event → List (Option Stay) → List Slice → ℕ → Bool
is_finished t es stays lines i = elim (slice_get t.invs i) [ Some x ↦ is_done_from t es lines i (round_start t stays x) | None ↦ false ]

-- ---- the world by a log

-- the values and buffers, and where the modules are
pub record Known : Type 0 where
  pub world : Content
  pub stays : List (Option Stay)

-- before the first instant every module is inactive
abbrev pub first_known : Tables → Known
first_known t = record { world = first_content t; stays = [] }

-- line after line, behind these: where a job is finished with the line, it puts its outputs out
abbrev pub with_lines : Tables → List Event → List (Option Stay) → List Slice → List Slice → Content → Content
with_lines t es stays lines [] w = w
with_lines t es stays lines (x ∷ xs) w =
    with_lines t es stays (lines ++ x ∷ []) xs (cond (is_finished t es stays (lines ++ x ∷ []) x.inv) (completed t x.inv w) w)

-- an instant: the lines that end at it, the writes that are due, the sensors, the modes by the values, the reads that are due
abbrev pub next_known : Tables → List Event → List Slice → ℕ → Known → Known
next_known t es log now k =
    let done = with_lines t es k.stays (ended now log) (ending now log) k.world in
    let sensed = with_sensors t (sense t es) now (effects t (all_writes t now k.stays) done) in
    let stays = stays_at t sensed.values now k.stays in
    record { world = effects t (all_reads t now stays) sensed; stays = stays }

-- before an instant
abbrev pub known : Tables → List Event → List Slice → ℕ → Known
known t es log zero = first_known t
known t es log (suc n) = next_known t es log n (known t es log n)

-- the values and modes of an instant by a log
abbrev pub state_by : Tables → List Event → List Slice → ℕ → State
state_by t es log now = let k = known t es log (suc now) in record { values = k.world.values; stays = k.stays }

-- ---- the law

-- the values and modes of the instant are those of logical execution time, which knows no log, and behind it so are the buffers: an
-- unfinished job has read what it read by then, and a finished one has put out what it puts out
pub record GivesTheMeaning (t : Tables) (es : List Event) (log : List Slice) (now : ℕ) : Type 0 where
  pub same : state_by t es log now ≡ state t es now
  pub buffers : ValuesFollow t es (suc now) (is_finished t es (before t es (suc now)).stays (ended (suc now) log)) (known t es log (suc now)).world

-- so it is for every legal log of a run of an accepted object, up to the end of the run
abbrev pub LegalLogGivesTheMeaning : Type 0
LegalLogGivesTheMeaning =
    (o : Object) (es : List Event) (end : ℕ) (log : List Slice) → IsAccepted o → AreTookWithin o.tables es → IsLegal o.tables es end log
    → (now : ℕ) → now ≤ end → GivesTheMeaning o.tables es log now
