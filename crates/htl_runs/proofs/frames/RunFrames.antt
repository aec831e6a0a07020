-- A run's frames.
use Rattle.std.proofs.Common.{◌≡◌, ℕ, zero, suc, ◌+◌, ◌-◌, ◌*◌, ◌/◌, ◌%◌, ◌≤◌, ◌<◌, ◌⊎◌, List, [], ◌∷◌, length, get_or, map, slice_get, take, Some, refl, sym, ap, subst, arith, inl, inr}
use Rattle.htl_runs.proofs.Words.{div-add-mod, length-map, Event, Tables, AreInRange, KeptApart, Job, SInstr, Place, frame_of, starts, known_by, placed_job, legs_of, derived_place, no_leg, frame_modes, frame_places, frame_jobs, frame_at, walk_of, IsServing, front_there, frames_are_served, front_served, known_few, frame_start, begun_by, now_of, RunFrames, FeasibleRuns, ValuesGoOn, RunReady, known_rises}
use Rattle.htl_runs.proofs.{frames.FrameJobs.frame_jobs_so_far, frames.PlacedStays.there_front, frames.FrameValues.all_ready, frames.FrameValues.values_carried, values.Periods.begins_or_not}

leg_known : (h : ℕ) (xs : List Place) (later_starts : List ℕ) (i d : ℕ) → i < length (legs_of h xs later_starts) → (get_or (legs_of h xs later_starts) i no_leg).from ≤ d → (get_or (legs_of h xs later_starts) i no_leg).known ≤ known_by d xs
leg_known h xs [] i d l e = absurd (omega arith)
leg_known h xs (a ∷ later) zero d l e = known_rises a d xs e
leg_known h xs (a ∷ later) (suc i) d l e = leg_known h xs later i d (omega arith) e

module _ (t : Tables) (lists : List (List SInstr)) (es : List Event) (range : AreInRange t) (kept : KeptApart t 16) (some : 0 < frame_of t)
    (serving : (k : ℕ) → IsServing (frame_at t lists es (frame_of t * k)) (frame_of t)) where
  past : (n : ℕ) → frame_start t n ≤ n
  past n = let whole : frame_of t * (n / frame_of t) + n % frame_of t ≡ n = div-add-mod n (frame_of t) in omega (arith, whole)

  few : (f n : ℕ) → begun_by t es f n ≤ length (frame_jobs t (frame_modes t es f))
  few f n = grind (arith, known_few, length-map)

  goes_on : (n f g p : ℕ) (j : Job) → g ≡ f → slice_get (take (begun_by t es f n) (frame_jobs t (frame_modes t es f))) p ≡ Some j
      → slice_get (take (begun_by t es g (suc n)) (frame_jobs t (frame_modes t es g))) p ≡ Some j
  goes_on n f g p j same at = grind (arith, front_there, known_rises, there_front)

  pub run_frames_of : (n : ℕ) → (frame_start t (suc n) ≡ suc n) ⊎ ((frame_start t (suc n) ≡ frame_start t n) × ((now_of t lists es (suc n)).walk ≡ (now_of t lists es n).walk)
      × ((p : ℕ) (j : Job) → slice_get (now_of t lists es n).jobs p ≡ Some j → slice_get (now_of t lists es (suc n)).jobs p ≡ Some j))
  run_frames_of n = by (begins_or_not (frame_of t) n some)
    where
      by : (frame_start t (suc n) ≡ suc n) ⊎ (frame_start t (suc n) ≡ frame_start t n)
          → (frame_start t (suc n) ≡ suc n) ⊎ ((frame_start t (suc n) ≡ frame_start t n) × ((now_of t lists es (suc n)).walk ≡ (now_of t lists es n).walk)
          × ((p : ℕ) (j : Job) → slice_get (now_of t lists es n).jobs p ≡ Some j → slice_get (now_of t lists es (suc n)).jobs p ≡ Some j))
      by (inl e) = inl e
      by (inr e) = inr (e, ap (λ z. walk_of (frame_at t lists es z)) e, λ p j at. goes_on n (frame_start t n) (frame_start t (suc n)) p j e at)

pub run_frames : RunFrames
run_frames t lists es range kept some serving =
    record {
      past = past t lists es range kept some serving;
      jobs_so_far = λ n. frame_jobs_so_far t es n (frame_start t n) range kept some refl;
      runs =
          λ n. let f = frame_start t n in
          front_served (frame_at t lists es f) (frame_of t) f n (begun_by t es f n) (past t lists es range kept some serving n) (serving (n / frame_of t)) (few t lists es range kept some serving f n)
          (λ i l e. leg_known (frame_of t) (frame_places t (frame_modes t es f)) (starts t) i (n - f) l e);
      on = run_frames_of t lists es range kept some serving;
    }

pub feasible_runs : FeasibleRuns
feasible_runs t lists es run = run_frames t lists es run.range run.kept run.ticks (λ k. frames_are_served t lists es (frame_of t * k) run)

first_rules : (t : Tables) → KeptApart t 16 → KeptApart t 12
first_rules t kept r s have need small other broken = kept r s have need (omega (arith, small)) other broken

pub values_go_on : ValuesGoOn
values_go_on t lists es run n w f shape = values_carried t run.range (first_rules t run.kept) es (now_of t lists es) (feasible_runs t lists es run) n w f shape

pub run_ready : RunReady
run_ready t lists es run n =
    all_ready t run.range (first_rules t run.kept) es (now_of t lists es) (feasible_runs t lists es run) (suc n)
