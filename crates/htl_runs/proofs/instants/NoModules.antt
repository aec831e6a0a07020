-- Tables without modules: no round ever begins, so an instant leaves no record.
use Rattle.std.proofs.Common.{◌≡◌, ℕ, zero, suc, ◌-◌, Bool, false, cond, List, [], ◌∷◌, length, slice_get, take, Option, Some, None, refl, ap, ◌∙◌, arith}
use Rattle.htl_runs.proofs.Words.{Event, hyper, Tables, Job, SInstr, Point, Left, last_point, Round, no_round, Content, SMachineAt, left_before, complete_at, complete_by, run_records, no_turn, turn_by, turn_at, not_some}
use Rattle.htl_runs.specs.lists.RecordEffects.{with_records}
use Rattle.htl_runs.proofs.instants.FirstRecords.{no_list}

-- records that finish nothing change nothing
run_nothing : (t : Tables) (jobs : List Job) (ls : List Left) → ((k : ℕ) (l : Left) → slice_get ls k ≡ Some l → l.finished ≡ false) → (n k : ℕ) (w : Content) → run_records t jobs ls n k w ≡ w
run_nothing t jobs ls h zero k w = refl
run_nothing t jobs ls h (suc n) k w = run_nothing t jobs ls h n (suc k) (complete_by t jobs (slice_get ls k) w) ∙ by_record (slice_get ls k) refl
  where
    by_record : (o : Option Left) → slice_get ls k ≡ o → complete_by t jobs o w ≡ w
    by_record None e = refl
    by_record (Some l) e = ap (λ b. cond b (complete_at t jobs l.position w) w) (h k l e)

nothing : {A : Type 0} (xs : List A) → length xs ≡ 0 → xs ≡ []
nothing [] e = refl
nothing (x ∷ xs) e = absurd (omega (arith, e))

-- the S machine that stands in no list
pub stands_nowhere : (d : ℕ) (r : Round) → SMachineAt no_list 0 0 d r → r ≡ no_round
stands_nowhere d r at = grind (arith, nothing)

-- a run without modules leaves no record
pub records_nothing : (t : Tables) (schedules : List (List SInstr)) (es : List Event) → hyper t ≡ None → (now : ℕ) (w : Content) → with_records t (turn_at t schedules es) now w ≡ w
records_nothing t schedules es none zero w = refl
records_nothing t schedules es none (suc n) w = grind (arith, run_nothing, not_some)
