-- The S machine over an instant: which records it answers, when a list is over, and where it stands afterwards.
use Rattle.std.proofs.Common.{◌≡◌, ℕ, zero, suc, ◌+◌, ◌-◌, ◌≤◌, ◌<◌, Bool, true, false, cond, ◌&&◌, leb, ltb, List, [], ◌∷◌, length, slice_get, replicate, Option, Some, None, option_map, refl, sym, ap, ap₂, ◌∙◌, arith}
use Rattle.htl_runs.proofs.Words.{lt-ltb, le-ltb, le-leb, nat_tests, Job, Point, Left, walk_from, InForm, Round, told, told_from, walk_records, next_left, left_until, moved, count_left_before, Plan, list_walk, released_before, SMachineStands, SMachineAt, times_within, count_all, length-walk, none_below}
use Rattle.htl_smach.specs.Rounds as rounds
use Rattle.htl_runs.proofs.records.DoneBefore.{at_count, before_count}

pub told_get : (start m : ℕ) (ls : List Left) (k : ℕ) → slice_get (told_from start m ls) k ≡ option_map (told start (m + k)) (slice_get ls k)
told_get start m [] k = refl
told_get start m (l ∷ ls) zero = ap (λ z. Some (told start z l)) (let e : m ≡ m + 0 = omega arith in e)
told_get start m (l ∷ ls) (suc k) = told_get start (suc m) ls k ∙ ap (λ z. option_map (told start z) (slice_get ls k)) (let e : suc m + k ≡ m + suc k = omega arith in e)

pub record_there : (ls : List Left) (k : ℕ) → k < length ls → (l : Left) × (slice_get ls k ≡ Some l)
record_there [] k h = absurd (omega arith)
record_there (l ∷ ls) zero h = (l, refl)
record_there (l ∷ ls) (suc k) h = record_there ls k (omega arith)

pub count_within : (e : ℕ) (ls : List Left) → count_left_before e ls ≤ length ls
count_within e [] = omega arith
count_within e (l ∷ ls) = grind (arith, count_within e ls)

module _ (p : Plan) (s now d : ℕ) (past : s ≤ now) where
  abbrev pub ls : List Left
  ls = list_walk p

  record_of : (k : ℕ) (r : Round) → SMachineAt p s k d r → slice_get (walk_records r p.schedule) r.place ≡ option_map (told s k) (slice_get ls k)
  record_of k r at = grind (arith, told_get)

  -- while records are left up to the instant, the next is answered
  pub next_some : (k : ℕ) (r : Round) → SMachineAt p s k d r → k < count_left_before (suc now - s) ls → (l : Left) × (slice_get ls k ≡ Some l) × (next_left r p.schedule now ≡ Some (told s k l))
  next_some k r at h =
      let few : k < length ls = omega (arith, count_within (suc now - s) ls) in
      let l = record_there ls k few in
      let early : l.0.at < suc now - s = before_count (suc now - s) ls k l.0 h l.1 in
      let runs : r.running ≡ true = at.running ∙ lt-ltb k (length p.schedule) (omega (arith, length-walk p.jobs p.schedule p.first)) in
      let within : leb (s + l.0.at) now ≡ true = le-leb (s + l.0.at) now (omega (arith, early)) in (
        l.0,
        l.1,
        ap (λ b. cond b (left_until now (slice_get (walk_records r p.schedule) r.place)) None) runs
            ∙ ap (left_until now) (record_of k r at ∙ ap (option_map (told s k)) l.1) ∙ ap (λ b. cond b (Some (told s k l.0)) None) within,
      )

  -- and then none
  pub next_none : (k : ℕ) (r : Round) → SMachineAt p s k d r → k ≡ count_left_before (suc now - s) ls → next_left r p.schedule now ≡ None
  next_none k r at e =
      ap (λ o. cond r.running (left_until now o) None) (record_of k r at) ∙ by_record (slice_get ls k) refl r.running
    where
      by_record : (o : Option Left) → slice_get ls k ≡ o → (b : Bool) → cond b (left_until now (option_map (told s k) o)) None ≡ None
      by_record o f false = refl
      by_record None f true = refl
      by_record (Some l) f true =
          let late : suc now - s ≤ l.at = at_count (suc now - s) ls l (sym (ap (slice_get ls) e) ∙ f) in
          ap (λ b. cond b (Some (told s k l)) None) (late_test (s + l.at) now (omega (arith, late, past)))
        where
          late_test : (a b : ℕ) → b < a → leb a b ≡ false
          late_test a b h = grind (arith, nat_tests)

  -- a record that was answered moves it on
  pub moves_on : (k : ℕ) (r : Round) → SMachineAt p s k d r → rounds.Stands (moved r p.schedule) p.schedule → SMachineAt p s (suc k) d (moved r p.schedule)
  moves_on k r at st = grind arith

-- before the instant it stands at the records before it
pub s_machine_opens : (p : Plan) (s now : ℕ) (r : Round) → SMachineStands p s now r → SMachineAt p s (count_left_before (now - s) (list_walk p)) (now - s) r
s_machine_opens p s now r f = grind arith

-- and once all records of it are given and all releases told, it stands before the next
pub s_machine_closes : (p : Plan) (s now : ℕ) (r : Round) → SMachineAt p s (count_left_before (suc now - s) (list_walk p)) (suc now - s) r → SMachineStands p s (suc now) r
s_machine_closes p s now r at = grind arith

-- ---- a list is over at its end

-- then all its records are given
pub all_given : (p : Plan) (s now count period : ℕ) → InForm count period p.schedule → p.first.time ≤ period → now ≡ s + period → count_left_before (suc now - s) (list_walk p) ≡ length p.schedule
all_given p s now count period form early e = grind (arith, count_all, times_within, length-walk)

pub not_running : (p : Plan) (s d : ℕ) (r : Round) → SMachineAt p s (length p.schedule) d r → r.running ≡ false
not_running p s d r at = at.running ∙ le-ltb (length p.schedule) (length p.schedule) (omega arith)

-- ---- a frame begins

pub none_released : (js : List Job) → replicate (length js) false ≡ released_before 0 js
none_released [] = refl
none_released (j ∷ js) = grind (arith, none_below, none_released js)
