-- A machine that goes through the lists of a path, one after another: `start` with the positions that the first leg knows, then `run_to`
-- until the list is over, then `add` with those that the next leg knows further, and so on.
use Rattle.std.specs.Prelude.{◌≡◌, ℕ, zero, suc, ◌+◌, ◌≤◌, ◌<◌, false, List, [], ◌++◌, length, get_or, take, drop, map, is_some}
use Rattle.htl_walk.specs.{declared.job.Job.Job, declared.schedule.SInstr.SInstr, Paths.Leg, Paths.no_leg, Paths.walk_path, Paths.end_to_end, Paths.AreInForm, Paths.AreChained, Refinement.HaveLengths, Walk.finish}
use Rattle.htl_smach.specs.{declared.left.Left.Left, Order.after_all, Order.answers, Rounds.Round, Rounds.round_begun, Rounds.added, Rounds.told_from, Rounds.was_finished}

-- what the machine is given
pub record PathRun : Type 0 where
  -- the instant of `start`
  pub start : ℕ
  -- of all positions of the path
  pub jobs : List Job
  pub lengths : List ℕ
  pub lists : List (List SInstr)
  pub legs : List Leg
  -- for each list the instants until which it is asked to go on
  pub untils : List (List ℕ)

abbrev pub leg_at : PathRun → ℕ → Leg
leg_at u j = get_or u.legs j no_leg

abbrev pub list_at : PathRun → ℕ → List SInstr
list_at u j = get_or u.lists j []

abbrev pub untils_at : PathRun → ℕ → List ℕ
untils_at u j = get_or u.untils j []

-- the machine where list j begins
abbrev pub list_begun : PathRun → ℕ → Round
list_begun u zero = let m = (leg_at u 0).known in round_begun u.start (take m u.jobs) (take m u.lengths)
list_begun u (suc j) =
    let r = after_all (list_begun u j) (list_at u j) (untils_at u j) in
    let n = (leg_at u j).known in
    let g = leg_at u (suc j) in
    added r (r.start + g.from) (drop n (take g.known u.jobs)) (drop n (take g.known u.lengths))

-- the answers of list j, and of the lists before it, one behind another
abbrev pub list_answers : PathRun → ℕ → List Left
list_answers u j = answers (list_begun u j) (list_at u j) (untils_at u j)

abbrev pub answers_before : PathRun → ℕ → List Left
answers_before u zero = []
answers_before u (suc j) = answers_before u j ++ list_answers u j

-- list j is over once it was asked
abbrev pub IsOver : PathRun → ℕ → Type 0
IsOver u j = (after_all (list_begun u j) (list_at u j) (untils_at u j)).running ≡ false

-- the path's walk, list by list, told by instants
abbrev pub told_path : PathRun → List (List Left)
told_path u = map (told_from u.start 0) (walk_path u.jobs u.lengths u.lists u.legs)

-- the lists keep their form, and each leg begins where the one before it ends and knows what that knows
pub record IsPath (u : PathRun) : Type 0 where
  pub end : ℕ
  pub forms : AreInForm u.lists u.legs
  pub chain : AreChained 0 end (length u.jobs) u.legs
  pub more : (j : ℕ) → suc j < length u.legs → (leg_at u j).known ≤ (leg_at u (suc j)).known
  pub lengths : length u.lengths ≡ length u.jobs

-- where the lists before list j are over, the answers are the path's records: those of these lists, all of them and in order, and of list j
-- the first so many, all of them once it is over too
pub record ArePathRecords (u : PathRun) (j : ℕ) : Type 0 where
  pub before : answers_before u j ≡ end_to_end (take j (told_path u))
  pub front : (k : ℕ) × (list_answers u j ≡ take k (get_or (told_path u) j []))
  pub whole : IsOver u j → list_answers u j ≡ get_or (told_path u) j []

abbrev pub PathRecords : Type 0
PathRecords = (u : PathRun) (j : ℕ) → IsPath u → j < length u.legs → ((i : ℕ) → i < j → IsOver u i) → ArePathRecords u j

-- that the lists before list j finished a position is told by a record of theirs
abbrev pub FinishedBefore : Type 0
FinishedBefore =
    (u : PathRun) (j p : ℕ) → IsPath u → HaveLengths u.jobs u.lengths → j < length u.legs → ((i : ℕ) → i < j → IsOver u i) → p < (leg_at u j).known
    → was_finished (list_begun u j) p ≡ is_some (finish (end_to_end (take j (walk_path u.jobs u.lengths u.lists u.legs))) p)
