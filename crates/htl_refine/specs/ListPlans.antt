-- One list of a frame: the positions so far, and the point at which the list begins.
use Rattle.htl_refine.specs.{Common.ℕ, Common.List, Common.[], Common.length, Common.take, Common.get_or, Common.Job, Common.SInstr, FrameRuns.Frame, FrameRuns.walks_of}
use Rattle.htl_walk.specs.{Paths.Leg, Paths.no_leg, Paths.end_to_end, Paths.path_point_at, Walk.Point, Walk.Left, Walk.walk_from}

-- the leg of list j
abbrev pub leg_at : Frame → ℕ → Leg
leg_at f j = get_or f.legs j no_leg

-- the point of the frame's walk at which list j begins
abbrev pub list_start : Frame → ℕ → Point
list_start f j = path_point_at f.jobs f.lengths f.lists f.legs j 0

-- of the first n positions
abbrev pub front_of : ℕ → Point → Point
front_of n x = record { time = x.time; left = take n x.left }

-- what the processor knows of a list: the positions whose rounds have begun, and no further ones
pub record ListPlan : Type 0 where
  pub jobs : List Job
  pub lengths : List ℕ
  pub first : Point
  pub schedule : List SInstr

abbrev pub list_plan : Frame → ℕ → ListPlan
list_plan f j =
    let n = (leg_at f j).known in
    record { jobs = take n f.jobs; lengths = take n f.lengths; first = front_of n (list_start f j); schedule = get_or f.lists j [] }

abbrev pub list_walk : ListPlan → List Left
list_walk p = walk_from p.jobs p.schedule p.first

-- how many records the lists before list j have
abbrev pub records_before : Frame → ℕ → ℕ
records_before f j = length (end_to_end (take j (walks_of f)))
