-- A run, list by list: the list of its frame that stands at an instant.
use Rattle.std.specs.Prelude.{ℕ, suc, ◌-◌, cond, leb, pred, List, [], ◌∷◌, take, Option, Some, None}
use Rattle.htl_runs.specs.{Common.Event, Common.Tables, Common.SInstr, Common.leg_at, Common.list_plan, Common.IsFeasibleRun, frames.FramePlaces.frame_start}
use Rattle.htl_model.specs.Frames.{hyper, starts, node}
use Rattle.htl_walk.specs.Paths.{end_to_end}
use Rattle.htl_refine.specs.FrameRuns.{frame_modes, path_of, frame_at, walks_of}
use Rattle.htl_runs.specs.lists.StandingLists.{Turn, AreTurns, AreListed}

-- list j of the frame from f
abbrev pub turn_of : Tables → List (List SInstr) → List Event → ℕ → ℕ → Turn
turn_of t lists es f j =
    let p = frame_at t lists es f in
    record {
      frame = f;
      list = j;
      from = (leg_at p j).from;
      to = (leg_at p j).to;
      node = node t (path_of t (frame_modes t es f)) j;
      plan = list_plan p j;
      earlier = end_to_end (take j (walks_of p));
    }

-- how many of these starts, one after another, are at an offset or before it
abbrev pub begun_of : ℕ → List ℕ → ℕ
begun_of d [] = 0
begun_of d (a ∷ later) = cond (leb a d) (suc (begun_of d later)) 0

-- the number of the last one
abbrev pub list_number : ℕ → List ℕ → ℕ
list_number d from = pred (begun_of d from)

-- the list that stands at an instant
abbrev pub list_turn : Tables → List (List SInstr) → List Event → ℕ → Turn
list_turn t lists es n = let f = frame_start t n in turn_of t lists es f (list_number (n - f) (starts t))

-- without modules there is none
abbrev pub no_turn : Turn
no_turn = record { frame = 0; list = 0; from = 0; to = 0; node = 0; plan = record { jobs = []; lengths = []; first = record { time = 0; left = [] }; schedule = [] }; earlier = [] }

abbrev pub turn_by : Option ℕ → Tables → List (List SInstr) → List Event → ℕ → Turn
turn_by None t lists es n = no_turn
turn_by (Some h) t lists es n = list_turn t lists es n

abbrev pub turn_at : Tables → List (List SInstr) → List Event → ℕ → Turn
turn_at t lists es n = turn_by (hyper t) t lists es n

-- where the lists are feasible for every path, whatever the modes and whatever the jobs take: at each instant one list stands, whose
-- records are those of its frame so far, and it goes on, or it is over and the next begins
abbrev pub RunsGoByLists : Type 0
RunsGoByLists = (t : Tables) (lists : List (List SInstr)) (es : List Event) → IsFeasibleRun t lists es → AreTurns t es (list_turn t lists es) × AreListed (list_turn t lists es)
