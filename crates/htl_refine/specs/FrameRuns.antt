-- A frame of a run: its path, its jobs with how long each takes, and the lists of its nodes with their legs.
use Rattle.std.specs.Prelude.{ℕ, zero, suc, ◌+◌, ◌*◌, List, [], ◌∷◌, ◌++◌, map, Option}
use Rattle.htl_refine.specs.{Common.Event, Common.Place, Common.Tables, Common.Job, Common.SInstr, Common.Left, ConcreteJobs.running_invs, DerivedPaths.derived_jobs, Records.lengths_of, Records.modes_at, Roots.entry_place}
use Rattle.htl_model.specs.{declared.frame.Round.Round, Frames.frame_of, Frames.starts, Frames.rounds_at, Frames.rounds, Frames.choices, Frames.nodes_of, Frames.places_of}
use Rattle.htl_walk.specs.{Feasible.lists_of, PathJobs.legs_of, Paths.Leg, Paths.walk_path, Paths.end_to_end}

-- ---- the path, by the modes in which the modules are at each start

-- those at a start of the frame from f
abbrev pub frame_modes : Tables → List Event → ℕ → ℕ → List (Option ℕ)
frame_modes t es f a = modes_at t es (f + a)

-- the number of the path, by mixed radix over the rounds: the first is the most significant place
abbrev pub path_in : Tables → (ℕ → List (Option ℕ)) → List Round → ℕ
path_in t modes [] = 0
path_in t modes (r ∷ rs) = entry_place t (modes r.at) r.unit * choices t rs + path_in t modes rs

abbrev pub path_of : Tables → (ℕ → List (Option ℕ)) → ℕ
path_of t modes = path_in t modes (rounds t)

-- the choice of modes at a start
abbrev pub choice_at : Tables → (ℕ → List (Option ℕ)) → ℕ → ℕ
choice_at t modes a = path_in t modes (rounds_at t a)

-- how many nodes there are below a node, behind whose start these come
abbrev pub nodes_below : Tables → List ℕ → ℕ
nodes_below t later = nodes_of (map (λ a. choices t (rounds_at t a)) later)

-- the node after start j of these
abbrev pub node_read : Tables → (ℕ → List (Option ℕ)) → List ℕ → ℕ → ℕ
node_read t modes [] j = 0
node_read t modes (a ∷ later) zero = choice_at t modes a * suc (nodes_below t later)
node_read t modes (a ∷ later) (suc j) = choice_at t modes a * suc (nodes_below t later) + suc (node_read t modes later j)

-- ---- the jobs

-- the root invocations of the rounds, by start, then module, then source order
abbrev pub running_places : Tables → (ℕ → List (Option ℕ)) → List Round → List Place
running_places t modes [] = []
running_places t modes (r ∷ rs) = places_of r.at (running_invs t (modes r.at) r.unit) ++ running_places t modes rs

abbrev pub frame_places : Tables → (ℕ → List (Option ℕ)) → List Place
frame_places t modes = running_places t modes (rounds t)

-- the jobs of what stands at them, in the modes of their round's start
abbrev pub frame_jobs : Tables → (ℕ → List (Option ℕ)) → List Job
frame_jobs t modes = derived_jobs t modes (frame_places t modes)

-- ---- the frame

-- what the processor is given in a frame: the jobs, how long each takes, and the lists of the path's nodes with their legs
pub record Frame : Type 0 where
  pub jobs : List Job
  pub lengths : List ℕ
  pub lists : List (List SInstr)
  pub legs : List Leg

-- the frame from f of a run, by the lists of the nodes
abbrev pub frame_at : Tables → List (List SInstr) → List Event → ℕ → Frame
frame_at t lists es f =
    let modes = frame_modes t es f in
    let jobs = frame_jobs t modes in
    record {
      jobs = jobs;
      lengths = lengths_of t es f jobs;
      lists = lists_of t lists (path_of t modes);
      legs = legs_of (frame_of t) (frame_places t modes) (starts t);
    }

-- the records of each of its lists, and all of them end to end
abbrev pub walks_of : Frame → List (List Left)
walks_of p = walk_path p.jobs p.lengths p.lists p.legs

abbrev pub walk_of : Frame → List Left
walk_of p = end_to_end (walks_of p)
