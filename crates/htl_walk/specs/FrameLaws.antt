-- The laws of frames.
use Rattle.std.specs.Prelude.{◌≡◌, ℕ, suc, ◌*◌, ◌/◌, ◌≤◌, ◌<◌, List, [], ◌∷◌, drop, get_or, length}
use Rattle.htl_model.specs.{Tables.Tables, Selections.root_modules, Frames.unit_period, Frames.frame_of, Frames.starts, Frames.paths, Frames.path_mode, Frames.nodes, Frames.node, Frames.known_by, Frames.path_places}
use Rattle.htl_walk.specs.{declared.job.Job.Job, Paths.Leg, Paths.AreChained, Fronts.KnowReleased, Fronts.IsRoundFront, Fronts.ShareFront, PathJobs.path_jobs, PathJobs.legs, PathJobs.next_of}

-- what is known in each leg is a front of whole rounds, and what isn't is released at the leg's end or later
abbrev pub AreFronts : List Job → List Leg → Type 0
AreFronts js [] = Unit {0}
AreFronts js (g ∷ gs) = IsRoundFront js g.known g.to × AreFronts js gs

-- the legs of a path follow one another over the frame
abbrev pub LegsFollow : Type 0
LegsFollow = (t : Tables) (path : ℕ) → 0 < length (root_modules t) → 0 < frame_of t → AreChained 0 (frame_of t) (length (path_jobs t path)) (legs t path)

abbrev pub LegsKnow : Type 0
LegsKnow = (t : Tables) (path : ℕ) → KnowReleased (path_jobs t path) (legs t path)

abbrev pub LegsAreFronts : Type 0
LegsAreFronts = (t : Tables) (path : ℕ) → AreFronts (path_jobs t path) (legs t path)

-- at start j the leg of a path: from the start to the next one or the frame's end
abbrev pub start_at : Tables → ℕ → ℕ
start_at t j = get_or (starts t) j 0

abbrev pub start_end_at : Tables → ℕ → ℕ
start_end_at t j = next_of (frame_of t) (drop (suc j) (starts t))

-- paths through one node have the same jobs as far as these have begun there
abbrev pub NodesShare : Type 0
NodesShare =
    (t : Tables) (p q j : ℕ) → p < paths t → q < paths t → j < length (starts t) → node t p j ≡ node t q j
    → (known_by (start_at t j) (path_places t p) ≡ known_by (start_at t j) (path_places t q)) × ShareFront (path_jobs t p) (path_jobs t q) (known_by (start_at t j) (path_places t p)) (start_end_at t j)

-- a path's nodes are among those that there are
abbrev pub NodesWithin : Type 0
NodesWithin = (t : Tables) (p j : ℕ) → p < paths t → j < length (starts t) → node t p j < nodes t

-- equal numbers are those of one node: they come at the same start alone, where all modules have had the same modes up to there
pub record IsOneNode (t : Tables) (p q i j : ℕ) : Type 0 where
  pub start : i ≡ j
  pub modes : (k u : ℕ) → k ≤ i → path_mode t p k u ≡ path_mode t q k u

abbrev pub NodesDiffer : Type 0
NodesDiffer =
    (t : Tables) (p q i j : ℕ) → p < paths t → q < paths t → i < length (starts t) → j < length (starts t) → node t p i ≡ node t q j → IsOneNode t p q i j

-- each number below that of the nodes is the number of a path's node
abbrev pub NodesReached : Type 0
NodesReached = (t : Tables) (n : ℕ) → 0 < paths t → n < nodes t → (path : ℕ) × (j : ℕ) × (path < paths t) × (j < length (starts t)) × (node t path j ≡ n)

-- a module's mode at a start is that of its last round that has begun: it is the mode at the start of that round
abbrev pub ModesStay : Type 0
ModesStay = (t : Tables) (path i j u : ℕ) → start_at t i ≡ start_at t j / unit_period t u * unit_period t u → path_mode t path j u ≡ path_mode t path i u
