-- The laws of the frames of a run.
use Rattle.std.specs.Prelude.{◌≡◌, ◌<◌, ◌≤◌, ℕ, suc, ◌+◌, ◌*◌, List, length, drop, get_or, Option, Some}
use Rattle.htl_refine.specs.Common.{Event, starts, rounds, choices, node, path_places, AreInRange, IsSelection, root_period, Tables, SInstr}
use Rattle.htl_walk.specs.EqualPeriods.{HasOnePeriod}
use Rattle.htl_refine.specs.{FrameRecords.old_records, FrameRecords.new_records, FrameRuns.path_of, FrameRuns.frame_places, FrameRuns.choice_at, FrameRuns.nodes_below, FrameRuns.node_read}
use Rattle.htl_refine.specs.Records as by_rounds

-- where all root modules have one period, the records at an instant are those of the rounds
abbrev pub OneFrameRecords : Type 0
OneFrameRecords =
    (t : Tables) (period : ℕ) (lists : List (List SInstr)) (es : List Event) (now : ℕ) → AreInRange t → HasOnePeriod t period → root_period t ≡ Some period
    → (old_records t lists es now ≡ by_rounds.old_round_records t lists es now) × (new_records t lists es now ≡ by_rounds.new_round_records t lists es now)

-- the positions of the modes that run are those of one path, and there is that path
pub record IsRead (t : Tables) (modes : ℕ → List (Option ℕ)) : Type 0 where
  pub below : path_of t modes < choices t (rounds t)
  pub places : frame_places t modes ≡ path_places t (path_of t modes)

abbrev pub PathsRead : Type 0
PathsRead = (t : Tables) (modes : ℕ → List (Option ℕ)) → ((a : ℕ) → IsSelection t (modes a)) → IsRead t modes

-- the numbers of its nodes are read from the modes too
abbrev pub NodesRead : Type 0
NodesRead = (t : Tables) (modes : ℕ → List (Option ℕ)) → ((a : ℕ) → IsSelection t (modes a)) → (j : ℕ) → node t (path_of t modes) j ≡ node_read t modes (starts t) j

-- a node's number from that of the node before it
abbrev pub NodeSteps : Type 0
NodeSteps =
    (t : Tables) (modes : ℕ → List (Option ℕ)) (from : List ℕ) (j : ℕ) → suc j < length from
    → node_read t modes from (suc j) ≡ suc (node_read t modes from j) + choice_at t modes (get_or from (suc j) 0) * suc (nodes_below t (drop (suc (suc j)) from))

-- and by the modes so far alone
abbrev pub NodesAgree : Type 0
NodesAgree =
    (t : Tables) (modes later : ℕ → List (Option ℕ)) (from : List ℕ) (j : ℕ) → ((i : ℕ) → i ≤ j → modes (get_or from i 0) ≡ later (get_or from i 0)) → node_read t modes from j ≡ node_read t later from j
