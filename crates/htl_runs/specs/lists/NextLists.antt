-- Where a list begins, and which: by the list before it and the modes at that instant.
use Rattle.std.specs.Prelude.{◌≡◌, ℕ, suc, ◌+◌, ◌*◌, ◌%◌, pred, cond, eqb, List, drop, Option}
use Rattle.htl_runs.specs.{Common.Event, Common.frame_of, Common.starts, Common.Tables, Common.SInstr, Common.choice_of, Common.nodes_below, Common.modes_at, Common.IsFeasibleRun, lists.RunLists.list_turn}
use Rattle.htl_runs.specs.frames.RoundStarts.{some_round_begins}

-- the number in its frame of the list that begins, where that of the list before it was this
abbrev pub next_list : Tables → ℕ → ℕ → ℕ
next_list t at list = cond (eqb (at % frame_of t) 0) 0 (suc list)

-- the node whose list begins, where the node whose list ran, and the number of its list, were these
abbrev pub next_node : Tables → List (Option ℕ) → ℕ → ℕ → ℕ → ℕ
next_node t modes at node list =
    let a = at % frame_of t in
    cond (eqb a 0) 0 (suc node) + choice_of t modes a * suc (nodes_below t (drop (suc (next_list t at list)) (starts t)))

-- the list that stands at an instant is the one that comes after that of the instant before
pub record NextListStands (t : Tables) (lists : List (List SInstr)) (es : List Event) (at : ℕ) : Type 0 where
  pub list : (list_turn t lists es at).list ≡ next_list t at (list_turn t lists es (pred at)).list
  pub node : (list_turn t lists es at).node ≡ next_node t (modes_at t es at) at (list_turn t lists es (pred at)).node (list_turn t lists es (pred at)).list

-- a list begins exactly where a round of some root module does, and it is the next
abbrev pub ListsBegin : Type 0
ListsBegin =
    (t : Tables) (lists : List (List SInstr)) (es : List Event) → IsFeasibleRun t lists es → (at : ℕ)
    → (some_round_begins t at ≡ eqb ((list_turn t lists es at).frame + (list_turn t lists es at).from) at)
    × ((list_turn t lists es at).frame + (list_turn t lists es at).from ≡ at → NextListStands t lists es at)
