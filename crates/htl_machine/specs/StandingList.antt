-- The list that stands, as the code keeps it, and the one that comes after it.
use Rattle.htl_machine.specs.{Common.ℕ, Common.List, Common.[], Common.get_or, Common.Option, Common.Some, Common.None, Common.Tables, Common.SInstr, Common.Schedule, declared.numbering.ListAt.ListAt}
use Rattle.htl_runs.specs.{lists.StandingLists.Turn, lists.NextLists.next_list, lists.NextLists.next_node, lists.ListLengths.instrs_of}

-- its node, and its number in the frame; 0 where none stands
abbrev pub node_by : Option ListAt → ℕ
node_by (Some l) = l.node
node_by None = 0

abbrev pub number_by : Option ListAt → ℕ
number_by (Some l) = l.number
number_by None = 0

-- the instructions of its node; where none stands, these
abbrev pub instrs_by : List Schedule → List SInstr → Option ListAt → List SInstr
instrs_by schedules idle (Some l) = get_or (instrs_of schedules) l.node []
instrs_by schedules idle None = idle

-- that of a turn
abbrev pub turn_list : Turn → ListAt
turn_list u = record { node = u.node; number = u.list }

-- the list that begins behind one, where the modules are in these modes
abbrev pub next_at : Tables → List (Option ℕ) → ℕ → Option ListAt → ListAt
next_at t modes at last = record { node = next_node t modes at (node_by last) (number_by last); number = next_list t at (number_by last) }
