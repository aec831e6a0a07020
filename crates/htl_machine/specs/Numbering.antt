-- How the code keeps where a run stands in its frame: the numbers of the frame, and the jobs that it has so far.
use Rattle.std.specs.Prelude.{◌≡◌, ◌≤◌, ◌<◌, ◌*◌, ℕ, suc, true, List, Option, Some, drop, get_or, length, take}
use Rattle.htl_machine.specs.{Common.frame_of, Common.starts, Common.Tables, Common.Job, Common.choice_of, Common.new_jobs, Common.nodes_below, declared.numbering.ListAt.ListAt, declared.numbering.Numbering.Numbering}
use Rattle.htl_machine.specs.declared.path.Path.{Path}

-- the length of the frame, and how many nodes are below a node behind each start
pub record IsNumbering (t : Tables) (n : Numbering) : Type 0 where
  pub frame : n.frame ≡ frame_of t
  pub starts_are : take n.count n.starts ≡ starts t
  pub starts_many : n.count ≡ length (starts t)
  pub starts_room : length n.starts ≡ 33
  pub few : length (starts t) ≤ 32
  pub room : length n.below ≡ 32
  pub below : (j : ℕ) → j < length (starts t) → get_or n.below j 0 ≡ nodes_below t (drop (suc j) (starts t))
  pub small : (j : ℕ) → j < length (starts t) → get_or n.below j 0 ≤ 32768

-- the first list of a frame, where the modules are in these modes
abbrev pub first_list : Tables → List (Option ℕ) → ListAt
first_list t modes = record { node = choice_of t modes 0 * suc (nodes_below t (drop 1 (starts t))); number = 0 }

-- it stands, with its jobs, in the modes that were noted
pub record IsAtFirst (t : Tables) (p : Path) : Type 0 where
  pub list : p.list ≡ Some (first_list t p.modes.modes)
  pub many : p.count ≡ length (new_jobs t p.modes.modes 0 0)
  pub are : take p.count p.jobs ≡ new_jobs t p.modes.modes 0 0

-- those numbers, a mode for each module, and these jobs
pub record IsPath (t : Tables) (p : Path) (jobs : List Job) : Type 0 where
  pub numbering : IsNumbering t p.numbering
  pub modes : length p.modes.modes ≡ length t.modules
  pub few : p.count ≤ 128
  pub many : p.count ≡ length jobs
  pub are : take p.count p.jobs ≡ jobs
  pub first : p.first ≡ true → IsAtFirst t p
