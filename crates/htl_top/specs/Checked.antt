-- What `check` answers of an accepted object.
use Rattle.std.specs.Prelude.{ℕ, zero, suc, max, List, length, ◌++◌, codes, decimal}
use Rattle.htl_model.specs.{Frames.paths, Frames.path_places, Tables.Tables}

-- the greatest number of positions of a path below a number; 0 without one
abbrev pub most_positions_below : Tables → ℕ → ℕ
most_positions_below t zero = 0
most_positions_below t (suc n) = max (most_positions_below t n) (length (path_places t n))

-- `accepted selections N positions P`: the number of paths through a frame, and the greatest number of positions of one
abbrev pub check_text : Tables → List ℕ
check_text t = codes "accepted selections " ++ decimal (paths t) ++ codes " positions " ++ decimal (most_positions_below t (paths t)) ++ codes "\n"
