-- The laws of objects and their bytes.
use Rattle.std.specs.Prelude.{◌≡◌, ◌↔◌, ◌<◌, ℕ, List, [], get_or, None, Ok}
use Rattle.htl_model.specs.{Broken.KeptTo, Broken.KeepsLimits, Selections.selection_count, Selections.round_length}
use Rattle.htl_object.specs.{Common.frame_limit, Common.nodes, Common.AreInRange, Common.Tables, Common.AreFeasible, Common.SInstr, Files.first_bad, Objects.object_bytes, Objects.object_in, Objects.IsObject, Reading.IsBytes}
use Rattle.htl_object.specs.declared.object.Object.{Object}
use Rattle.htl_walk.specs.{EqualPeriods.RootsHaveOnePeriod, Jobs.abstract_jobs, Walk.ScheduleIsAccepted}

-- Bytes that say an object are its one spelling, and it is in range.
abbrev pub OneSpelling : Type 0
OneSpelling = (bytes : List ℕ) → IsBytes bytes → (o : Object) → object_in bytes ≡ Ok o → IsObject o × (bytes ≡ object_bytes o)

-- No two objects in range have one spelling.
abbrev pub OneObject : Type 0
OneObject = (o p : Object) → IsObject o → IsObject p → object_bytes o ≡ object_bytes p → o ≡ p

-- Bytes have no bad field exactly where some object in range has them.
abbrev pub NoBadField : Type 0
NoBadField = (bytes : List ℕ) → IsBytes bytes → (first_bad bytes ≡ None) ↔ ((o : Object) × IsObject o × (bytes ≡ object_bytes o))

-- The spelling of an object in range says that object.
abbrev pub SaysItself : Type 0
SaysItself = (o : Object) → IsObject o → object_in (object_bytes o) ≡ Ok o

-- Where all root modules have one period a frame is a round: no limit of frames is exceeded, there are as many nodes as root selections, and
-- every path accepts its lists exactly where every root selection accepts its schedule.
abbrev pub RoundsAreFrames : Type 0
RoundsAreFrames =
    (t : Tables) (lists : List (List SInstr)) → AreInRange t → KeptTo t 12 → RootsHaveOnePeriod t → KeepsLimits t
    → (frame_limit t ≡ None) × (nodes t ≡ selection_count t)
    × (((sel : ℕ) → sel < selection_count t → ScheduleIsAccepted (abstract_jobs t sel) (round_length t) (get_or lists sel [])) ↔ AreFeasible t lists)
