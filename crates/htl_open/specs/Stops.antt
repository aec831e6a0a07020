-- Why a file isn't had, and why no accepted object is, answer by answer.
use Rattle.std.specs.Prelude.{ℕ, Option, List}
use Rattle.htl_base.specs.declared.limits.TheConstants.{MAX_OBJECT}
use Rattle.htl_open.specs.{Files.Files, Files.IsFaultOf, Files.IsLongFile, Objects.IsRefusedFile, Objects.IsObjectTables, Objects.SpeaksOfObject, declared.stop.FetchStop.FetchStop, declared.stop.OpenStop.OpenStop}
use Rattle.htl_open.specs.declared.stop.FetchStop.TheVariants as fetch
use Rattle.htl_open.specs.declared.stop.OpenStop.TheVariants as open_stop
use Rattle.htl_open.specs.{declared.stop.ShelfCause.ShelfCause, declared.stop.ShelfCause.TheVariants.Failed, declared.stop.ShelfCause.TheVariants.TooLong}

-- the shelf counted a fault of the name, or has more than 16,777,216 bytes under it
abbrev pub IsShelfCause : Option (List ℕ) → Files → ShelfCause → Type 0
IsShelfCause name shelf Failed = IsFaultOf name shelf.before shelf.after
IsShelfCause name shelf (TooLong seen) = IsLongFile MAX_OBJECT name shelf.holds seen

-- why a file wasn't fetched
abbrev pub IsFetchStop : Option (List ℕ) → Files → FetchStop → Type 0
IsFetchStop name shelf (fetch.Shelf why) = IsShelfCause name shelf why
IsFetchStop name shelf fetch.Memory = Unit {0}

-- why no accepted object was had: the shelf didn't give the file, or its bytes are refused for a fault, whose line speaks of these tables
abbrev pub IsUnopened : Option (List ℕ) → Files → OpenStop → Type 0
IsUnopened name shelf (open_stop.Shelf why) = IsShelfCause name shelf why
IsUnopened name shelf (open_stop.Object f tables) = IsRefusedFile name shelf.holds f × SpeaksOfObject (IsObjectTables name shelf.holds) f tables
IsUnopened name shelf open_stop.Memory = Unit {0}
