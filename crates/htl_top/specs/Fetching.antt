-- Why files aren't had, stop by stop, and what is done with an object and a second file.
use Rattle.std.specs.Prelude.{ℕ, ◌⊎◌, Option, List, Ok, Err}
use Rattle.htl_open.specs.{Files.Files, Stops.IsShelfCause, Stops.IsUnopened, declared.stop.FetchStop.FetchStop, declared.stop.OpenStop.OpenStop}
use Rattle.htl_top.specs.{Files.IsHad, Files.AreFilesOf, Common.Object, Stops.Ended, declared.stop.OnObject.OnObject}
use Rattle.htl_open.specs.declared.stop.FetchStop.TheVariants as fetch
use Rattle.htl_open.specs.declared.stop.OpenStop.TheVariants as stop
use Rattle.htl_top.specs.declared.stop.OnObject.TheVariants as on

-- why two files weren't had: the shelf tells first of the first
abbrev pub AreUnhad : Option (List ℕ) → Option (List ℕ) → Files → FetchStop → Type 0
AreUnhad name second shelf (fetch.Shelf why) = IsShelfCause name shelf why ⊎ (IsHad name shelf.holds × IsShelfCause second shelf why)
AreUnhad name second shelf fetch.Memory = Unit {0}

-- Why an accepted object and a second file weren't had: the shelf tells first of the object's file, then of the second; both are had where
-- the object is refused.
abbrev pub IsUnhad : Option (List ℕ) → Option (List ℕ) → Files → OpenStop → Type 0
IsUnhad name second shelf (stop.Shelf why) = IsShelfCause name shelf why ⊎ (IsHad name shelf.holds × IsShelfCause second shelf why)
IsUnhad name second shelf (stop.Object f tables) = IsUnopened name shelf (stop.Object f tables) × IsHad second shelf.holds
IsUnhad name second shelf stop.Memory = Unit {0}

-- What a command on an object and a second file came to: both were had, the object is accepted, and this was done with both, to its end or
-- to a stop; or not, and this stays.
abbrev pub IsOnBoth : {A : Type 0} → (Object → List ℕ → Ended A → Type 0) → Type 0 → Option (List ℕ) → Option (List ℕ) → Files → Ended (OnObject A) → Type 0
IsOnBoth Does Stays name second shelf (Ok done) = AreFilesOf name second shelf.holds (λ o bytes. Does o bytes (Ok done))
IsOnBoth Does Stays name second shelf (Err (on.Work s)) = AreFilesOf name second shelf.holds (λ o bytes. Does o bytes (Err s))
IsOnBoth Does Stays name second shelf (Err (on.Open s)) = IsUnhad name second shelf s × Stays
