-- A command on an object by its answer, as the proofs of its rows see it.
use Rattle.std.specs.Prelude.{ℕ, ◌⊎◌, Option, List}
use Rattle.htl_open.specs.{Files.Files, Objects.IsAcceptedFile, Objects.IsRefusedFile, Stops.IsShelfCause}
use Rattle.htl_top.specs.{Answers.Streams, Answers.IsUntouched, declared.outcome.Outcome.Outcome}
use Rattle.htl_object.specs.declared.object.Object.{Object}
use Rattle.htl_top.specs.declared.outcome.Outcome.TheVariants.{Object as Refused, Shelf, Memory}

-- why no accepted object was had, answer by answer
abbrev pub IsStopped : Option (List ℕ) → Files → Outcome → Type 0
IsStopped name shelf (Refused f) = IsRefusedFile name shelf.holds f
IsStopped name shelf (Shelf why) = IsShelfCause name shelf why
IsStopped name shelf Memory = Unit {0}
IsStopped name shelf _ = ⊥

-- what is done with an accepted object, before and after, and the answer
abbrev pub Work : Type 1
Work = Object → Streams → Streams → Outcome → Type 0

-- An accepted object was had, and the command did its work; or none was had, nothing was read and nothing written.
abbrev pub IsOnObject : Work → Option (List ℕ) → Files → Streams → Streams → Outcome → Type 0
IsOnObject Does name shelf old new outcome =
    IsAcceptedFile name shelf.holds (λ o. Does o old new outcome) ⊎ (IsStopped name shelf outcome × IsUntouched old new)
