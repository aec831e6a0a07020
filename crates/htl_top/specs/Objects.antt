-- What a command on an object comes to.
use Rattle.std.specs.Prelude.{ℕ, ◌≡◌, Option, List, Ok, Err}
use Rattle.htl_open.specs.{Files.Files, Objects.IsAcceptedFile, Stops.IsUnopened}
use Rattle.htl_edge.specs.{Content.Puts, declared.Failed.Failed}
use Rattle.htl_top.specs.{Common.Object, Answers.Streams, Stops.Came, Stops.Ended, Stops.object_as, Stops.write_as, declared.stop.OnObject.OnObject, declared.outcome.Outcome.Outcome}
use Rattle.htl_top.specs.declared.stop.OnObject.TheVariants as on

-- What a command on an object came to: an accepted object was had, and this was done with it, to its end or to a stop; or none was had, and
-- this stays.
abbrev pub IsOnFile : {A : Type 0} → (Object → Ended A → Type 0) → Type 0 → Option (List ℕ) → Files → Ended (OnObject A) → Type 0
IsOnFile Does Stays name shelf (Ok done) = IsAcceptedFile name shelf.holds (λ o. Does o (Ok done))
IsOnFile Does Stays name shelf (Err (on.Work stop)) = IsAcceptedFile name shelf.holds (λ o. Does o (Err stop))
IsOnFile Does Stays name shelf (Err (on.Open stop)) = IsUnopened name shelf stop × Stays

-- A command wrote a text of an accepted object, or a prefix of it; or none was had, and nothing was written.
abbrev pub IsTextOnObject : (Object → List ℕ) → Option (List ℕ) → Files → Option (List ℕ) → Option (List ℕ) → ℕ → ℕ → Ended (OnObject Failed) → Type 0
IsTextOnObject text name shelf old new before now r = IsOnFile (λ o s. Puts old new before now (text o) s) (new ≡ old) name shelf r

-- and nothing is read
abbrev pub IsTextCall : (Object → List ℕ) → Option (List ℕ) → Files → Streams → Streams → Outcome → Type 0
IsTextCall text name shelf old new outcome =
    (new.rest ≡ old.rest) × Came (object_as write_as) (IsTextOnObject text name shelf old.written new.written old.write_faults new.write_faults) outcome
