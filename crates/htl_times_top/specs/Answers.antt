-- What the call answers, and what stands for it.
use Rattle.std.specs.Prelude.{ℕ, ◌≡◌, ◌⊎◌, ◌<◌, List, [], ◌∷◌, length, map, get_or, Option, Some, None}
use Rattle.std.specs.{Borrow.Bor, Io.KnownBytes.append_known}
use Rattle.htl_edge.specs.{Causes.Rose, Content.AppendsPrefix}
use Rattle.htl_model.specs.Tables.{Tables}
use Rattle.htl_object.specs.declared.object.Object.{Object as ObjectOf}
use Rattle.htl_open.specs.{Files.Files, Objects.IsAcceptedFile, Objects.IsRefusedFile, Objects.SpeaksOfObject, Stops.IsShelfCause, declared.stop.OpenStop.OpenStop}
use Rattle.htl_open.specs.declared.stop.OpenStop.TheVariants as stop
use Rattle.htl_times.specs.{Busy.IsBusiestOf, Laws.AreNoLater, Response.IsLatestOf, declared.greatest.Greatest.Greatest}
use Rattle.htl_times_top.specs.{Texts.times_text, declared.outcome.Outcome.Outcome}
use Rattle.htl_times_top.specs.declared.outcome.Outcome.TheVariants.{Done, Usage, Object, Shelf, Write, Memory}
use Rattle.htl_walk.specs.NodeWalks.{instrs_of}

-- the words are the name of one file
abbrev pub object_named : List (List ℕ) → Option (List ℕ)
object_named (name ∷ []) = Some name
object_named [] = None
object_named (first ∷ second ∷ more) = None

-- as a call is given them
abbrev pub object_in : List (Bor (List ℕ)) → Option (List ℕ)
object_in words = object_named (map (λ (w : Bor (List ℕ)). w.now) words)

-- ---- the text

-- The rows of an object's invocations, and its busiest path: each row has the latest finish of its invocation over all paths, with the
-- first path where it is, and no run has a job later.
pub record AreTimes (o : ObjectOf) (rows : List (Option Greatest)) (busiest : Option Greatest) : Type 0 where
  pub count : length rows ≡ length o.tables.invs
  pub latest : (i : ℕ) → i < length rows → IsLatestOf o.tables (instrs_of o.schedules) i (get_or rows i None)
  pub no_later : AreNoLater o.tables (instrs_of o.schedules) rows
  pub busy : IsBusiestOf o.tables busiest

-- the fact holds of the text of the latest finishes of an object
pub record HasTimes (o : ObjectOf) (Fact : List ℕ → Type 0) : Type 0 where
  pub rows : List (Option Greatest)
  pub busiest : Option Greatest
  pub are : AreTimes o rows busiest
  pub fact : Fact (times_text o.tables rows busiest)

-- ---- the answers

-- the text of an accepted object is written, or a prefix of it; or nothing, since no memory was left
abbrev pub IsTold : ObjectOf → Option (List ℕ) → Option (List ℕ) → ℕ → ℕ → Outcome → Type 0
IsTold o old new before now Done = HasTimes o (λ text. new ≡ append_known old text)
IsTold o old new before now Write = Rose before now × HasTimes o (λ text. AppendsPrefix old new text)
IsTold o old new before now Memory = new ≡ old
IsTold o old new before now Usage = ⊥
IsTold o old new before now (Object f) = ⊥
IsTold o old new before now (Shelf why) = ⊥

-- the words name a file
abbrev pub IsNamed : Option (List ℕ) → Type 0
IsNamed name = (word : List ℕ) × (name ≡ Some word)

-- each answer, with its cause and what was written
abbrev pub IsTimes : Option (List ℕ) → Files → Option (List ℕ) → Option (List ℕ) → ℕ → ℕ → Outcome → Type 0
IsTimes name shelf old new before now Done = IsAcceptedFile name shelf.holds (λ o. HasTimes o (λ text. new ≡ append_known old text))
IsTimes name shelf old new before now Write = Rose before now × IsAcceptedFile name shelf.holds (λ o. HasTimes o (λ text. AppendsPrefix old new text))
IsTimes name shelf old new before now Memory = IsNamed name × (new ≡ old)
IsTimes name shelf old new before now Usage = (name ≡ None) × (new ≡ old)
IsTimes name shelf old new before now (Object f) = IsRefusedFile name shelf.holds f × (new ≡ old)
IsTimes name shelf old new before now (Shelf why) = IsNamed name × IsShelfCause name shelf why × (new ≡ old)

-- this answer, or Memory
abbrev pub IsOrMemory : Outcome → Outcome → Type 0
IsOrMemory result wanted = (result ≡ wanted) ⊎ (result ≡ Memory)

-- ---- an object that isn't had

-- as an answer
abbrev pub unopened_as : OpenStop → Outcome
unopened_as (stop.Shelf why) = Shelf why
unopened_as (stop.Object f t) = Object f
unopened_as stop.Memory = Memory

-- the tables that its line speaks of
abbrev pub tables_unopened : OpenStop → Option Tables
tables_unopened (stop.Object f t) = t
tables_unopened (stop.Shelf why) = None
tables_unopened stop.Memory = None

-- The tables that the line of an answer speaks of: those of the object, where they break a form rule.
abbrev pub SpeaksOf : ((Tables → Type 0) → Type 0) → Outcome → Option Tables → Type 0
SpeaksOf HasObject (Object f) tables = SpeaksOfObject HasObject f tables
SpeaksOf HasObject Done tables = Unit {0}
SpeaksOf HasObject Usage tables = Unit {0}
SpeaksOf HasObject (Shelf why) tables = Unit {0}
SpeaksOf HasObject Write tables = Unit {0}
SpeaksOf HasObject Memory tables = Unit {0}
