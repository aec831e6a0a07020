-- A text that is told: of an accepted object by `check` and `show`, of a generated program by `bulk`.
use Rattle.std.proofs.Common.{◌≡◌, List, ℕ, Option, Ok, Err, sym, subst, inl}
use Rattle.htl_top.proofs.Vocabulary.{append_known, Rose, AppendsPrefix, Object, Tables, IsObjectTables, SpeaksOf, Files, Streams, IsBeforeRun, IsOrMemory, IsOnObject, Work, Outcome, Done, Write, Memory}
use Rattle.htl_edge.specs.{Content.Puts, declared.Failed.Failed}
use Rattle.htl_top.proofs.{ObjectAnswering.IsOfWork, ObjectAnswering.IsWork, Stops.SpeaksOf-object, Stops.answered}
use Rattle.htl_top.specs.{Objects.IsTextCall, Objects.IsTextOnObject, Stops.Came, Stops.Ended, Stops.ended_as, Stops.ended_tables, Stops.no_tables, Stops.object_as, Stops.object_tables, Stops.write_as, declared.stop.OnObject.OnObject}

-- answers to what writes alone
abbrev pub IsOfPut : Outcome → Type 0
IsOfPut Done = Unit {0}
IsOfPut Write = Unit {0}
IsOfPut Memory = Unit {0}
IsOfPut _ = ⊥

work_of_put : (outcome : Outcome) → IsOfPut outcome → IsOfWork outcome
work_of_put Done put = tt
work_of_put Write put = tt
work_of_put Memory put = tt
work_of_put _ put = absurd put

-- ---- of an object

-- its text is written, and nothing is read
abbrev pub TextOf : (Object → List ℕ) → Work
TextOf text o old new outcome = (new.rest ≡ old.rest) × Came write_as (λ r. Puts old.written new.written old.write_faults new.write_faults (text o) r) outcome

module _ (text : List ℕ) (old new : Streams) where
  abbrev Told : Ended Failed → Type 0
  Told r = Puts old.written new.written old.write_faults new.write_faults text r

  of_put : (r : Ended Failed) (outcome : Outcome) → outcome ≡ ended_as write_as r → IsOfPut outcome
  of_put (Ok done) outcome is = subst IsOfPut (sym is) tt
  of_put (Err failed) outcome is = subst IsOfPut (sym is) tt

  late : (r : Ended Failed) (outcome : Outcome) → outcome ≡ ended_as write_as r → IsBeforeRun outcome → ⊥
  late (Ok done) outcome is early = subst IsBeforeRun is early
  late (Err failed) outcome is early = subst IsBeforeRun is early

  whole_by : (r : Ended Failed) → Done ≡ ended_as write_as r → Told r → new.written ≡ append_known old.written text
  whole_by (Ok done) is told = told.whole
  whole_by (Err failed) is told = absurd (let no : Done ≡ Write = is in cc)

  part_by : (r : Ended Failed) → Write ≡ ended_as write_as r → Told r → Rose old.write_faults new.write_faults × AppendsPrefix old.written new.written text
  part_by (Ok done) is told = absurd (let no : Write ≡ Done = is in cc)
  part_by (Err failed) is told = (told.cause.refused, told.part)

  complete_by : (r : Ended Failed) (outcome : Outcome) → outcome ≡ ended_as write_as r → (Rose old.write_faults new.write_faults → ⊥) → Told r → IsOrMemory outcome Done
  complete_by (Ok done) outcome is still told = inl is
  complete_by (Err failed) outcome is still told = absurd (still told.cause.refused)

  pub whole : Came write_as Told Done → new.written ≡ append_known old.written text
  whole call = whole_by call.result call.is call.came

  pub part : Came write_as Told Write → Rose old.write_faults new.write_faults × AppendsPrefix old.written new.written text
  part call = part_by call.result call.is call.came

  -- it is written where the output doesn't fail
  pub complete : (outcome : Outcome) → Came write_as Told outcome → (Rose old.write_faults new.write_faults → ⊥) → IsOrMemory outcome Done
  complete outcome call still = complete_by call.result outcome call.is still call.came

pub no_put : (text : Object → List ℕ) (o : Object) (old new : Streams) (outcome : Outcome) → TextOf text o old new outcome → IsOfPut outcome
no_put text o old new outcome d = of_put (text o) old new d.1.result outcome d.1.is

pub telling : (text : Object → List ℕ) → IsWork (TextOf text)
telling text = record {
  only = λ o old new outcome d. work_of_put outcome (no_put text o old new outcome d);
  unwritten = λ o old new outcome d early. absurd (late (text o) old new d.1.result outcome d.1.is early);
  unread = λ o old new d. d.0;
}

pub seen_text : (text : Object → List ℕ) (name : Option (List ℕ)) (shelf : Files) (old new : Streams) (outcome : Outcome) → IsTextCall text name shelf old new outcome
    → IsOnObject (TextOf text) name shelf old new outcome
seen_text text name shelf old new outcome call =
    answered Failed write_as (λ o r. Puts old.written new.written old.write_faults new.write_faults (text o) r) (new.written ≡ old.written) name shelf (TextOf text) old new outcome
    (λ kept. record { rest = call.0; written = kept }) (λ o came. (call.0, came)) call.1

-- the line of an object that is refused has names of its tables
pub SpeaksOf-text : (text : Object → List ℕ) (Sources : (Tables → Type 0) → Type 0) (name : Option (List ℕ)) (shelf : Files) (old new : Streams) (r : Ended (OnObject Failed))
    (outcome : Outcome) (tables : Option Tables) → outcome ≡ ended_as (object_as write_as) r → tables ≡ ended_tables (object_tables no_tables) r
    → IsTextOnObject text name shelf old.written new.written old.write_faults new.write_faults r → SpeaksOf Sources (IsObjectTables name shelf.holds) outcome tables
SpeaksOf-text text Sources name shelf old new =
    SpeaksOf-object Failed write_as (λ o r. Puts old.written new.written old.write_faults new.write_faults (text o) r) (new.written ≡ old.written) name shelf no_tables Sources (λ o stop d. tt)
