-- From what a command came to, to its answer.
use Rattle.std.proofs.Common.{◌≡◌, ◌∙◌, List, ℕ, Option, Ok, Err, sym, ap, subst, inl, inr}
use Rattle.htl_top.proofs.Vocabulary.{Tables, Object, Files, Streams, IsAcceptedFile, IsObjectTables, IsOnObject, IsOrMemory, IsStopped, SpeaksOf, Work, Outcome}
use Rattle.htl_open.specs.{Stops.IsUnopened, declared.stop.OpenStop.OpenStop}
use Rattle.htl_open.specs.declared.stop.OpenStop.TheVariants as open_stop
use Rattle.htl_top.proofs.ObjectAnswering.{IsAcceptedFile-map}
use Rattle.htl_top.specs.{Answers.IsUntouched, Objects.IsOnFile, Stops.Came, Stops.Ended, Stops.ended_as, Stops.ended_tables, Stops.object_as, Stops.object_tables, Stops.open_as, Stops.open_tables, declared.stop.OnObject.OnObject}
use Rattle.htl_top.specs.declared.stop.OnObject.TheVariants as on

-- ---- counts of faults

-- what stays but after one stop stays but after the outcome that tells of it
pub unless : {A P : Type 0} (of : A → Outcome) (r one : Ended A) (outcome told : Outcome) → outcome ≡ ended_as of r → ended_as of one ≡ told
    → ((r ≡ one → ⊥) → P) → (outcome ≡ told → ⊥) → P
unless of r one outcome told is same kept apart = kept (λ e. apart (is ∙ ap (ended_as of) e ∙ same))

-- ---- what must come

pub must : {A : Type 0} (of : A → Outcome) (Is : Ended A → Type 0) (outcome wanted : Outcome) → Came of Is outcome
    → ((r : Ended A) → Is r → IsOrMemory (ended_as of r) wanted) → IsOrMemory outcome wanted
must of Is outcome wanted call is = subst (λ (o : Outcome). IsOrMemory o wanted) (sym call.is) (is call.result call.came)

-- ---- no accepted object

open_stops : (name : Option (List ℕ)) (shelf : Files) (s : OpenStop) → IsUnopened name shelf s → IsStopped name shelf (open_as s)
open_stops name shelf (open_stop.Shelf why) is = is
open_stops name shelf (open_stop.Object f t) is = is.0
open_stops name shelf open_stop.Memory is = tt

open_speaks : (Sources : (Tables → Type 0) → Type 0) (name : Option (List ℕ)) (shelf : Files) (s : OpenStop) → IsUnopened name shelf s
    → SpeaksOf Sources (IsObjectTables name shelf.holds) (open_as s) (open_tables s)
open_speaks Sources name shelf (open_stop.Shelf why) is = tt
open_speaks Sources name shelf (open_stop.Object f t) is = is.1
open_speaks Sources name shelf open_stop.Memory is = tt

-- ---- a command on an object

-- the accepted object that is had is the one that was loaded, so what is done with that is done with it
pub loaded_does : (name : Option (List ℕ)) (shelf : Files) (Fact : Object → Type 0) (loaded : Object) → IsAcceptedFile name shelf.holds (λ o. o ≡ loaded) → Fact loaded
    → IsAcceptedFile name shelf.holds Fact
loaded_does name shelf Fact loaded had fact = IsAcceptedFile-map name shelf.holds (λ o. o ≡ loaded) Fact (λ o e. subst Fact (sym e) fact) had

module _ (A : Type 0) (of : A → Outcome) (Does : Object → Ended A → Type 0) (Stays : Type 0) (name : Option (List ℕ)) (shelf : Files) where
  -- an answer, by what was done and what stays
  module _ (Doing : Work) (old new : Streams) (outcome : Outcome) (stays : Stays → IsUntouched old new) (does : (o : Object) → Came of (Does o) outcome → Doing o old new outcome) where
    answered_by : (r : Ended (OnObject A)) → outcome ≡ ended_as (object_as of) r → IsOnFile Does Stays name shelf r → IsOnObject Doing name shelf old new outcome
    answered_by (Ok done) is came =
        inl (
        IsAcceptedFile-map name shelf.holds (λ o. Does o (Ok done)) (λ o. Doing o old new outcome)
        (λ o d. does o (record { result = Ok done; is = is; came = d })) came
        )
    answered_by (Err (on.Work stop)) is came =
        inl (
        IsAcceptedFile-map name shelf.holds (λ o. Does o (Err stop)) (λ o. Doing o old new outcome)
        (λ o d. does o (record { result = Err stop; is = is; came = d })) came
        )
    answered_by (Err (on.Open stop)) is came = inr (subst (λ (o : Outcome). IsStopped name shelf o) (sym is) (open_stops name shelf stop came.0), stays came.1)

    pub answered : Came (object_as of) (IsOnFile Does Stays name shelf) outcome → IsOnObject Doing name shelf old new outcome
    answered call = answered_by call.result call.is call.came

  -- the tables that its line speaks of
  module _ (told : A → Option Tables) (Sources : (Tables → Type 0) → Type 0)
      (speaks : (o : Object) (stop : A) → Does o (Err stop) → SpeaksOf Sources (IsObjectTables name shelf.holds) (of stop) (told stop)) where
    speaks_by : (r : Ended (OnObject A)) → IsOnFile Does Stays name shelf r
        → SpeaksOf Sources (IsObjectTables name shelf.holds) (ended_as (object_as of) r) (ended_tables (object_tables told) r)
    speaks_by (Ok done) came = tt
    speaks_by (Err (on.Work stop)) came = speaks came.object stop came.fact
    speaks_by (Err (on.Open stop)) came = open_speaks Sources name shelf stop came.0

    pub SpeaksOf-object : (r : Ended (OnObject A)) (outcome : Outcome) (tables : Option Tables) → outcome ≡ ended_as (object_as of) r → tables ≡ ended_tables (object_tables told) r
        → IsOnFile Does Stays name shelf r → SpeaksOf Sources (IsObjectTables name shelf.holds) outcome tables
    SpeaksOf-object r outcome tables is same came =
        subst (λ (o : Outcome). SpeaksOf Sources (IsObjectTables name shelf.holds) o tables) (sym is)
        (subst (λ (t : Option Tables). SpeaksOf Sources (IsObjectTables name shelf.holds) (ended_as (object_as of) r) t) (sym same) (speaks_by r came))
