-- What a command on an object and a second file came to, by its outcome.
use Rattle.std.proofs.Common.{arith, ◌≡◌, ◌≤◌, ◌<◌, ◌⊎◌, ◌∙◌, ℕ, List, length, Option, Ok, Err, refl, sym, ap, subst, inl, inr}
use Rattle.htl_open.proofs.GivenFiles as files
use Rattle.htl_open.proofs.OneObject.{SpeaksOfObject-file}
use Rattle.htl_open.specs.declared.object.ObjectStop.TheVariants as load
use Rattle.htl_open.specs.{Stops.IsShelfCause, declared.stop.OpenStop.OpenStop}
use Rattle.htl_open.specs.declared.stop.OpenStop.TheVariants as stop
use Rattle.htl_top.proofs.Vocabulary.{HasBytes, RefusesBytes, ObjectFault, Files, IsAccepted, IsFaultOf, IsGiven, IsObjectFile, IsObjectRead, IsObjectTables, IsReadyObject, IsRefusedFile, Tables, Object, AreFilesOf, IsFileOf, IsHad, IsOnBoth, IsOrMemory, IsUnhad, SpeaksOf, Outcome, Done, Refused, Shelf, Memory, Failed, TooLong}
use Rattle.htl_top.proofs.ObjectAnswering.{IsAcceptedFile-map, one_of_bytes, one_refusal, accepted_or_refused}
use Rattle.htl_top.specs.{Stops.Came, Stops.Ended, Stops.ended_as, Stops.object_as, Stops.open_as, Stops.open_tables, declared.stop.OnObject.OnObject}
use Rattle.htl_top.specs.declared.stop.OnObject.TheVariants as on

pub AreFilesOf-map : (name second : Option (List ℕ)) (shelf : Files) (Fact Other : Object → List ℕ → Type 0) → ((o : Object) (bytes : List ℕ) → Fact o bytes → Other o bytes)
    → AreFilesOf name second shelf.holds Fact → AreFilesOf name second shelf.holds Other
AreFilesOf-map name second shelf Fact Other f files =
    IsAcceptedFile-map name shelf.holds (λ o. IsFileOf second shelf.holds (λ bytes. Fact o bytes)) (λ o. IsFileOf second shelf.holds (λ bytes. Other o bytes))
    (λ o d. record { bytes = d.bytes; file = d.file; fact = f o d.bytes d.fact }) files

-- what was done with both is done with those that were had
pub done_with_both : {A : Type 0} (Does : Object → List ℕ → Ended A → Type 0) (name second : Option (List ℕ)) (shelf : Files) (o : Object) (bytes slice : List ℕ) → slice ≡ bytes
    → AreFilesOf name second shelf.holds (λ p bs. (p ≡ o) × (bs ≡ bytes)) → (r : Ended A) → Does o slice r → AreFilesOf name second shelf.holds (λ p bs. Does p bs r)
done_with_both Does name second shelf o bytes slice is had r does =
    AreFilesOf-map name second shelf (λ p bs. (p ≡ o) × (bs ≡ bytes)) (λ p bs. Does p bs r)
    (λ p bs same. subst (λ (x : Object). Does x bs r) (sym same.0) (subst (λ (xs : List ℕ). Does o xs r) (is ∙ sym same.1) does)) had

-- both files were had, and the object is accepted
pub both_had : (name second : Option (List ℕ)) (shelf : Files) (bytes slice others : List ℕ) → slice ≡ bytes → IsObjectFile name shelf.holds bytes → IsObjectFile second shelf.holds others
    → (o : Object) → HasBytes slice o → IsAccepted o → AreFilesOf name second shelf.holds (λ p bs. (p ≡ o) × (bs ≡ others))
both_had name second shelf bytes slice others is file other o has accepted = record {
  bytes = bytes;
  file = file;
  object = o;
  has = subst (λ (bs : List ℕ). HasBytes bs o) is has;
  accepted = accepted;
  fact = record { bytes = others; file = other; fact = (refl, refl) };
}

-- both were, and it isn't
pub unread_both : (name second : Option (List ℕ)) (shelf : Files) (bytes slice others : List ℕ) → slice ≡ bytes → IsObjectFile name shelf.holds bytes → IsObjectFile second shelf.holds others
    → (f : ObjectFault) (t : Option Tables) → IsObjectRead slice (Err (load.Refused f t)) → IsUnhad name second shelf (stop.Object f t)
unread_both name second shelf bytes slice others is file other f t read =
    let r = subst (λ (bs : List ℕ). IsObjectRead bs (Err (load.Refused f t))) is read in
    ((record { bytes = bytes; file = file; refused = r.0 }, SpeaksOfObject-file name shelf.holds bytes f t file r.1), (others, other))

-- ---- by outcomes

-- Why an accepted object and a second file weren't had: the shelf tells first of the object's file, then of the second; both are had where
-- the object is refused.
abbrev pub UnhadAs : Option (List ℕ) → Option (List ℕ) → Files → Outcome → Type 0
UnhadAs name second shelf (Shelf cause) = IsShelfCause name shelf cause ⊎ (IsHad name shelf.holds × IsShelfCause second shelf cause)
UnhadAs name second shelf (Refused f) = IsRefusedFile name shelf.holds f × IsHad second shelf.holds
UnhadAs name second shelf Memory = Unit {0}
UnhadAs name second shelf _ = ⊥

unhad_as : (name second : Option (List ℕ)) (shelf : Files) (s : OpenStop) → IsUnhad name second shelf s → UnhadAs name second shelf (open_as s)
unhad_as name second shelf (stop.Shelf why) is = is
unhad_as name second shelf (stop.Object f t) is = (is.0.0, is.1)
unhad_as name second shelf stop.Memory is = tt

pub unhad_speaks : (Sources : (Tables → Type 0) → Type 0) (name second : Option (List ℕ)) (shelf : Files) (s : OpenStop) → IsUnhad name second shelf s
    → SpeaksOf Sources (IsObjectTables name shelf.holds) (open_as s) (open_tables s)
unhad_speaks Sources name second shelf (stop.Shelf why) is = tt
unhad_speaks Sources name second shelf (stop.Object f t) is = is.0.1
unhad_speaks Sources name second shelf stop.Memory is = tt

-- both files were had and this was done; or not
abbrev pub BothAs : (Object → List ℕ → Outcome → Type 0) → Type 0 → Option (List ℕ) → Option (List ℕ) → Files → Outcome → Type 0
BothAs DoneAs Stays name second shelf outcome = AreFilesOf name second shelf.holds (λ o bytes. DoneAs o bytes outcome) ⊎ (UnhadAs name second shelf outcome × Stays)

module _ (A : Type 0) (of : A → Outcome) (Does : Object → List ℕ → Ended A → Type 0) (DoneAs : Object → List ℕ → Outcome → Type 0) (Stays : Type 0) (name second : Option (List ℕ)) (shelf : Files)
    (done_as : (o : Object) (bytes : List ℕ) (r : Ended A) → Does o bytes r → DoneAs o bytes (ended_as of r)) where
  both_by : (r : Ended (OnObject A)) → IsOnBoth Does Stays name second shelf r → BothAs DoneAs Stays name second shelf (ended_as (object_as of) r)
  both_by (Ok done) is = inl (AreFilesOf-map name second shelf (λ o bytes. Does o bytes (Ok done)) (λ o bytes. DoneAs o bytes Done) (λ o bytes d. done_as o bytes (Ok done) d) is)
  both_by (Err (on.Work s)) is = inl (AreFilesOf-map name second shelf (λ o bytes. Does o bytes (Err s)) (λ o bytes. DoneAs o bytes (of s)) (λ o bytes d. done_as o bytes (Err s) d) is)
  both_by (Err (on.Open s)) is = inr (unhad_as name second shelf s is.0, is.1)

  pub both_as : (outcome : Outcome) → Came (object_as of) (IsOnBoth Does Stays name second shelf) outcome → BothAs DoneAs Stays name second shelf outcome
  both_as outcome call = subst (λ (o : Outcome). BothAs DoneAs Stays name second shelf o) (sym call.is) (both_by call.result call.came)

-- ---- of what is given

module _ (DoneAs : Object → List ℕ → Outcome → Type 0) (Stays : Type 0) (name second : Option (List ℕ)) (shelf : Files) where
  abbrev Called : Outcome → Type 0
  Called outcome = BothAs DoneAs Stays name second shelf outcome

  -- ---- of an object's bytes that are given

  module _ (bytes : List ℕ) (given : IsGiven name shelf.holds shelf.before shelf.after bytes) where
    had_short : IsHad name shelf.holds → length bytes ≤ 16777216
    had_short had = files.short_bytes name shelf bytes given had.0 had.1

    -- the file is too long
    long_unhad : (outcome : Outcome) → 16777216 < length bytes → UnhadAs name second shelf outcome → IsOrMemory outcome (Shelf (TooLong (length bytes)))
    long_unhad (Shelf Failed) long s = elim s [ inl h ↦ absurd (files.no_fault name shelf bytes given h) | inr d ↦ absurd (omega (arith, long, had_short d.0)) ]
    long_unhad (Shelf (TooLong seen)) long s = elim s [
      | inl h ↦ inl (ap (λ (n : ℕ). Shelf (TooLong n)) (files.seen_long name shelf bytes given seen h).1)
      | inr d ↦ absurd (omega (arith, long, had_short d.0))
    ]
    long_unhad (Refused f) long s = absurd (omega (arith, long, files.short_bytes name shelf bytes given s.0.bytes s.0.file))
    long_unhad Memory long s = inr refl
    long_unhad _ long s = absurd s

    pub long_object : (outcome : Outcome) → Called outcome → 16777216 < length bytes → IsOrMemory outcome (Shelf (TooLong (length bytes)))
    long_object outcome call long = elim call [
      | inl a ↦ absurd (omega (arith, long, files.short_bytes name shelf bytes given a.bytes a.file))
      | inr s ↦ long_unhad outcome long s.0
    ]

    -- and of the second file's too
    module _ (others : List ℕ) (gift : IsGiven second shelf.holds shelf.before shelf.after others) where
      no_failure : IsFaultOf name shelf.before shelf.after ⊎ (IsHad name shelf.holds × IsFaultOf second shelf.before shelf.after) → ⊥
      no_failure s = elim s [ inl h ↦ files.no_fault name shelf bytes given h | inr d ↦ files.no_fault second shelf others gift d.1 ]

      -- the second file is too long
      long_second_unhad : (outcome : Outcome) → length bytes ≤ 16777216 → 16777216 < length others → UnhadAs name second shelf outcome → IsOrMemory outcome (Shelf (TooLong (length others)))
      long_second_unhad (Shelf Failed) short long s = absurd (no_failure s)
      long_second_unhad (Shelf (TooLong seen)) short long s = elim s [
        | inl h ↦ absurd (omega (arith, short, (files.seen_long name shelf bytes given seen h).0))
        | inr d ↦ inl (ap (λ (n : ℕ). Shelf (TooLong n)) (files.seen_long second shelf others gift seen d.1).1)
      ]
      long_second_unhad (Refused f) short long s = absurd (omega (arith, long, files.short_bytes second shelf others gift s.1.0 s.1.1))
      long_second_unhad Memory short long s = inr refl
      long_second_unhad _ short long s = absurd s

      pub long_second : (outcome : Outcome) → Called outcome → length bytes ≤ 16777216 → 16777216 < length others → IsOrMemory outcome (Shelf (TooLong (length others)))
      long_second outcome call short long = elim call [
        | inl a ↦ absurd (omega (arith, long, files.short_bytes second shelf others gift a.fact.bytes a.fact.file))
        | inr s ↦ long_second_unhad outcome short long s.0
      ]

      module _ (small : length others ≤ 16777216) where
        -- the object has a fault
        faulty_unhad : (outcome : Outcome) (f : ObjectFault) → length bytes ≤ 16777216 → RefusesBytes bytes f → UnhadAs name second shelf outcome → IsOrMemory outcome (Refused f)
        faulty_unhad (Shelf Failed) f short refused s = absurd (no_failure s)
        faulty_unhad (Shelf (TooLong seen)) f short refused s = elim s [
          | inl h ↦ absurd (omega (arith, short, (files.seen_long name shelf bytes given seen h).0))
          | inr d ↦ absurd (omega (arith, small, (files.seen_long second shelf others gift seen d.1).0))
        ]
        faulty_unhad (Refused g) f short refused s =
            inl (ap (λ (h : ObjectFault). Refused h)
            (one_refusal bytes g f (subst (λ (bs : List ℕ). RefusesBytes bs g) (files.same_bytes name shelf bytes given s.0.bytes s.0.file) s.0.refused) refused))
        faulty_unhad Memory f short refused s = inr refl
        faulty_unhad _ f short refused s = absurd s

        pub faulty_object : (outcome : Outcome) → Called outcome → (f : ObjectFault) → length bytes ≤ 16777216 → RefusesBytes bytes f → IsOrMemory outcome (Refused f)
        faulty_object outcome call f short refused = elim call [
          | inl a ↦
              absurd (accepted_or_refused bytes a.object f (subst (λ (bs : List ℕ). HasBytes bs a.object) (files.same_bytes name shelf bytes given a.bytes a.file) a.has) a.accepted refused)
          | inr s ↦ faulty_unhad outcome f short refused s.0
        ]

        -- the object is accepted
        ready_unhad : (outcome : Outcome) (o : Object) → length bytes ≤ 16777216 → HasBytes bytes o → IsAccepted o → UnhadAs name second shelf outcome → outcome ≡ Memory
        ready_unhad (Shelf Failed) o short has accepted s = absurd (no_failure s)
        ready_unhad (Shelf (TooLong seen)) o short has accepted s = elim s [
          | inl h ↦ absurd (omega (arith, short, (files.seen_long name shelf bytes given seen h).0))
          | inr d ↦ absurd (omega (arith, small, (files.seen_long second shelf others gift seen d.1).0))
        ]
        ready_unhad (Refused g) o short has accepted s =
            absurd (accepted_or_refused bytes o g has accepted (subst (λ (bs : List ℕ). RefusesBytes bs g) (files.same_bytes name shelf bytes given s.0.bytes s.0.file) s.0.refused))
        ready_unhad Memory o short has accepted s = refl
        ready_unhad _ o short has accepted s = absurd s

  -- what was done with an accepted object and bytes of the second file that are given
  pub ready : (o : Object) (is : IsReadyObject name shelf.holds shelf.before shelf.after o) (others : List ℕ) → IsGiven second shelf.holds shelf.before shelf.after others
      → length others ≤ 16777216 → (outcome : Outcome) → Called outcome → DoneAs o others outcome ⊎ (outcome ≡ Memory)
  ready o is others gift small outcome call = elim call [
    | inl a ↦
        let same = one_of_bytes is.bytes a.object o (subst (λ (bs : List ℕ). HasBytes bs a.object) (files.same_bytes name shelf is.bytes is.given a.bytes a.file) a.has) is.has in
        let told = subst (λ (bs : List ℕ). DoneAs a.object bs outcome) (files.same_bytes second shelf others gift a.fact.bytes a.fact.file) a.fact.fact in
        inl (subst (λ (p : Object). DoneAs p others outcome) same told)
    | inr s ↦ inr (ready_unhad is.bytes is.given others gift small outcome o is.short is.has is.accepted s.0)
  ]
