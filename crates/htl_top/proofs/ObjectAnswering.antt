-- What a command on an object answers, by what it does with an accepted one.
use Rattle.std.proofs.Common.{arith, ◌≡◌, ◌≤◌, ◌<◌, ◌⊎◌, ℕ, List, length, Option, refl, ap, subst, inl, inr}
use Rattle.htl_top.proofs.Vocabulary.{HasBytes, RefusesBytes, ObjectFault, IsAccepted, Object, Files, Streams, IsBeforeScript, IsBeforeRun, IsGiven, IsOrMemory, IsAcceptedFile, IsStopped, IsOnObject, IsReadyObject, Work, Outcome, Done, Task, Refused, Script, Shelf, Read, Write, Memory, Failed, TooLong}
pub use Rattle.htl_open.proofs.OneObject.{IsAcceptedFile-map, one_of_bytes, accepted_or_refused, object_or_bad, one_refusal}
use Rattle.htl_open.proofs.GivenFiles as files

-- ---- answers of work

-- answers that an accepted object may have
abbrev pub IsOfWork : Outcome → Type 0
IsOfWork Done = Unit {0}
IsOfWork (Script f) = Unit {0}
IsOfWork Read = Unit {0}
IsOfWork Write = Unit {0}
IsOfWork Memory = Unit {0}
IsOfWork Task = Unit {0}
IsOfWork _ = ⊥

-- the answers of what is done with an accepted object are such, and some leave the output as it was
pub record IsWork (Does : Work) : Type 0 where
  pub only : (o : Object) (old new : Streams) (outcome : Outcome) → Does o old new outcome → IsOfWork outcome
  pub unwritten : (o : Object) (old new : Streams) (outcome : Outcome) → Does o old new outcome → IsBeforeRun outcome → new.written ≡ old.written
  pub unread : (o : Object) (old new : Streams) → Does o old new Task → new.rest ≡ old.rest

-- ---- the clauses

-- what nothing read and nothing written goes with
stopped_before : (name : Option (List ℕ)) (shelf : Files) (outcome : Outcome) → IsStopped name shelf outcome → IsOfWork outcome → outcome ≡ Memory
stopped_before name shelf Memory stopped work = refl
stopped_before name shelf (Refused f) stopped work = absurd work
stopped_before name shelf (Shelf cause) stopped work = absurd work
stopped_before name shelf _ stopped work = absurd stopped

pub early_work : (outcome : Outcome) → IsBeforeScript outcome → IsOfWork outcome → outcome ≡ Task
early_work Done early work = absurd early
early_work Task early work = refl
early_work (Script f) early work = absurd early
early_work Read early work = absurd early
early_work Write early work = absurd early
early_work Memory early work = absurd early
early_work _ early work = absurd work

module _ (Does : Work) (work : IsWork Does) (name : Option (List ℕ)) (shelf : Files) (old new : Streams) where
  -- an answer that no work has
  pub stopped : (outcome : Outcome) → IsOnObject Does name shelf old new outcome → (IsOfWork outcome → ⊥) → IsStopped name shelf outcome
  stopped outcome on none = elim on [ inl a ↦ absurd (none (work.only a.object old new outcome a.fact)) | inr s ↦ s.0 ]

  pub unread : (outcome : Outcome) → IsOnObject Does name shelf old new outcome → IsBeforeScript outcome → new.rest ≡ old.rest
  unread outcome on early = elim on [
    | inl a ↦
        let task = early_work outcome early (work.only a.object old new outcome a.fact) in
        work.unread a.object old new (subst (λ (o : Outcome). Does a.object old new o) task a.fact)
    | inr s ↦ s.1.rest
  ]

  pub unwritten : (outcome : Outcome) → IsOnObject Does name shelf old new outcome → IsBeforeRun outcome → new.written ≡ old.written
  unwritten outcome on early = elim on [ inl a ↦ work.unwritten a.object old new outcome a.fact early | inr s ↦ s.1.written ]

  -- what was done with an accepted object
  pub done_with : (outcome : Outcome) → IsOnObject Does name shelf old new outcome → IsOfWork outcome → (outcome ≡ Memory → ⊥)
      → IsAcceptedFile name shelf.holds (λ o. Does o old new outcome)
  done_with outcome on is apart = elim on [ inl a ↦ a | inr s ↦ absurd (apart (stopped_before name shelf outcome s.0 is)) ]

  -- ---- of bytes that are given

  module _ (bytes : List ℕ) (given : IsGiven name shelf.holds shelf.before shelf.after bytes) where
    -- the file is too long
    pub long_stopped : (outcome : Outcome) → 16777216 < length bytes → IsStopped name shelf outcome → IsOrMemory outcome (Shelf (TooLong (length bytes)))
    long_stopped (Refused f) long s = absurd (omega (arith, long, files.short_bytes name shelf bytes given s.bytes s.file))
    long_stopped (Shelf Failed) long s = absurd (files.no_fault name shelf bytes given s)
    long_stopped (Shelf (TooLong seen)) long s = inl (ap (λ (n : ℕ). Shelf (TooLong n)) (files.seen_long name shelf bytes given seen s).1)
    long_stopped Memory long s = inr refl
    long_stopped _ long s = absurd s

    pub long_object : (outcome : Outcome) → IsOnObject Does name shelf old new outcome → 16777216 < length bytes → IsOrMemory outcome (Shelf (TooLong (length bytes)))
    long_object outcome on long = elim on [
      | inl a ↦ absurd (omega (arith, long, files.short_bytes name shelf bytes given a.bytes a.file))
      | inr s ↦ long_stopped outcome long s.0
    ]

    -- the object has a fault
    pub faulty_stopped : (outcome : Outcome) (f : ObjectFault) → length bytes ≤ 16777216 → RefusesBytes bytes f → IsStopped name shelf outcome → IsOrMemory outcome (Refused f)
    faulty_stopped (Refused g) f short refused s =
        inl (ap (λ (h : ObjectFault). Refused h) (one_refusal bytes g f (subst (λ (bs : List ℕ). RefusesBytes bs g) (files.same_bytes name shelf bytes given s.bytes s.file) s.refused) refused))
    faulty_stopped (Shelf Failed) f short refused s = absurd (files.no_fault name shelf bytes given s)
    faulty_stopped (Shelf (TooLong seen)) f short refused s = absurd (omega (arith, short, (files.seen_long name shelf bytes given seen s).0))
    faulty_stopped Memory f short refused s = inr refl
    faulty_stopped _ f short refused s = absurd s

    pub faulty_object : (outcome : Outcome) → IsOnObject Does name shelf old new outcome → (f : ObjectFault) → length bytes ≤ 16777216 → RefusesBytes bytes f → IsOrMemory outcome (Refused f)
    faulty_object outcome on f short refused = elim on [
      | inl a ↦ absurd (accepted_or_refused bytes a.object f (subst (λ (bs : List ℕ). HasBytes bs a.object) (files.same_bytes name shelf bytes given a.bytes a.file) a.has) a.accepted refused)
      | inr s ↦ faulty_stopped outcome f short refused s.0
    ]

    -- the object is accepted
    pub ready_stopped : (outcome : Outcome) (o : Object) → length bytes ≤ 16777216 → HasBytes bytes o → IsAccepted o → IsStopped name shelf outcome → outcome ≡ Memory
    ready_stopped (Refused g) o short has accepted s =
        absurd (accepted_or_refused bytes o g has accepted (subst (λ (bs : List ℕ). RefusesBytes bs g) (files.same_bytes name shelf bytes given s.bytes s.file) s.refused))
    ready_stopped (Shelf Failed) o short has accepted s = absurd (files.no_fault name shelf bytes given s)
    ready_stopped (Shelf (TooLong seen)) o short has accepted s = absurd (omega (arith, short, (files.seen_long name shelf bytes given seen s).0))
    ready_stopped Memory o short has accepted s = refl
    ready_stopped _ o short has accepted s = absurd s

  pub ready : (o : Object) → IsReadyObject name shelf.holds shelf.before shelf.after o → (outcome : Outcome) → IsOnObject Does name shelf old new outcome
      → Does o old new outcome ⊎ (outcome ≡ Memory)
  ready o is outcome on = elim on [
    | inl a ↦
        let same = one_of_bytes is.bytes a.object o (subst (λ (bs : List ℕ). HasBytes bs a.object) (files.same_bytes name shelf is.bytes is.given a.bytes a.file) a.has) is.has in
        inl (subst (λ (p : Object). Does p old new outcome) same a.fact)
    | inr s ↦ inr (ready_stopped is.bytes is.given outcome o is.short is.has is.accepted s.0)
  ]
