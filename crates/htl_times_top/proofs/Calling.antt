-- From the answer of the call to its clauses.
use Rattle.std.proofs.Common.{arith, ◌≡◌, ◌≤◌, ◌<◌, ◌↔◌, ℕ, List, length, Option, None, Some, refl, sym, ap, ◌∙◌, subst, inl, inr}
use Rattle.htl_base.proofs.Words.{none-some}
use Rattle.htl_edge.specs.Causes.{Rose}
use Rattle.htl_load.proofs.Words.{HasBytes, RefusesBytes, IsAccepted, Tables}
use Rattle.htl_object.specs.declared.object.Object.{Object as ObjectOf}
use Rattle.htl_load.specs.declared.fault.ObjectFault.{ObjectFault}
use Rattle.htl_load.specs.declared.fault.ObjectFault.TheVariants as fault
use Rattle.htl_open.proofs.GivenFiles as files
use Rattle.htl_open.proofs.OneObject.{accepted_or_refused, one_refusal}
use Rattle.htl_open.specs.{Files.Files, Files.IsGiven, Objects.IsAcceptedFile, Objects.IsObjectTables, Objects.IsRefusedFile, Objects.SpeaksOfObject, declared.stop.ShelfCause.TheVariants.Failed, declared.stop.ShelfCause.TheVariants.TooLong}
use Rattle.htl_times_top.specs.{Answers.IsOrMemory, Answers.IsTimes, Answers.SpeaksOf, Status.fault_line, Status.IsFaultTold, Status.IsLineTold, declared.outcome.Outcome.Outcome}
use Rattle.htl_times_top.specs.declared.outcome.Outcome.TheVariants.{Done, Usage, Object, Shelf, Write, Memory}

-- ---- of the words

module _ (name : Option (List ℕ)) (shelf : Files) (old new : Option (List ℕ)) (before now : ℕ) where
  unnamed : (word : List ℕ) → name ≡ Some word → name ≡ None → ⊥
  unnamed word named none = none-some word (sym none ∙ named)

  no_name : (outcome : Outcome) → IsTimes name shelf old new before now outcome → name ≡ None → outcome ≡ Usage
  no_name Done answer none = absurd (unnamed answer.file.word answer.file.named none)
  no_name Write answer none = absurd (unnamed answer.1.file.word answer.1.file.named none)
  no_name Memory answer none = absurd (unnamed answer.0.0 answer.0.1 none)
  no_name Usage answer none = refl
  no_name (Object f) answer none = absurd (unnamed answer.0.file.word answer.0.file.named none)
  no_name (Shelf why) answer none = absurd (unnamed answer.0.0 answer.0.1 none)

  pub usage : (outcome : Outcome) → IsTimes name shelf old new before now outcome → (outcome ≡ Usage) ↔ (name ≡ None)
  usage outcome answer = (λ is. (subst (λ (o : Outcome). IsTimes name shelf old new before now o) is answer).0, no_name outcome answer)

  pub unwritten : (outcome : Outcome) → IsTimes name shelf old new before now outcome → (outcome ≡ Done → ⊥) → (outcome ≡ Write → ⊥) → new ≡ old
  unwritten Done answer done write = absurd (done refl)
  unwritten Write answer done write = absurd (write refl)
  unwritten Memory answer done write = answer.1
  unwritten Usage answer done write = answer.1
  unwritten (Object f) answer done write = answer.1
  unwritten (Shelf why) answer done write = answer.2

  -- ---- of bytes that are given

  module _ (bytes : List ℕ) (given : IsGiven name shelf.holds shelf.before shelf.after bytes) where
    too_long : {Fact : ObjectOf → Type 0} → IsAcceptedFile name shelf.holds Fact → 16777216 < length bytes → ⊥
    too_long a long = omega (arith, long, files.short_bytes name shelf bytes given a.bytes a.file)

    pub long_object : (outcome : Outcome) → IsTimes name shelf old new before now outcome → 16777216 < length bytes → IsOrMemory outcome (Shelf (TooLong (length bytes)))
    long_object Done answer long = absurd (too_long answer long)
    long_object Write answer long = absurd (too_long answer.1 long)
    long_object Memory answer long = inr refl
    long_object Usage answer long = absurd (unnamed given.word given.named answer.0)
    long_object (Object f) answer long = absurd (omega (arith, long, files.short_bytes name shelf bytes given answer.0.bytes answer.0.file))
    long_object (Shelf Failed) answer long = absurd (files.no_fault name shelf bytes given answer.1)
    long_object (Shelf (TooLong seen)) answer long = inl (ap (λ (n : ℕ). Shelf (TooLong n)) (files.seen_long name shelf bytes given seen answer.1).1)

    accepted : {Fact : ObjectOf → Type 0} → IsAcceptedFile name shelf.holds Fact → (f : ObjectFault) → RefusesBytes bytes f → ⊥
    accepted a f refused =
        accepted_or_refused bytes a.object f (subst (λ (bs : List ℕ). HasBytes bs a.object) (files.same_bytes name shelf bytes given a.bytes a.file) a.has) a.accepted refused

    refused_for : (f : ObjectFault) → IsRefusedFile name shelf.holds f → RefusesBytes bytes f
    refused_for f s = subst (λ (bs : List ℕ). RefusesBytes bs f) (files.same_bytes name shelf bytes given s.bytes s.file) s.refused

    pub faulty_object : (outcome : Outcome) → IsTimes name shelf old new before now outcome → (f : ObjectFault) → length bytes ≤ 16777216 → RefusesBytes bytes f → IsOrMemory outcome (Object f)
    faulty_object Done answer f short refused = absurd (accepted answer f refused)
    faulty_object Write answer f short refused = absurd (accepted answer.1 f refused)
    faulty_object Memory answer f short refused = inr refl
    faulty_object Usage answer f short refused = absurd (unnamed given.word given.named answer.0)
    faulty_object (Object g) answer f short refused = inl (ap (λ (h : ObjectFault). Object h) (one_refusal bytes g f (refused_for g answer.0) refused))
    faulty_object (Shelf Failed) answer f short refused = absurd (files.no_fault name shelf bytes given answer.1)
    faulty_object (Shelf (TooLong seen)) answer f short refused = absurd (omega (arith, short, (files.seen_long name shelf bytes given seen answer.1).0))

    pub complete : (o : ObjectOf) → length bytes ≤ 16777216 → HasBytes bytes o → IsAccepted o → (outcome : Outcome) → IsTimes name shelf old new before now outcome
        → (Rose before now → ⊥) → IsOrMemory outcome Done
    complete o short has is Done answer still = inl refl
    complete o short has is Write answer still = absurd (still answer.0)
    complete o short has is Memory answer still = inr refl
    complete o short has is Usage answer still = absurd (unnamed given.word given.named answer.0)
    complete o short has is (Object g) answer still = absurd (accepted_or_refused bytes o g has is (refused_for g answer.0))
    complete o short has is (Shelf Failed) answer still = absurd (files.no_fault name shelf bytes given answer.1)
    complete o short has is (Shelf (TooLong seen)) answer still = absurd (omega (arith, short, (files.seen_long name shelf bytes given seen answer.1).0))

-- ---- the line

module _ (name : Option (List ℕ)) (shelf : Files) (Told : List ℕ → Type 0) (tables : Option Tables) where
  fault_told : (f : ObjectFault) → SpeaksOfObject (IsObjectTables name shelf.holds) f tables → Told (fault_line tables (Object f)) → IsFaultTold (IsObjectTables name shelf.holds) Told f
  fault_told (fault.IllFormed f) speaks told = record {
    bytes = speaks.bytes;
    file = speaks.file;
    has = record {
      object = speaks.has.object;
      has = speaks.has.has;
      fact = subst (λ (o : Option Tables). Told (fault_line o (Object (fault.IllFormed f)))) speaks.has.fact told;
    };
  }
  fault_told _ speaks told = told

  pub IsLineTold-report : (outcome : Outcome) → SpeaksOf (IsObjectTables name shelf.holds) outcome tables → Told (fault_line tables outcome) → IsLineTold (IsObjectTables name shelf.holds) Told outcome
  IsLineTold-report (Object f) speaks told = fault_told f speaks told
  IsLineTold-report _ speaks told = told
