-- What `patch` came to, by its outcome and the two files that it names.
use Rattle.std.proofs.Common.{◌≡◌, ◌≤◌, ◌⊎◌, ℕ, List, length, Option, Ok, Err, refl, sym, subst, inl, inr}
use Rattle.htl_top.proofs.Vocabulary.{Rose, HasBytes, Object, CanPatch, Replacement, PatchFault, Files, Streams, IsBeforeRun, IsGiven, IsOrMemory, IsReadyObject, IsDonorFault, IsDonorTold, IsPatching, Outcome}
use Rattle.htl_patch.specs.declared.fault.PatchStop.TheVariants as refusal
use Rattle.htl_top.proofs.BothFiles as both
use Rattle.htl_top.proofs.{BothFiles.BothAs, BothFiles.UnhadAs, BothFiles.both_as, Stops.must}
use Rattle.htl_top.proofs.PatchedObjects as objects
use Rattle.htl_top.specs.{Stops.Came, Stops.Ended, Stops.donor_as, Stops.ended_as, Stops.object_as, declared.stop.DonorStop.DonorStop}
use Rattle.htl_top.specs.declared.outcome.Outcome.TheVariants.{Done, Patch, Object as Refused, Write, Memory}
use Rattle.htl_top.specs.declared.stop.DonorStop.TheVariants as unpatched
use Rattle.htl_top.specs.declared.stop.PutStop.TheVariants as put

-- what was done with an accepted object and a donor's bytes, by its outcome
abbrev pub DonorOf : List ℕ → List ℕ → Streams → Streams → Object → List ℕ → Outcome → Type 0
DonorOf unit mode old new o bytes outcome = Came donor_as (IsDonorTold o unit mode bytes old.written new.written old.write_faults new.write_faults) outcome

-- the command, by its outcome: nothing is read
abbrev pub PatchingAs : List ℕ → List ℕ → Option (List ℕ) → Option (List ℕ) → Files → Streams → Streams → Outcome → Type 0
PatchingAs unit mode name donor shelf old new outcome =
    (new.rest ≡ old.rest) × BothAs (DonorOf unit mode old new) (new.written ≡ old.written) name donor shelf outcome

pub seen_patch : (unit mode : List ℕ) (name donor : Option (List ℕ)) (shelf : Files) (old new : Streams) (outcome : Outcome)
    → Came (object_as donor_as) (IsPatching unit mode name donor shelf old new) outcome → PatchingAs unit mode name donor shelf old new outcome
seen_patch unit mode name donor shelf old new outcome call = (
  call.came.0,
  both_as DonorStop donor_as (λ o bytes. IsDonorTold o unit mode bytes old.written new.written old.write_faults new.write_faults)
      (DonorOf unit mode old new) (new.written ≡ old.written) name donor shelf
      (λ o bytes r d. record { result = r; is = refl; came = d }) outcome (record { result = call.result; is = call.is; came = call.came.1 }),
)

-- the outcomes of what is done with both files
abbrev pub IsOfDonor : Outcome → Type 0
IsOfDonor Done = Unit {0}
IsOfDonor Write = Unit {0}
IsOfDonor (Patch f) = Unit {0}
IsOfDonor Memory = Unit {0}
IsOfDonor _ = ⊥

ended_donor : (r : Ended DonorStop) → IsOfDonor (ended_as donor_as r)
ended_donor (Ok done) = tt
ended_donor (Err (unpatched.Put put.Write)) = tt
ended_donor (Err (unpatched.Put put.Memory)) = tt
ended_donor (Err (unpatched.Patch (refusal.Refused f t))) = tt
ended_donor (Err (unpatched.Patch refusal.Memory)) = tt

module _ (unit mode : List ℕ) (name donor : Option (List ℕ)) (shelf : Files) (old new : Streams) where
  abbrev Told : Object → List ℕ → Ended DonorStop → Type 0
  Told o bytes r = IsDonorTold o unit mode bytes old.written new.written old.write_faults new.write_faults r

  abbrev Called : Outcome → Type 0
  Called outcome = PatchingAs unit mode name donor shelf old new outcome

  -- an outcome that nothing done with both has: they weren't had
  pub stopped : (outcome : Outcome) → Called outcome → (IsOfDonor outcome → ⊥) → UnhadAs name donor shelf outcome
  stopped outcome call none = elim call.1 [
    | inl a ↦ absurd (none (subst IsOfDonor (sym a.fact.fact.is) (ended_donor a.fact.fact.result)))
    | inr s ↦ s.0
  ]

  pub unwritten : (outcome : Outcome) → Called outcome → IsBeforeRun outcome → new.written ≡ old.written
  unwritten outcome call early = elim call.1 [
    | inl a ↦
        objects.told_unwritten a.object unit mode a.fact.bytes old.written new.written old.write_faults new.write_faults a.fact.fact.result a.fact.fact.came
        (subst IsBeforeRun a.fact.fact.is early)
    | inr s ↦ s.1
  ]

  pub faulty_donor : (o : Object) (is : IsReadyObject name shelf.holds shelf.before shelf.after o) (others : List ℕ) → IsGiven donor shelf.holds shelf.before shelf.after others
      → length others ≤ 16777216 → (f : PatchFault) → IsDonorFault o unit mode others f → (outcome : Outcome) → Called outcome → IsOrMemory outcome (Patch f)
  faulty_donor o is others gift small f faulty outcome call = elim (both.ready (DonorOf unit mode old new) (new.written ≡ old.written) name donor shelf o is others gift small outcome call.1) [
    | inl t ↦ must donor_as (Told o others) outcome (Patch f) t (objects.told_faulty o unit mode others old.written new.written old.write_faults new.write_faults is.accepted f faulty)
    | inr m ↦ inr m
  ]

  pub complete : (o d : Object) (g : Replacement) (is : IsReadyObject name shelf.holds shelf.before shelf.after o) (others : List ℕ) → IsGiven donor shelf.holds shelf.before shelf.after others
      → length others ≤ 16777216 → HasBytes others d → CanPatch o d unit mode g → (Rose old.write_faults new.write_faults → ⊥) → (outcome : Outcome) → Called outcome → IsOrMemory outcome Done
  complete o d g is others gift small has can still outcome call = elim (both.ready (DonorOf unit mode old new) (new.written ≡ old.written) name donor shelf o is others gift small outcome call.1) [
    | inl t ↦ must donor_as (Told o others) outcome Done t (objects.told_done o unit mode others old.written new.written old.write_faults new.write_faults d g has can still)
    | inr m ↦ inr m
  ]
