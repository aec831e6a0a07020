-- What a donor's bytes come to: the new object, or the first fault.
use Rattle.std.proofs.Common.{◌≡◌, ◌⊎◌, ℕ, List, Option, Some, None, Ok, Err, refl, sym, ap, ◌∙◌, subst, inl, inr}
use Rattle.htl_top.proofs.Vocabulary.{append_known, Rose, AppendsPrefix, Holdings, HasBytes, Tables, IsAccepted, first_bad, IsObject, object_bytes, Malformed, Object, one_patch_fault, patch_not_refused, IsHandedBackBy, IsPatchStop, replacement_of, patched_object, CanPatch, IsFaultBy, IsPatchFault, Replacement, PatchFault, PatchStop, IsBeforeRun, IsOrMemory, IsObjectFile, HasPatch, HasPatchedTables, IsBadDonor, IsDonorFault, IsDonorTold, IsObjectPut, IsPatchedTables, RefusesDonor, SpeaksOfPatch, one_bad_field}
use Rattle.htl_patch.specs.declared.fault.PatchFault.TheVariants as fault
use Rattle.htl_patch.specs.declared.fault.PatchStop.TheVariants as stop
use Rattle.htl_top.proofs.ObjectAnswering.{one_of_bytes, object_or_bad}
use Rattle.htl_top.specs.{declared.outcome.Outcome.TheVariants.Done, declared.outcome.Outcome.TheVariants.Patch, declared.outcome.Outcome.TheVariants.Write, Stops.Ended, Stops.donor_as, Stops.ended_as, declared.stop.DonorStop.DonorStop}
use Rattle.htl_top.specs.declared.stop.DonorStop.TheVariants as unpatched
use Rattle.htl_top.specs.declared.stop.PutStop.{PutStop}
use Rattle.htl_top.specs.declared.stop.PutStop.TheVariants as put

-- the bytes of an accepted object were written, or a prefix
pub IsObjectPut-written : (o same : Object) (bytes slice : List ℕ) → same ≡ o → IsAccepted same → IsObject same
    → bytes ≡ object_bytes same → slice ≡ bytes → (Fact : List ℕ → Type 0) → Fact slice → IsObject o × IsAccepted o × Fact (object_bytes o)
IsObjectPut-written o same bytes slice is accepted object spelled held Fact written =
    subst (λ (p : Object). IsObject p × IsAccepted p × Fact (object_bytes p)) is (object, accepted, subst Fact (held ∙ spelled) written)

-- what holds of a donor's bytes holds of the files
pub in_both_files : (name unit mode given : List ℕ) (holds : Option Holdings) (host donor : List ℕ) (o : Object) → IsObjectFile (Some name) holds host → IsObjectFile (Some given) holds donor
    → HasBytes host o → IsAccepted o → (Fact : Tables → Type 0) → HasPatchedTables o unit mode donor Fact → IsPatchedTables name unit mode given holds Fact
in_both_files name unit mode given holds host donor o file other has accepted Fact made =
    record { bytes = host; file = file; object = o; has = has; accepted = accepted; fact = record { bytes = donor; file = other; fact = made } }

-- ---- what is done

-- what was written of the new object, or not
abbrev pub put_ended : Ended PutStop → Ended DonorStop
put_ended (Ok done) = Ok done
put_ended (Err s) = Err (unpatched.Put s)

module _ (o : Object) (unit mode bytes : List ℕ) where
  -- ---- the faults

  -- a donor that can be taken over has none
  pub not_faulty : (d : Object) (g : Replacement) → HasBytes bytes d → CanPatch o d unit mode g → (f : PatchFault) → IsDonorFault o unit mode bytes f → ⊥
  not_faulty d g has can f is = elim is [
    | inl b ↦ object_or_bad bytes d b.field has b.first
    | inr r ↦ patch_not_refused o d unit mode g f can (subst (λ (x : Object). IsPatchFault o x unit mode f) (one_of_bytes bytes r.donor d r.has has) r.refused)
  ]

  -- and there is one first fault at most
  pub one_donor_fault : IsAccepted o → (f h : PatchFault) → IsDonorFault o unit mode bytes f → IsDonorFault o unit mode bytes h → f ≡ h
  one_donor_fault accepted f h is other = by is other
    where
      by : IsBadDonor bytes f ⊎ RefusesDonor o unit mode bytes f → IsBadDonor bytes h ⊎ RefusesDonor o unit mode bytes h → f ≡ h
      by (inl b) (inl c) = b.is ∙ ap (λ (m : Malformed). fault.Malformed m) (one_bad_field (first_bad bytes) b.field c.field b.first c.first) ∙ sym c.is
      by (inl b) (inr q) = absurd (object_or_bad bytes q.donor b.field q.has b.first)
      by (inr r) (inl c) = absurd (object_or_bad bytes r.donor c.field r.has c.first)
      by (inr r) (inr q) =
          one_patch_fault o r.donor unit mode accepted r.has.object.ranges f h r.refused
          (subst (λ (x : Object). IsPatchFault o x unit mode h) (one_of_bytes bytes q.donor r.donor q.has r.has) q.refused)

  -- ---- the new object is written

  pub IsDonorTold-put : (d p : Object) (g : Replacement) → HasBytes bytes d → CanPatch o d unit mode g → p ≡ patched_object o g → (old new : Option (List ℕ)) (before now : ℕ)
      (r : Ended PutStop) → IsObjectPut p old new before now r → IsDonorTold o unit mode bytes old new before now (put_ended r)
  IsDonorTold-put d p g has can same old new before now r told = by r (subst (λ (x : Object). IsObjectPut x old new before now r) same told)
    where
      by : (r : Ended PutStop) → IsObjectPut (patched_object o g) old new before now r → IsDonorTold o unit mode bytes old new before now (put_ended r)
      by (Ok done) w = record { donor = d; has = has; replacement = g; can = can; object = w.0; accepted = w.1; fact = w.2 }
      by (Err put.Write) w = (w.2, record { donor = d; has = has; replacement = g; can = can; object = w.0; accepted = w.1; fact = w.3 })
      by (Err put.Memory) w = w

  -- the line of a fault has names of the new tables
  pub SpeaksOfPatch-back : (d : Object) → HasBytes bytes d → (f : PatchFault) (told : Option Tables) → IsPatchFault o d unit mode f
      → IsHandedBackBy (replacement_of o.tables d.tables unit mode) f told → SpeaksOfPatch (HasPatchedTables o unit mode bytes) f told
  SpeaksOfPatch-back d has (fault.IllFormed f) told is back = by (replacement_of o.tables d.tables unit mode) refl is back
    where
      by : (x : Option Replacement) → replacement_of o.tables d.tables unit mode ≡ x → IsFaultBy x (fault.IllFormed f) → IsHandedBackBy x (fault.IllFormed f) told
          → HasPatchedTables o unit mode bytes (λ t. told ≡ Some t)
      by None e p q = absurd (let no : fault.IllFormed f ≡ fault.Mode = p in cc)
      by (Some g) e p q = record { donor = d; has = has; replacement = g; modes = e; fact = q }
  SpeaksOfPatch-back d has _ told is back = tt

  -- the donor's refinement isn't taken over
  pub IsDonorTold-stop : (d : Object) → HasBytes bytes d → (written : Option (List ℕ)) (faults : ℕ) (s : PatchStop) → IsPatchStop o d unit mode s
      → IsDonorTold o unit mode bytes written written faults faults (Err (unpatched.Patch s))
  IsDonorTold-stop d has written faults (stop.Refused f t) p = (inr (record { donor = d; has = has; refused = p.0 }), SpeaksOfPatch-back d has f t p.0 p.1, refl)
  IsDonorTold-stop d has written faults stop.Memory p = refl

  -- ---- what it came to, by its outcome

  module _ (old new : Option (List ℕ)) (before now : ℕ) where
    abbrev Told : Ended DonorStop → Type 0
    Told r = IsDonorTold o unit mode bytes old new before now r

    pub told_unwritten : (r : Ended DonorStop) → Told r → IsBeforeRun (ended_as donor_as r) → new ≡ old
    told_unwritten (Ok done) told early = absurd early
    told_unwritten (Err (unpatched.Put put.Write)) told early = absurd early
    told_unwritten (Err (unpatched.Put put.Memory)) told early = told
    told_unwritten (Err (unpatched.Patch (stop.Refused f t))) told early = told.2
    told_unwritten (Err (unpatched.Patch stop.Memory)) told early = told

    pub told_whole : (r : Ended DonorStop) → Done ≡ ended_as donor_as r → Told r → HasPatch o unit mode bytes (λ p. new ≡ append_known old (object_bytes p))
    told_whole (Ok done) e told = told
    told_whole (Err (unpatched.Put put.Memory)) e told = absurd (let p = e in cc)
    told_whole (Err (unpatched.Patch stop.Memory)) e told = absurd (let p = e in cc)
    told_whole _ e told = absurd (let p = e in cc)

    pub told_part : (r : Ended DonorStop) → Write ≡ ended_as donor_as r → Told r → Rose before now × HasPatch o unit mode bytes (λ p. AppendsPrefix old new (object_bytes p))
    told_part (Err (unpatched.Put put.Write)) e told = told
    told_part (Err (unpatched.Patch stop.Memory)) e told = absurd (let p = e in cc)
    told_part _ e told = absurd (let p = e in cc)

    pub told_fault : (f : PatchFault) (r : Ended DonorStop) → Patch f ≡ ended_as donor_as r → Told r → IsDonorFault o unit mode bytes f × (new ≡ old)
    told_fault f (Err (unpatched.Patch (stop.Refused h t))) e told =
        let same : h ≡ f = let p = e in cc in
        (subst (λ (x : PatchFault). IsDonorFault o unit mode bytes x) same told.0, told.2)
    told_fault f (Err (unpatched.Put put.Memory)) e told = absurd (let p = e in cc)
    told_fault f _ e told = absurd (let p = e in cc)

    -- the fault is told
    pub told_faulty : IsAccepted o → (f : PatchFault) → IsDonorFault o unit mode bytes f → (r : Ended DonorStop) → Told r → IsOrMemory (ended_as donor_as r) (Patch f)
    told_faulty accepted f is (Ok done) told = absurd (not_faulty told.donor told.replacement told.has told.can f is)
    told_faulty accepted f is (Err (unpatched.Put put.Write)) told = absurd (not_faulty told.1.donor told.1.replacement told.1.has told.1.can f is)
    told_faulty accepted f is (Err (unpatched.Put put.Memory)) told = inr refl
    told_faulty accepted f is (Err (unpatched.Patch (stop.Refused h t))) told = inl (ap (λ (x : PatchFault). Patch x) (one_donor_fault accepted h f told.0 is))
    told_faulty accepted f is (Err (unpatched.Patch stop.Memory)) told = inr refl

    -- the new object is written whole, where the output doesn't fail
    pub told_done : (d : Object) (g : Replacement) → HasBytes bytes d → CanPatch o d unit mode g → (Rose before now → ⊥) → (r : Ended DonorStop) → Told r → IsOrMemory (ended_as donor_as r) Done
    told_done d g has can still (Ok done) told = inl refl
    told_done d g has can still (Err (unpatched.Put put.Write)) told = absurd (still told.0)
    told_done d g has can still (Err (unpatched.Put put.Memory)) told = inr refl
    told_done d g has can still (Err (unpatched.Patch (stop.Refused f t))) told = absurd (not_faulty d g has can f told.0)
    told_done d g has can still (Err (unpatched.Patch stop.Memory)) told = inr refl
