-- What `patch` answers of two files: an object of which a mode gets another refinement, and the donor that has it.
use Rattle.std.specs.Prelude.{◌≡◌, ◌⊎◌, ℕ, List, Option, Some, Ok, Err}
use Rattle.htl_top.specs.{Common.append_known, Common.Rose, Common.AppendsPrefix, Common.Holdings, Common.HasBytes, Common.Tables, Common.IsAccepted, Common.Object, Common.PatchFault, Answers.Streams, Fetching.IsOnBoth, Files.AreFilesOf}
use Rattle.htl_object.specs.{Files.first_bad, Objects.IsObject, Objects.object_bytes, declared.malformed.Malformed.Malformed}
use Rattle.htl_patch.specs.{Joining.replacement_of, Object.patched_object, Object.CanPatch, Patched.patched, Stops.IsPatchFault, Combined.Replacement}
use Rattle.htl_patch.specs.declared.fault.PatchFault.TheVariants as fault
use Rattle.htl_patch.specs.declared.fault.PatchStop.TheVariants as patching
use Rattle.htl_open.specs.Files.{Files}
use Rattle.htl_top.specs.{Stops.Ended, Words.Command, Words.Patch, declared.stop.DonorStop.DonorStop, declared.stop.OnObject.OnObject, declared.stop.PutStop.PutStop}
use Rattle.htl_top.specs.declared.stop.DonorStop.TheVariants as told
use Rattle.htl_top.specs.declared.stop.PutStop.TheVariants as put

-- ---- the donor

-- The bytes are a donor whose refinement of the mode can be taken over, and the fact holds of the object that has it. That object is
-- accepted, and its bytes are its own.
pub record HasPatch (o : Object) (unit mode bytes : List ℕ) (Fact : Object → Type 0) : Type 0 where
  pub donor : Object
  pub has : HasBytes bytes donor
  pub replacement : Replacement
  pub can : CanPatch o donor unit mode replacement
  pub object : IsObject (patched_object o replacement)
  pub accepted : IsAccepted (patched_object o replacement)
  pub fact : Fact (patched_object o replacement)

-- The bytes are a donor that has a mode of the names as the object has, and the fact holds of the tables with its refinement.
pub record HasPatchedTables (o : Object) (unit mode bytes : List ℕ) (Fact : Tables → Type 0) : Type 0 where
  pub donor : Object
  pub has : HasBytes bytes donor
  pub replacement : Replacement
  pub modes : replacement_of o.tables donor.tables unit mode ≡ Some replacement
  pub fact : Fact (patched replacement)

-- No object has the bytes, and this tells their first bad field.
pub record IsBadDonor (bytes : List ℕ) (f : PatchFault) : Type 0 where
  pub field : Malformed
  pub is : f ≡ fault.Malformed field
  pub first : first_bad bytes ≡ Some field

-- The bytes are a donor whose refinement of the mode isn't taken over, for this fault.
pub record RefusesDonor (o : Object) (unit mode bytes : List ℕ) (f : PatchFault) : Type 0 where
  pub donor : Object
  pub has : HasBytes bytes donor
  pub refused : IsPatchFault o donor unit mode f

-- why the object doesn't get the refinement that the bytes have
abbrev pub IsDonorFault : Object → List ℕ → List ℕ → List ℕ → PatchFault → Type 0
IsDonorFault o unit mode bytes f = IsBadDonor bytes f ⊎ RefusesDonor o unit mode bytes f

-- ---- both files

-- The fact holds of the tables of an accepted object with a donor's refinement.
abbrev pub IsPatchedTables : List ℕ → List ℕ → List ℕ → List ℕ → Option Holdings → (Tables → Type 0) → Type 0
IsPatchedTables name unit mode donor holds Fact = AreFilesOf (Some name) (Some donor) holds (λ o bytes. HasPatchedTables o unit mode bytes Fact)

-- the tables that the line of a fault speaks of: the new ones, where they break a form rule
abbrev pub SpeaksOfPatch : ((Tables → Type 0) → Type 0) → PatchFault → Option Tables → Type 0
SpeaksOfPatch HasNew (fault.IllFormed f) tables = HasNew (λ t. tables ≡ Some t)
SpeaksOfPatch HasNew _ tables = Unit {0}

-- ---- what it comes to

-- an accepted object was written, or a prefix of its bytes; or nothing, since no memory was left
abbrev pub IsObjectPut : Object → Option (List ℕ) → Option (List ℕ) → ℕ → ℕ → Ended PutStop → Type 0
IsObjectPut o old new before now (Ok done) = IsObject o × IsAccepted o × (new ≡ append_known old (object_bytes o))
IsObjectPut o old new before now (Err put.Write) = IsObject o × IsAccepted o × Rose before now × AppendsPrefix old new (object_bytes o)
IsObjectPut o old new before now (Err put.Memory) = new ≡ old

-- The new object is written, or a prefix of its bytes; or nothing, since the donor has a fault, whose line speaks of these tables, or no
-- memory was left.
abbrev pub IsDonorTold : Object → List ℕ → List ℕ → List ℕ → Option (List ℕ) → Option (List ℕ) → ℕ → ℕ → Ended DonorStop → Type 0
IsDonorTold o unit mode bytes old new before now (Ok done) = HasPatch o unit mode bytes (λ p. new ≡ append_known old (object_bytes p))
IsDonorTold o unit mode bytes old new before now (Err (told.Put put.Write)) = Rose before now × HasPatch o unit mode bytes (λ p. AppendsPrefix old new (object_bytes p))
IsDonorTold o unit mode bytes old new before now (Err (told.Put put.Memory)) = new ≡ old
IsDonorTold o unit mode bytes old new before now (Err (told.Patch (patching.Refused f tables))) =
    IsDonorFault o unit mode bytes f × SpeaksOfPatch (HasPatchedTables o unit mode bytes) f tables × (new ≡ old)
IsDonorTold o unit mode bytes old new before now (Err (told.Patch patching.Memory)) = new ≡ old

-- Both files were had, and the donor's refinement was taken over or not; or they weren't, and nothing was written.
abbrev pub IsPatchOfFiles : List ℕ → List ℕ → Option (List ℕ) → Option (List ℕ) → Files → Option (List ℕ) → Option (List ℕ) → ℕ → ℕ → Ended (OnObject DonorStop) → Type 0
IsPatchOfFiles unit mode name donor shelf old new before now result =
    IsOnBoth (λ o bytes. IsDonorTold o unit mode bytes old new before now) (new ≡ old) name donor shelf result

-- and nothing is read
abbrev pub IsPatching : List ℕ → List ℕ → Option (List ℕ) → Option (List ℕ) → Files → Streams → Streams → Ended (OnObject DonorStop) → Type 0
IsPatching unit mode name donor shelf old new result =
    (new.rest ≡ old.rest) × IsPatchOfFiles unit mode name donor shelf old.written new.written old.write_faults new.write_faults result

-- The command replaces a refinement of an accepted object by that of a donor's file, which isn't taken over for this fault.
abbrev pub IsPatchCause : Option Command → Option Holdings → PatchFault → Type 0
IsPatchCause (Some (Patch name unit mode donor)) holds f = AreFilesOf (Some name) (Some donor) holds (λ o bytes. IsDonorFault o unit mode bytes f)
IsPatchCause _ holds f = ⊥
