-- What the program comes to.
use Rattle.std.specs.Prelude.{◌≡◌, ◌⊎◌, ℕ, Option, None, List}
use Rattle.htl_open.specs.{Files.Files, Files.counted_files, Lines.Tells, Objects.IsObjectTables, declared.stop.ShelfCause.TheVariants.Failed}
use Rattle.htl_times_top.specs.{Answers.object_named, Answers.IsTimes, Status.fault_line, Status.status_of, Status.IsLineTold, declared.outcome.Outcome.Outcome}
use Rattle.htl_times_top.specs.declared.outcome.Outcome.TheVariants.{Done, Memory, Shelf, Write}

-- an output at one moment: what was written, and its count of faults
pub record Written : Type 0 where
  pub bytes : Option (List ℕ)
  pub faults : ℕ

abbrev pub written : {W : Type 0} → (W → Option (List ℕ)) → (W → ℕ) → W → Written
written bytes faults out = record { bytes = bytes out; faults = faults out }

-- The status is that of what `times` answers to these words over the shelf and the output; each count of faults stands where it
-- stood, unless the answer is the one of which it is the cause; `Told` holds of the line that tells of the answer, and after Done
-- nothing was told.
pub record EndsWith (words : List (List ℕ)) (shelf : Files) (old new : Written) (Told : List ℕ → Type 0) (Quiet : Type 0) (status : ℕ) : Type 0 where
  pub outcome : Outcome
  pub is : status ≡ status_of outcome
  pub answer : IsTimes (object_named words) shelf old.bytes new.bytes old.faults new.faults outcome
  pub shelf_count : (outcome ≡ Shelf Failed → ⊥) → (file : List ℕ) → shelf.after file ≡ shelf.before file
  pub write_count : (outcome ≡ Write → ⊥) → new.faults ≡ old.faults
  pub told : IsLineTold (IsObjectTables (object_named words) shelf.holds) Told outcome
  pub quiet : outcome ≡ Done → Quiet

-- There was no memory for the words: the status is that of Memory, whose line was told, nothing was written, and no fault of the
-- shelf or the output was counted.
pub record EndsWordless (shelf : Files) (old new : Written) (Told : List ℕ → Type 0) (status : ℕ) : Type 0 where
  pub is : status ≡ status_of Memory
  pub untouched : new ≡ old
  pub shelf_count : (file : List ℕ) → shelf.after file ≡ shelf.before file
  pub told : Told (fault_line None Memory)

-- the one or the other
abbrev pub Ends : List (List ℕ) → Files → Written → Written → (List ℕ → Type 0) → Type 0 → ℕ → Type 0
Ends words shelf old new Told Quiet status = EndsWith words shelf old new Told Quiet status ⊎ EndsWordless shelf old new Told status

-- ---- the real files and streams, which tell their counts of faults alone

abbrev pub untold : Option (List ℕ)
untold = None

abbrev pub counted : ℕ → Written
counted faults = record { bytes = untold; faults = faults }

-- the same over real files and streams that counted no fault before, for some counts afterwards
abbrev pub EndsFresh : List (List ℕ) → ℕ → Type 0
EndsFresh words status =
    (seen write_faults told_faults : ℕ)
    × Ends words (counted_files 0 seen) (counted 0) (counted write_faults) (Tells untold untold 0 told_faults) (untold ≡ untold) status
