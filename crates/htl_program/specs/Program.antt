-- What the program comes to.
use Rattle.std.specs.Prelude.{◌≡◌, ◌⊎◌, ℕ, Option, None, List}
use Rattle.htl_open.specs.{Files.Files, Files.counted_files, Lines.Tells}
use Rattle.htl_top.specs.{Answers.Streams, Answers.IsUntouched, Answers.AreCountsKept, Answers.KeepsCounts, Calls.IsCall, Calls.HasSource, Calls.HasObject, Status.status_of, Status.fault_line, ErrorLines.IsLineTold, Words.command_of}
use Rattle.htl_top.specs.{declared.outcome.Outcome.Outcome, declared.outcome.Outcome.TheVariants.Done, declared.outcome.Outcome.TheVariants.Memory}

-- The status is that of what `htl` answers to these words over the shelf and the streams; each count of faults stands where it
-- stood, unless the answer is the one of which it is the cause; `Told` holds of the line that tells of the answer, and after Done
-- nothing was told.
pub record EndsWith (words : List (List ℕ)) (shelf : Files) (old new : Streams) (Told : List ℕ → Type 0) (Quiet : Type 0) (status : ℕ) : Type 0 where
  pub outcome : Outcome
  pub is : status ≡ status_of outcome
  pub answer : IsCall (command_of words) shelf old new outcome
  pub counts : KeepsCounts shelf old new outcome
  pub told : IsLineTold (HasSource (command_of words) shelf.holds old.rest) (HasObject (command_of words) shelf.holds) Told outcome
  pub quiet : outcome ≡ Done → Quiet

-- There was no memory for the words: the status is that of Memory, whose line was told, nothing was read or written, and no
-- fault of the shelf, the input or the output was counted.
pub record EndsWordless (shelf : Files) (old new : Streams) (Told : List ℕ → Type 0) (status : ℕ) : Type 0 where
  pub is : status ≡ status_of Memory
  pub untouched : IsUntouched old new
  pub counts : AreCountsKept shelf old new
  pub told : Told (fault_line None Memory)

-- the one or the other
abbrev pub Ends : List (List ℕ) → Files → Streams → Streams → (List ℕ → Type 0) → Type 0 → ℕ → Type 0
Ends words shelf old new Told Quiet status = EndsWith words shelf old new Told Quiet status ⊎ EndsWordless shelf old new Told status

-- ---- the real files and streams, which tell their counts of faults alone

abbrev pub untold : Option (List ℕ)
untold = None

abbrev pub counted_streams : ℕ → ℕ → Streams
counted_streams read_faults write_faults = record { rest = untold; read_faults = read_faults; written = untold; write_faults = write_faults }

-- the same over real files and streams that counted no fault before, for some counts afterwards
abbrev pub EndsFresh : List (List ℕ) → ℕ → Type 0
EndsFresh words status =
    (seen read_faults write_faults told_faults : ℕ)
    × Ends words (counted_files 0 seen) (counted_streams 0 0) (counted_streams read_faults write_faults) (Tells untold untold 0 told_faults) (untold ≡ untold) status
