-- Files and streams before and after a call, and what answers leave as it was.
use Rattle.std.specs.Prelude.{ℕ, ◌≡◌, Option, List}
use Rattle.htl_open.specs.{Files.Files, declared.stop.ShelfCause.TheVariants.Failed}
use Rattle.htl_top.specs.{Common.LogKind, declared.outcome.Outcome.Outcome}
use Rattle.htl_audit.specs.declared.slice.LogKind.TheVariants as kind
use Rattle.htl_top.specs.declared.outcome.Outcome.TheVariants.{Done, Log, Script, Shelf, Read, Write, Memory}

-- the input and the output at one moment: what is left, what was written, and the counts of faults
pub record Streams : Type 0 where
  pub rest : Option (List ℕ)
  pub read_faults : ℕ
  pub written : Option (List ℕ)
  pub write_faults : ℕ

abbrev pub streams : {R W : Type 0} → (R → Option (List ℕ)) → (R → ℕ) → (W → Option (List ℕ)) → (W → ℕ) → R → W → Streams
streams rest read_faults written write_faults input out =
    record { rest = rest input; read_faults = read_faults input; written = written out; write_faults = write_faults out }

-- nothing was read and nothing written
pub record IsUntouched (old new : Streams) : Type 0 where
  pub rest : new.rest ≡ old.rest
  pub written : new.written ≡ old.written

-- ---- what other answers leave as it was

-- the faults of a log that are told before its audit begins
abbrev pub IsOfReading : LogKind → Type 0
IsOfReading kind.Form = Unit {0}
IsOfReading kind.Unknown = Unit {0}
IsOfReading _ = ⊥

-- answers after which nothing was read
abbrev pub IsBeforeScript : Outcome → Type 0
IsBeforeScript (Log f) = IsOfReading f.kind
IsBeforeScript Done = ⊥
IsBeforeScript (Script fault) = ⊥
IsBeforeScript Read = ⊥
IsBeforeScript Write = ⊥
IsBeforeScript Memory = ⊥
IsBeforeScript _ = Unit {0}

-- answers after which nothing was written, whatever the command
abbrev pub IsBeforeRun : Outcome → Type 0
IsBeforeRun (Log f) = IsOfReading f.kind
IsBeforeRun Done = ⊥
IsBeforeRun (Script fault) = ⊥
IsBeforeRun Read = ⊥
IsBeforeRun Write = ⊥
IsBeforeRun _ = Unit {0}

-- ---- the counts of faults

-- The counts of the shelf, the input and the output stand where they stood.
pub record AreCountsKept (shelf : Files) (old new : Streams) : Type 0 where
  pub files : (file : List ℕ) → shelf.after file ≡ shelf.before file
  pub read : new.read_faults ≡ old.read_faults
  pub write : new.write_faults ≡ old.write_faults

-- Each of these counts stands where it stood, unless the answer is the one of which it is the cause.
pub record KeepsCounts (shelf : Files) (old new : Streams) (outcome : Outcome) : Type 0 where
  pub files : (outcome ≡ Shelf Failed → ⊥) → (file : List ℕ) → shelf.after file ≡ shelf.before file
  pub read : (outcome ≡ Read → ⊥) → new.read_faults ≡ old.read_faults
  pub write : (outcome ≡ Write → ⊥) → new.write_faults ≡ old.write_faults
