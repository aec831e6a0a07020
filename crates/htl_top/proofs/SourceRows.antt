-- From the answer of a command that compiles to its rows.
use Rattle.std.proofs.Common.{◌≡◌, ℕ, List, Some, subst}
use Rattle.htl_top.proofs.Vocabulary.{built, Jobs, Files, Streams, IsBulked, IsGoing, IsWholeRun, IsProgram, Outcome, Done, Script, Read, Write}
use Rattle.htl_top.proofs.Bulking as bulking
use Rattle.htl_top.proofs.Compiling as compiling
use Rattle.htl_top.proofs.{Compiling.CompilingAs, CompilingOn.CompilingOnAs, Running.bad_run, Running.whole_run}
use Rattle.htl_top.proofs.CompilingOn as platforms
use Rattle.htl_top.proofs.Going as going
use Rattle.htl_top.specs.{Stops.Came, Stops.go_as, SourceRows.GoRows, SourceRows.CompileRows, SourceRows.CompileWithRows, SourceRows.BulkRows}

module _ (shelf : Files) (old new : Streams) (outcome : Outcome) where
  -- ---- `go`

  module _ (name : List ℕ) (call : Came go_as (IsGoing (Some name) shelf old new) outcome) where
    -- what this answer tells
    told_go : (other : Outcome) → outcome ≡ other → going.Told (Some name) shelf old new other
    told_go other same = subst (going.Told (Some name) shelf old new) same (going.tells (Some name) shelf old new outcome call)

    pub go_done : outcome ≡ Done → IsProgram (Some name) shelf.holds (λ t. IsWholeRun Jobs t (built t) old.rest new.rest old.written new.written)
    go_done same = told_go Done same

    pub go_rows : GoRows name shelf old new outcome
    go_rows = record {
      script = λ f same. told_go (Script f) same;
      read = λ same. told_go Read same;
      write = λ same. told_go Write same;
      long_file = λ bytes given long. going.long_file (Some name) shelf old new bytes given outcome call long;
      faulty_source = λ bytes given f known few is. going.faulty_source (Some name) shelf old new bytes given f known is few outcome call;
      bad_script = λ t ready s f events told bad quiet still.
          going.of_ready (Some name) shelf old new t ready (Script f) (bad_run Jobs t (built t) old new s told f events bad quiet still) outcome call;
      complete = λ t ready s events end told whole quiet still.
          going.of_ready (Some name) shelf old new t ready Done (whole_run Jobs t (built t) old new s told events end whole quiet still) outcome call;
    }

  -- ---- `compile`

  pub compile_rows : CompilingAs old new outcome → CompileRows shelf old new outcome
  compile_rows call = record {
    done = λ same. told Done same;
    write = λ same. told Write same;
    read = λ same. told Read same;
    long_input = λ bytes told long quiet. compiling.long_input old new bytes told outcome call long quiet;
    faulty_input = λ bytes told few f known fault quiet. compiling.faulty_input old new bytes told few f known fault outcome call quiet;
    complete = λ bytes told few t of typed formed free quiet still. compiling.complete old new bytes told few t of typed formed free outcome call quiet still;
  }
    where
      told : (other : Outcome) → outcome ≡ other → CompilingAs old new other
      told other same = subst (λ (o : Outcome). CompilingAs old new o) same call

  -- ---- `compile with`

  pub compile_with_rows : (file : List ℕ) → CompilingOnAs (Some file) shelf old new outcome → CompileWithRows file shelf old new outcome
  compile_with_rows file call = record {
    done = λ same. told Done same;
    write = λ same. told Write same;
    read = λ same. let read = told Read same in (read.1, read.2);
    long_platform = λ bytes given long. platforms.long_platform (Some file) shelf old new bytes given long outcome call;
    long_input = λ f given small bytes told long quiet. platforms.long_input (Some file) shelf old new f given small bytes told long outcome call quiet;
    faulty_input = λ f given small bytes told few fault known is quiet. platforms.faulty_on (Some file) shelf old new f given small bytes told few fault known is outcome call quiet;
    complete = λ f given small bytes told few t p of typed says formed free quiet still.
        platforms.complete (Some file) shelf old new f given small bytes told few t p of typed says formed free outcome call quiet still;
  }
    where
      told : (other : Outcome) → outcome ≡ other → CompilingOnAs (Some file) shelf old new other
      told other same = subst (λ (o : Outcome). CompilingOnAs (Some file) shelf old new o) same call

  -- ---- `bulk`

  pub bulk_rows : (n : ℕ) → IsBulked n old new outcome → BulkRows n shelf old new outcome
  bulk_rows n call = record {
    done = λ same. bulking.whole n old new (told Done same);
    write = λ same. bulking.part n old new (told Write same);
    unread = call.0;
    complete = λ still. bulking.complete n old new outcome still call;
  }
    where
      told : (other : Outcome) → outcome ≡ other → IsBulked n old new other
      told other same = subst (λ (o : Outcome). IsBulked n old new o) same call
