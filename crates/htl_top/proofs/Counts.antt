-- The counts of faults, by the answer.
use Rattle.std.proofs.Common.{◌≡◌, sym, ◌∙◌}
use Rattle.htl_top.proofs.Vocabulary.{Files, Streams, AreCountsKept, KeepsCounts, Outcome, Done, Shelf, Read, Write, Failed}

pub kept_done : (shelf : Files) (old new : Streams) (outcome : Outcome) → outcome ≡ Done → KeepsCounts shelf old new outcome → AreCountsKept shelf old new
kept_done shelf old new outcome done kept = record {
  files = kept.files (λ e. let no : Done ≡ Shelf Failed = sym done ∙ e in cc);
  read = kept.read (λ e. let no : Done ≡ Read = sym done ∙ e in cc);
  write = kept.write (λ e. let no : Done ≡ Write = sym done ∙ e in cc);
}
