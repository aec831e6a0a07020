-- From what a command came to, to all that its answer says.
use Rattle.std.proofs.Common.{◌≡◌, List, ℕ, None, sym, refl, subst}
use Rattle.htl_top.proofs.{Vocabulary.Files, Vocabulary.Streams, Vocabulary.KeepsCounts, Vocabulary.Outcome, Vocabulary.Usage, Vocabulary.Shelf, Vocabulary.Read, Vocabulary.Write, Vocabulary.Failed, Vocabulary.SpeaksOf, Inputs.taken_none}
use Rattle.htl_top.proofs.Stops.{unless}
use Rattle.htl_top.specs.{Calls.IsAnswered, Stops.Ended, Stops.ended_as, declared.answer.Answer.Answer}

-- the counts of faults, by the stops that they are the causes of
pub counted : {A : Type 0} (of : A → Outcome) (failed unread cut : Ended A) (shelf : Files) (old new : Streams) (r : Ended A) (outcome : Outcome) → outcome ≡ ended_as of r
    → ended_as of failed ≡ Shelf Failed → ended_as of unread ≡ Read → ended_as of cut ≡ Write
    → ((r ≡ failed → ⊥) → (file : List ℕ) → shelf.after file ≡ shelf.before file) → ((r ≡ unread → ⊥) → new.read_faults ≡ old.read_faults)
    → ((r ≡ cut → ⊥) → new.write_faults ≡ old.write_faults) → KeepsCounts shelf old new outcome
counted of failed unread cut shelf old new r outcome is at_shelf at_read at_write files reads writes = record {
  files = unless of r failed outcome (Shelf Failed) is at_shelf files;
  read = unless of r unread outcome Read is at_read reads;
  write = unless of r cut outcome Write is at_write writes;
}

-- no command
pub usage_answered : (shelf : Files) (old : Streams) (answer : Answer) → answer.outcome ≡ Usage → ((file : List ℕ) → shelf.after file ≡ shelf.before file)
    → IsAnswered None shelf old old answer
usage_answered shelf old answer is kept = record {
  call = (is, record { rest = refl; written = refl });
  tables = subst (λ (o : Outcome). SpeaksOf (λ fact. ⊥) (λ fact. ⊥) o answer.tables) (sym is) tt;
  taken = taken_none 0 old.rest;
  counts = record { files = λ apart. kept; read = λ apart. refl; write = λ apart. refl };
}
