use Rattle.std.proofs.Common.{◌≡◌, ◌<◌, ℕ, true, take, length, get_or}
use Rattle.htl_form.proofs.Words.{list_any, is_comm, has_module, KeepOwners}
use Rattle.htl_form.specs.declared.owners.Owner.TheVariants as owner
use Rattle.htl_form.proofs.owners.note_ends.Given as goal

abbrev pub invariant-loop-k : goal.invariant-loop-k
invariant-loop-k l =
    record {
      len : length l.owners ≡ length l.initial.owners;
      keeps : KeepOwners l.initial.owners l.owners;
      notes : (c : ℕ) → c < length l.initial.owners → list_any (is_comm c) (take l.k l.ends) ≡ true → has_module (get_or l.owners c owner.Nobody) l.«module» ≡ true;
    }
