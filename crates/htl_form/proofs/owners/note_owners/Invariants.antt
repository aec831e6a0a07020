use Rattle.std.proofs.Common.{◌≡◌, ◌+◌, length}
use Rattle.htl_form.specs.Owners.{AreOwners}
use Rattle.htl_form.proofs.owners.note_owners.Given as goal

abbrev pub invariant-loop-q : goal.invariant-loop-q
invariant-loop-q l = record { len : length l.owners ≡ length l.initial.owners; owners : AreOwners l.t (l.base + l.q) l.owners }
