use Rattle.std.proofs.Common.{◌≡◌, length}
use Rattle.htl_form.proofs.Words.{IsStartOf, AreApart, AreOwners}
use Rattle.htl_form.proofs.apart.mark_apart.Given as goal

abbrev pub invariant-loop-m : goal.invariant-loop-m
invariant-loop-m l =
    record {
      len : length l.marks ≡ length l.initial.marks;
      start : IsStartOf l.t l.m l.base;
      keys : length l.room ≡ 32768;
      noted : length l.owners ≡ 1024;
      owners : AreOwners l.t l.base l.owners;
      apart : AreApart l.t l.marks;
    }
