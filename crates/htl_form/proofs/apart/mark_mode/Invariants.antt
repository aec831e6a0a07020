use Rattle.std.proofs.Common.{◌≡◌, length}
use Rattle.htl_form.specs.Apart.{AreApart}
use Rattle.htl_form.proofs.apart.mark_mode.Given as goal

abbrev pub invariant-loop-q : goal.invariant-loop-q
invariant-loop-q l = record { len : length l.marks ≡ length l.initial.marks; keys : length l.room ≡ 32768; apart : AreApart l.t l.marks }
