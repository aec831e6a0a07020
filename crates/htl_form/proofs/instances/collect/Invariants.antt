use Rattle.std.proofs.Common.{◌≡◌, ◌≤◌, ◌*◌, length}
use Rattle.htl_form.specs.Apart.{keys_from, IsFilled}
use Rattle.htl_form.proofs.instances.collect.Given as goal

abbrev pub invariant-loop-q : goal.invariant-loop-q
invariant-loop-q l =
    record {
      size : length l.keys ≡ length l.initial.keys;
      filled : IsFilled l.initial.keys 0 l.keys l.len (keys_from l.t l.base l.q);
      few : l.len ≤ l.q * 256;
    }
