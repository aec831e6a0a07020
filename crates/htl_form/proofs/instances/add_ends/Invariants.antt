use Rattle.std.proofs.Common.{◌≡◌, ◌≤◌, ◌+◌, length, take}
use Rattle.htl_form.specs.Apart.{keys_in, IsFilled}
use Rattle.htl_form.proofs.instances.add_ends.Given as goal

abbrev pub invariant-loop-k : goal.invariant-loop-k
invariant-loop-k l =
    record {
      size : length l.keys ≡ length l.initial.keys;
      filled : IsFilled l.initial.keys l.len l.keys l.n (keys_in (take l.k l.ends));
      few : l.n ≤ l.len + l.k;
    }
