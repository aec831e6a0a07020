use Rattle.std.proofs.Common.{◌<◌, ◌+◌, ℕ, get_or}
use Rattle.htl_form.proofs.instances.is_rising.Given as goal

abbrev pub invariant-loop-k : goal.invariant-loop-k
invariant-loop-k l = (q : ℕ) → q + 1 < l.k → get_or l.keys q 0 < get_or l.keys (q + 1) 0
