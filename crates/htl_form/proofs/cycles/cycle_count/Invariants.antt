use Rattle.std.proofs.Common.{◌≡◌, ◌≤◌}
use Rattle.htl_form.proofs.Words.{count_below, is_on_cycle}
use Rattle.htl_form.proofs.cycles.cycle_count.Given as goal

abbrev pub invariant-loop-k : goal.invariant-loop-k
invariant-loop-k l = (l.n ≡ count_below (is_on_cycle l.t l.mode) l.k) × (l.n ≤ l.k)
