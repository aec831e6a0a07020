use Rattle.std.proofs.Common.{◌≡◌, drop}
use Rattle.htl_model.proofs.Words.{mode_period, least_or, offsets, least_on}
use Rattle.htl_model.proofs.window.window_end.Given as goal

abbrev pub invariant-loop-k : goal.invariant-loop-k
invariant-loop-k l =
    least_on (mode_period l.t l.inv.mode) l.earliest (offsets l.t (drop l.k l.writes)) ≡ least_or (mode_period l.t l.inv.mode) (offsets l.t l.writes)
