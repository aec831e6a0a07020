use Rattle.std.proofs.Common.{◌≡◌, length}
use Rattle.htl_edf.specs.Turns.{HaveReleases}
use Rattle.htl_edf.proofs.in_order.fill_releases.Given as goal

abbrev pub invariant-loop-k : goal.invariant-loop-k
invariant-loop-k l = record { same : length l.out ≡ length l.jobs; have : HaveReleases l.jobs l.out l.turns.waiting l.k }
