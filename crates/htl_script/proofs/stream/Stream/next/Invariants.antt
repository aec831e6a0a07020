use Rattle.std.proofs.Common.{◌≡◌, ◌≤◌, ◌-◌}
use Rattle.htl_script.proofs.SoFar.{IsSoFar}
use Rattle.htl_script.proofs.stream.Stream.next.Given as goal

abbrev pub invariant-lines : goal.invariant-lines
invariant-lines g l =
    IsSoFar l.fn.names l.initial.self l.self (g.R.Source.rest l.initial.src) (g.R.Source.rest l.src)
    × (l.self.here.past ≡ l.initial.self.here.past)
    × (l.initial.self.here.number ≤ l.self.here.number)
    × (g.R.Source.faults l.src ≡ g.R.Source.faults l.initial.src)

abbrev pub decreases-lines : goal.decreases-lines
decreases-lines g l = 1073741826 - l.self.here.number
