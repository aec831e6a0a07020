use Rattle.std.proofs.Common.{◌≡◌}
use Rattle.htl_espell.specs.Checks.{phase_departure}
use Rattle.htl_espell.proofs.{Words.number_of, PhaseBlocks.IsChecking, PhaseBlocks.left_of}
use Rattle.htl_espell.proofs.blocks.check_phase.Given as goal

abbrev pub invariant-loop-block : goal.invariant-loop-block
invariant-loop-block l =
    record { same : l.code ≡ l.fn.code; checks : IsChecking l.t l.fn.code l.run.mode (number_of l.phase) (phase_departure l.t l.fn.code l.run.mode (number_of l.phase) l.fn.first) l.block }

abbrev pub decreases-loop-block : goal.decreases-loop-block
decreases-loop-block l = left_of l.t l.run.mode (number_of l.phase) l.block
