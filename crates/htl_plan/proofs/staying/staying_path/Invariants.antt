use Rattle.std.proofs.Common.{◌≡◌}
use Rattle.htl_refine.specs.FrameRuns.{path_of}
use Rattle.htl_plan.proofs.StayingPath.{path_from}
use Rattle.htl_plan.proofs.staying.staying_path.Given as goal

abbrev pub invariant-loop-j : goal.invariant-loop-j
invariant-loop-j l = path_from l.t l.s.modes l.path l.j ≡ path_of l.t (λ a. l.s.modes)
