use Rattle.std.proofs.Common.{◌≡◌, take}
use Rattle.htl_refine.specs.FrameRuns.{frame_jobs}
use Rattle.htl_plan.proofs.StayingJobs.{begun_before}
use Rattle.htl_plan.proofs.staying.staying_jobs.Given as goal

abbrev pub invariant-loop-j : goal.invariant-loop-j
invariant-loop-j l = record {
  begun : l.n ≡ begun_before l.t l.s.modes l.j;
  front : take l.n l.out ≡ take l.n (frame_jobs l.t (λ a. l.s.modes));
}
