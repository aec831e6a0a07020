use Rattle.std.proofs.Common.{◌≡◌, drop}
use Rattle.htl_refine.specs.BegunJobs.{choice_rest, choice_of}
use Rattle.htl_refine.proofs.begun.begun_choice.Given as goal

abbrev pub invariant-loop-k : goal.invariant-loop-k
invariant-loop-k l = record { sum : choice_rest l.t l.s.modes l.at l.n (drop l.k l.roots) ≡ choice_of l.t l.s.modes l.at }
