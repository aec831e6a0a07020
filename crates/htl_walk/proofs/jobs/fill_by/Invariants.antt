use Rattle.std.proofs.Common.{◌≡◌, take, drop, map, length}
use Rattle.htl_walk.specs.Jobs.{job_of}
use Rattle.htl_walk.proofs.jobs.fill_by.Given as goal

abbrev pub invariant-loop-p : goal.invariant-loop-p
invariant-loop-p l =
    record {
      front : take l.p l.out ≡ map (job_of l.t l.standing) (take l.p l.standing);
      rest : drop (length l.standing) l.out ≡ drop (length l.standing) l.fn.out;
      size : length l.out ≡ 128;
    }
