use Rattle.std.proofs.Common.{◌≡◌, None, get_or, length, ◌∙◌, arith}
use Rattle.std.proofs.lemmas.List.{drop-set-lt, length-set}
use Rattle.htl_walk.specs.Jobs.{job_of}
use Rattle.htl_walk.proofs.Masks.{job_is, front_more}
use Rattle.htl_walk.proofs.jobs.fill_by.Goals as goal

pub loop-p-preserved : goal.loop-p-preserved
loop-p-preserved c =
    let t = c.args.t.now in
    let standing = c.args.standing.now in
    let p = c.loop-p.p in
    let is : c.job.result ≡ job_of t standing (get_or standing p None) =
    c.job.ensures ∙ job_is t standing c.fill_writers.new.table c.keeps_ranges.ensures.ranges (omega arith) c.fill_writers.ensures.writers (get_or standing p None) c.predecessors.result c.predecessors.ensures in
    record {
      front = front_more (job_of t standing) c.loop-p.out standing p c.job.result (omega arith) (omega arith) c.loop-p.invariant.front is;
      rest = drop-set-lt (length standing) c.loop-p.out p c.job.result (omega arith) ∙ c.loop-p.invariant.rest;
      size = length-set c.loop-p.out p c.job.result ∙ c.loop-p.invariant.size;
    }
