use Rattle.std.proofs.Common.{ℕ, length, sym, ap, ◌∙◌, arith}
use Rattle.std.proofs.lemmas.List.{drop-set-lt, length-set}
use Rattle.htl_walk.proofs.{Words.begins_with, Words.placed_job, Placing.place_is, Placing.place_small, Placing.front_next}
use Rattle.htl_walk.proofs.placed.placed_jobs.Goals as goal

pub moved-requires-clause-release : goal.moved-requires-clause-release
moved-requires-clause-release c =
    λ here. (place_small c.args.t.now c.args.places.now c.fill_standing.new.out c.fill_jobs.new.out c.loop-p.p c.mates_at-round.result.row c.requires.times c.fill_standing.ensures c.fill_jobs.ensures.jobs (omega arith) (omega arith) c.mates_at-round.ensures.row here).0

pub moved-requires-clause-end : goal.moved-requires-clause-end
moved-requires-clause-end c =
    λ here. (place_small c.args.t.now c.args.places.now c.fill_standing.new.out c.fill_jobs.new.out c.loop-p.p c.mates_at-round.result.row c.requires.times c.fill_standing.ensures c.fill_jobs.ensures.jobs (omega arith) (omega arith) c.mates_at-round.ensures.row here).1

pub loop-p-preserved : goal.loop-p-preserved
loop-p-preserved c =
    let t = c.args.t.now in
    let xs = c.args.places.now in
    let p = c.loop-p.p in
    let is = place_is t xs c.fill_standing.new.out c.fill_jobs.new.out p c.mates_at-round.result.row c.fill_standing.ensures c.fill_jobs.ensures.jobs (omega arith) (omega arith) c.mates_at-round.ensures.row in
    record {
      front = front_next (placed_job t xs) c.loop-p.out xs p c.moved.result (omega arith) (omega arith) c.loop-p.invariant.front (c.moved.ensures ∙ is);
      rest = drop-set-lt (length xs) c.loop-p.out p c.moved.result (omega arith) ∙ c.loop-p.invariant.rest;
      size = length-set c.loop-p.out p c.moved.result ∙ c.loop-p.invariant.size;
      row = λ q. c.mates_at-round.ensures.row q ∙ ap (λ (a : ℕ). begins_with a xs q) (sym c.mates_at-round.ensures.at);
    }
