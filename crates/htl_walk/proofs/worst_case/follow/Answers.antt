use Rattle.std.proofs.Common.{◌≡◌, ℕ, List, length, get_or, refl, sym, subst, arith, add-one}
use Rattle.htl_walk.proofs.{Words.slice_get-get_or, Words.Dispatch, Following.IsFollowedTo, Following.followed_none, Following.followed_more, Following.followed_all, Following.missed_here, Following.unfinished, Following.known_at}
use Rattle.htl_walk.specs.declared.miss.Miss.TheVariants as miss
use Rattle.htl_walk.proofs.Acceptance.{refused}
use Rattle.htl_walk.proofs.worst_case.follow.Goals as goal

pub loop-k-init : goal.loop-k-init
loop-k-init c =
    record {
      followed = subst (λ (left : List ℕ). IsFollowedTo c.args.jobs.now c.args.instrs.now 0 (record { time = 0; left = left }) c.args.finish.now) (sym c.fill_worst-pending.ensures.work)
          (followed_none c.args.jobs.now c.args.instrs.now c.args.finish.now c.requires.present);
      pending = c.fill_worst-pending.ensures.pending;
    }

pub step-requires-clause-known : goal.step-requires-clause-known
step-requires-clause-known c =
    known_at (length c.args.jobs.now) c.args.period c.args.instrs.now c.loop-k.k _ c.requires.form (slice_get-get_or c.args.instrs.now c.loop-k.k (Dispatch 0 0) (omega arith))

pub returns-in-Err-clause-missed : goal.returns-in-Err-clause-missed
returns-in-Err-clause-missed c =
    missed_here c.args.jobs.now c.args.instrs.now c.loop-k.k _ (slice_get-get_or c.args.instrs.now c.loop-k.k (Dispatch 0 0) (omega arith)) c.args.period _ c.loop-k.finish c.in-Err.miss
    c.requires.form c.loop-k.invariant.followed c.in-Err.ensures.missed

pub loop-k-preserved : goal.loop-k-preserved
loop-k-preserved c =
    record {
      followed = subst (λ (k : ℕ). IsFollowedTo c.args.jobs.now c.args.instrs.now k (record { time = c.in-Ok.next.time; left = c.step.new.left }) c.step.new.finish) (sym (add-one c.loop-k.k))
          (followed_more c.args.jobs.now c.args.instrs.now c.loop-k.k _ (slice_get-get_or c.args.instrs.now c.loop-k.k (Dispatch 0 0) (omega arith)) _ _ c.loop-k.finish c.step.new.finish c.loop-k.invariant.followed
          c.in-Ok.ensures.followed);
      pending = c.in-Ok.ensures.pending;
    }

pub returns-in-None-clause-accepted : goal.returns-in-None-clause-accepted
returns-in-None-clause-accepted c =
    let end : c.loop-k.k ≡ length c.args.instrs.now = omega arith in
    followed_all c.args.jobs.now c.args.period c.args.instrs.now _ c.loop-k.finish c.requires.present c.requires.form
    (subst (λ (k : ℕ). IsFollowedTo c.args.jobs.now c.args.instrs.now k (record { time = c.loop-k.now.time; left = c.loop-k.left }) c.loop-k.finish) end c.loop-k.invariant.followed) c.in-None.ensures.none

pub returns-in-Err-clause-refused : goal.returns-in-Err-clause-refused
returns-in-Err-clause-refused c =
    refused c.args.jobs.now c.args.period c.args.instrs.now c.in-Err.miss
    (missed_here c.args.jobs.now c.args.instrs.now c.loop-k.k _ (slice_get-get_or c.args.instrs.now c.loop-k.k (Dispatch 0 0) (omega arith)) c.args.period _ c.loop-k.finish c.in-Err.miss
    c.requires.form c.loop-k.invariant.followed c.in-Err.ensures.missed)

pub returns-in-Some-clause-refused : goal.returns-in-Some-clause-refused
returns-in-Some-clause-refused c =
    let end : c.loop-k.k ≡ length c.args.instrs.now = omega arith in
    refused c.args.jobs.now c.args.period c.args.instrs.now (miss.Unfinished c.in-Some.position (get_or c.loop-k.left c.in-Some.position 0))
    (unfinished c.args.jobs.now c.args.period c.args.instrs.now (record { time = c.loop-k.now.time; left = c.loop-k.left }) c.loop-k.finish c.in-Some.position _ c.requires.form
    (subst (λ (k : ℕ). IsFollowedTo c.args.jobs.now c.args.instrs.now k (record { time = c.loop-k.now.time; left = c.loop-k.left }) c.loop-k.finish) end c.loop-k.invariant.followed) refl c.in-Some.ensures.left
    c.in-Some.ensures.lowest)
