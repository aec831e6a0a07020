use Rattle.std.proofs.Common.{◌≡◌, ℕ, length, refl, sym, subst, arith, add-one}
use Rattle.htl_walk.proofs.{Words.slice_get-get_or, Words.Dispatch, Following.known_at, Walked.IsWalked, Walked.walked_none, Walked.walked_more, Walked.missed_here, Walked.at_end, Walked.left_open, Walked.none_left, Walked.known_more}
use Rattle.htl_walk.proofs.listing.follow.Goals as goal

pub step-requires-clause-known : goal.step-requires-clause-known
step-requires-clause-known c =
    known_more c.args.span.known (length c.args.jobs.now) _ c.requires.known
    (known_at c.args.span.known c.args.span.until c.args.instrs.now c.loop-k.k _ c.requires.form (slice_get-get_or c.args.instrs.now c.loop-k.k (Dispatch 0 0) (omega arith)))

pub returns-in-Err-clause-missed : goal.returns-in-Err-clause-missed
returns-in-Err-clause-missed c =
    missed_here c.args.jobs.now c.args.instrs.now (record { time = c.args.span.from; left = c.args.left.now }) c.loop-k.k _ (slice_get-get_or c.args.instrs.now c.loop-k.k (Dispatch 0 0) (omega arith)) c.args.span.known c.args.span.until _ c.in-Err.miss
    c.requires.form c.loop-k.invariant.walked c.in-Err.ensures.missed

pub loop-k-init : goal.loop-k-init
loop-k-init c =
    record {
      walked = walked_none c.args.jobs.now c.args.instrs.now (record { time = c.args.span.from; left = c.args.left.now });
      pending = c.pending_of-pending.ensures;
    }

pub loop-k-preserved : goal.loop-k-preserved
loop-k-preserved c =
    record {
      walked = subst (λ (k : ℕ). IsWalked c.args.jobs.now c.args.instrs.now (record { time = c.args.span.from; left = c.args.left.now }) k (record { time = c.in-Ok.next.time; left = c.step.new.left })) (sym (add-one c.loop-k.k))
          (walked_more c.args.jobs.now c.args.instrs.now (record { time = c.args.span.from; left = c.args.left.now }) c.loop-k.k _ (slice_get-get_or c.args.instrs.now c.loop-k.k (Dispatch 0 0) (omega arith)) _ _ c.loop-k.finish c.step.new.finish c.loop-k.invariant.walked
          c.in-Ok.ensures.followed);
      pending = c.in-Ok.ensures.pending;
    }

pub returns-in-Some-clause-missed : goal.returns-in-Some-clause-missed
returns-in-Some-clause-missed c =
    let end : c.loop-k.k ≡ length c.args.instrs.now = omega arith in
    left_open c.args.span.known c.args.span.until c.args.jobs.now c.args.instrs.now (record { time = c.args.span.from; left = c.args.left.now }) (record { time = c.loop-k.now.time; left = c.loop-k.left }) c.in-Some.position _ c.requires.form
    (subst (λ (k : ℕ). IsWalked c.args.jobs.now c.args.instrs.now (record { time = c.args.span.from; left = c.args.left.now }) k (record { time = c.loop-k.now.time; left = c.loop-k.left })) end c.loop-k.invariant.walked) refl
    (c.in-Some.ensures.open c.loop-k.now.time) (λ q l o. c.in-Some.ensures.lowest c.loop-k.now.time q l o)

pub returns-in-None-clause-clean : goal.returns-in-None-clause-clean
returns-in-None-clause-clean c =
    let end : c.loop-k.k ≡ length c.args.instrs.now = omega arith in
    none_left c.args.span.known c.args.span.until c.args.jobs.now c.args.instrs.now (record { time = c.args.span.from; left = c.args.left.now }) (record { time = c.loop-k.now.time; left = c.loop-k.left }) c.requires.form
    (subst (λ (k : ℕ). IsWalked c.args.jobs.now c.args.instrs.now (record { time = c.args.span.from; left = c.args.left.now }) k (record { time = c.loop-k.now.time; left = c.loop-k.left })) end c.loop-k.invariant.walked) (λ q o. c.in-None.ensures.none c.loop-k.now.time q o)

pub returns-in-None-clause-point : goal.returns-in-None-clause-point
returns-in-None-clause-point c =
    let end : c.loop-k.k ≡ length c.args.instrs.now = omega arith in
    at_end c.args.jobs.now c.args.instrs.now (record { time = c.args.span.from; left = c.args.left.now }) (record { time = c.loop-k.now.time; left = c.loop-k.left })
    (subst (λ (k : ℕ). IsWalked c.args.jobs.now c.args.instrs.now (record { time = c.args.span.from; left = c.args.left.now }) k (record { time = c.loop-k.now.time; left = c.loop-k.left })) end c.loop-k.invariant.walked)
