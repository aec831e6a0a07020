use Rattle.std.proofs.Common.{◌≡◌, List, arith, sym, subst, length}
use Rattle.htl_edf.proofs.{Words.length-take, Words.Tight, Words.HoldsAfter, Jumps.are_tightened, Rest.rested, Rest.agreed}
use Rattle.htl_edf.proofs.rounds.tighten_in_rounds.Goals as goal

pub returns : goal.returns
returns c =
    let e : c.loop-k.k ≡ length c.args.jobs.now = omega arith in
    are_tightened c.args.jobs.now _ (rw e at c.loop-k.invariant.holds)

pub returns-then-are_same : goal.returns-then-are_same
returns-then-are_same c =
    let js = c.args.jobs.now in
    let k = c.loop-k.k in
    let old = c.copy_from_slice.new.self in
    rested js c.round.new.next k (omega arith)
    (agreed js old c.round.new.next (length old) k (omega (arith, c.copy_from_slice.ensures.len, length-take (length js) c.loop-k.last, c.loop-k.invariant.room, c.requires.jobs.few)) (c.are_same.ensures c.if-are_same.true)
    (subst (λ (ts : List Tight). HoldsAfter js ts k) (sym c.copy_from_slice.ensures.after) c.loop-k.invariant.holds))
    c.round.ensures
