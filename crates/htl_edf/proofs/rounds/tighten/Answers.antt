use Rattle.htl_model.proofs.BitLaws.{no_bits}
use Rattle.htl_edf.proofs.Jumps.{are_tightened, holds_free}
use Rattle.htl_edf.proofs.rounds.tighten.Goals as goal

pub returns-then-are_free : goal.returns-then-are_free
returns-then-are_free c = holds_free c.args.jobs.now (c.are_free.ensures c.if-are_free.true) c.fill.new.out c.fill.ensures

pub fill_successors-requires-clause-empty : goal.fill_successors-requires-clause-empty
fill_successors-requires-clause-empty c = λ p q. no_bits 128 p q

pub returns-else-not-tighten_in_order : goal.returns-else-not-tighten_in_order
returns-else-not-tighten_in_order c = are_tightened c.args.jobs.now c.tighten_in_order.new.out (c.tighten_in_order.ensures.holds c.if-not-tighten_in_order.false)
