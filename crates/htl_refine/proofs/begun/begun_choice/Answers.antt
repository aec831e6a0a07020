use Rattle.std.proofs.Common.{take, ◌∙◌, arith}
use Rattle.htl_refine.proofs.BegunChoice.{choice_step, choice_below}
use Rattle.htl_refine.proofs.begun.begun_choice.Goals as goal

pub with_begun-n-requires : goal.with_begun-n-requires
with_begun-n-requires c =
    choice_below c.args.t.now c.args.s.now.modes c.args.at c.loop-k.n c.loop-k.k _ (take c.fill_roots-modules.result c.fill_roots-modules.new.out) c.keeps_ranges.ensures.ranges c.fill_roots-modules.ensures.roots c.loop-k.invariant.sum c.requires.few

pub loop-k-preserved : goal.loop-k-preserved
loop-k-preserved c = record {
  sum = choice_step c.args.t.now c.args.s.now.modes c.as_slice-modes.result.now c.args.at c.loop-k.n c.with_begun-n.result c.loop-k.k _ (take c.fill_roots-modules.result c.fill_roots-modules.new.out) (omega arith) c.as_slice-modes.ensures c.with_begun-n.ensures ∙ c.loop-k.invariant.sum;
}
