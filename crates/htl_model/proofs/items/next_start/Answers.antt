use Rattle.std.proofs.Common.{◌+◌, arith}
use Rattle.std.proofs.lemmas.Option.{slice_get_within}
use Rattle.htl_model.proofs.StartLaws.{rise_above}
use Rattle.htl_model.proofs.items.next_start.Goals as goal

pub returns-then-mode-inv_at-clause-start : goal.returns-then-mode-inv_at-clause-start
returns-then-mode-inv_at-clause-start c =
    record {
      within = omega arith;
      below = c.loop-k.invariant;
      above = rise_above c.args.t.now (c.args.mode + 1) c.loop-k.k c.inv_at.result.now c.keeps_ranges.ensures.ranges c.inv_at.ensures (omega (arith, c.if-mode-inv_at.true));
    }

pub returns-clause-start : goal.returns-clause-start
returns-clause-start c =
    record {
      within = omega arith;
      below = λ q i less at. c.loop-k.invariant q i (omega arith) at;
      above = λ q i le at. absurd (omega (arith, slice_get_within c.args.t.now.invs q i at));
    }
