use Rattle.std.proofs.Common.{sym, ◌∙◌, ap, arith, add-one, set, get_or}
use Rattle.htl_form.proofs.{Words.one_shl, Words.widened, RowLaws.map_step, RowLaws.at_step, RowLaws.through_empty}
use Rattle.htl_form.proofs.rows.through_one.Goals as goal

pub loop-i-preserved : goal.loop-i-preserved
loop-i-preserved c =
    let f = widened (get_or c.args.rows.now c.args.k 0) c.args.k in
    let here = ap (λ xs. get_or xs c.loop-i.i 0) c.loop-i.invariant ∙ at_step f c.args.rows.now c.loop-i.i (omega arith) in
    let next = c.widened.ensures c.args.k (one_shl c.args.k 128 c.requires.few) ∙ ap f here in
    rw add-one (ap (λ x. set c.loop-i.rows c.loop-i.i x) next ∙ ap (λ xs. set xs c.loop-i.i (f (get_or c.args.rows.now c.loop-i.i 0))) c.loop-i.invariant
    ∙ map_step f c.args.rows.now c.loop-i.i (omega arith))

pub returns-then-other-eq0-clause-rows : goal.returns-then-other-eq0-clause-rows
returns-then-other-eq0-clause-rows c = sym (through_empty c.args.rows.now c.args.k c.if-other-eq0.true)
