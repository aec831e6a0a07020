use Rattle.std.proofs.Common.{◌||◌, ◌∙◌, sym, ap, arith, take}
use Rattle.htl_model.proofs.{Words.list_any, Words.list_any_more, Words.has_bit, Words.is_from, BitLaws.has_bit_or}
use Rattle.htl_model.proofs.port_table.row_of.Goals as goal

pub loop-k-preserved : goal.loop-k-preserved
loop-k-preserved c = λ q.
    has_bit_or c.loop-k.row c.writers_of-row.result q
    ∙ ap (λ b. b || has_bit c.writers_of-row.result q) (c.loop-k.invariant q)
    ∙ ap (λ b. list_any (is_from c.args.table.now q) (take c.loop-k.k c.args.ends.now) || b) (c.writers_of-row.ensures q)
    ∙ sym (list_any_more (is_from c.args.table.now q) c.args.ends.now c.loop-k.k _ (omega arith))
