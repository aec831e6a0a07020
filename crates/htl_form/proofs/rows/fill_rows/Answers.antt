use Rattle.std.proofs.Common.{◌∙◌, ap, arith, rules}
use Rattle.htl_form.proofs.{Words.list_any, Words.is_from, Words.follows, RowLaws.one_row, RowLaws.row_is}
use Rattle.htl_form.proofs.rows.fill_rows.Goals as goal

pub loop-b-preserved : goal.loop-b-preserved
loop-b-preserved c =
    let t = c.args.t.now in
    let base = c.args.base in
    let n = c.args.n in
    let b = c.loop-b.b in
    let table = c.args.table.now in
    record {
      len = search rules;
      says = one_row (follows t base n) c.loop-b.rows b c.row_of.result n (omega arith) c.loop-b.invariant.says
          (λ a is_a. c.row_of.ensures a ∙ ap (λ ends. list_any (is_from table a) ends) c.as_slice.ensures
          ∙ row_is t c.args.mode base n b a c.inv_at-inv.result.now table c.keeps_ranges.ensures.ranges c.requires.range c.requires.table c.requires.writers (omega arith) is_a c.inv_at-inv.ensures);
    }
