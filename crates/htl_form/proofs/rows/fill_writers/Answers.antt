use Rattle.std.proofs.Common.{◌+◌, sym, ◌∙◌, ap, arith, rules}
use Rattle.htl_form.proofs.Words.{slice_get, list_any, is_port, cell, writes_to, one_writer}
use Rattle.htl_form.proofs.rows.fill_writers.Goals as goal

pub loop-q-preserved : goal.loop-q-preserved
loop-q-preserved c =
    record {
      len = search rules;
      says = λ p r within.
          one_writer (λ r. writes_to (slice_get c.args.t.now.invs (c.args.base + r)) p) c.loop-q.q r (cell c.loop-q.table p r) (cell c.mark_ends.new.table p r)
          (list_any (is_port p) c.as_slice.result.now) (c.loop-q.invariant.says p r within)
          (ap (λ ends. list_any (is_port p) ends) c.as_slice.ensures ∙ sym (ap (λ o. writes_to o p) c.inv_at-inv.ensures)) (c.mark_ends.ensures.rows p r (omega arith));
    }
