use Rattle.std.proofs.Common.{◌<◌, sym, ◌∙◌, arith, length}
use Rattle.htl_form.proofs.Words.{get_or_from_slice_get, writer_before, first_hit, first_miss, item_at}
use Rattle.htl_form.proofs.writers.first_writer.Goals as goal

pub returns-in-Some : goal.returns-in-Some
returns-in-Some c =
    let invs = c.args.t.now.invs in
    let l = c.loop-l.l in
    let below : l < length invs = omega arith in
    let x = item_at invs l below in
    first_hit (writer_before c.args.t.now c.args.k c.args.inv.now c.args.j c.args.what.comm c.args.what.number) invs l x.0 c.in-Some.found c.loop-l.invariant below
    (sym (get_or_from_slice_get invs l x.0 x.0 x.1)) (sym (c.writer_before.ensures x.0 x.1) ∙ c.in-Some.is)

pub loop-l-preserved : goal.loop-l-preserved
loop-l-preserved c =
    let invs = c.args.t.now.invs in
    let l = c.loop-l.l in
    let below : l < length invs = omega arith in
    let x = item_at invs l below in
    first_miss (writer_before c.args.t.now c.args.k c.args.inv.now c.args.j c.args.what.comm c.args.what.number) invs l x.0 c.loop-l.invariant below
    (sym (get_or_from_slice_get invs l x.0 x.0 x.1)) (sym (c.writer_before.ensures x.0 x.1) ∙ c.in_default.is)
