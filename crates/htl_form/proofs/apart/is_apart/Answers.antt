use Rattle.std.proofs.Common.{◌+◌, sym, ◌∙◌, ap, arith}
use Rattle.htl_form.proofs.{Words.list_any, Words.is_taken_end, ApartLaws.apart_is}
use Rattle.htl_form.proofs.apart.is_apart.Goals as goal

pub returns-then-once-clause-apart : goal.returns-then-once-clause-apart
returns-then-once-clause-apart c = λ once.
    apart_is c.args.t.now c.args.run.mode c.args.run.base c.args.run.count c.args.run.count c.args.q c.args.taken.now c.keeps_ranges.ensures.ranges c.requires.range c.requires.within c.requires.within
    (c.requires.once once) c.requires.noted c.inv_at-inv.result.now c.inv_at-inv.ensures
    (ap (λ ends. list_any (is_taken_end c.args.taken.now) ends) (sym c.as_slice.ensures) ∙ sym c.some_taken.ensures ∙ c.if-some_taken.false)

pub returns-else-once-clause-apart : goal.returns-else-once-clause-apart
returns-else-once-clause-apart c = λ once.
    apart_is c.args.t.now c.args.run.mode c.args.run.base c.args.run.count (c.args.q + 1) c.args.q c.args.taken.now c.keeps_ranges.ensures.ranges c.requires.range c.requires.within (omega arith)
    (c.are_written_once.ensures.once.0 once) c.requires.noted c.inv_at-inv.result.now c.inv_at-inv.ensures
    (ap (λ ends. list_any (is_taken_end c.args.taken.now) ends) (sym c.as_slice.ensures) ∙ sym c.some_taken.ensures ∙ c.if-some_taken.false)
