use Rattle.htl_form.proofs.{Words.arith, Words.rules, Words.refl, Words.IsInvInRange, Words.no_bits, Words.first_start, Words.all_at, RangeLaws.marked_more}
use Rattle.htl_form.proofs.cycles.mark_cycles.Goals as goal

pub loop-m-init : goal.loop-m-init
loop-m-init c =
    record { len = refl; start = first_start c.args.t.now; ports = search rules; empty = λ p q. no_bits 4096 p q; marked = λ k i at below. absurd (omega arith) }

pub loop-m-preserved : goal.loop-m-preserved
loop-m-preserved c =
    record {
      len = search rules;
      start = c.count_from-n.ensures.next;
      ports = c.mark_mode.ensures.ports;
      empty = c.mark_mode.ensures.empty;
      marked = marked_more c.args.t.now c.loop-m.m c.loop-m.base c.count_from-n.result c.loop-m.marks c.mark_mode.new.marks c.count_from-n.ensures.range
          c.mark_mode.ensures.marked c.loop-m.invariant.marked;
    }

pub returns : goal.returns
returns c = λ k i at.
    c.loop-m.invariant.marked k i at (omega (arith, (all_at (IsInvInRange c.args.t.now) c.args.t.now.invs k i c.keeps_ranges.ensures.ranges.invs at).owner))
