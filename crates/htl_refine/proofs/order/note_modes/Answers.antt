use Rattle.htl_refine.proofs.Words.{arith, rules, IsInvInRange, no_bits, first_start, all_at}
use Rattle.htl_refine.proofs.order.note_modes.Goals as goal

pub loop-m-init : goal.loop-m-init
loop-m-init c =
    record {
      len = c.requires.rows;
      len_places = c.requires.places;
      start = first_start c.args.t.now;
      ports = search rules;
      empty = λ p q. no_bits 4096 p q;
      rows = λ a b x y at_a at_b same below. absurd (omega (arith, below));
      few = c.requires.few;
    }

pub returns-clause-rows : goal.returns-clause-rows
returns-clause-rows c = λ a b x y at_a at_b same below.
    c.loop-m.invariant.rows a b x y at_a at_b same (omega (arith, c.loop-m-test.false, (all_at (IsInvInRange c.args.t.now) c.args.t.now.invs b y c.keeps_ranges.ensures.ranges.invs at_b).owner))
