use Rattle.std.proofs.Common.{arith, rules, get_or, None}
use Rattle.htl_form.proofs.PortLaws.{noted_more}
use Rattle.htl_form.proofs.ports.note_ends.Goals as goal

pub loop-j-preserved : goal.loop-j-preserved
loop-j-preserved c =
    record {
      len = search rules;
      says = λ p within.
          noted_more p c.args.k c.loop-j.j c.args.ends.now _ (get_or c.args.firsts.now p None) (get_or c.loop-j.firsts p None) (get_or c.note_end.new.firsts p None) (omega arith)
          (c.loop-j.invariant.says p within) (c.note_end.ensures p (omega arith));
    }
