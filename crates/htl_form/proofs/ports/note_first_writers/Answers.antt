use Rattle.std.proofs.Common.{◌∙◌, sym, ap, arith, rules, refl, get_or, cond, Some, None}
use Rattle.htl_form.proofs.{Words.list_any, Words.is_port, Words.or_else, Words.first_from, Words.port_writer, PortLaws.first_more, PortLaws.first_all}
use Rattle.htl_form.proofs.ports.note_first_writers.Goals as goal

pub loop-k-init : goal.loop-k-init
loop-k-init c =
    record {
      len = refl;
      says = λ p within. ap (λ o. or_else o (first_from (port_writer p) 0 c.as_slice-invs.result.now)) (c.requires p);
    }

pub loop-k-preserved : goal.loop-k-preserved
loop-k-preserved c =
    record {
      len = search rules;
      says = λ p within.
          first_more p c.as_slice-invs.result.now c.loop-k.k c.index-invs-k.result (get_or c.loop-k.firsts p None) (get_or c.note_ends.new.firsts p None) _ (omega arith) c.index-invs-k.is
          (c.loop-k.invariant.says p within)
          (c.note_ends.ensures p (omega arith) ∙ ap (λ ends. or_else (get_or c.loop-k.firsts p None) (cond (list_any (is_port p) ends) (Some c.loop-k.k) None)) c.as_slice.ensures);
    }

pub returns : goal.returns
returns c = λ p within.
    first_all p c.as_slice-invs.result.now c.loop-k.k (get_or c.loop-k.firsts p None) _ (omega arith) (c.loop-k.invariant.says p within)
    ∙ ap (first_from (port_writer p) 0) (c.as_slice-invs.ensures ∙ sym (ap (λ z. z.invs) c.parts.ensures.value))
