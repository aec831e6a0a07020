use Rattle.std.proofs.Common.{◌∙◌, length, map, ap, sym, arith, inl}
use Rattle.htl_audit.proofs.{Words.Inv, Words.Tables, Words.task_worst, Words.Object, Words.all_feeders, Words.first_kept, Keepers.first_auditor, Keepers.audit_first}
use Rattle.htl_audit.proofs.auditor.Auditor.new.Goals as goal

pub invariant_of-result : goal.invariant_of-result
invariant_of-result c = (
  first_auditor c.args.l.now c.tables-t.ensures.accepted c.in_ok-machine.machine c.new-4.result c.args.log.now c.in-Ok-new-2.ledger c.in_ok-machine.ensures.object
      (c.new-4.ensures ∙ c.in-Ok.ensures ∙ ap (λ (t : Tables). map (λ (x : Inv). task_worst t x.task) t.invs) c.tables-t.ensures.value)
      (c.in-Ok-new-2.ensures ∙ ap (λ (t : Tables). first_kept (length t.invs)) c.tables-t.ensures.value) c.requires.lines,
  record { feeders_are = c.in-Ok-new.ensures ∙ ap all_feeders c.tables-t.ensures.value; due_is = λ i e. inl (omega arith) },
)

pub returns-clause-follows : goal.returns-clause-follows
returns-clause-follows c =
    audit_first c.in_ok-machine.machine c.new-4.result c.args.log.now c.in-Ok-new-2.ledger (length c.tables-t.result.now.invs) c.in_ok-machine.ensures.follows c.in_ok-machine.ensures.show
    (c.new-4.ensures ∙ c.in-Ok.ensures ∙ ap (λ (t : Tables). map (λ (x : Inv). task_worst t x.task) t.invs) (c.tables-t.ensures.value ∙ ap (λ (o : Object). o.tables) (sym c.in_ok-machine.ensures.object)))
    c.in-Ok-new-2.ensures
