use Rattle.std.proofs.Common.{◌≡◌, ◌∙◌, List, length, drop, ap, sym, subst, arith}
use Rattle.htl_audit.proofs.{Words.Tables, Words.Object, Words.Slice, Words.Audit, Words.AreDue, Words.IsAuditor, Words.Kept, Words.judged_to, Words.settled, Words.passed, Dues.judged_due, Dues.none_due}
use Rattle.htl_audit.proofs.Keepers.{passed_rows, passed_auditor}
use Rattle.htl_audit.proofs.auditor.Auditor.judge_before.Goals as goal

pub settle-self-inside-requires-clause-rows : goal.settle-self-inside-requires-clause-rows
settle-self-inside-requires-clause-rows c =
    ap (λ (z : Kept). length z.roster.stands) c.judge_to.ensures ∙ passed_rows c.tables-t.result.now c.args.now (drop c.self.inside.ledger.place c.self.inside.log.now) c.self.inside.ledger
    ∙ c.self.invariant.0.rows ∙ sym (ap (λ (t : Tables). length t.invs) c.tables-t.ensures.value)

pub invariant_of-self : goal.invariant_of-self
invariant_of-self c = (
  subst (λ z. IsAuditor c.self.inside.loaded.now c.self.inside.machine c.self.inside.takes c.self.inside.log.now z) (sym (c.settle-self-inside.ensures.settled ∙ ap (settled c.tables-t.result.now c.args.now) c.judge_to.ensures))
      (passed_auditor c.self.inside.loaded.now c.self.inside.machine c.self.inside.takes c.self.inside.log.now c.self.inside.ledger c.tables-t.result.now c.args.now c.self.invariant.0),
  record {
    feeders_are = c.self.invariant.1.feeders_are;
    due_is = subst (λ (t : Tables). AreDue t c.settle-self-inside.result c.settle-self-inside.new.self) c.tables-t.ensures.value c.settle-self-inside.ensures.due;
  },
)

pub invariant_of-self-else-self-now : goal.invariant_of-self-else-self-now
invariant_of-self-else-self-now c =
    let t = c.self.inside.loaded.now.tables in
    let k = c.self.inside.ledger in
    let xs : List Slice = drop k.place c.self.inside.log.now in
    let judged : c.judge_to.new.self ≡ judged_to t c.args.now xs k = c.judge_to.ensures ∙ ap (λ (z : Tables). judged_to z c.args.now xs k) c.tables-t.ensures.value in
    let due : AreDue t c.self.inside.due (judged_to t c.args.now xs k) = judged_due t c.args.now c.self.inside.due xs k c.self.invariant.1.due_is in
    let none : passed t c.args.now xs k ≡ judged_to t c.args.now xs k = none_due t c.args.now c.self.inside.due (judged_to t c.args.now xs k) due (omega (arith, c.if-self-now.false)) in (
      subst (λ z. IsAuditor c.self.inside.loaded.now c.self.inside.machine c.self.inside.takes c.self.inside.log.now z) (none ∙ sym judged)
          (passed_auditor c.self.inside.loaded.now c.self.inside.machine c.self.inside.takes c.self.inside.log.now k t c.args.now c.self.invariant.0),
      record { feeders_are = c.self.invariant.1.feeders_are; due_is = subst (AreDue t c.self.inside.due) (sym judged) due },
    )

pub returns-else-self-now-clause-kept : goal.returns-else-self-now-clause-kept
returns-else-self-now-clause-kept c =
    let t = c.self.inside.loaded.now.tables in
    let k = c.self.inside.ledger in
    let xs : List Slice = drop k.place c.self.inside.log.now in
    let inner : Audit = record { machine = c.self.inside.machine; log = c.self.inside.log.now; takes = c.self.inside.takes; kept = k } in
    let judged : c.judge_to.new.self ≡ judged_to t c.args.now xs k = c.judge_to.ensures ∙ ap (λ (z : Tables). judged_to z c.args.now xs k) c.tables-t.ensures.value in
    let due : AreDue t c.self.inside.due (judged_to t c.args.now xs k) = judged_due t c.args.now c.self.inside.due xs k c.self.invariant.1.due_is in
    let none : passed t c.args.now xs k ≡ judged_to t c.args.now xs k = none_due t c.args.now c.self.inside.due (judged_to t c.args.now xs k) due (omega (arith, c.if-self-now.false)) in
    let kept : c.judge_to.new.self ≡ passed c.self.inside.machine.object.tables c.args.now xs k = judged ∙ sym none ∙ sym (ap (λ (z : Object). passed z.tables c.args.now xs k) c.self.invariant.0.object) in
    ap (λ (z : Kept). record inner { kept = z }) kept
    ∙ ap (λ (z : Audit). record z { kept = passed z.machine.object.tables c.args.now (drop z.kept.place z.log) z.kept }) c.self.view_is
