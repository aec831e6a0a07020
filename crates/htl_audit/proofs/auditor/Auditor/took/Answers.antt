use Rattle.std.proofs.Common.{◌≡◌, ◌∙◌, ◌<◌, ◌≤◌, ◌+◌, min, [], ◌∷◌, ◌++◌, length, ap, sym, subst, arith}
use Rattle.htl_audit.proofs.{Words.slice_get_within, Words.Tables, Words.Object, Words.IsAccepted, Words.Audit, Words.AreDue, Words.AuditFollows, Words.IsAuditor, Words.start_at, Words.end_at, Words.inv_takes, Dues.taken_due}
use Rattle.htl_model.specs.declared.event.Event.TheVariants as V
use Rattle.htl_machine.specs.Calls as machines
use Rattle.htl_audit.proofs.Keepers.{length_known, length_small, taken_auditor, took_follows}
use Rattle.htl_audit.proofs.auditor.Auditor.took.Goals as goal

pub take-requires-clause-small : goal.take-requires-clause-small
take-requires-clause-small c =
    let len : machines.IsLength c.self.inside.machine.object.tables c.args.inv c.args.ticks = subst (λ (z : Audit). machines.IsLength z.machine.object.tables c.args.inv c.args.ticks) (sym c.self.view_is) c.requires.ticks in
    length_small c.self.inside.loaded.now c.tables-t.ensures.accepted c.args.inv c.args.ticks (subst (λ (o : Object). machines.IsLength o.tables c.args.inv c.args.ticks) c.self.invariant.0.object len)

pub set-requires : goal.set-requires
set-requires c =
    let len : machines.IsLength c.self.inside.machine.object.tables c.args.inv c.args.ticks = subst (λ (z : Audit). machines.IsLength z.machine.object.tables c.args.inv c.args.ticks) (sym c.self.view_is) c.requires.ticks in
    omega (arith, slice_get_within c.self.inside.machine.object.tables.invs c.args.inv len.inv len.known, c.self.invariant.0.count, ap (λ (o : Object). length o.tables.invs) c.self.invariant.0.object)

pub window_end-requires-clause-inv : goal.window_end-requires-clause-inv
window_end-requires-clause-inv c =
    length_known c.self.inside.machine.object c.self.inside.loaded.now c.tables-t.result.now c.args.inv c.args.ticks c.self.invariant.0.object c.tables-t.ensures.value
    (subst (λ (z : Audit). machines.IsLength z.machine.object.tables c.args.inv c.args.ticks) (sym c.self.view_is) c.requires.ticks)

pub take-requires-clause-inv : goal.take-requires-clause-inv
take-requires-clause-inv c =
    length_known c.self.inside.machine.object c.self.inside.loaded.now c.tables-t.result.now c.args.inv c.args.ticks c.self.invariant.0.object c.tables-t.ensures.value
    (subst (λ (z : Audit). machines.IsLength z.machine.object.tables c.args.inv c.args.ticks) (sym c.self.view_is) c.requires.ticks)

pub invariant_of-self : goal.invariant_of-self
invariant_of-self c =
    let len : machines.IsLength c.self.inside.machine.object.tables c.args.inv c.args.ticks = subst (λ (z : Audit). machines.IsLength z.machine.object.tables c.args.inv c.args.ticks) (sym c.self.view_is) c.requires.ticks in
    let few : c.args.ticks ≤ 1000000 = length_small c.self.inside.loaded.now c.tables-t.ensures.accepted c.args.inv c.args.ticks (subst (λ (o : Object). machines.IsLength o.tables c.args.inv c.args.ticks) c.self.invariant.0.object len) in
    let o = c.self.inside.loaded.now.tables in
    let k = c.self.inside.ledger in
    let known = slice_get_within c.self.inside.machine.object.tables.invs c.args.inv len.inv len.known in
    let rows : c.args.inv < length k.roster.lengths = omega (arith, known, c.self.invariant.0.lengths, ap (λ (z : Object). length z.tables.invs) c.self.invariant.0.object) in
    let least : c.window_end.result ≤ start_at k.roster c.args.inv + end_at o c.args.inv = omega (arith, c.window_end.ensures, ap (λ (t : Tables). end_at t c.args.inv) c.tables-t.ensures.value) in
    let taken_is : c.take.new.self ≡ inv_takes o c.reading-now.result c.args.inv c.args.ticks k = c.take.ensures ∙ ap (λ (t : Tables). inv_takes t c.reading-now.result c.args.inv c.args.ticks k) c.tables-t.ensures.value in
    let due : AreDue o (min c.self.inside.due c.window_end.result) (inv_takes o c.reading-now.result c.args.inv c.args.ticks k) =
    taken_due o c.reading-now.result c.args.inv c.args.ticks c.self.inside.due c.window_end.result k rows least c.self.invariant.1.due_is in (
      subst (λ z. IsAuditor c.self.inside.loaded.now c.took.new.self c.set.new.self c.self.inside.log.now z) (sym c.take.ensures)
          (subst (λ z. IsAuditor c.self.inside.loaded.now c.took.new.self z c.self.inside.log.now (inv_takes c.tables-t.result.now c.reading-now.result c.args.inv c.args.ticks c.self.inside.ledger)) (sym c.set.ensures)
          (taken_auditor c.self.inside.loaded.now c.self.inside.machine c.took.new.self c.self.inside.takes c.self.inside.log.now c.self.inside.ledger c.tables-t.result.now c.reading-now.result c.args.inv c.args.ticks few
          (ap (λ (z : machines.Seen). z.object) c.took.ensures.seen) c.self.invariant.0)),
      record { feeders_are = c.self.invariant.1.feeders_are; due_is = subst (λ d. AreDue o d c.take.new.self) (sym c.min-self-inside.ensures) (subst (AreDue o (min c.self.inside.due c.window_end.result)) (sym taken_is) due) },
    )

pub returns-clause-follows : goal.returns-clause-follows
returns-clause-follows c = λ es f.
    let inner : Audit = record { machine = c.self.inside.machine; log = c.self.inside.log.now; takes = c.self.inside.takes; kept = c.self.inside.ledger } in
    let g : AuditFollows inner es = subst (λ (z : Audit). AuditFollows z es) (sym c.self.view_is) f in
    let len : machines.IsLength c.self.inside.machine.object.tables c.args.inv c.args.ticks = subst (λ (z : Audit). machines.IsLength z.machine.object.tables c.args.inv c.args.ticks) (sym c.self.view_is) c.requires.ticks in
    let known = slice_get_within c.self.inside.machine.object.tables.invs c.args.inv len.inv len.known in
    let same : c.self.inside.machine.object.tables ≡ c.tables-t.result.now = ap (λ (o : Object). o.tables) c.self.invariant.0.object ∙ sym c.tables-t.ensures.value in
    let room : c.args.inv < length c.self.inside.takes = omega (arith, known, c.self.invariant.0.count, ap (λ (o : Object). length o.tables.invs) c.self.invariant.0.object) in
    let rows : c.args.inv < length c.self.inside.ledger.roster.lengths = omega (arith, known, c.self.invariant.0.lengths, ap (λ (o : Object). length o.tables.invs) c.self.invariant.0.object) in
    let accepted : IsAccepted c.self.inside.machine.object = subst IsAccepted (sym c.self.invariant.0.object) c.tables-t.ensures.accepted in
    let made = took_follows inner es c.args.inv c.args.ticks c.took.new.self accepted len room rows c.took.ensures.seen (c.took.ensures.follows es g.machine) g in
    let kept : c.take.new.self ≡ inv_takes c.self.inside.machine.object.tables c.self.inside.machine.run_state.reading c.args.inv c.args.ticks c.self.inside.ledger =
    c.take.ensures ∙ ap (λ t. inv_takes t c.reading-now.result c.args.inv c.args.ticks c.self.inside.ledger) (sym same)
    ∙ ap (λ now. inv_takes c.self.inside.machine.object.tables now c.args.inv c.args.ticks c.self.inside.ledger) c.reading-now.ensures in
    subst (λ z. AuditFollows (record { machine = c.took.new.self; log = c.self.inside.log.now; takes = c.set.new.self; kept = z }) (es ++ V.Took c.args.inv c.args.ticks ∷ [])) (sym kept)
    (subst (λ z. AuditFollows (record { machine = c.took.new.self; log = c.self.inside.log.now; takes = z; kept = inv_takes c.self.inside.machine.object.tables c.self.inside.machine.run_state.reading c.args.inv c.args.ticks c.self.inside.ledger }) (es ++ V.Took c.args.inv c.args.ticks ∷ [])) (sym c.set.ensures) made)
