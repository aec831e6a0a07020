use Rattle.std.proofs.Common.{◌≡◌, rules, List, [], ◌∷◌, ◌++◌, sym, subst}
use Rattle.htl_audit.proofs.{Words.Event, Words.shown_as, Words.Audit, Words.AuditFollows, Auditing.sense_follows}
use Rattle.htl_model.specs.declared.event.Event.TheVariants as event
use Rattle.htl_machine.specs.Calls as machines
use Rattle.htl_audit.proofs.auditor.Auditor.sense.Goals as goal

pub returns-clause-follows : goal.returns-clause-follows
returns-clause-follows c = λ es f.
    let inner : Audit = record { machine = c.self.inside.machine; log = c.self.inside.log.now; takes = c.self.inside.takes; kept = c.self.inside.ledger } in
    let g : AuditFollows inner es = subst (λ (z : Audit). AuditFollows z es) (sym c.self.view_is) f in
    let seen : c.sense.new.self ≡ record c.self.inside.machine { run_state = shown_as c.args.comm c.args.x c.self.inside.machine.run_state } = search rules in
    let follows : (fs : List Event) → machines.Follows c.self.inside.machine fs → machines.Follows c.sense.new.self (fs ++ event.Sense c.args.comm c.args.x ∷ []) = search rules in
    sense_follows inner es c.args.comm c.args.x c.sense.new.self seen (follows es g.machine) g
