use Rattle.htl_machine.proofs.{Words.[], Words.sym, Words.subst, Words.Seen, Words.Follows, Calling.new_follows_none}
use Rattle.htl_machine.proofs.machine.Machine.new.Goals as goal

pub returns-clause-follows : goal.returns-clause-follows
returns-clause-follows c =
    subst (λ (m : Seen). Follows m []) (sym c.in-Ok.ensures)
    (new_follows_none c.args.l.now c.args.show c.tables-t.result.now c.ecode.result.now c.in_ok-world.world c.in_ok-emach.emach c.tables-t.ensures.value c.ecode.ensures c.tables-t.ensures.accepted c.in_ok-world.ensures.content c.in_ok-world.ensures.shaped c.in_ok-emach.ensures.machine c.in_ok-emach.ensures.safe)
