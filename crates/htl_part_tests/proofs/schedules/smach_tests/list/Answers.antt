use Rattle.htl_machine.proofs.Words.{ℕ, sym, subst, InForm}
use Rattle.htl_part_tests.proofs.schedules.smach_tests.list.Goals as goal

pub returns-in-Ok-clause-form : goal.returns-in-Ok-clause-form
returns-in-Ok-clause-form c = λ r same. (c.args.until, subst (λ (n : ℕ). InForm n c.args.until c.new.result) (sym same) c.in-Ok.ensures.clean.form)
