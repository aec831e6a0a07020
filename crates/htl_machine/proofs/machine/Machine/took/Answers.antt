use Rattle.std.proofs.Common.{◌≡◌, ◌≤◌, ℕ, Some, sym, ap, ◌∙◌, subst, List, length, length-set}
use Rattle.htl_machine.proofs.{Words.Job, Words.job_at, Words.Round, Words.Stands, Words.Seen, Words.Follows, Words.IsLength, Words.IsPath, Words.position_from, Calling.position_worst, Calling.took_follows, Quiet.nothing_due}
use Rattle.htl_machine.proofs.machine.Machine.took.Goals as goal

pub take-requires-clause-worst : goal.take-requires-clause-worst
take-requires-clause-worst c =
    let w = c.requires.follows in
    subst (λ (js : List Job). (p : ℕ) → position_from 0 js c.args.inv ≡ Some p → c.args.length ≤ (job_at js p).worst) (sym (c.jobs-jobs.ensures ∙ (c.self.invariant.stands (ap (λ (z : Seen). z.run_state.spent) c.self.view_is ∙ w.1.kept.fresh)).are))
    (λ p found.
    position_worst _ w.0 c.args.inv c.args.length p c.self.invariant.accepted
    (subst (λ (z : Seen). IsLength z.object.tables c.args.inv c.args.length) (sym c.self.view_is) c.requires.length)
    (subst (λ (z : Seen). Follows z w.0) (sym c.self.view_is) w.1) found)

pub returns-clause-follows : goal.returns-clause-follows
returns-clause-follows c = λ es f.
    rw (c.set.ensures, c.take.ensures.s_machine)
    (took_follows _ es c.args.inv c.args.length c.self.invariant.accepted
    (subst (λ (z : Seen). IsLength z.object.tables c.args.inv c.args.length) (sym c.self.view_is) c.requires.length)
    (λ s h. subst (λ (r : Round). Stands r s) c.take.ensures.s_machine (c.take.ensures.stands s h))
    (subst (λ (z : Seen). Follows z es) (sym c.self.view_is) f))

pub invariant_of-self : goal.invariant_of-self
invariant_of-self c =
    let kept = c.self.invariant in
    let many : length c.set.new.self ≡ length c.self.inside.takes = ap length c.set.ensures ∙ length-set c.self.inside.takes c.args.inv c.args.length in
    record { accepted = kept.accepted; all_shows = kept.all_shows; all_takes = many ∙ kept.all_takes; few = kept.few; stands = λ free. subst (IsPath c.self.inside.loaded.now.tables c.self.inside.path) (sym c.take.ensures.jobs) (kept.stands free); marked = kept.marked; waiting = kept.waiting; empty = kept.empty; quiet = λ free. nothing_due _ _ }
