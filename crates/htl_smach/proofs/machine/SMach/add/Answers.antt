use Rattle.std.proofs.Common.{◌-◌, sym, subst, ap, ◌∙◌, arith}
use Rattle.htl_smach.proofs.{Words.Round, Words.Stands, Words.state_of, Words.added_from, Words.IsEven, Adding.stands_added, Adding.state_added, Holding.holds_even}
use Rattle.htl_smach.proofs.machine.SMach.add.Goals as goal

pub returns-clause-round : goal.returns-clause-round
returns-clause-round c = c.begin_list.ensures ∙ ap (λ (r : Round). added_from c.args.self.now (c.args.at - r.start) c.args.jobs.now c.args.lengths.now) c.self.view_is

pub returns-clause-states : goal.returns-clause-states
returns-clause-states c = λ p below.
    let even : IsEven c.args.self.now = subst IsEven c.self.view_is (holds_even c.self.inside (omega arith) (omega arith) (omega arith)) in
    ap (λ (r : Round). state_of r p) (returns-clause-round c) ∙ state_added c.args.self.now c.args.at c.args.jobs.now c.args.lengths.now even p below

pub returns-clause-stands : goal.returns-clause-stands
returns-clause-stands c = λ s t st.
    let even : IsEven c.args.self.now = subst IsEven c.self.view_is (holds_even c.self.inside (omega arith) (omega arith) (omega arith)) in
    subst (λ (r : Round). Stands r t) (sym (returns-clause-round c)) (stands_added c.args.self.now s c.args.at c.args.jobs.now c.args.lengths.now t st even c.requires.can)
