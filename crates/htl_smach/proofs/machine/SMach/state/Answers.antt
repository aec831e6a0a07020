use Rattle.std.proofs.Common.{◌≡◌, ◌<◌, length, take, sym, ap, ◌∙◌, subst}
use Rattle.htl_smach.proofs.{Words.Round, Words.state_of, Words.inside_round, RoundRecords.done_is, Holding.holds_state, Holding.below_count}
use Rattle.htl_smach.proofs.machine.SMach.state.Goals as goal

pub returns-clause-state : goal.returns-clause-state
returns-clause-state c =
    let m = c.self.inside in
    let p = c.args.position in
    let v : inside_round m ≡ c.args.self.now = c.self.view_is in
    let known : p < length (take m.count m.jobs) = subst (λ (r : Round). p < length r.jobs) (sym v) c.requires.known in
    c.state.ensures ∙ holds_state m p c.self.invariant.3 (below_count m.count m.jobs p known) ∙ ap (λ (r : Round). state_of r p) v

pub returns-clause-done : goal.returns-clause-done
returns-clause-done c = λ s st.
    let d = done_is c.args.self.now s c.args.position st in
    let e = returns-clause-state c in
    (λ h. d.0 (sym e ∙ h), λ h. e ∙ d.1 h)
