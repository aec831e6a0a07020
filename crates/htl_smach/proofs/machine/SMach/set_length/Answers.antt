use Rattle.std.proofs.Common.{◌≡◌, ◌<◌, false, eqb, drop, sym, ap, ◌∙◌, subst, arith}
use Rattle.htl_smach.proofs.{Words.get_or-take, Words.has_bit, Words.Pending, Words.Round, Words.Stands, Words.given, Words.state_of, Words.inside_round, Holding.holds_length, Holding.are_set, Holding.below_count}
use Rattle.htl_smach.proofs.RoundRecords.{with_length, given_stays, stands_set, pending_is, pending_below}
use Rattle.htl_smach.proofs.machine.SMach.set_length.Goals as goal

pub invariant_of-self : goal.invariant_of-self
invariant_of-self c =
    let m = c.self.inside in
    let p = c.args.position in
    let pending : state_of (inside_round m) p ≡ Pending = subst (λ (r : Round). state_of r p ≡ Pending) (sym c.self.view_is) c.requires.pending in
    let below : p < m.count = below_count m.count m.jobs p (pending_below (inside_round m) p pending) in
    let busy : has_bit m.states.done p ≡ false = c.self.invariant.3.done p below ∙ ap (λ w. eqb w 0) (sym (get_or-take m.count m.left p 0 below)) ∙ (pending_is (inside_round m) p pending).left in
    (omega arith, omega arith, omega arith, are_set m p c.args.length (drop m.count m.left) (omega arith) c.self.invariant.3 below busy c.requires.some)

pub returns-clause-round : goal.returns-clause-round
returns-clause-round c =
    let m = c.self.inside in
    let p = c.args.position in
    let v : inside_round m ≡ c.args.self.now = c.self.view_is in
    holds_length m p c.args.length (drop m.count m.lengths) (drop m.count m.left) (drop m.count m.first) (omega arith) (omega arith) (omega arith) ∙ ap (λ (r : Round). with_length r p c.args.length) v

pub returns-clause-given : goal.returns-clause-given
returns-clause-given c = λ s st.
    ap (λ (r : Round). given r s) (returns-clause-round c)
    ∙ given_stays c.args.self.now s c.args.position c.args.length st c.requires.pending c.requires.some c.requires.worst

pub returns-clause-stands : goal.returns-clause-stands
returns-clause-stands c = λ s st.
    subst (λ (r : Round). Stands r s) (sym (returns-clause-round c))
    (stands_set c.args.self.now s c.args.position c.args.length st c.requires.pending c.requires.some c.requires.worst)
