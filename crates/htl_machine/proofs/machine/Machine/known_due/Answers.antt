use Rattle.std.proofs.Common.{◌∙◌, ℕ, ap, subst}
use Rattle.htl_machine.proofs.{Words.Seen, Words.AreQuiet, Passing.up_to_reading}
use Rattle.htl_machine.proofs.machine.Machine.known_due.Goals as goal

pub next_due-requires-clause-before : goal.next_due-requires-clause-before
next_due-requires-clause-before c = let w = c.requires.follows in (w.0, up_to_reading c.args.self.now w.0 _ (ap (λ (z : Seen). z.run_state.reading) c.self.view_is) w.1)

pub returns-then-self-clause-quiet : goal.returns-then-self-clause-quiet
returns-then-self-clause-quiet c =
    let fresh = ap (λ (z : Seen). z.run_state.spent) c.self.view_is ∙ c.requires.follows.1.kept.fresh in
    subst (λ (z : Seen). AreQuiet z z.run_state.reading c.self.inside.due) c.self.view_is (c.self.invariant.quiet fresh)

pub returns-else-self-clause-quiet : goal.returns-else-self-clause-quiet
returns-else-self-clause-quiet c =
    subst (λ (n : ℕ). AreQuiet c.args.self.now n c.next_due.result) (ap (λ (z : Seen). z.run_state.reading) c.self.view_is) c.next_due.ensures.quiet
