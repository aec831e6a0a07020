use Rattle.std.proofs.Common.{◌≡◌, ℕ, List, subst}
use Rattle.htl_emach.proofs.{Words.Event, Words.Done, Words.Midway, Words.Onward, Words.state, Words.done_in, Words.standing_after, PhaseNumbers.number_of_phase}
use Rattle.htl_emach.proofs.emach.EMach.instant.Goals as goal

pub returns-clause-answer : goal.returns-clause-answer
returns-clause-answer c =
    subst (λ (p : ℕ). c.do_next.result ≡ done_in c.args.code.now p c.args.at c.args.self.now) (number_of_phase c.args.phase c.of.result c.of.ensures c.requires.phase) c.do_next.ensures.answer

pub returns-clause-machine : goal.returns-clause-machine
returns-clause-machine c =
    subst (λ (p : ℕ). c.do_next.new.self ≡ standing_after c.args.t.now c.args.code.now c.args.world.now.values p c.args.at c.args.self.now c.do_next.result) (number_of_phase c.args.phase c.of.result c.of.ensures c.requires.phase)
    c.do_next.ensures.machine

pub returns-clause-onward : goal.returns-clause-onward
returns-clause-onward c =
    subst
    (λ (p : ℕ). (es : List Event) → (done rest : List Done) → (p ≡ 2 → c.args.world.now.values ≡ (state c.args.t.now es c.args.at).values) → Midway c.args.t.now c.args.code.now es c.args.at p c.args.self.now done rest
    → Onward c.args.t.now c.args.code.now es c.args.at p c.do_next.new.self done rest c.do_next.result)
    (number_of_phase c.args.phase c.of.result c.of.ensures c.requires.phase) c.do_next.ensures.onward
