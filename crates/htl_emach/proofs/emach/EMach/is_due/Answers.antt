use Rattle.std.proofs.Common.{◌≡◌, Option, None, Some, slice_get, ap, sym, refl}
use Rattle.htl_ecode.specs.Phases.{number_of}
use Rattle.htl_ecode.proofs.SpellingLaws.{spelled_departs_not}
use Rattle.htl_emach.proofs.{Words.Block, Words.EDone, Words.done_at, Words.done_in, Words.state, PhaseNumbers.number_range, Soundness.step_onward}
use Rattle.htl_emach.proofs.emach.EMach.is_due.Goals as goal

pub returns-clause-onward : goal.returns-clause-onward
returns-clause-onward c = λ idle es done rest mid.
    let t = c.args.t.now in
    let code = c.args.code.now in
    let phase = number_of c.args.phase in
    let none : None ≡ done_in code phase c.args.at c.args.self.now =
    sym (ap (λ (o : Option Block). elim o as (λ _. Option EDone) [ Some b ↦ done_at b.«module» b.address (slice_get code.instrs b.address) | None ↦ None ]) (c.has_block.ensures idle)) in
    step_onward t code c.args.at phase (state t es c.args.at).values c.args.self.now c.args.self.now None c.keeps_ranges.ensures.ranges c.requires.form (spelled_departs_not t code c.requires.spells) (number_range c.args.phase) none refl
    es done rest (λ two. refl) mid
