use Rattle.htl_ecode.specs.Phases.{number_of}
use Rattle.htl_ecode.proofs.SpellingLaws.{spelled_departs_not}
use Rattle.htl_emach.proofs.{Completing.done_keeps, SafeCalls.ready_safely, SafeCalls.few_safely, SafeCalls.after_safely, PhaseNumbers.number_range, Quiet.sensors_stay, Quiet.outputs_stay, Soundness.step_onward}
use Rattle.htl_emach.proofs.emach.EMach.do_next.Goals as goal

pub advance-requires-clause-few : goal.advance-requires-clause-few
advance-requires-clause-few c = few_safely c.args.t.now c.args.code.now (number_of c.args.phase) c.args.self.now c.keeps_ranges.ensures.ranges c.requires.safe

pub advance-requires-clause-ready : goal.advance-requires-clause-ready
advance-requires-clause-ready c =
    ready_safely c.args.t.now c.args.code.now (number_of c.args.phase) c.args.at c.args.self.now c.args.world.now c.keeps_ranges.ensures.ranges c.requires.form (spelled_departs_not c.args.t.now c.args.code.now c.requires.spells) (number_range c.args.phase) c.requires.shaped c.requires.safe

pub returns-clause-safe : goal.returns-clause-safe
returns-clause-safe c =
    after_safely c.args.t.now c.args.code.now c.args.world.now.values (number_of c.args.phase) c.args.at c.args.self.now _ _ c.keeps_ranges.ensures.ranges (spelled_departs_not c.args.t.now c.args.code.now c.requires.spells) (number_range c.args.phase) c.requires.safe c.advance.ensures.answer c.advance.ensures.machine

pub returns-clause-onward : goal.returns-clause-onward
returns-clause-onward c =
    step_onward c.args.t.now c.args.code.now c.args.at (number_of c.args.phase) c.args.world.now.values c.args.self.now _ _ c.keeps_ranges.ensures.ranges c.requires.form (spelled_departs_not c.args.t.now c.args.code.now c.requires.spells) (number_range c.args.phase) c.advance.ensures.answer c.advance.ensures.machine

pub returns-clause-shaped : goal.returns-clause-shaped
returns-clause-shaped c =
    done_keeps c.args.t.now c.args.code.now (number_of c.args.phase) c.args.at c.args.self.now c.args.world.now _ _ c.keeps_ranges.ensures.ranges c.requires.form
    (ready_safely c.args.t.now c.args.code.now (number_of c.args.phase) c.args.at c.args.self.now c.args.world.now c.keeps_ranges.ensures.ranges c.requires.form (spelled_departs_not c.args.t.now c.args.code.now c.requires.spells) (number_range c.args.phase) c.requires.shaped c.requires.safe)
    c.requires.shaped c.advance.ensures.answer c.advance.ensures.world

pub returns-clause-sensors : goal.returns-clause-sensors
returns-clause-sensors c =
    sensors_stay c.args.t.now c.args.world.now _ _ c.keeps_ranges.ensures.ranges c.requires.form c.advance.ensures.world

pub returns-clause-outputs : goal.returns-clause-outputs
returns-clause-outputs c = outputs_stay c.args.t.now c.args.world.now _ _ c.advance.ensures.world
