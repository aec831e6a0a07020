use Rattle.std.proofs.Common.{◌∙◌, sym, subst}
use Rattle.std.proofs.lemmas.List.Elements.{All-nil}
use Rattle.htl_model.specs.{FunctionCode.IsCode, FunctionCode.AreCode, Ranges.AreInRange}
use Rattle.htl_edf.specs.FrameSamples.{IsFramed}
use Rattle.htl_edf.proofs.FrameSampleFits.{frame_in_range, frame_is_framed}
use Rattle.htl_part_tests.proofs.schedules.frame_tables.tables.Goals as goal

pub new-requires : goal.new-requires
new-requires c = subst AreInRange (sym c.in-Some.ensures) (frame_in_range c.args.worst c.requires.span)

pub returns-in-Some-clause-framed : goal.returns-in-Some-clause-framed
returns-in-Some-clause-framed c = subst IsFramed (sym (c.new.ensures ∙ c.in-Some.ensures)) (frame_is_framed c.args.worst c.requires.small)

pub returns-in-Some-clause-code : goal.returns-in-Some-clause-code
returns-in-Some-clause-code c = subst AreCode (sym (c.new.ensures ∙ c.in-Some.ensures)) (All-nil IsCode)
