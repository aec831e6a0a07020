use Rattle.std.proofs.Common.{◌∙◌, ap, refl, sym}
use Rattle.htl_model.specs.Tables.{mode_period}
use Rattle.htl_model.proofs.SelectionLaws.{no_modules, root_period_is}
use Rattle.htl_model.proofs.selections.root_period.Goals as goal

pub returns-in-Some-clause-value : goal.returns-in-Some-clause-value
returns-in-Some-clause-value c =
    root_period_is c.args.t.now c.in-Some.root c.mode_period.result c.requires.ranges (sym c.in-Some.ensures) (c.mode_period.ensures ∙ ap (mode_period c.args.t.now) c.mode_at.ensures)

pub returns-in-None-clause-none : goal.returns-in-None-clause-none
returns-in-None-clause-none c = no_modules c.args.t.now c.args.t.now.modules c.requires.ranges refl (sym c.in-None.ensures)
