use Rattle.std.proofs.Common.{arith}
use Rattle.htl_model.proofs.SelectionLaws.{modes_some, later_choices, root_mode_found}
use Rattle.htl_model.proofs.selections.root_mode.Goals as goal

pub nonzero_div-place : goal.nonzero_div-place
nonzero_div-place c = omega (arith, later_choices c.args.t.now c.args.module c.requires.ranges c.requires.within, c.choices-later.ensures)

pub nonzero_rem-place : goal.nonzero_rem-place
nonzero_rem-place c = omega (arith, modes_some c.args.t.now c.args.module c.requires.ranges c.requires.within, c.mode_count.ensures.count)

pub returns : goal.returns
returns c =
    root_mode_found c.args.t.now c.args.selection c.args.module c.choices-later.result c.mode_count.result c.mode_at.result c.requires.ranges c.requires.within
    (omega arith) c.choices-later.ensures c.mode_count.ensures.count c.mode_at.ensures
