use Rattle.std.proofs.Common.{◌∙◌, sym, ap, arith, length, map, ℕ, Some}
use Rattle.htl_model.proofs.RootModeLaws.{positions_met}
use Rattle.htl_walk.proofs.jobs.put_selection.Goals as goal

pub put_standing-requires : goal.put_standing-requires
put_standing-requires c =
    let met = positions_met c.args.t.now c.args.selection c.root_modes-modes.result c.keeps_ranges.ensures.ranges c.root_modes-modes.ensures in
    omega (arith, ap length met, c.requires)

pub returns-clause-front : goal.returns-clause-front
returns-clause-front c =
    c.put_standing.ensures.front
    ∙ sym (ap (map (λ (k : ℕ). Some k)) (positions_met c.args.t.now c.args.selection c.root_modes-modes.result c.keeps_ranges.ensures.ranges c.root_modes-modes.ensures))

pub returns-clause-count : goal.returns-clause-count
returns-clause-count c =
    c.put_standing.ensures.count ∙ sym (ap length (positions_met c.args.t.now c.args.selection c.root_modes-modes.result c.keeps_ranges.ensures.ranges c.root_modes-modes.ensures))
