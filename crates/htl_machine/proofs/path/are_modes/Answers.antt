use Rattle.std.proofs.Common.{sym, ◌∙◌, arith}
use Rattle.htl_machine.proofs.Modes.{all_same, one_same}
use Rattle.htl_machine.proofs.path.are_modes.Goals as goal

pub returns : goal.returns
returns c = λ yes. all_same c.args.modes.now c.args.m.now.calendar.modes (sym c.requires.same) (λ i less. c.loop-k.invariant i (omega (arith, less)))

pub loop-k-preserved : goal.loop-k-preserved
loop-k-preserved c =
    one_same c.args.modes.now c.args.m.now.calendar.modes c.loop-k.k c.mode_at.result c.mode.result c.loop-k.invariant c.mode_at.ensures c.mode.ensures (sym c.same_mode.ensures ∙ c.if-not-same_mode.false)
