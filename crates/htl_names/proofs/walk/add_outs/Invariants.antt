use Rattle.std.proofs.Common.{◌+◌, drop}
use Rattle.htl_names.proofs.Words.{AddsWith, out_rows}
use Rattle.htl_names.proofs.walk.add_outs.Given as goal

abbrev pub invariant-loop-j : goal.invariant-loop-j
invariant-loop-j l =
    AddsWith (out_rows l.params l.inputs (l.inputs + l.j) (drop l.j l.outs)) (out_rows l.params l.inputs l.inputs l.outs) l.initial.into l.into
