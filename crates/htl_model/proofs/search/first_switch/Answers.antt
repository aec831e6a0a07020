use Rattle.std.proofs.Common.{sym}
use Rattle.htl_model.proofs.StartLaws.{no_switch}
use Rattle.htl_model.proofs.search.first_switch.Goals as goal

pub returns-then-not-judges_switches : goal.returns-then-not-judges_switches
returns-then-not-judges_switches g c =
    sym (no_switch (g.C.Tries.tests c.args.t.now c.args.rule) c.args.m c.args.t.now.switches (c.judges_switches.ensures c.if-not-judges_switches.true c.args.t.now c.args.m))
