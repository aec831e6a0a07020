use Rattle.std.proofs.Common.{sym}
use Rattle.htl_model.proofs.FirstLaws.{nothing_first}
use Rattle.htl_model.proofs.search.first_input.Goals as goal

pub returns-then-not-judges_inputs : goal.returns-then-not-judges_inputs
returns-then-not-judges_inputs g c =
    sym (nothing_first ((g.C.Tries.tests c.args.t.now c.args.rule).input c.args.k c.args.inv.now) 0 c.args.inv.now.reads (c.judges_inputs.ensures c.if-not-judges_inputs.true c.args.t.now c.args.k c.args.inv.now))
