use Rattle.std.proofs.Common.{pos, subst, sym}
use Rattle.htl_edf.proofs.{Words.ExplainsNodes, NodeLists.nodes_refused}
use Rattle.htl_edf.proofs.nodes.without_memory.Goals as goal

pub returns-in-Some : goal.returns-in-Some
returns-in-Some c =
    let o = c.in-Some.ensures in
    subst (ExplainsNodes c.args.t.now) (sym c.overloaded.ensures)
    (o.0, o.1, o.2, λ lists f. nodes_refused c.args.t.now c.in-Some.path c.in-Some.interval.from (pos c.in-Some.interval.to) c.in-Some.interval.demand c.requires.ready o.0 o.2.over lists f)
