use Rattle.htl_edf.proofs.{Words.IfErr-weaker, Words.ExplainsNodes, Words.ExplainsPlan, Words.kept_apart, Words.no_limit, Plannable.planned_ok, Plannable.explained}
use Rattle.htl_edf.proofs.plan.edf_all.Goals as goal

pub edf_nodes-requires-clause-limits : goal.edf_nodes-requires-clause-limits
edf_nodes-requires-clause-limits c = no_limit c.args.t.now c.keeps_ranges.ensures.ranges c.requires.formed c.requires.one_period c.requires.limits

pub edf_nodes-requires-clause-formed : goal.edf_nodes-requires-clause-formed
edf_nodes-requires-clause-formed c = kept_apart c.args.t.now 12 c.requires.formed

pub returns-clause-planned : goal.returns-clause-planned
returns-clause-planned c =
    let h = c.edf_nodes.ensures in
    planned_ok c.args.t.now c.keeps_ranges.ensures.ranges c.requires.formed c.requires.one_period c.requires.limits c.edf_nodes.result h.count h.lists h.accepted h.fits

pub returns-clause-fault : goal.returns-clause-fault
returns-clause-fault c =
    let t = c.args.t.now in
    IfErr-weaker c.edf_nodes.result (ExplainsNodes t) (ExplainsPlan t) (explained t c.keeps_ranges.ensures.ranges c.requires.formed c.requires.one_period c.requires.limits) c.edf_nodes.ensures.fault
