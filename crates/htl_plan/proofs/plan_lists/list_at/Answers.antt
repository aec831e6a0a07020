use Rattle.std.proofs.Common.{◌≤◌, ◌<◌, List, length, get_or, ap, subst, ◌∙◌, arith}
use Rattle.htl_plan.proofs.{Words.node, Words.Tables, Words.SInstr, Words.Schedule, ListByList.list_is, ListByList.list_known, ListByList.node_inside}
use Rattle.htl_plan.proofs.plan_lists.list_at.Goals as goal

pub bounds-schedules-node : goal.bounds-schedules-node
bounds-schedules-node c =
    let number = c.node-node.ensures ∙ ap (λ (t : Tables). node t c.args.path c.args.j) c.tables.ensures.value in
    node_inside c.args.l.now c.tables.ensures.accepted c.args.path c.args.j c.requires.path c.requires.start c.node-node.result c.schedules.result.now number c.schedules.ensures

pub returns-clause-list : goal.returns-clause-list
returns-clause-list c =
    let number = c.node-node.ensures ∙ ap (λ (t : Tables). node t c.args.path c.args.j) c.tables.ensures.value in
    let s = c.index-schedules-node.result in
    c.as_slice.ensures
    ∙ list_is c.args.l.now c.tables.ensures.accepted c.args.path c.args.j c.requires.path c.requires.start c.node-node.result s c.schedules.result.now number c.schedules.ensures

pub returns-clause-few : goal.returns-clause-few
returns-clause-few c =
    let number = c.node-node.ensures ∙ ap (λ (t : Tables). node t c.args.path c.args.j) c.tables.ensures.value in
    let o = c.args.l.now in
    let s = c.index-schedules-node.result in
    let inside = node_inside o c.tables.ensures.accepted c.args.path c.args.j c.requires.path c.requires.start c.node-node.result c.schedules.result.now number c.schedules.ensures in
    let short : length (get_or o.schedules c.node-node.result s).instrs ≤ 4294967295 =
    c.tables.ensures.accepted.spelled.formed.ranges.short c.node-node.result s (subst (λ (ss : List Schedule). c.node-node.result < length ss) c.schedules.ensures inside) in
    omega (arith, short, ap (λ (ss : List Schedule). length (get_or ss c.node-node.result s).instrs) c.schedules.ensures, ap (λ (is : List SInstr). length is) c.as_slice.ensures)

pub returns-clause-known : goal.returns-clause-known
returns-clause-known c =
    let number = c.node-node.ensures ∙ ap (λ (t : Tables). node t c.args.path c.args.j) c.tables.ensures.value in
    let o = c.args.l.now in
    let s = c.index-schedules-node.result in
    let accepted = c.tables.ensures.accepted in
    list_known o accepted c.args.path c.args.j c.requires.path c.requires.start c.as_slice.result.now
    (c.as_slice.ensures ∙ list_is o accepted c.args.path c.args.j c.requires.path c.requires.start c.node-node.result s c.schedules.result.now number c.schedules.ensures)
