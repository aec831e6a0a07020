use Rattle.std.proofs.Common.{arith, ◌≡◌, ◌≤◌, ◌++◌, map, subst, sym, List, rules, All, flat_map}
use Rattle.htl_names.proofs.Words.{common_steps, YieldsList-from_map, YieldsList-from_slice, items_from_extend, YieldsList-at, flat_map-map, PlainProgram, program_of, CommNode, comm_item, size_of, serving, ProgramNode}
use Rattle.htl_names.proofs.Members.{all_part}
use Rattle.htl_names.proofs.items.put_comms.Goals as goal

pub extend-requires : goal.extend-requires
extend-requires c =
    let fits : CommNode → Type 0 = λ x. size_of x.period.x ≤ 1000000 in
    let comms : ProgramNode → List CommNode = λ p. p.comms in
    let all = subst (All fits) (flat_map-map (λ (p : PlainProgram). p.comms) program_of c.args.source.now.tree.now.programs) c.args.source.now.narrow.comm_periods in
    let here : All fits c.as_slice-nodes.result.now = subst (All fits) (sym c.as_slice-nodes.ensures)
    (all_part fits comms c.as_slice-programs.result.now c.loop-k.k c.index-programs-k.result c.loop-k-test.true
    (subst (λ xs. All fits (flat_map comms xs)) (sym c.as_slice-programs.ensures) all)) in
    grind serving

pub loop-k-preserved : goal.loop-k-preserved
loop-k-preserved c =
    let nodes = c.as_slice-nodes.result.now in
    let taken = YieldsList-at c.map-comms.ensures.source (YieldsList-from_slice nodes cc) in
    let h = items_from_extend c.extend.result c.extend.ensures.ran (YieldsList-from_map _ comm_item taken c.map-comms.ensures.closure (λ x r q k. search rules)) in
    let put : c.extend.new.self.items ≡ c.loop-k.into.items ++ map comm_item nodes = search rules in
    grind (arith, common_steps)
