use Rattle.std.proofs.Common.{◌≡◌, ◌≤◌, sym, subst, List, ℕ, rules}
use Rattle.htl_names.proofs.{Words.comms_in, Words.read_place, ListLaws.read_place-le}
use Rattle.htl_names.proofs.switches.put_switches.Goals as goal

pub formula-requires : goal.formula-requires
formula-requires c = λ id.
    let source = c.args.home.now.source in
    let cond = c.index-nodes-k.result.cond in
    let reads : c.as_slice.result.now ≡ comms_in source.layout.now cond = search rules in
    subst (λ (xs : List ℕ). read_place source.layout.now xs id ≤ 4097) (sym reads) (read_place-le source.layout.now source.narrow.meanings cond id)
