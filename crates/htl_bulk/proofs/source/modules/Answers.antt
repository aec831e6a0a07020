use Rattle.std.proofs.Common.{◌≡◌, ◌∙◌, map, ap, arith}
use Rattle.htl_bulk.proofs.{Words.bulk_module, Words.list_to, Words.module_of, TreeParts.map_further}
use Rattle.htl_bulk.proofs.source.modules.Goals as goal

pub loop-k-preserved : goal.loop-k-preserved
loop-k-preserved c =
    record { modules = ap (map module_of) c.in_ok-push.ensures.items ∙ map_further module_of (bulk_module c.args.n) c.loop-k.modules.items _ c.loop-k.k c.loop-k.invariant.modules c.in_ok-module.ensures }

pub returns : goal.returns
returns c =
    let end : c.loop-k.k ≡ c.args.n = omega (arith, c.loop-k.auto.k-end, c.loop-k-test.false) in
    ap (map module_of) c.new.ensures ∙ c.loop-k.invariant.modules ∙ ap (list_to (bulk_module c.args.n)) end
