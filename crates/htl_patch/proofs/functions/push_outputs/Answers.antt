use Rattle.std.proofs.Common.{◌<◌, length, map, arith}
use Rattle.htl_patch.proofs.{Words.nat_tests, Words.fun_of, Words.functions_of, Words.combined, FunctionLists.flat_more}
use Rattle.htl_patch.proofs.functions.push_outputs.Goals as goal

pub loop-k-preserved : goal.loop-k-preserved
loop-k-preserved c =
    let g = c.args.g.now in
    let less : c.loop-k.k < length c.args.keys.now = grind (arith, nat_tests, c.loop-k-test.true) in
    flat_more (functions_of (combined g)) c.args.keys.now c.loop-k.k (map fun_of c.loop-k.into.items) (map fun_of c.push_output.new.into.items) (map fun_of c.args.into.now.items) less
    c.in_ok-push_output.ensures c.loop-k.invariant
