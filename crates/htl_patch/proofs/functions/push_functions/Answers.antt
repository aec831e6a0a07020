use Rattle.std.proofs.Common.{◌≡◌, ◌<◌, ◌+◌, ◌++◌, ℕ, length, map, take, drop, ap, sym, ◌∙◌, refl, arith}
use Rattle.htl_patch.proofs.{Words.nat_tests, Words.Tables, Words.fun_of, FunctionLists.function_is_code, FunctionLists.function_pushed}
use Rattle.htl_patch.proofs.functions.push_functions.Goals as goal

pub copied_function-requires : goal.copied_function-requires
copied_function-requires c =
    let same = ap (λ (t : Tables). t.functions) c.parts.ensures.value ∙ ap (map fun_of) (sym c.as_slice-functions.ensures) in
    let less : c.args.first + c.loop-k.k < length c.args.t.now.functions = grind (arith, nat_tests, c.loop-k-test.true, c.requires.within) in
    function_is_code c.args.t.now.functions c.as_slice-functions.result.now (c.args.first + c.loop-k.k) c.index-functions-id.result c.requires.coded same less c.index-functions-id.is

pub loop-k-preserved : goal.loop-k-preserved
loop-k-preserved c =
    let same = ap (λ (t : Tables). t.functions) c.parts.ensures.value ∙ ap (map fun_of) (sym c.as_slice-functions.ensures) in
    let less : c.args.first + c.loop-k.k < length c.args.t.now.functions = grind (arith, nat_tests, c.loop-k-test.true, c.requires.within) in
    function_pushed c.args.t.now.functions (map fun_of c.args.into.now.items) c.as_slice-functions.result.now c.loop-k.into.items c.push.new.self.items c.args.first c.loop-k.k (c.args.first + c.loop-k.k)
    c.index-functions-id.result c.in_ok-f.f same less refl c.index-functions-id.is c.in_ok-f.ensures c.in_ok-push.ensures.items c.loop-k.invariant

pub returns : goal.returns
returns c =
    let all : c.loop-k.k ≡ c.args.count = omega (arith, c.loop-k-test.false, c.loop-k.auto.k-end) in
    c.loop-k.invariant ∙ ap (λ (n : ℕ). map fun_of c.args.into.now.items ++ take n (drop c.args.first c.args.t.now.functions)) all
