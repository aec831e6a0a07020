use Rattle.htl_patch.proofs.Words.{length, ap, arith, length-map, Tables, fun_of}
use Rattle.htl_patch.proofs.functions.switch_function.Goals as goal

pub overflow_sub-result : goal.overflow_sub-result
overflow_sub-result c =
    let size = ap length c.as_slice-functions.ensures in
    let list = ap (λ (t : Tables). length t.functions) c.parts.ensures.value in
    let count = length-map c.parts.result.now.functions fun_of in
    let all = c.keeps_ranges.ensures.ranges.function_count in
    let own = ap length c.switches.ensures.value in
    omega (arith, size, list, count, all, own)

pub returns : goal.returns
returns c =
    let size = ap length c.as_slice-functions.ensures in
    let list = ap (λ (t : Tables). length t.functions) c.parts.ensures.value in
    let count = length-map c.parts.result.now.functions fun_of in
    let all = c.keeps_ranges.ensures.ranges.function_count in
    let own = ap length c.switches.ensures.value in
    omega (arith, size, list, count, all, own)
