use Rattle.std.proofs.Common.{arith, rules, SFits, w64, ◌∙◌, ◌<◌, length, get_or, [], ap}
use Rattle.htl_emach.proofs.{Words.to_z-of_z, Words.function_value, Words.output_function, Filling.rows_hold, Filling.output_more}
use Rattle.htl_emach.proofs.jobs.fill_outputs.Goals as goal

pub put-requires : goal.put-requires
put-requires c =
    let row : c.loop-k.k < length (get_or c.args.outputs.now c.args.row []) = omega (arith, c.requires.same, c.output_count-count.ensures.count) in
    rows_hold c.args.outputs.now c.loop-k.outputs c.args.row (λ j. function_value c.args.t.now (output_function c.args.t.now c.args.task j) c.args.args.now) c.loop-k.k c.loop-k.invariant c.requires.row row

pub loop-k-preserved : goal.loop-k-preserved
loop-k-preserved c =
    let f : SFits w64 c.call_at-x.result = search rules in
    let row : c.loop-k.k < length (get_or c.args.outputs.now c.args.row []) = omega (arith, c.requires.same, c.output_count-count.ensures.count) in
    c.put.ensures ∙
    output_more c.args.outputs.now c.loop-k.outputs c.args.row (λ j. function_value c.args.t.now (output_function c.args.t.now c.args.task j) c.args.args.now) c.loop-k.k _ c.loop-k.invariant c.requires.row row
    (to_z-of_z w64 c.call_at-x.result f ∙ c.call_at-x.ensures ∙ ap (λ g. function_value c.args.t.now g c.args.args.now) c.output_function.ensures.value)
