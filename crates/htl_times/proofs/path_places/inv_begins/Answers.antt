use Rattle.std.proofs.Common.{◌≡◌, rules, ◌+◌, ◌∙◌, length, arith, refl, replicate, get_or}
use Rattle.std.proofs.lemmas.List.{length-set}
use Rattle.htl_times.proofs.PathRounds.{none_begin, few_begin, one_begins}
use Rattle.htl_times.proofs.path_places.inv_begins.Goals as goal

pub loop-m-init : goal.loop-m-init
loop-m-init c = record { begins = none_begin c.args.t.now (replicate 257 0) refl; size = refl }

pub overflow_add-table : goal.overflow_add-table
overflow_add-table c =
    omega (arith, few_begin c.args.t.now c.loop-m.table c.loop-m.m c.loop-m.m c.keeps_ranges.ensures.ranges c.loop-m.invariant.begins (omega arith), c.inv_count.ensures.few)

pub loop-m-preserved : goal.loop-m-preserved
loop-m-preserved c =
    let same : length c.as_slice-m-end.result.now ≡ length c.args.t.now.modes = search rules in
    record {
      begins = one_begins c.args.t.now c.loop-m.table c.loop-m.m c.inv_count.result (omega (arith, c.loop-m.invariant.size, c.loop-m-test.true, same, c.keeps_ranges.ensures.ranges.few_modes)) c.loop-m.invariant.begins c.inv_count.ensures.count;
      size = length-set c.loop-m.table (c.loop-m.m + 1) (get_or c.loop-m.table c.loop-m.m 0 + c.inv_count.result) ∙ c.loop-m.invariant.size;
    }
