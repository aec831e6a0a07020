use Rattle.std.proofs.Common.{◌<◌, ◌≤◌, ◌+◌, length, get_or, subst, sym, arith}
use Rattle.htl_refine.proofs.{Words.starts, Words.start_read, Words.new_jobs, Words.choice_of, BegunLimits.start_early, BegunLimits.choice_few, BegunLimits.new_few}
use Rattle.htl_compile.proofs.Words.{kept_apart}
use Rattle.htl_part_tests.proofs.schedules.refine_tests.begun.Goals as goal

pub begun_choice-requires : goal.begun_choice-requires
begun_choice-requires c =
    let t = c.args.t.now in
    let there : 0 < length (starts t) = omega (arith, c.if-frame-gt0.true, c.survey-frame.ensures.count) in
    let same = start_read t c.survey-frame.result 0 c.survey-frame.ensures there in
    record { few = subst (λ a. choice_of t c.args.s.now.modes a < 1024) (sym same) (choice_few t c.keeps_ranges.ensures.ranges c.in_default-frames.ensures.kept 0 there c.args.s.now.modes (c.is_selection.ensures.0 c.if-is_selection.true)) }

pub derive_begun-requires-clause-kept : goal.derive_begun-requires-clause-kept
derive_begun-requires-clause-kept c = kept_apart c.args.t.now 16 c.in_default.ensures

pub derive_begun-requires-clause-at : goal.derive_begun-requires-clause-at
derive_begun-requires-clause-at c =
    let t = c.args.t.now in
    let there : 0 < length (starts t) = omega (arith, c.if-frame-gt0.true, c.survey-frame.ensures.count) in
    let same = start_read t c.survey-frame.result 0 c.survey-frame.ensures there in
    subst (λ a. a ≤ 1000000) (sym same) (start_early t c.keeps_ranges.ensures.ranges c.in_default-frames.ensures.kept 0 there)

pub derive_begun-requires-clause-room : goal.derive_begun-requires-clause-room
derive_begun-requires-clause-room c =
    let t = c.args.t.now in
    let there : 0 < length (starts t) = omega (arith, c.if-frame-gt0.true, c.survey-frame.ensures.count) in
    let same = start_read t c.survey-frame.result 0 c.survey-frame.ensures there in
    let few = new_few t c.keeps_ranges.ensures.ranges c.in_default-frames.ensures.kept 0 there c.args.s.now.modes (c.is_selection.ensures.0 c.if-is_selection.true) in
    let room : 0 + length (new_jobs t c.args.s.now.modes (get_or (starts t) 0 0) 0) ≤ 128 = omega (arith, few) in
    subst (λ a. 0 + length (new_jobs t c.args.s.now.modes a 0) ≤ 128) (sym same) room
