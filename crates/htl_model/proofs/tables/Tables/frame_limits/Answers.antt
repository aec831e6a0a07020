use Rattle.std.proofs.Common.{◌≡◌, ◌<◌, ◌-◌, List, ℕ, Some, option_map, length, take, get_or, arith, sym, ap, ◌∙◌}
use Rattle.htl_model.specs.Selections.{root_modules}
use Rattle.htl_model.proofs.{FrameBuild.frame_some, FrameLimits.with_unit, LimitCode.frame_told, LimitCode.frame_short, LimitCode.limit_rest}
use Rattle.htl_model.proofs.tables.Tables.frame_limits.Goals as goal

pub other_limits-requires-clause-frame : goal.other_limits-requires-clause-frame
other_limits-requires-clause-frame c = frame_told c.args.self.now _ c.hyperperiod-frame.result c.fill_roots-count.ensures.roots (omega (arith, c.fill_roots-count.ensures.count, c.if-count-eq0.false)) c.hyperperiod-frame.ensures

pub other_limits-requires-clause-long : goal.other_limits-requires-clause-long
other_limits-requires-clause-long c =
    let some : 0 < length (root_modules c.args.self.now) = omega (arith, c.fill_roots-count.ensures.count, c.if-count-eq0.false) in
    omega (arith, frame_told c.args.self.now _ c.hyperperiod-frame.result c.fill_roots-count.ensures.roots some c.hyperperiod-frame.ensures, frame_some c.args.self.now c.keeps_ranges.ensures.ranges some)

pub other_limits-requires-clause-short : goal.other_limits-requires-clause-short
other_limits-requires-clause-short c = frame_short c.args.self.now (take c.fill_roots-count.result c.fill_roots-count.new.out) c.hyperperiod-frame.result (sym c.too_long.ensures ∙ c.in_default.is) c.hyperperiod-frame.ensures

pub returns-in-Some-other_limits-clause-exceeded : goal.returns-in-Some-other_limits-clause-exceeded
returns-in-Some-other_limits-clause-exceeded c =
    let t = c.args.self.now in
    let us = take c.fill_roots-count.result c.fill_roots-count.new.out in
    let roots : us ≡ root_modules t = c.fill_roots-count.ensures.roots in
    let many : length us ≡ c.fill_roots-count.result = ap (λ (xs : List ℕ). length xs) roots ∙ sym c.fill_roots-count.ensures.count in
    limit_rest t us roots (omega (arith, many, c.if-count-eq0.false)) (sym c.too_long.ensures ∙ c.in_default.is)
    ∙ ap (option_map (with_unit (get_or us (length us - 1) 0))) (sym c.other_limits.ensures ∙ c.in-Some-other_limits.is)
    ∙ ap (λ n. option_map (with_unit (get_or us (n - 1) 0)) (Some (c.in-Some-other_limits.have, c.in-Some-other_limits.need))) many
