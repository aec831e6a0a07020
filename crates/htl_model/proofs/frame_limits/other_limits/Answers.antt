use Rattle.std.proofs.Common.{min, arith, sym, ap, ◌∙◌}
use Rattle.htl_model.specs.Frames.{choices, most_positions, exceeds}
use Rattle.htl_model.proofs.LimitCode.{paths_over, rest_is, exceeded, not_exceeded, few_starts, rounds_same}
use Rattle.htl_model.proofs.frame_limits.other_limits.Goals as goal

pub fill_starts-count-requires-clause-few : goal.fill_starts-count-requires-clause-few
fill_starts-count-requires-clause-few c = omega (arith, c.count_starts-many.ensures, c.if-many.false)

pub returns-then-choices : goal.returns-then-choices
returns-then-choices c =
    let t = c.args.t.now in
    let many = few_starts t c.args.roots.now c.args.frame c.count_starts-many.result c.requires.roots c.requires.frame c.count_starts-many.ensures in
    let rounds = rounds_same t c.args.roots.now c.args.frame c.fill_starts-count.result c.fill_rounds-round_count.result c.fill_starts-count.new.out c.fill_rounds-round_count.new.out c.requires.roots c.requires.frame c.fill_starts-count.ensures.starts
    c.fill_starts-count.ensures.count c.fill_rounds-round_count.ensures.rounds in
    paths_over t c.round_choices-choices.result (omega (arith, many, c.if-many.false)) (c.round_choices-choices.ensures ∙ ap (λ rs. min (choices t rs) 4294967295) rounds) c.if-choices.true

pub returns-then-positions : goal.returns-then-positions
returns-then-positions c =
    let t = c.args.t.now in
    let many = few_starts t c.args.roots.now c.args.frame c.count_starts-many.result c.requires.roots c.requires.frame c.count_starts-many.ensures in
    let rounds = rounds_same t c.args.roots.now c.args.frame c.fill_starts-count.result c.fill_rounds-round_count.result c.fill_starts-count.new.out c.fill_rounds-round_count.new.out c.requires.roots c.requires.frame c.fill_starts-count.ensures.starts
    c.fill_starts-count.ensures.count c.fill_rounds-round_count.ensures.rounds in
    let rest = rest_is t (omega (arith, many, c.if-many.false)) (omega (arith, c.round_choices-choices.ensures ∙ ap (λ rs. min (choices t rs) 4294967295) rounds, c.if-choices.false)) in
    let n = c.most_positions-positions.ensures ∙ ap (most_positions t) rounds in
    sym (rest ∙ sym (ap (λ m. exceeds m 128) n) ∙ exceeded c.most_positions-positions.result 128 c.if-positions.true)

pub returns : goal.returns
returns c =
    let t = c.args.t.now in
    let many = few_starts t c.args.roots.now c.args.frame c.count_starts-many.result c.requires.roots c.requires.frame c.count_starts-many.ensures in
    let rounds = rounds_same t c.args.roots.now c.args.frame c.fill_starts-count.result c.fill_rounds-round_count.result c.fill_starts-count.new.out c.fill_rounds-round_count.new.out c.requires.roots c.requires.frame c.fill_starts-count.ensures.starts
    c.fill_starts-count.ensures.count c.fill_rounds-round_count.ensures.rounds in
    let rest = rest_is t (omega (arith, many, c.if-many.false)) (omega (arith, c.round_choices-choices.ensures ∙ ap (λ rs. min (choices t rs) 4294967295) rounds, c.if-choices.false)) in
    let n = c.most_positions-positions.ensures ∙ ap (most_positions t) rounds in
    sym (rest ∙ sym (ap (λ m. exceeds m 128) n) ∙ not_exceeded c.most_positions-positions.result 128 (omega (arith, c.if-positions.false)))
