use Rattle.std.proofs.Common.{cond, ◌+◌, ◌/◌, ◌%◌, drop, get_or, arith, sym, ap, ◌∙◌}
use Rattle.htl_model.proofs.{Words.mode_from, Words.modes_of, PlaceSteps.mode_next, PlaceSteps.round_at}
use Rattle.htl_model.proofs.places.mode_from.Goals as goal

pub returns-then-is_round : goal.returns-then-is_round
returns-then-is_round c =
    let t = c.args.t.now in
    let rounds = c.args.rounds.now in
    let count = c.mode_count-count.result in
    let s = mode_next t rounds c.loop-k.k c.args.path c.args.unit c.args.at c.loop-k.behind count (omega arith) c.loop-k.invariant.behind c.loop-k.invariant.some c.mode_count-count.ensures.count in
    let yes_ = sym c.is_round.ensures ∙ c.if-is_round.true in
    c.mode_at.ensures
    ∙ sym (s.0 ∙ ap (λ b. cond b (get_or (modes_of t (round_at rounds c.loop-k.k).unit) (c.args.path / (c.loop-k.behind / count) % count) 0) (mode_from t c.args.path c.args.unit c.args.at (drop (c.loop-k.k + 1) rounds))) yes_)
    ∙ c.loop-k.invariant.mode

pub loop-k-preserved : goal.loop-k-preserved
loop-k-preserved c =
    let t = c.args.t.now in
    let rounds = c.args.rounds.now in
    let count = c.mode_count-count.result in
    let s = mode_next t rounds c.loop-k.k c.args.path c.args.unit c.args.at c.loop-k.behind count (omega arith) c.loop-k.invariant.behind c.loop-k.invariant.some c.mode_count-count.ensures.count in
    let none = sym c.is_round.ensures ∙ c.if-is_round.false in
    record {
      behind = s.1;
      some = s.2;
      mode = sym (s.0 ∙ ap (λ b. cond b (get_or (modes_of t (round_at rounds c.loop-k.k).unit) (c.args.path / (c.loop-k.behind / count) % count) 0) (mode_from t c.args.path c.args.unit c.args.at (drop (c.loop-k.k + 1) rounds))) none)
          ∙ c.loop-k.invariant.mode;
    }
