use Rattle.std.proofs.Common.{sym, ap, ◌∙◌, arith, ◌-◌, ◌^◌, ◌+◌, ◌*◌, min, drop}
use Rattle.htl_model.specs.Frames.{choices, rounds_of}
use Rattle.htl_model.proofs.FrameLimits.{starting_more, starting_same}
use Rattle.htl_model.proofs.rounds.start_choices.Goals.{then-begins_at, else-begins_at}
use Rattle.htl_model.proofs.rounds.start_choices.Goals as goal

pub loop-k-preserved : goal.loop-k-preserved
loop-k-preserved c =
    let t = c.args.t.now in
    let us = c.args.roots.now in
    elim c.if-begins_at.branch [
      | then-begins_at w ↦ record {
        product = ap (λ n. min (n * choices t (rounds_of t c.args.at (drop (c.loop-k.k + 1) us))) (2 ^ 32 - 1)) w.n-is
            ∙ starting_more (2 ^ 32 - 1) t c.args.at us c.loop-k.k c.loop-k.n w.min-n.result w.mode_count.result (min (choices t (rounds_of t c.args.at us)) (2 ^ 32 - 1)) (omega arith) (sym c.begins_at.ensures ∙ w.if-begins_at.true) w.mode_count.ensures.count
            w.min-n.ensures c.loop-k.invariant.product;
        few = omega (arith, w.n-is, w.min-n.ensures);
      }
      | else-begins_at w ↦ record {
        product = ap (λ n. min (n * choices t (rounds_of t c.args.at (drop (c.loop-k.k + 1) us))) (2 ^ 32 - 1)) w.n-is
            ∙ sym (ap (λ rs. min (c.loop-k.n * choices t rs) (2 ^ 32 - 1)) (starting_same t c.args.at us c.loop-k.k (omega arith) (sym c.begins_at.ensures ∙ w.if-begins_at.false)))
            ∙ c.loop-k.invariant.product;
        few = omega (arith, w.n-is, c.loop-k.invariant.few);
      }
    ]
