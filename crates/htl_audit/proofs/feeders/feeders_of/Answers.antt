use Rattle.std.proofs.Common.{◌++◌, ◌+◌, ℕ, List, Vec, Global, drop, ap, sym, ◌∙◌, rules}
use Rattle.htl_audit.specs.Feeders.{feeders_from}
use Rattle.htl_audit.proofs.Feeding.{feeders_more, feeders_same}
use Rattle.htl_audit.proofs.feeders.feeders_of.Goals.{then-feeds+in_ok-push, else-feeds}
use Rattle.htl_audit.proofs.feeders.feeders_of.Goals as goal

pub loop-n-preserved : goal.loop-n-preserved
loop-n-preserved c =
    let t = c.args.t.now in
    let rest : List ℕ = feeders_from t c.args.inv (c.loop-n.n + 1) (drop (c.loop-n.n + 1) t.invs) in
    elim c.if-feeds.branch [
      | then-feeds+in_ok-push w ↦
          ap (λ (v : Vec ℕ Global). v.items ++ rest) w.found-is ∙ ap (λ (ns : List ℕ). ns ++ rest) w.in_ok-push.ensures.items
          ∙ feeders_more t c.args.inv c.loop-n.n t.invs c.loop-n.found.items _ (search rules) (sym c.feeds.ensures ∙ w.if-feeds.true) c.loop-n.invariant
      | else-feeds w ↦
          ap (λ (v : Vec ℕ Global). v.items ++ rest) w.found-is
          ∙ feeders_same t c.args.inv c.loop-n.n t.invs c.loop-n.found.items _ (search rules) (sym c.feeds.ensures ∙ w.if-feeds.false) c.loop-n.invariant
    ]
