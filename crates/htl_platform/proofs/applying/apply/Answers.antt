use Rattle.std.proofs.Common.{◌≡◌, List, ℕ, ◌∙◌, ap, sym, subst}
use Rattle.htl_platform.proofs.{Words.AreInRange, Words.Tables, Words.tables_of, Words.with_worst, WorstRanges.timed_in_range}
use Rattle.htl_platform.proofs.applying.apply.Goals as goal

pub new-requires : goal.new-requires
new-requires c =
    let whole : tables_of c.parts_with.result ≡ with_worst c.args.t c.args.p.now.worst =
    c.parts_with.ensures ∙ ap (λ (u : Tables). with_worst u c.as_slice.result.now) (sym c.into_parts.ensures.value)
    ∙ ap (λ (ws : List ℕ). with_worst c.args.t ws) c.as_slice.ensures in
    subst (λ (u : Tables). AreInRange u) (sym whole) (timed_in_range c.args.t c.args.p.now.worst c.into_parts.ensures.ranges c.requires.spans)
