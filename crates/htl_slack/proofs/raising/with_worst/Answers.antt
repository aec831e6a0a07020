use Rattle.std.proofs.Common.{◌≡◌, ◌∙◌, ap, sym, subst}
use Rattle.htl_edf.proofs.Words.{AreInRange, with_worst}
use Rattle.htl_model.specs.Tables.{Tables, tables_of}
use Rattle.htl_slack.proofs.Ranges.{raised_in_range}
use Rattle.htl_slack.proofs.raising.with_worst.Goals as goal

pub new-requires : goal.new-requires
new-requires c =
    let whole : tables_of c.parts_with.result ≡ with_worst c.args.t c.args.task c.args.worst =
    c.parts_with.ensures ∙ ap (λ (u : Tables). with_worst u c.args.task c.args.worst) (sym c.into_parts.ensures.value) in
    subst AreInRange (sym whole) (raised_in_range c.args.t c.args.task c.args.worst c.into_parts.ensures.ranges c.requires.span)
