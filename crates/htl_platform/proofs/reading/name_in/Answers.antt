use Rattle.std.proofs.Common.{is_some, sym, ap, ◌∙◌}
use Rattle.htl_platform.proofs.{Words.false≢true, Words.table_view, ShapeLaws.has_name-from_shape}
use Rattle.htl_platform.proofs.reading.name_in.Goals as goal

pub unreachable-requires : goal.unreachable-requires
unreachable-requires c =
    false≢true (sym (ap is_some c.in-None.is) ∙ c.name_at.ensures.exact ∙ has_name-from_shape (table_view c.args.table.now) c.requires)
