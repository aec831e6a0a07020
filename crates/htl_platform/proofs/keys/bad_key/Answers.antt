use Rattle.std.proofs.Common.{ap, sym, ◌∙◌}
use Rattle.htl_platform.proofs.{Words.table_view, Words.Tables, KeyLaws.bad_key-index}
use Rattle.htl_platform.proofs.keys.bad_key.Goals as goal

pub returns : goal.returns
returns c =
    c.first_in_worst.ensures
    ∙ bad_key-index c.in_ok-keys.keys.keys c.args.t.now c.as_slice.result.now c.as_slice-2.result.now (table_view c.args.table.now) c.in_ok-keys.ensures
    (c.as_slice.ensures ∙ ap (λ (t : Tables). t.modules) (sym c.parts-parts.ensures.value))
    (c.as_slice-2.ensures ∙ ap (λ (t : Tables). t.tasks) (sym c.parts-parts.ensures.value))
