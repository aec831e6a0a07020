use Rattle.std.proofs.Common.{◌≡◌, ℕ, List, All, subst, sym, ap, ◌∙◌}
use Rattle.htl_platform.proofs.{Words.table_view, Words.IsSpan, Words.Tables, Words.worst_of, SpanLaws.spans}
use Rattle.htl_platform.proofs.reading.read_platform.Goals as goal

pub returns-clause-spans : goal.returns-clause-spans
returns-clause-spans c =
    let tasks : c.as_slice-2.result.now ≡ c.args.t.now.tasks = c.as_slice-2.ensures ∙ ap (λ (t : Tables). t.tasks) (sym c.parts-parts.ensures.value) in
    subst (λ (worst : List ℕ). All IsSpan worst) (sym (c.new.ensures ∙ c.in_ok-worst.ensures))
    (spans c.args.t.now c.as_slice.result.now c.as_slice-2.result.now (worst_of (table_view c.in_ok-table.table)) c.parts-parts.ensures.ranges tasks)
