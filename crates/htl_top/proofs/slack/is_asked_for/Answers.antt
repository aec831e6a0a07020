use Rattle.std.proofs.Common.{◌≡◌, length, true, false, Some, slice_get, refl, sym, ap, ◌∙◌, arith}
use Rattle.htl_top.proofs.{Vocabulary.slice_get_read, Vocabulary.Tables, Slacking.found, Slacking.finding}
use Rattle.htl_top.proofs.slack.is_asked_for.Goals as goal

pub returns-then-has_names : goal.returns-then-has_names
returns-then-has_names c =
    let t = c.args.t.now in
    let x = c.index-as_slice-task.result in
    let same = c.as_slice.ensures ∙ sym (ap (λ (u : Tables). u.tasks) c.parts.ensures.value) in
    let at : slice_get t.tasks c.args.task ≡ Some x = ap (λ l. slice_get l c.args.task) (sym same) ∙ slice_get_read c.as_slice.result.now (length c.as_slice.result.now) c.args.task x refl (omega (arith, ap length same, c.requires)) c.index-as_slice-task.is in
    let named = sym c.has_names.ensures ∙ c.if-has_names.true in
    (λ yes. record { named = found t c.args.owner.now c.args.name.now c.args.task x at named; root = c.is_root_task.ensures.0 yes }, λ is. c.is_root_task.ensures.1 is.root)

pub returns-else-has_names : goal.returns-else-has_names
returns-else-has_names c =
    let t = c.args.t.now in
    let x = c.index-as_slice-task.result in
    let same = c.as_slice.ensures ∙ sym (ap (λ (u : Tables). u.tasks) c.parts.ensures.value) in
    let at : slice_get t.tasks c.args.task ≡ Some x = ap (λ l. slice_get l c.args.task) (sym same) ∙ slice_get_read c.as_slice.result.now (length c.as_slice.result.now) c.args.task x refl (omega (arith, ap length same, c.requires)) c.index-as_slice-task.is in (
      λ yes. absurd (let no : true ≡ false = sym yes ∙ c.if-has_names.false in cc),
      λ is. c.has_names.ensures ∙ finding t c.args.owner.now c.args.name.now c.args.task x at is.named,
    )
