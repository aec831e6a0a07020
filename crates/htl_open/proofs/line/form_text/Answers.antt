use Rattle.std.proofs.Common.{◌++◌, ℕ, List, ap, ◌∙◌}
use Rattle.std.specs.Fmt.{decimal}
use Rattle.htl_open.proofs.Putting.{behind}
use Rattle.htl_open.proofs.line.form_text.Goals as goal

pub returns : goal.returns
returns c =
    let text = c.args.text.now in
    let place = ap (λ (z : List ℕ). c.text-2.new.self ++ z) (c.as_bytes.ensures.bytes ∙ c.place_of-place.ensures.text) in
    let first = c.text.ensures.bytes ∙ ap (λ (z : List ℕ). z ++ text) c.new-line.ensures.bytes in
    behind text _ _ _ _ c.text-6.ensures.bytes
    (behind text _ _ _ _ c.number-3.ensures.bytes
    (behind text _ _ _ _ c.text-5.ensures.bytes
    (behind text _ _ _ _ c.number-2.ensures.bytes
    (behind text _ _ _ _ c.text-4.ensures.bytes
    (behind text _ _ _ _ (c.text-3.ensures.bytes ∙ place)
    (behind text _ _ _ _ c.text-2.ensures.bytes (c.number.ensures.bytes ∙ ap (λ (z : List ℕ). z ++ decimal c.args.fault.now.rule) first)))))))
