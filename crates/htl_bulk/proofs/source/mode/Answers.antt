use Rattle.std.proofs.Common.{◌≡◌, ◌∷◌, ◌∙◌, [], map, ap, rules}
use Rattle.htl_bulk.proofs.{Words.switch_of, TreeParts.mode_made}
use Rattle.htl_bulk.proofs.source.mode.Goals as goal

pub returns : goal.returns
returns c =
    let none : c.new-4.result ≡ [] = search rules in
    mode_made c.args.n c.args.k c.named.result c.number.result c.new.result c.new-2.result _ c.named.ensures c.number.ensures
    (c.new.ensures ∙ c.in_ok-ports.ensures.items ∙ ap (λ p. p ∷ []) c.int_named.ensures) (c.new-2.ensures ∙ c.in_ok-invokes.ensures) (ap (map switch_of) none)
