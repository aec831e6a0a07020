use Rattle.std.proofs.Common.{refl, ap, ◌∙◌, not, map}
use Rattle.htl_object.proofs.BlockSpellings.{any_spelled, with_block_spelled}
use Rattle.htl_object.proofs.block_reader.add.Goals as goal

pub returns-clause-added : goal.returns-clause-added
returns-clause-added c = c.in_ok-insert.ensures.added ∙ ap not (any_spelled _ (λ p. p.bytes.now) (λ _. Unit {0}) (λ a b f g. refl) (record { bytes = c.args.piece }) c.args.pieces.now.keys tt (λ k d less. tt))

pub returns-clause-pieces : goal.returns-clause-pieces
returns-clause-pieces c =
    ap (map (λ p. p.bytes.now)) c.in_ok-insert.ensures.keys
    ∙ with_block_spelled _ (λ p. p.bytes.now) (λ _. Unit {0}) (λ a b f g. refl) (record { bytes = c.args.piece }) c.args.pieces.now.keys tt (λ k d less. tt)
