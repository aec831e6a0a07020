use Rattle.std.proofs.Common.{refl, ap, ◌∙◌, map}
use Rattle.htl_object.proofs.BlockSpellings.{number_spelled, with_block_spelled}
use Rattle.htl_object.proofs.block_writer.number_of.Goals as goal
use Rattle.htl_object.proofs.block_writer.number_of.Goals.{in-Ok, in-Err}

pub returns-clause-number : goal.returns-clause-number
returns-clause-number c = elim c.match-insert_full.branch [
  | in-Ok w ↦ rw w.result-is (w.in-Ok.ensures.index ∙ number_spelled _ (λ p. p.items) (λ _. Unit {0}) (λ a b f g. refl) c.args.spelling c.args.blocks.now.keys tt (λ k d less. tt))
  | in-Err w ↦ rw w.result-is tt
]

pub returns-clause-blocks : goal.returns-clause-blocks
returns-clause-blocks c = elim c.match-insert_full.branch [
  | in-Ok w ↦ rw w.result-is
      (ap (map (λ p. p.items)) w.in-Ok.ensures.keys ∙ with_block_spelled _ (λ p. p.items) (λ _. Unit {0}) (λ a b f g. refl) c.args.spelling c.args.blocks.now.keys tt (λ k d less. tt))
  | in-Err w ↦ rw w.result-is tt
]
