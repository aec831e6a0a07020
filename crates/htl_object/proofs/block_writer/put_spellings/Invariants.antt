use Rattle.htl_object.proofs.Words.{take, flat_map, Puts}
use Rattle.htl_object.proofs.block_writer.put_spellings.Given as goal

abbrev pub invariant-loop-spelling : goal.invariant-loop-spelling
invariant-loop-spelling l = Puts (flat_map (λ s. s.items) (take l.spelling-index l.spellings)) l.fn.out l.out
