use Rattle.htl_object.proofs.Words.{take, All, flat_map, Puts}
use Rattle.htl_object.proofs.writer.put_all.Given as goal

abbrev pub invariant-loop-x : goal.invariant-loop-x
invariant-loop-x g l = Puts (flat_map g.T.Spelled.spelling (take l.x-index l.items)) l.fn.out l.out × All g.T.Spelled.keeps (take l.x-index l.items)
