use Rattle.htl_object.proofs.Words.{All, flat_map, list_to, Puts, anchors_bytes, AreAnchors, anchors_of}
use Rattle.htl_object.proofs.encoding.put_anchors.Given as goal

abbrev pub invariant-loop-m : goal.invariant-loop-m
invariant-loop-m l = Puts (flat_map anchors_bytes (list_to (anchors_of l.code) l.m)) l.fn.out l.out × All AreAnchors (list_to (anchors_of l.code) l.m)
