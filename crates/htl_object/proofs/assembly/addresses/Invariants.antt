use Rattle.std.proofs.Common.{◌≡◌, map, take}
use Rattle.htl_object.specs.declared.lists.Anchors.{Anchors}
use Rattle.htl_object.proofs.assembly.addresses.Given as goal

abbrev pub invariant-loop-a : goal.invariant-loop-a
invariant-loop-a l =
    record {
      enter : l.enter.items ≡ map (λ (a : Anchors). a.enter) (take l.a-index l.anchors);
      begin : l.begin.items ≡ map (λ (a : Anchors). a.begin) (take l.a-index l.anchors);
      decide : l.decide.items ≡ map (λ (a : Anchors). a.decide) (take l.a-index l.anchors);
    }
