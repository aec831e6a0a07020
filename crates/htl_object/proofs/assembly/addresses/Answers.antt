use Rattle.htl_object.specs.declared.lists.Anchors.{Anchors}
use Rattle.htl_object.proofs.Rounds.{mapped}
use Rattle.htl_object.proofs.assembly.addresses.Goals as goal

pub loop-a-preserved : goal.loop-a-preserved
loop-a-preserved c =
    let all = c.args.anchors.now in
    record {
      enter = mapped (λ (a : Anchors). a.enter) all c.loop-a.a-index _ c.loop-a.enter.items c.push.new.self.items c.loop-a-test.true c.loop-a.invariant.enter c.in_ok-push.ensures.items;
      begin = mapped (λ (a : Anchors). a.begin) all c.loop-a.a-index _ c.loop-a.begin.items c.push-in-loop-a.new.self.items c.loop-a-test.true c.loop-a.invariant.begin c.in_ok-push-2.ensures.items;
      decide = mapped (λ (a : Anchors). a.decide) all c.loop-a.a-index _ c.loop-a.decide.items c.push-in-loop-a-2.new.self.items c.loop-a-test.true c.loop-a.invariant.decide c.in_ok-push-3.ensures.items;
    }
