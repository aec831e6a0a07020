use Rattle.std.proofs.{Common.sym, Common.subst, Common.take, Common.add-one, Math.Seq.take-suc}
use Rattle.htl_machine.specs.Calls.{Follows}
use Rattle.htl_part_tests.proofs.runs.machine_tests.play.Goals as goal

pub tell-requires-clause-follows : goal.tell-requires-clause-follows
tell-requires-clause-follows c = (take c.loop-k.k c.args.events.now, c.loop-k.invariant.follows)

pub loop-k-preserved : goal.loop-k-preserved
loop-k-preserved c =
    let told = c.tell.ensures.follows (take c.loop-k.k c.args.events.now) c.loop-k.invariant.follows c.if-not-tell.false in
    record {
      follows = rw add-one (subst (λ es. Follows c.tell.new.m es) (sym (take-suc c.args.events.now c.loop-k.k _ c.loop-k-test.true)) told);
      tables = c.tell.ensures.tables;
    }

pub end-requires : goal.end-requires
end-requires c = (take c.loop-k.k c.args.events.now, c.loop-k.invariant.follows)
