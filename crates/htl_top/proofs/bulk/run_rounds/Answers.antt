use Rattle.std.proofs.Common.{arith, suc, ◌*◌, ◌++◌, ◌∷◌, [], Err, refl, add-one}
use Rattle.htl_model.specs.declared.event.Event.TheVariants as event
use Rattle.htl_top.proofs.Rounds.{running_start, still_in_order, put_nothing, running_on}
use Rattle.htl_bulk.specs.BulkEvents.{readings_of}
use Rattle.htl_top.proofs.bulk.run_rounds.Goals as goal

pub loop-round-init : goal.loop-round-init
loop-round-init g c = running_start c.args.machine.now (g.W.Sink.written c.args.out.now) (g.W.Sink.faults c.args.out.now) c.requires.follows

pub advance-requires-clause-follows : goal.advance-requires-clause-follows
advance-requires-clause-follows g c = (readings_of c.loop-round.round, c.loop-round.invariant.follows)

pub advance-requires-clause-order : goal.advance-requires-clause-order
advance-requires-clause-order g c = still_in_order c.loop-round.machine c.loop-round.round (1000 * c.loop-round.round) c.loop-round.invariant.follows refl

pub returns-in-Err-clause-text : goal.returns-in-Err-clause-text
returns-in-Err-clause-text g c =
    let k = c.loop-round.round in
    put_nothing c.args.machine.now c.loop-round.machine c.advance.new.self k (1000 * k) (g.W.Sink.written c.args.out.now) (g.W.Sink.written c.loop-round.out) (g.W.Sink.written c.advance.new.sink)
    (g.W.Sink.faults c.args.out.now) (g.W.Sink.faults c.loop-round.out) (g.W.Sink.faults c.advance.new.sink) c.requires.show c.loop-round.invariant c.loop-round.machine.run_state.reading
    (Err c.in-Err.failed) (c.in-Err.ensures.text (readings_of k) c.loop-round.invariant.follows)

pub loop-round-preserved : goal.loop-round-preserved
loop-round-preserved g c =
    let k = c.loop-round.round in
    let told = c.in_default.ensures.follows (readings_of k) c.loop-round.invariant.follows in
    rw add-one (
    running_on c.args.machine.now c.loop-round.machine c.advance.new.self k (1000 * k) (g.W.Sink.written c.args.out.now) (g.W.Sink.written c.loop-round.out) (g.W.Sink.written c.advance.new.sink)
    (g.W.Sink.faults c.args.out.now) (g.W.Sink.faults c.loop-round.out) (g.W.Sink.faults c.advance.new.sink) c.requires.show c.loop-round.invariant c.loop-round.machine.run_state.reading
    c.in_default.field-0 c.sense_round.new.machine (c.in_default.ensures.text (readings_of k) c.loop-round.invariant.follows) c.advance.ensures.same
    c.sense_round.ensures.same.object c.sense_round.ensures.same.show refl
    (c.sense_round.ensures.follows (readings_of k ++ event.At (1000 * k) ∷ []) told)
    )

pub finish-requires-clause-follows : goal.finish-requires-clause-follows
finish-requires-clause-follows g c = (readings_of c.loop-round.round, c.loop-round.invariant.follows)

pub finish-requires-clause-order : goal.finish-requires-clause-order
finish-requires-clause-order g c =
    still_in_order c.loop-round.machine c.loop-round.round (1000 * c.args.rounds) c.loop-round.invariant.follows (omega (arith, c.loop-round-test.false, c.loop-round.auto.round-end))

pub returns-clause-text : goal.returns-clause-text
returns-clause-text g c =
    let k = c.loop-round.round in
    put_nothing c.args.machine.now c.loop-round.machine c.finish.new.self k (suc (1000 * c.args.rounds)) (g.W.Sink.written c.args.out.now) (g.W.Sink.written c.loop-round.out)
    (g.W.Sink.written c.finish.new.sink) (g.W.Sink.faults c.args.out.now) (g.W.Sink.faults c.loop-round.out) (g.W.Sink.faults c.finish.new.sink) c.requires.show c.loop-round.invariant
    c.loop-round.machine.run_state.reading c.finish.result (c.finish.ensures.text (readings_of k) c.loop-round.invariant.follows)
