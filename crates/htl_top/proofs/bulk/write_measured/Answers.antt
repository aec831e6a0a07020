use Rattle.std.proofs.Common.{ℕ, ◌*◌, List, [], refl, sym, ap, ◌∙◌, subst}
use Rattle.htl_top.proofs.{Vocabulary.append_known-start, Vocabulary.Puts-failed, Vocabulary.Puts-second, Vocabulary.Puts, Vocabulary.Object, Vocabulary.object_text, Vocabulary.readings_of, Bulking.seen_behind, Bulking.values_count}
use Rattle.htl_top.proofs.bulk.write_measured.Goals as goal

pub returns-in-Err : goal.returns-in-Err
returns-in-Err g c =
    Puts-failed (g.W.Sink.written c.args.out.now) (g.W.Sink.written c.args.out.now) (g.W.Sink.written c.run_rounds.new.out) (g.W.Sink.faults c.args.out.now) (g.W.Sink.faults c.args.out.now)
    (g.W.Sink.faults c.run_rounds.new.out) [] [] (object_text c.args.rounds c.args.machine.now.object) c.in-Err.failed c.in-Err.failed (append_known-start (g.W.Sink.written c.args.out.now)) refl
    c.in-Err.ensures.text

pub write_state-requires : goal.write_state-requires
write_state-requires g c =
    values_count c.run_rounds.new.machine c.args.t.now (readings_of c.args.rounds) (1000 * c.args.rounds)
    (c.requires.tables ∙ ap (λ (o : Object). o.tables) (sym c.run_rounds.ensures.same.object)) c.in_default.ensures.finished

pub returns : goal.returns
returns g c =
    let text =
    seen_behind c.run_rounds.new.machine c.args.t.now c.args.machine.now.object c.args.rounds c.run_rounds.ensures.same.object c.requires.tables c.in_default.ensures.finished in
    Puts-second (g.W.Sink.written c.args.out.now) (g.W.Sink.written c.run_rounds.new.out) (g.W.Sink.written c.write_state.new.out) (g.W.Sink.faults c.args.out.now)
    (g.W.Sink.faults c.run_rounds.new.out) (g.W.Sink.faults c.write_state.new.out) [] (object_text c.args.rounds c.args.machine.now.object) c.write_state.result c.in_default.ensures.text.whole
    c.in_default.ensures.text.cause.kept
    (subst
    (λ (bs : List ℕ).
    Puts (g.W.Sink.written c.run_rounds.new.out) (g.W.Sink.written c.write_state.new.out) (g.W.Sink.faults c.run_rounds.new.out) (g.W.Sink.faults c.write_state.new.out) bs c.write_state.result)
    text c.write_state.ensures)
