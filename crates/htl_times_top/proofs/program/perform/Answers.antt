use Rattle.std.proofs.Common.{◌≡◌, ◌∙◌, ap, inl, List, ℕ, map, string_bytes, Bor}
use Rattle.htl_open.specs.{Files.files, Lines.Tells}
use Rattle.htl_times_top.specs.Program.{written}
use Rattle.htl_times_top.proofs.SameWords.{EndsWith-same}
use Rattle.htl_times_top.proofs.program.perform.Goals as goal

pub returns-in-Ok : goal.returns-in-Ok
returns-in-Ok g c =
    let side = written g.W.Sink.written g.W.Sink.faults in
    let same : map (λ (w : Bor (List ℕ)). w.now) c.as_slice.result.now ≡ map string_bytes c.args.words.now =
    ap (map (λ (w : Bor (List ℕ)). w.now)) c.as_slice.ensures.value ∙ c.in-Ok.ensures in
    inl (EndsWith-same _ _ (files g.S.Shelf.holds g.S.Shelf.faults c.args.shelf.now c.times.new.shelf) (side c.args.out.now) (side c.times.new.out)
    (Tells (g.E.Sink.written c.args.err.now) (g.E.Sink.written c.times.new.err) (g.E.Sink.faults c.args.err.now) (g.E.Sink.faults c.times.new.err))
    (g.E.Sink.written c.times.new.err ≡ g.E.Sink.written c.args.err.now) c.status.result same
    (record {
      outcome = c.times.result;
      is = c.status.ensures;
      answer = c.times.ensures.answer;
      shelf_count = c.times.ensures.shelf_count;
      write_count = c.times.ensures.write_count;
      told = c.times.ensures.told;
      quiet = c.times.ensures.quiet;
    }))
