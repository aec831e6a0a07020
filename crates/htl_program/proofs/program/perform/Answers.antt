use Rattle.std.proofs.Common.{◌≡◌, ◌∙◌, ap, inl, List, ℕ, map, string_bytes, Bor}
use Rattle.htl_open.specs.{Files.files, Lines.Tells}
use Rattle.htl_top.specs.Answers.{streams}
use Rattle.htl_program.proofs.SameWords.{EndsWith-same}
use Rattle.htl_program.proofs.program.perform.Goals as goal

pub returns-in-Ok : goal.returns-in-Ok
returns-in-Ok g c =
    let side = streams g.R.Source.rest g.R.Source.faults g.W.Sink.written g.W.Sink.faults in
    let same : map (λ (w : Bor (List ℕ)). w.now) c.as_slice.result.now ≡ map string_bytes c.args.words.now =
    ap (map (λ (w : Bor (List ℕ)). w.now)) c.as_slice.ensures.value ∙ c.in-Ok.ensures in
    inl (EndsWith-same _ _ (files g.S.Shelf.holds g.S.Shelf.faults c.args.shelf.now c.htl.new.shelf) (side c.args.input.now c.args.out.now) (side c.htl.new.input c.htl.new.out)
    (Tells (g.E.Sink.written c.args.err.now) (g.E.Sink.written c.htl.new.err) (g.E.Sink.faults c.args.err.now) (g.E.Sink.faults c.htl.new.err))
    (g.E.Sink.written c.htl.new.err ≡ g.E.Sink.written c.args.err.now) c.status.result same
    (record { outcome = c.htl.result; is = c.status.ensures; answer = c.htl.ensures.answer; counts = c.htl.ensures.counts; told = c.htl.ensures.told.line; quiet = c.htl.ensures.told.quiet }))
