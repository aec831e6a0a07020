use Rattle.std.proofs.Common.{Bool, List, ℕ, Option, Ok, eqb, length, refl, ap, ◌∙◌, subst}
use Rattle.htl_script.proofs.{Words.Failed, Words.LinesAhead, Words.SeesByte, Words.StopsBefore, ReadingOn.reads_none, ReadingOn.reads_more, ReadingOn.reads_on_byte}
use Rattle.htl_script.proofs.Splitting.{at_feed, answers_over, answers_refused, answers-byte}
use Rattle.htl_script.proofs.line_stream.LineStream.next.Goals as goal

pub pieces-init : goal.pieces-init
pieces-init g c = (reads_none c.args.self.now (g.R.Source.rest c.args.src.now), refl)

pub returns-in-Ok-None-clause-answer : goal.returns-in-Ok-None-clause-answer
returns-in-Ok-None-clause-answer g c =
    let sees = subst (λ (o : Option ℕ). SeesByte {E = Failed} c.self.inside.chunk c.first.new.self (g.R.Source.rest c.pieces.src) (g.R.Source.rest c.first.new.src) (Ok o)) c.in-Ok-None.field-0-is c.in-Ok-None.ensures.byte in
    answers_over (record { place = c.self.inside.lines; ahead = c.first.new.self }) c.keeps_place.ensures c.is_empty.result sees.1 sees.3 (c.is_empty.ensures ∙ ap (λ (xs : List ℕ). eqb (length xs) 0) c.text.ensures)

pub returns-in-Ok-true-clause-answer : goal.returns-in-Ok-true-clause-answer
returns-in-Ok-true-clause-answer g c =
    let sees = subst (λ (o : Option ℕ). SeesByte {E = Failed} c.self.inside.chunk c.first.new.self (g.R.Source.rest c.pieces.src) (g.R.Source.rest c.first.new.src) (Ok o)) c.in-Ok-Some.field-0-is c.in-Ok-Some.ensures.byte in
    let stops = subst (λ (o : Bool). StopsBefore c.self.inside.lines c.in-Ok-Some.b (Ok o)) c.in-Ok-true.field-0-test c.in-Ok-true.ensures in
    at_feed (record { place = c.self.inside.lines; ahead = c.first.new.self }) c.keeps_place.ensures c.in-Ok-Some.b sees.3 stops.0 stops.1

pub returns-in-Ok-true-clause-reads : goal.returns-in-Ok-true-clause-reads
returns-in-Ok-true-clause-reads g c =
    reads_on_byte Failed c.args.self.now c.pieces.self c.self.inside.lines c.self.inside.chunk c.first.new.self (g.R.Source.rest c.args.src.now) (g.R.Source.rest c.pieces.src) (g.R.Source.rest c.first.new.src) c.first.result
    c.self.view_is c.pieces.invariant.0 c.first.ensures.byte

pub pieces-preserved : goal.pieces-preserved
pieces-preserved g c = (
  reads_more c.args.self.now (record { place = c.self.inside.lines; ahead = c.first.new.self }) c.run_on.new.self (g.R.Source.rest c.args.src.now) (g.R.Source.rest c.first.new.src) (g.R.Source.rest c.first.new.src)
      (reads_on_byte Failed c.args.self.now c.pieces.self c.self.inside.lines c.self.inside.chunk c.first.new.self (g.R.Source.rest c.args.src.now) (g.R.Source.rest c.pieces.src) (g.R.Source.rest c.first.new.src) c.first.result
      c.self.view_is c.pieces.invariant.0 c.first.ensures.byte)
      (c.run_on.ensures.moved (g.R.Source.rest c.first.new.src)),
  c.in-Ok-Some.ensures.cause.kept ∙ c.pieces.invariant.1,
)

pub returns-in-Err-ends_before-clause-answer : goal.returns-in-Err-ends_before-clause-answer
returns-in-Err-ends_before-clause-answer g c =
    let a : LinesAhead = record { place = c.self.inside.lines; ahead = c.first.new.self } in
    let sees = subst (λ (o : Option ℕ). SeesByte {E = Failed} c.self.inside.chunk c.first.new.self (g.R.Source.rest c.pieces.src) (g.R.Source.rest c.first.new.src) (Ok o)) c.in-Ok-Some.field-0-is c.in-Ok-Some.ensures.byte in
    answers_refused a c.keeps_place.ensures c.in-Err-ends_before.kind c.fault.result c.fault.ensures (answers-byte a c.keeps_place.ensures c.in-Ok-Some.b c.in-Err-ends_before.kind sees.3 c.in-Err-ends_before.ensures)

pub returns-in-Err-ends_before-clause-reads : goal.returns-in-Err-ends_before-clause-reads
returns-in-Err-ends_before-clause-reads g c =
    reads_on_byte Failed c.args.self.now c.pieces.self c.self.inside.lines c.self.inside.chunk c.first.new.self (g.R.Source.rest c.args.src.now) (g.R.Source.rest c.pieces.src) (g.R.Source.rest c.first.new.src) c.first.result
    c.self.view_is c.pieces.invariant.0 c.first.ensures.byte
