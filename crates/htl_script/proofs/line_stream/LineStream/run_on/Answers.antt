use Rattle.std.proofs.Common.{◌++◌, take, sym, ap, ◌∙◌, subst}
use Rattle.htl_script.proofs.{Words.LinesAhead, Words.Pending, Words.ReadsOn, Words.take-append-drop, Feeds.no_feeds, ReadingOn.reads_run}
use Rattle.htl_script.proofs.line_stream.LineStream.run_on.Goals as goal

pub returns-clause-moved : goal.returns-clause-moved
returns-clause-moved c = λ rest.
    let ahead = c.self.inside.chunk in
    let run = take c.plain-count.result ahead.bytes in
    let new : LinesAhead = record { place = c.push_all.new.self; ahead = c.skip.new.self } in
    subst (λ (z : LinesAhead). ReadsOn z new rest rest) c.self.view_is
    (reads_run c.self.inside.lines c.push_all.new.self ahead c.skip.new.self run rest (sym (take-append-drop c.plain-count.result ahead.bytes) ∙ ap (λ (p : Pending). run ++ p.bytes) (sym c.skip.ensures))
    (no_feeds run c.plain-count.ensures.plain) (c.push_all.ensures ∙ ap (λ xs. record c.self.inside.lines { line = c.self.inside.lines.line ++ xs }) c.front.ensures) (ap (λ (p : Pending). p.over) c.skip.ensures))
