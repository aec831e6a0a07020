use Rattle.std.proofs.Common.{Err, ap}
use Rattle.htl_top.proofs.{Vocabulary.List, Vocabulary.ℕ, Vocabulary.Some, Vocabulary.sym, Vocabulary.subst, Vocabulary.files, Vocabulary.IsSource, Inputs.taken_none}
use Rattle.htl_top.specs.declared.stop.GoStop.TheVariants as go
use Rattle.htl_top.proofs.go.go_file.Goals as goal

pub returns-in-Ok-clause-answer : goal.returns-in-Ok-clause-answer
returns-in-Ok-clause-answer g c =
    let shelf = files g.S.Shelf.holds g.S.Shelf.faults c.args.shelf.now c.fetch_source.new.shelf in
    c.go.ensures.answer (Some c.args.name.now) shelf (subst (λ (bs : List ℕ). IsSource (Some c.args.name.now) shelf.holds bs) (sym c.as_slice.ensures.value) c.in-Ok.ensures.fetched)

pub returns-in-Err-clause-taken : goal.returns-in-Err-clause-taken
returns-in-Err-clause-taken g c = taken_none 1073742080 (g.R.Source.rest c.args.input.now)

pub returns-in-Err-clause-shelf_count : goal.returns-in-Err-clause-shelf_count
returns-in-Err-clause-shelf_count g c = λ apart. c.in-Err.ensures.stopped_count (λ e. apart (ap (λ s. Err (go.File s)) e))
