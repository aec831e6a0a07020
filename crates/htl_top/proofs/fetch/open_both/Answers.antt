use Rattle.std.proofs.Common.{Err}
use Rattle.htl_top.proofs.{Vocabulary.Some, Vocabulary.subst, Vocabulary.files, Vocabulary.IsObjectRead, Vocabulary.ObjectStop, BothFiles.both_had, BothFiles.unread_both}
use Rattle.htl_top.proofs.fetch.open_both.Goals as goal

pub returns-in-Ok-read_object-clause-opened : goal.returns-in-Ok-read_object-clause-opened
returns-in-Ok-read_object-clause-opened g c =
    both_had (Some c.args.name.now) (Some c.args.second.now) (files g.S.Shelf.holds g.S.Shelf.faults c.args.shelf.now c.fetch_both.new.shelf) c.in-Ok.files.0.items c.as_slice.result.now
    c.in-Ok.files.1.items c.as_slice.ensures.value c.in-Ok.ensures.object c.in-Ok.ensures.second c.in-Ok-read_object.object c.in-Ok-read_object.ensures.0 c.in-Ok-read_object.ensures.1

pub returns-in-Err-Refused-clause-stopped : goal.returns-in-Err-Refused-clause-stopped
returns-in-Err-Refused-clause-stopped g c =
    unread_both (Some c.args.name.now) (Some c.args.second.now) (files g.S.Shelf.holds g.S.Shelf.faults c.args.shelf.now c.fetch_both.new.shelf) c.in-Ok.files.0.items c.as_slice.result.now
    c.in-Ok.files.1.items c.as_slice.ensures.value c.in-Ok.ensures.object c.in-Ok.ensures.second c.in-Err-Refused.fault c.in-Err-Refused.tables
    (subst (λ (s : ObjectStop). IsObjectRead c.as_slice.result.now (Err s)) c.in-Err-Refused.field-0-is c.in-Err-Refused.ensures)
