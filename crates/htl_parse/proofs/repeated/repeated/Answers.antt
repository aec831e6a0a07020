use Rattle.std.proofs.Common.{sym, ◌∙◌}
use Rattle.htl_parse.specs.ReadingLists.{repeated_at}
use Rattle.htl_parse.proofs.{Items.less-read, Repeats.less-given, Repeats.repeat-more}
use Rattle.htl_parse.proofs.repeated.repeated.Goals as goal

pub items-preserved : goal.items-preserved
items-preserved g c =
    let begins = g.T.Repeatable.starts in
    let item = g.T.Repeatable.reading in
    let more =
    repeat-more begins item (less-given item c.requires.items.less) c.requires.nothing (repeated_at begins item c.args.cursor.now) c.items.cursor (g.T.Repeatable.plains c.items.found.items) c.items.invariant c.read.new.cursor
    (g.T.Repeatable.plain c.in_ok-next.next) (sym c.begins.ensures ∙ c.items-test.true) c.in_ok-next.ensures in
    rw (c.in_ok-push.ensures.items, c.requires.items.more) more

pub items-smaller : goal.items-smaller
items-smaller g c =
    let item = g.T.Repeatable.reading in
    less-read item (less-given item c.requires.items.less) c.items.cursor c.read.new.cursor (g.T.Repeatable.plain c.in_ok-next.next) c.in_ok-next.ensures
