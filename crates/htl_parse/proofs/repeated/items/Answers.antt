use Rattle.htl_parse.proofs.{Items.items-more, Items.items-end, Items.less-read, Items.comma-less, Repeats.less-given}
use Rattle.htl_parse.proofs.repeated.items.Goals as goal

pub loop-cursor-preserved : goal.loop-cursor-preserved
loop-cursor-preserved g c =
    let item = g.T.Listable.reading in
    let more =
    items-more item (less-given item c.requires.less) c.args.cursor.now c.loop-cursor.cursor (g.T.Listable.plains c.loop-cursor.found.items) c.loop-cursor.invariant c.sign.new.self c.read-in-Some.new.cursor
    c.in-Some.field-0 (g.T.Listable.plain c.in_ok-next.next) c.in-Some.ensures c.in_ok-next.ensures in
    rw (c.in_ok-push-2.ensures.items, c.requires.more) more

pub returns : goal.returns
returns g c =
    let item = g.T.Listable.reading in
    items-end item (less-given item c.requires.less) c.args.cursor.now c.loop-cursor.cursor (g.T.Listable.plains c.loop-cursor.found.items) c.loop-cursor.invariant c.sign.new.self c.in_default.ensures

pub loop-cursor-smaller : goal.loop-cursor-smaller
loop-cursor-smaller g c =
    let item = g.T.Listable.reading in
    comma-less c.loop-cursor.cursor c.sign.new.self c.read-in-Some.new.cursor c.in-Some.field-0 c.in-Some.ensures
    (less-read item (less-given item c.requires.less) c.sign.new.self c.read-in-Some.new.cursor (g.T.Listable.plain c.in_ok-next.next) c.in_ok-next.ensures)
