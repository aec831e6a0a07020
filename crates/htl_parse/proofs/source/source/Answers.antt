use Rattle.std.proofs.Common.{map, refl, sym, ◌∙◌}
use Rattle.htl_parse.proofs.{Words.map-append, Words.program_of, Words.begins_program, Words.program_at, Words.source_at, Items.less-read, Repeats.repeat-more, Repeats.program-less}
use Rattle.htl_parse.proofs.source.source.Goals as goal

pub loop-alloc-preserved : goal.loop-alloc-preserved
loop-alloc-preserved c =
    let more =
    repeat-more begins_program program_at program-less refl (source_at c.args.cursor.now) c.loop-alloc.cursor (map program_of c.loop-alloc.found.items) c.loop-alloc.invariant c.program-in-loop-alloc.new.cursor (program_of c.in_ok-next.next)
    (sym c.begins_program.ensures ∙ c.loop-alloc-test.true) c.in_ok-next.ensures in
    rw (c.in_ok-push-2.ensures.items, map-append) more

pub loop-alloc-smaller : goal.loop-alloc-smaller
loop-alloc-smaller c = less-read program_at program-less c.loop-alloc.cursor c.program-in-loop-alloc.new.cursor (program_of c.in_ok-next.next) c.in_ok-next.ensures
