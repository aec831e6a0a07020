use Rattle.std.proofs.Common.{get_or, None, arith}
use Rattle.htl_times.proofs.{Words.walkable, Words.instrs_of, Best.busiest_is, Best.latest_is}
use Rattle.htl_times.proofs.rows.note_tables.Goals as goal

pub note_paths-requires-clause-walkable : goal.note_paths-requires-clause-walkable
note_paths-requires-clause-walkable c = walkable c.args.t.now c.keeps_ranges.ensures.ranges c.requires.formed c.requires.limits

pub returns-clause-latest : goal.returns-clause-latest
returns-clause-latest c =
    λ i l. latest_is c.args.t.now (instrs_of c.args.lists.now) i (get_or c.note_paths.new.rows i None) (c.note_paths.ensures.best i (omega (arith, l, c.note_paths.ensures.len)))

pub returns-clause-busiest : goal.returns-clause-busiest
returns-clause-busiest c = busiest_is c.args.t.now c.note_paths.result c.note_paths.ensures.busiest
