use Rattle.htl_parse.proofs.{Words.map, Words.length, Words.program_of, Words.begins_program, Words.program_at, Words.source_at, Repeats.IsRepeating}
use Rattle.htl_parse.proofs.source.source.Given as goal

abbrev pub invariant-loop-alloc : goal.invariant-loop-alloc
invariant-loop-alloc l = IsRepeating begins_program program_at (source_at l.fn.cursor) l.cursor (map program_of l.found.items)

abbrev pub decreases-loop-alloc : goal.decreases-loop-alloc
decreases-loop-alloc l = length l.cursor
