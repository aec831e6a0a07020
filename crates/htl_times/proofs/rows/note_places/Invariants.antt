use Rattle.std.proofs.Common.{◌≡◌, length}
use Rattle.htl_times.proofs.Words.{instrs_of}
use Rattle.htl_times.specs.Noting.{AreBestTo}
use Rattle.htl_times.proofs.rows.note_places.Given as goal

abbrev pub invariant-loop-k : goal.invariant-loop-k
invariant-loop-k l = record {
  best : AreBestTo l.p.t.now (instrs_of l.p.lists.now) l.p.path l.k l.rows;
  same : length l.rows ≡ length l.fn.rows;
}
