use Rattle.std.proofs.Common.{◌≡◌, length}
use Rattle.htl_times.proofs.Words.{instrs_of}
use Rattle.htl_times.specs.Noting.{AreBestBefore, BusyBefore, IsBest}
use Rattle.htl_times.proofs.rows.note_paths.Given as goal

abbrev pub invariant-loop-path : goal.invariant-loop-path
invariant-loop-path l = record {
  best : AreBestBefore l.t (instrs_of l.lists) l.path l.rows;
  busiest : IsBest (BusyBefore l.t l.path) l.busiest;
  same : length l.rows ≡ length l.fn.rows;
}
