use Rattle.std.proofs.Common.{◌≡◌, ◌≤◌, drop, map, length}
use Rattle.htl_names.proofs.Words.{program_of, rows_joined, rows, program_rows}
use Rattle.htl_names.proofs.walk.rows_of.Given as goal

abbrev pub invariant-loop-p : goal.invariant-loop-p
invariant-loop-p l =
    record {
      going : rows_joined l.into.rows (program_rows l.p l.first (drop l.p l.programs)) ≡ rows (map program_of l.programs);
      few : l.first ≤ length l.into.rows.entries;
    }
