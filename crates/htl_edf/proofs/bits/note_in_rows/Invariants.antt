use Rattle.std.proofs.Common.{◌≡◌, ◌<◌, ◌≤◌, ◌-◌, true, length}
use Rattle.htl_model.specs.Bits.{has_bit}
use Rattle.htl_edf.proofs.BitRows.{IsNoted}
use Rattle.htl_edf.proofs.bits.note_in_rows.Given as goal

abbrev pub invariant-loop-p : goal.invariant-loop-p
invariant-loop-p l =
    record {
      within : l.p ≤ length l.rows;
      found : l.p < length l.rows → has_bit l.row l.p ≡ true;
      noted : IsNoted l.row l.q l.p l.fn.rows l.rows;
    }

abbrev pub decreases-loop-p : goal.decreases-loop-p
decreases-loop-p l = length l.rows - l.p
