use Rattle.std.proofs.Common.{◌≡◌, ◌≤◌, ◌<◌, ◌*◌, ◌+◌, ℕ, false, arith}
use Rattle.htl_machine.specs.Marks.{is_marked}
use Rattle.htl_machine.proofs.MarkRows.{skipped_row, skipped_rows, found_row, first_row}
use Rattle.htl_machine.proofs.marks.Marks.next.Goals as goal

pub loop-row-init : goal.loop-row-init
loop-row-init c =
    let h = first_row c.args.self.now c.args.from c.next_row-start.result c.first_bit-bit.result c.next_row-start.ensures.low c.next_row-start.ensures.skipped c.first_bit-bit.ensures.here c.first_bit-bit.ensures.later in
    record { within = c.next_row-start.ensures.high; bit = c.first_bit-bit.ensures.low; past = h.0; skipped = h.1 }

pub returns-then-next-lt64-clause-skipped : goal.returns-then-next-lt64-clause-skipped
returns-then-next-lt64-clause-skipped c =
    skipped_row c.args.self.now c.loop-row.row c.loop-row.bit c.next_bit-next.result c.args.from c.loop-row.invariant.skipped (rw c.row.ensures at c.next_bit-next.ensures.skipped) c.next_bit-next.ensures.high

pub returns-then-next-lt64-clause-found : goal.returns-then-next-lt64-clause-found
returns-then-next-lt64-clause-found c = λ less. found_row c.args.self.now c.loop-row.row c.next_bit-next.result ((rw c.row.ensures at c.next_bit-next.ensures.found) c.if-next-lt64.true) c.if-next-lt64.true

pub loop-row-preserved : goal.loop-row-preserved
loop-row-preserved c =
    let here : (k : ℕ) → c.args.from ≤ k → k < (c.loop-row.row + 1) * 64 → is_marked c.args.self.now k ≡ false = λ k low less.
    skipped_row c.args.self.now c.loop-row.row c.loop-row.bit c.next_bit-next.result c.args.from c.loop-row.invariant.skipped (rw c.row.ensures at c.next_bit-next.ensures.skipped) c.next_bit-next.ensures.high k low (omega (arith, c.next_bit-next.ensures.high, c.if-next-lt64.false, less)) in
    record {
      within = c.next_row-row.ensures.high;
      bit = omega arith;
      past = omega (arith, c.loop-row.invariant.past, c.next_bit-next.ensures.low, c.next_row-row.ensures.low);
      skipped = λ k low less. skipped_rows c.args.self.now (c.loop-row.row + 1) c.next_row-row.result c.args.from here c.next_row-row.ensures.skipped k low (omega (arith, less));
    }
