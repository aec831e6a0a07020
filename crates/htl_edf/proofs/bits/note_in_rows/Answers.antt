use Rattle.std.proofs.Common.{◌≡◌, length, set, arith, rules}
use Rattle.htl_edf.proofs.BitRows.{noted_none, noted_more}
use Rattle.htl_edf.proofs.bits.note_in_rows.Goals as goal

pub loop-p-init : goal.loop-p-init
loop-p-init c = record {
  within = c.next_bit-p.ensures.most;
  found = c.next_bit-p.ensures.found;
  noted = noted_none _ _ _ _ c.next_bit-p.ensures.skipped;
}

pub loop-p-preserved : goal.loop-p-preserved
loop-p-preserved c =
    let same : length (set c.loop-p.rows c.loop-p.p c.with_bit.result) ≡ length c.loop-p.rows = search rules in
    let next = c.next_bit-p-in-loop-p.ensures in
    record {
      within = omega (arith, next.most, same);
      found = λ h. next.found (omega (arith, h, same));
      noted = noted_more _ _ _ _ c.with_bit.result _ _ c.loop-p.invariant.noted (omega (arith, c.loop-p-test.true, c.loop-p.auto.rows)) (c.loop-p.invariant.found c.loop-p-test.true) next.least next.skipped c.with_bit.ensures same;
    }

pub returns-clause-noted : goal.returns-clause-noted
returns-clause-noted c = λ p r h. c.loop-p.invariant.noted.noted p r (omega (arith, h, c.loop-p-test.false, c.loop-p.auto.rows))
