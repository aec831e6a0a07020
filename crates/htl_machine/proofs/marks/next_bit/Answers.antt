use Rattle.std.proofs.Common.{◌≡◌, ◌/◌, ◌^◌, ◌<◌, true, ℕ, w64, arith, sym, subst}
use Rattle.htl_machine.proofs.{Words.trailing_zeros, Words.div-le_self, Words.bit_at-trailing_zeros, Words.has_bit, MarkRows.none_from, MarkRows.skipped_to, MarkRows.found_at}
use Rattle.htl_machine.proofs.marks.next_bit.Goals as goal

pub returns-then-rest-eq0-clause-skipped : goal.returns-then-rest-eq0-clause-skipped
returns-then-rest-eq0-clause-skipped c =
    let none : c.args.row / 2 ^ c.args.from ≡ 0 = omega (arith, c.if-rest-eq0.true) in
    λ k low high. none_from c.args.row c.args.from k none low

pub returns-clause-skipped : goal.returns-clause-skipped
returns-clause-skipped c =
    let rest = c.args.row / 2 ^ c.args.from in
    let low = bit_at-trailing_zeros w64 rest (omega (arith, c.if-rest-eq0.false)) (omega (arith, div-le_self c.args.row (2 ^ c.args.from), c.ranges.row.fits)) in
    λ k from high. skipped_to c.args.row c.args.from (trailing_zeros w64 rest) k low.2 from (subst (λ (n : ℕ). k < n) c.min.ensures high)

pub returns-clause-found : goal.returns-clause-found
returns-clause-found c =
    let rest = c.args.row / 2 ^ c.args.from in
    let low = bit_at-trailing_zeros w64 rest (omega (arith, c.if-rest-eq0.false)) (omega (arith, div-le_self c.args.row (2 ^ c.args.from), c.ranges.row.fits)) in
    subst (λ (n : ℕ). n < 64 → has_bit c.args.row n ≡ true) (sym c.min.ensures) (found_at c.args.row c.args.from (trailing_zeros w64 rest) low.1)
