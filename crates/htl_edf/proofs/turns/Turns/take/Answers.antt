use Rattle.std.proofs.Common.{◌≡◌, get_or, arith, ap, ◌∙◌}
use Rattle.htl_edf.proofs.Words.{bit_at, bit_and, bit_at-zero, not_both}
use Rattle.htl_edf.proofs.turns.Turns.take.Goals as goal

pub returns-clause-free : goal.returns-clause-free
returns-clause-free c =
    let row = get_or c.args.waits.now c.next_bit-q.result 0 in
    let none : bit_and row c.args.self.now.waiting ≡ 0 = omega (arith, c.if-waits-q-ne0.false) in
    λ p waits. not_both row c.args.self.now.waiting p (ap (λ n. bit_at n p) none ∙ bit_at-zero p) waits
