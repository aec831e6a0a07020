use Rattle.std.proofs.Common.{rules, to_z, of_z, w64, ◌≡◌, sym, subst, ℤ}
use Rattle.htl_text.proofs.Words.{Adds, number_tokens}
use Rattle.htl_text.proofs.printing.+term.Goals as goal

pub returns-in-Int : goal.returns-in-Int
returns-in-Int t c =
    let same : to_z w64 (of_z w64 c.in-Int.x) ≡ c.in-Int.x = search rules in
    let put = subst (λ (x : ℤ). Adds (number_tokens x) c.tokens.new.self c.print.new.out) same c.print.ensures in
    rw (sym c.in-Int.ensures) (λ more all e. c.tokens.ensures _ all (put more all e))

pub returns-in-Bool : goal.returns-in-Bool
returns-in-Bool t c = rw (sym c.in-Bool.ensures) (λ more all e. c.tokens.ensures _ all (c.truth.ensures more all e))

pub returns-in-Named : goal.returns-in-Named
returns-in-Named t c = rw (sym c.in-Named.ensures) (λ more all e. c.tokens.ensures _ all (c.tokens-in-Named.ensures more all e))

pub returns-in-Unary : goal.returns-in-Unary
returns-in-Unary t c =
    rw (sym c.in-Unary.ensures, sym c.prefix_sign.ensures)
    (λ more all e. c.tokens.ensures _ all (c.term.ensures _ all (c.tokens-in-Unary.ensures more all e)))

pub returns-in-Binary : goal.returns-in-Binary
returns-in-Binary t c =
    rw (sym c.in-Binary.ensures, sym c.infix_sign.ensures)
    (λ more all e. c.tokens.ensures _ all (c.term-in-Binary.ensures _ all (c.term-in-Binary-2.ensures _ all (c.tokens-in-Binary.ensures more all e))))

pub returns-in-Choose : goal.returns-in-Choose
returns-in-Choose t c =
    rw (sym c.in-Choose.ensures)
    (λ more all e.
    c.tokens.ensures _ all
    (c.term-in-Choose.ensures _ all (c.term-in-Choose-2.ensures _ all (c.term-in-Choose-3.ensures _ all (c.tokens-in-Choose.ensures more all e)))))
