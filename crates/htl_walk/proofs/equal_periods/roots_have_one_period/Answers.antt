use Rattle.std.proofs.Common.{◌≡◌, ℕ, ◌<◌, eqb, take, length, get_or, sym, ◌∙◌, ap, arith}
use Rattle.htl_walk.proofs.{Words.list_all, Words.get_or-take, Words.unit_period, EqualPeriods.decided}
use Rattle.htl_walk.proofs.equal_periods.roots_have_one_period.Goals as goal

pub returns : goal.returns
returns c =
    let n = c.fill_roots-count.result in
    let out = c.fill_roots-count.new.out in
    let t = c.args.t.now in
    let some : 0 < n = omega (arith, c.if-count-eq0.false) in
    let first : c.unit_period.result ≡ unit_period t (get_or (take n out) 0 0) = c.unit_period.ensures ∙ ap (unit_period t) (sym (get_or-take n out 0 0 some)) in
    decided t (take n out) c.all_have.result c.fill_roots-count.ensures.roots
    (omega (arith, some, c.fill_roots-count.ensures.count, ap length c.fill_roots-count.ensures.roots))
    (c.all_have.ensures ∙ ap (λ (p : ℕ). list_all (λ u. eqb (unit_period t u) p) (take n out)) first)
