-- A product that is capped as it grows.
use Rattle.std.proofs.Common.{◌≡◌, ◌≤◌, ◌*◌, ◌+◌, ℕ, zero, suc, min, sym, ◌∙◌, ap, arith, inl, inr}
use Rattle.htl_base.proofs.Numbers.{cases_le}

at_least : (a r : ℕ) → a ≤ a * suc r
at_least a r = omega (arith, more a r)
  where
    more : (a r : ℕ) → a * suc r ≡ a + a * r
    more a r = grind arith

least_left : (x c : ℕ) → x ≤ c → min x c ≡ x
least_left x c h = omega arith

least_right : (x c : ℕ) → c ≤ x → min x c ≡ c
least_right x c h = omega arith

-- a cap on the way changes nothing under the cap
pub capped : (x c rest : ℕ) → min (min x c * rest) c ≡ min (x * rest) c
capped x c zero = let a : min x c * 0 ≡ 0 = omega arith in let b : x * 0 ≡ 0 = omega arith in ap (λ y. min y c) (a ∙ sym b)
capped x c (suc r) = grind (arith, cases_le, least_left, least_right, at_least)
