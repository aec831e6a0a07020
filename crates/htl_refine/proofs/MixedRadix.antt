-- Numbers in mixed radix.
use Rattle.std.proofs.Common.{◌≡◌, ℕ, suc, ◌+◌, ◌*◌, ◌/◌, ◌%◌, ◌≤◌, ◌<◌, ap, ◌∙◌, arith}
use Rattle.htl_refine.proofs.Words.{div-mul-add, mod-eq_of_lt, add-mul-mod_self_left, grow_times, one_more_time}

pub digits : (p c l r : ℕ) → p < l → r < c → p * c + r < l * c
digits p c l r a b = omega (arith, grow_times (suc p) l c a, one_more_time p c, b)

pub regroup : (d l c e q : ℕ) → d * (l * c) + (e * c + q) ≡ (d * l + e) * c + q
regroup d l c e q = grind arith

-- the digit of a number whose places are l and c, whatever comes before it
pub digit : (d l c e q : ℕ) → e < l → q < c → (d * (l * c) + (e * c + q)) / c % l ≡ e
digit d l c e q less small =
    ap (λ n. n / c % l) (regroup d l c e q) ∙ ap (λ n. n % l) (div-mul-add (d * l + e) c q small) ∙ ap (λ n. n % l) (turn d l e) ∙ add-mul-mod_self_left e l d ∙ mod-eq_of_lt less
  where
    turn : (d l e : ℕ) → d * l + e ≡ e + l * d
    turn d l e = grind arith
