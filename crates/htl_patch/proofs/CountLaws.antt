-- Numbers below a bound of which none comes twice are no more than the bound.
use Rattle.std.proofs.Common.{◌≤◌, ◌<◌, ℕ, eqb, get_or, List, length, Some, All, ◌∙◌, ap, arith}
use Rattle.htl_patch.proofs.{Words.IsDistinct, Words.Decides-eqb, Words.IsDistinct-from_AllPairs, Words.length-le_from_distinct_below, Words.slice_get-get_or, Words.AreApart, Words.all_at, Transfers.any_has}

distinct : (xs : List ℕ) → AreApart xs → IsDistinct eqb xs
distinct xs a =
    IsDistinct-from_AllPairs {eq = eqb} Decides-eqb xs
    (λ i j d less below same. a i j (get_or xs j d) less (slice_get-get_or xs i d (omega (arith, less, below)) ∙ ap (λ (x : ℕ). Some x) same) (slice_get-get_or xs j d below))

pub few_apart : (xs : List ℕ) (n : ℕ) → AreApart xs → All (λ x. x < n) xs → length xs ≤ n
few_apart xs n a b = length-le_from_distinct_below xs n (distinct xs a) (λ q e. (let i = any_has q xs e in all_at (λ x. x < n) xs i.0 q b i.1))
