-- What a list has at a place, as code reads it.
use Rattle.std.proofs.Common.{arith, ◌≡◌, ◌≤◌, ◌<◌, ℕ, List, length, get_or, true, ltb, Some, None, ap, sym, ◌∙◌}
use Rattle.htl_base.proofs.Words.{slice_get, nat_tests, slice_get-get_or, slice_get_past}

below : (k n : ℕ) → true ≡ ltb k n → k < n
below k n is = grind (arith, nat_tests)

-- of the items that code read, which are those of another list
pub found_at : (X : Type 0) (xs ys : List X) (k : ℕ) (x : X) → xs ≡ ys → true ≡ ltb k (length xs) → x ≡ get_or xs k x → slice_get ys k ≡ Some x
found_at X xs ys k x same is read = ap (λ (zs : List X). slice_get zs k) (sym same) ∙ slice_get-get_or xs k x (below k (length xs) is) ∙ ap (λ (y : X). Some y) (sym read)

pub none_at : (X : Type 0) (xs ys : List X) (k : ℕ) → xs ≡ ys → length xs ≤ k → slice_get ys k ≡ None
none_at X xs ys k same past = ap (λ (zs : List X). slice_get zs k) (sym same) ∙ slice_get_past xs k past
