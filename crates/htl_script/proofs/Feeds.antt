-- Line feeds among bytes, and bytes that are cut anew.
use Rattle.std.proofs.Common.{arith, ◌≡◌, ◌+◌, ℕ, false, List, [], ◌∷◌, ◌++◌, length, sym, ap, ◌∙◌, cond, append_assoc}
use Rattle.htl_script.proofs.Words.{All, is_line_feed, feeds_of, length-slice_split, slice_split_none}
use Rattle.std.proofs.lemmas.List.Sums.{sum_by-append}

pub feeds_both : (xs ys : List ℕ) → feeds_of (xs ++ ys) ≡ feeds_of xs + feeds_of ys
feeds_both = sum_by-append (λ b. cond (is_line_feed b) 1 0)

pub no_feeds : (xs : List ℕ) → All (λ b. is_line_feed b ≡ false) xs → feeds_of xs ≡ 0
no_feeds xs plain =
    let one : length (xs ∷ []) ≡ feeds_of xs + 1 = sym (ap length (slice_split_none is_line_feed xs plain)) ∙ length-slice_split is_line_feed xs in
    omega (arith, one)

-- bytes that were cut before others are cut anew
pub moved : (a f g r p q s : List ℕ) → a ++ f ≡ r ++ p → p ++ g ≡ q ++ s → a ++ (f ++ g) ≡ (r ++ q) ++ s
moved a f g r p q s first second =
    sym (append_assoc a f g) ∙ ap (λ (xs : List ℕ). xs ++ g) first ∙ append_assoc r p g ∙ ap (λ (xs : List ℕ). r ++ xs) second ∙ sym (append_assoc r q s)
