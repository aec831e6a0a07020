-- A table in memory and its entries.
use Rattle.std.proofs.Common.{◌≡◌, ℕ, Bool, suc, List, [], ◌∷◌, length, refl, ap, ◌∙◌}
use Rattle.htl_platform.proofs.Words.{Members, members_view, Held, Entry, entries_of, first_failing}

pub length-entries : (es : List Held) → length es ≡ length (entries_of (members_view es))
length-entries [] = refl
length-entries (e ∷ es) = ap suc (length-entries es)

-- equal tables, counted from equal numbers, have the same first entry that fails
pub first_failing-equal : (test : Entry → Bool) {k n : ℕ} {ms rs : Members} → k ≡ n → ms ≡ rs → first_failing test k (entries_of ms) ≡ first_failing test n (entries_of rs)
first_failing-equal test {k} {n} {ms} {rs} counted found =
    ap (λ (m : ℕ). first_failing test m (entries_of ms)) counted ∙ ap (λ (us : Members). first_failing test n (entries_of us)) found
