-- The input, read piece by piece.
use Rattle.std.proofs.Common.{arith, ◌≡◌, ◌≤◌, ◌+◌, ℕ, List, [], ◌++◌, length, Option, None, Some, refl, sym, ap, ◌∙◌, length-append, append_assoc}
use Rattle.htl_top.proofs.Vocabulary.{prepend_known, LosesFront}

-- these bytes were read
abbrev pub AreRead : List ℕ → Option (List ℕ) → Option (List ℕ) → Type 0
AreRead bytes initial rest = initial ≡ prepend_known bytes rest

pub read_start : (rest : Option (List ℕ)) → AreRead [] rest rest
read_start None = refl
read_start (Some bytes) = refl

-- and a piece more
pub read_more : (bytes piece : List ℕ) (initial rest left : Option (List ℕ)) → AreRead bytes initial rest → prepend_known piece left ≡ rest → AreRead (bytes ++ piece) initial left
read_more bytes piece initial rest None are is = are ∙ ap (prepend_known bytes) (sym is)
read_more bytes piece initial rest (Some later) are is = are ∙ ap (prepend_known bytes) (sym is) ∙ ap Some (sym (append_assoc bytes piece later))

-- ---- how much was taken

-- nothing
pub taken_none : (most : ℕ) (rest : Option (List ℕ)) → LosesFront most rest rest
taken_none most rest = ([], omega arith, sym (read_start rest))

-- what was read
pub taken_read : (bytes : List ℕ) (most : ℕ) (initial rest left : Option (List ℕ)) → AreRead bytes initial rest → length bytes ≤ most → left ≡ rest → LosesFront most initial left
taken_read bytes most initial rest left are few same = (bytes, few, ap (prepend_known bytes) same ∙ sym are)

-- and a piece more
pub taken_more : (bytes piece : List ℕ) (few most : ℕ) (initial rest left : Option (List ℕ)) → AreRead bytes initial rest → prepend_known piece left ≡ rest → length bytes ≤ few
    → few + length piece ≤ most → LosesFront most initial left
taken_more bytes piece few most initial rest left are is short fits =
    (bytes ++ piece, omega (arith, short, fits, length-append bytes piece), sym (read_more bytes piece initial rest left are is))
