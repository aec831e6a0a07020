-- Pieces of bytes as keys of an index.
use Rattle.std.specs.Prelude.{◌≡◌, ◌∷◌, ℕ, List, [], IsTrue}
use Rattle.htl_object.specs.{Common.bytes_eq, Common.ap, Common.bytes_eq-Decides, declared.block_reader.Piece.Piece}

-- a piece is hashed as a whole
abbrev pub piece_writes : Piece → List (List ℕ)
piece_writes p = p.bytes.now ∷ []

pub hashed_alike : (a b : Piece) → IsTrue (bytes_eq a.bytes.now b.bytes.now) → piece_writes a ≡ piece_writes b
hashed_alike a b h = ap (λ (t : List ℕ). t ∷ []) ((bytes_eq-Decides a.bytes.now b.bytes.now).0 h)
