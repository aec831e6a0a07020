-- The tokens of a text with their places.
use Rattle.std.specs.Prelude.{ℕ, ◌≡◌, ◌≤◌, List, length}
use Rattle.htl_text.specs.{Spellable.AreSpellable, declared.token.Token.Token}

-- offsets has the place of each token's first byte, and end is the length of the text
pub record TokenList : Type 0 where
  pub tokens : List Token
  pub offsets : List ℕ
  pub end : ℕ

pub record AreHeld (tokens : List Token) (offsets : List ℕ) : Type 0 where
  pub paired : length offsets ≡ length tokens
  pub short : length tokens ≤ 1048576
  pub spellable : AreSpellable tokens
