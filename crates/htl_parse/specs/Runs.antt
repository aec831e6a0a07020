-- Statements that are too long.
use Rattle.std.specs.Prelude.{ℕ, Bool, true, false, ◌≡◌, ◌+◌, ◌<◌, Some, List, [], ◌∷◌, ◌++◌, length, slice_get}
use Rattle.htl_text.specs.declared.token.Token.{Token}
use Rattle.htl_text.specs.declared.token.Token.TheVariants as token
use Rattle.htl_text.specs.declared.token.Sign.TheVariants as sign

-- ";", "{" and "}" end a run of tokens
abbrev pub ends_run : Token → Bool
ends_run (token.Sign sign.Semicolon) = true
ends_run (token.Sign sign.OpenBrace) = true
ends_run (token.Sign sign.CloseBrace) = true
ends_run t = false

-- none of these tokens ends a run
abbrev pub IsStatementRun : List Token → Type 0
IsStatementRun [] = Unit {0}
IsStatementRun (t ∷ ts) = (ends_run t ≡ false) × IsStatementRun ts

-- token k is the 513th of a run, or a later one
pub record IsLong (ts : List Token) (k : ℕ) : Type 0 where
  pub front : List Token
  pub run : List Token
  pub rest : List Token
  pub cut : ts ≡ front ++ (run ++ rest)
  pub is_run : IsStatementRun run
  pub long : length run ≡ 513
  pub last : k ≡ length front + 512

-- no run has more than 512 tokens
abbrev pub AreShort : List Token → Type 0
AreShort ts = (k : ℕ) → IsLong ts k → ⊥

-- token k is the 513th of the first run that has so many
pub record IsFirstLong (ts : List Token) (k : ℕ) : Type 0 where
  pub long : IsLong ts k
  pub first : (j : ℕ) → j < k → IsLong ts j → ⊥

-- a token stands at this place, and whether it ends a run is as said
pub record TellsEnd (ts : List Token) (place : ℕ) (ends : Bool) : Type 0 where
  pub t : Token
  pub is : slice_get ts place ≡ Some t
  pub tells : ends_run t ≡ ends
