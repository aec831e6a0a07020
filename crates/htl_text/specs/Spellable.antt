-- Tokens that a text can spell.
use Rattle.std.specs.Prelude.{true, ◌≡◌, List, [], ◌∷◌}
use Rattle.htl_base.specs.Names.{is_name}
use Rattle.htl_text.specs.{Bounds.IsLiteral, declared.token.Token.Token}
use Rattle.htl_text.specs.declared.token.Token.TheVariants as token

-- a name that is one, a number from 0 to 9,223,372,036,854,775,807, a reserved word or a sign
abbrev pub IsSpellable : Token → Type 0
IsSpellable (token.Ident n) = is_name n ≡ true
IsSpellable (token.Number x) = IsLiteral x
IsSpellable _ = Unit {0}

abbrev pub AreSpellable : List Token → Type 0
AreSpellable [] = Unit {0}
AreSpellable (t ∷ ts) = IsSpellable t × AreSpellable ts
