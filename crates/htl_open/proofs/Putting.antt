-- Texts that are written one after another.
use Rattle.std.proofs.Common.{◌≡◌, ℕ, List, Option, Result, Ok, Err, ◌++◌, ap, ◌∙◌, subst, append_assoc, inl, inr}
use Rattle.std.specs.Io.KnownBytes.{append_known}
use Rattle.htl_edge.specs.Content.{AppendsPrefix, Puts}
use Rattle.htl_open.specs.Lines.{Tells}

-- what was put is told
pub Tells-put : {T E : Type 0} (old new : Option (List ℕ)) (before now : ℕ) (text line : List ℕ) (result : Result T E) → text ≡ line → Puts old new before now text result
    → Tells old new before now line
Tells-put old new before now text line (Ok done) same puts = inl (puts.whole ∙ ap (λ (bs : List ℕ). append_known old bs) same)
Tells-put old new before now text line (Err e) same puts = inr (puts.cause.refused, subst (λ (bs : List ℕ). AppendsPrefix old new bs) same puts.part)

-- a piece more behind a text
pub behind : (text before piece line next : List ℕ) → next ≡ line ++ piece → line ≡ text ++ before → next ≡ text ++ (before ++ piece)
behind text before piece line next put is = put ∙ ap (λ (z : List ℕ). z ++ piece) is ∙ append_assoc text before piece
