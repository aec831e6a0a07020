-- Reading tokens from left to right. A reader answers what it read and what is left, or the tokens
-- that are left where it met a token that doesn't fit.
use Rattle.std.specs.Prelude.{ℕ, Bool, cond, ◌==◌, true, false, Option, Some, None, Result, Ok, Err, List, [], ◌∷◌}
use Rattle.htl_base.specs.declared.Ty.{Ty}
use Rattle.htl_base.specs.declared.Ty.TheVariants as ty
use Rattle.htl_parse.specs.Codes.{sign_code, word_code}
use Rattle.htl_text.specs.{Placed.Placed, Placed.Put, declared.token.Sign.Sign, declared.token.Word.Word, declared.tree.Id.Id, declared.tree.Num.Num, declared.tree.ConstNode.ConstNode}
use Rattle.htl_text.specs.declared.token.Token.TheVariants as token
use Rattle.htl_text.specs.declared.token.Sign.TheVariants as sign
use Rattle.htl_text.specs.declared.token.Word.TheVariants as word
use Rattle.htl_text.specs.declared.tree.ConstNode.TheVariants as const

abbrev pub Read : Type 0 → Type 0
Read X = Result (X × List Placed) (List Placed)

-- what a reader leaves
abbrev pub left_of : {X : Type 0} → Read X → List Placed
left_of (Ok x) = x.1
left_of (Err left) = left

abbrev pub Reader : Type 0 → Type 0
Reader X = List Placed → Read X

-- one reader after another
infixl 10 ◌>>=◌
abbrev pub ◌>>=◌ : {A B : Type 0} → Result A (List Placed) → (A → Result B (List Placed)) → Result B (List Placed)
(Ok x) >>= f = f x
(Err left) >>= f = Err left

-- a sign that must stand here
abbrev pub after_sign : Sign → List Placed → Result (List Placed) (List Placed)
after_sign wanted (Put k (token.Sign s) ∷ ts) = cond (sign_code s == sign_code wanted) (Ok ts) (Err (Put k (token.Sign s) ∷ ts))
after_sign wanted ts = Err ts

-- a reserved word that must stand here
abbrev pub after_word : Word → List Placed → Result (List Placed) (List Placed)
after_word wanted (Put k (token.Word w) ∷ ts) = cond (word_code w == word_code wanted) (Ok ts) (Err (Put k (token.Word w) ∷ ts))
after_word wanted ts = Err ts

-- the number of the token that stands next
abbrev pub place_at : List Placed → ℕ
place_at [] = 0
place_at (Put k t ∷ ts) = k

abbrev pub name_at : Reader Id
name_at (Put k (token.Ident n) ∷ ts) = Ok (record { name = n; token = k }, ts)
name_at ts = Err ts

abbrev pub number_at : Reader Num
number_at (Put k (token.Number x) ∷ ts) = Ok (record { x = x; token = k }, ts)
number_at ts = Err ts

abbrev pub type_at : Reader Ty
type_at (Put k (token.Word word.Int) ∷ ts) = Ok (ty.Int, ts)
type_at (Put k (token.Word word.Bool) ∷ ts) = Ok (ty.Bool, ts)
type_at ts = Err ts

-- "-" has been read, at k
abbrev pub negative_at : ℕ → Reader ConstNode
negative_at k ts = number_at ts >>= λ n. Ok (const.Int k true n.0.x, n.1)

abbrev pub const_at : Reader ConstNode
const_at (Put k (token.Number x) ∷ ts) = Ok (const.Int k false x, ts)
const_at (Put k (token.Sign sign.Minus) ∷ ts) = negative_at k ts
const_at (Put k (token.Word word.True) ∷ ts) = Ok (const.Bool k true, ts)
const_at (Put k (token.Word word.False) ∷ ts) = Ok (const.Bool k false, ts)
const_at ts = Err ts

-- [ word name ]
abbrev pub clause_by : List Placed → List Placed → Bool → Read (Option Id)
clause_by all ts true = name_at ts >>= λ n. Ok (Some n.0, n.1)
clause_by all ts false = Ok (None, all)

abbrev pub clause_at : Word → Reader (Option Id)
clause_at wanted (Put k (token.Word w) ∷ ts) = clause_by (Put k (token.Word w) ∷ ts) ts (word_code w == word_code wanted)
clause_at wanted ts = Ok (None, ts)
