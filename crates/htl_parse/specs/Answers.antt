-- What the parser answers.
use Rattle.std.specs.Prelude.{ℕ, ◌≡◌, Result, Ok, Err, List, [], ◌∷◌, ◌++◌, length, ◌⊎◌}
use Rattle.htl_text.specs.{Nodes.PlainProgram, Nodes.tree_of, Placed.tokens_numbered, Statements.SpellsSource, declared.token.Token.Token, declared.tree.Tree.Tree}
use Rattle.htl_parse.specs.{Runs.AreShort, Runs.IsFirstLong, declared.parser.ParseFault.ParseFault}
use Rattle.htl_parse.specs.declared.parser.ParseFault.TheVariants as fault

-- the tokens, numbered from 0, spell this tree, all of them
abbrev pub Spell : List Token → List PlainProgram → Type 0
Spell tokens tree = SpellsSource (tokens_numbered 0 tokens) tree []

-- no tree is spelled
abbrev pub SpellNone : List Token → Type 0
SpellNone tokens = (tree : List PlainProgram) → Spell tokens tree → ⊥

-- some list of tokens that a tree spells has these as a prefix
abbrev pub Begins : List Token → Type 0
Begins tokens = (more : List Token) × ((tree : List PlainProgram) × Spell (tokens ++ more) tree)

-- the first k tokens begin a text, and k is their number, or with one more they begin none
pub record IsMisfit (tokens : List Token) (k : ℕ) : Type 0 where
  pub front : List Token
  pub back : List Token
  pub cut : tokens ≡ front ++ back
  pub place : k ≡ length front
  pub begins : Begins front
  pub beyond : (t : Token) (rest : List Token) → back ≡ t ∷ rest → Begins (front ++ t ∷ []) → ⊥

-- the tree that the tokens spell, or the first token that doesn't fit where none is spelled
abbrev pub IsTree : List Token → Result Tree ParseFault → Type 0
IsTree tokens (Ok t) = Spell tokens (tree_of t)
IsTree tokens (Err (fault.Syntax k)) = SpellNone tokens × IsMisfit tokens k
IsTree tokens (Err fault.Memory) = Unit {0}
IsTree tokens (Err (fault.Long k)) = ⊥

-- What each answer says of the tokens.
abbrev pub IsParsed : List Token → Result Tree ParseFault → Type 0
IsParsed tokens (Ok t) = AreShort tokens × Spell tokens (tree_of t)
IsParsed tokens (Err (fault.Syntax k)) = AreShort tokens × (SpellNone tokens × IsMisfit tokens k)
IsParsed tokens (Err fault.Memory) = AreShort tokens
IsParsed tokens (Err (fault.Long k)) = IsFirstLong tokens k

-- this tree is the answer, or memory ran out
abbrev pub AnswersTree : List PlainProgram → Result Tree ParseFault → Type 0
AnswersTree tree (Ok t) = tree_of t ≡ tree
AnswersTree tree (Err fault.Memory) = Unit {0}
AnswersTree tree _ = ⊥

-- a tree that the tokens spell is the answer, where no run is long
abbrev pub TellsTree : List Token → Result Tree ParseFault → Type 0
TellsTree tokens result = (tree : List PlainProgram) → AreShort tokens → Spell tokens tree → AnswersTree tree result

-- the first long run is the answer
abbrev pub TellsLong : List Token → Result Tree ParseFault → Type 0
TellsLong tokens result = (k : ℕ) → IsFirstLong tokens k → result ≡ Err (fault.Long k)

-- the first token that doesn't fit is the answer, where no run is long and no tree is spelled, or memory ran out
abbrev pub TellsSyntax : List Token → Result Tree ParseFault → Type 0
TellsSyntax tokens result = AreShort tokens → SpellNone tokens → (k : ℕ) → IsMisfit tokens k → (result ≡ Err (fault.Syntax k)) ⊎ (result ≡ Err fault.Memory)
