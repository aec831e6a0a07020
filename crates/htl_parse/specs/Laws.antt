-- Laws over all tokens and all trees.
use Rattle.std.specs.Prelude.{ℕ, ◌≡◌, ◌≤◌, List, [], length}
use Rattle.htl_text.specs.{Bounds.IsBounded, Nodes.PlainProgram, PrintedBytes.printed_bytes, PrintedTokens.source_tokens, Spans.Tokens, Spellable.AreSpellable, TokenLists.TokenList, declared.token.Token.Token}
use Rattle.htl_parse.specs.{Answers.Spell, Answers.IsMisfit, Bare.AreAlike, Runs.AreShort}

-- tokens spell at most one tree
abbrev pub OneTree : Type 0
OneTree = (tokens : List Token) (t u : List PlainProgram) → Spell tokens t → Spell tokens u → t ≡ u

-- every list of tokens has a place at which it stops to begin a text
abbrev pub HasMisfit : Type 0
HasMisfit = (tokens : List Token) → (k : ℕ) × IsMisfit tokens k

-- and only one
abbrev pub OneMisfit : Type 0
OneMisfit = (tokens : List Token) (j k : ℕ) → IsMisfit tokens j → IsMisfit tokens k → j ≡ k

-- a tree is bounded that at most 1,048,576 tokens spell, each such as a text can spell, with no long run
abbrev pub TreesBounded : Type 0
TreesBounded =
    (tokens : List Token) (tree : List PlainProgram) → length tokens ≤ 1048576 → AreSpellable tokens → AreShort tokens → Spell tokens tree → IsBounded tree

-- the tokens of the printed form of a tree with a program spell the tree again, but for the numbers of its tokens
abbrev pub TokensAgain : Type 0
TokensAgain = (tree : List PlainProgram) → (tree ≡ [] → ⊥) → (again : List PlainProgram) × AreAlike again tree × Spell (source_tokens tree) again

-- A tree that has a program, names that are such and no negative literal, whose printed form has at most
-- 1,048,576 bytes and no run of more than 512 tokens.
pub record IsPrintable (tree : List PlainProgram) : Type 0 where
  pub some : tree ≡ [] → ⊥
  pub spellable : AreSpellable (source_tokens tree)
  pub fits : length (printed_bytes (source_tokens tree)) ≤ 1048576
  pub short : AreShort (source_tokens tree)

-- such a tree's printed form has tokens; no run of them is long, and they spell the tree again, but for the
-- numbers of its tokens
pub record IsParsedAgain (tree : List PlainProgram) : Type 0 where
  pub tokens : TokenList
  pub cut : Tokens (printed_bytes (source_tokens tree)) tokens
  pub short : AreShort tokens.tokens
  pub again : List PlainProgram
  pub spelled : Spell tokens.tokens again
  pub alike : AreAlike again tree

abbrev pub ParsesAgain : Type 0
ParsesAgain = (tree : List PlainProgram) → IsPrintable tree → IsParsedAgain tree
