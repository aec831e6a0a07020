-- From the reading of whole sources to what they spell.
use Rattle.std.proofs.Common.{◌≡◌, ◌-◌, ℕ, List, [], length, Result, Ok, Err, refl, subst, ap, inl, inr}
use Rattle.htl_parse.proofs.Words.{Placed, tokens_numbered, PlainProgram, tree_of, SpellsSource, Read, left_of, source_at, IsLong, IsTree, IsParsed, TellsTree, TellsLong, TellsSyntax, first-unique, Token, Tree, ParseFault}
use Rattle.htl_parse.proofs.{Fronts.Holds, Fronts.tells-sound, Sources.source-complete, ViableSources.source-tells, Stopping.misfit-left, Stopping.misfit-unique}
use Rattle.htl_parse.specs.declared.parser.ParseFault.TheVariants as fault

read-same : {Y : Type 0} (r : Read Y) (t u : Y) (vs ws : List Placed) → r ≡ Ok (t, vs) → r ≡ Ok (u, ws) → (t ≡ u) × (vs ≡ ws)
read-same {Y} r t u vs ws one two =
    let both : ◌≡◌ {A = Y × List Placed} (t, vs) (u, ws) = cc in
    (ap (λ (x : Y × List Placed). x.0) both, ap (λ (x : Y × List Placed). x.1) both)

-- ---- a reader behind which nothing may stand

pub whole-ended : {Y : Type 0} (read : Read Y) (y : Y) (left : List Placed) → read ≡ Ok (y, left) → left ≡ [] → read ≡ Ok (y, [])
whole-ended read y left gives done = subst (λ (us : List Placed). read ≡ Ok (y, us)) done gives

pub whole-more : {Y : Type 0} (read : Read Y) (found : Y) (left : List Placed) → read ≡ Ok (found, left) → (left ≡ [] → ⊥) → (left_of read ≡ left) × ((y : Y) → read ≡ Ok (y, []) → ⊥)
whole-more read found left gives some = (ap left_of gives, λ y e. some (read-same read found y left [] gives e).1)

-- ---- what is read and what is spelled

pub read-spells : (ts : List Placed) (t : List PlainProgram) → source_at ts ≡ Ok (t, []) → SpellsSource ts t []
read-spells ts t read = subst (Holds (λ (x : List PlainProgram × List Placed). SpellsSource ts x.0 x.1)) read
    (tells-sound SpellsSource ts (source_at ts) (source-tells ts))

read-whole : (ts : List Placed) (t : List PlainProgram) → SpellsSource ts t [] → source_at ts ≡ Ok (t, [])
read-whole ts t s = source-complete s refl

-- reading a source stopped with this left, or something is left behind the source
abbrev pub IsStopped : List Placed → List Placed → Type 0
IsStopped left ts = (left_of (source_at ts) ≡ left) × ((t : List PlainProgram) → source_at ts ≡ Ok (t, []) → ⊥)

pub stopped : (tokens : List Token) (left : List Placed) → IsStopped left (tokens_numbered 0 tokens) → IsTree tokens (Err (fault.Syntax (length tokens - length left)))
stopped tokens left stop = (λ t s. stop.1 t (read-whole (tokens_numbered 0 tokens) t s), (misfit-left tokens left stop.0).misfit)

-- at most one tree spells a list of tokens
pub one_tree-law : (ts : List Placed) (t u : List PlainProgram) → SpellsSource ts t [] → SpellsSource ts u [] → t ≡ u
one_tree-law ts t u one two = (read-same (source_at ts) t u [] [] (read-whole ts t one) (read-whole ts u two)).0

pub tells-tree : (tokens : List Token) (result : Result Tree ParseFault) → IsParsed tokens result → TellsTree tokens result
tells-tree tokens (Ok t) is = λ tree short s. one_tree-law (tokens_numbered 0 tokens) (tree_of t) tree is.1 s
tells-tree tokens (Err (fault.Syntax k)) is = λ tree short s. is.1.0 tree s
tells-tree tokens (Err fault.Memory) is = λ tree short s. tt
tells-tree tokens (Err (fault.Long k)) is = λ tree short s. short k is.long

pub tells-long : (tokens : List Token) (result : Result Tree ParseFault) → IsParsed tokens result → TellsLong tokens result
tells-long tokens (Err fault.Memory) is = λ k first. absurd (is k first.long)
tells-long tokens (Err (fault.Long j)) is = λ k first. ap (λ (n : ℕ). Err (fault.Long n)) (first-unique (IsLong tokens) j k is.long first.long is.first first.first)
tells-long tokens _ is = λ k first. absurd (is.0 k first.long)

pub tells-syntax : (tokens : List Token) (result : Result Tree ParseFault) → IsParsed tokens result → TellsSyntax tokens result
tells-syntax tokens (Ok t) is = λ short none k misfit. absurd (none (tree_of t) is.1)
tells-syntax tokens (Err (fault.Syntax j)) is = λ short none k misfit. inl (ap (λ (n : ℕ). Err (fault.Syntax n)) (misfit-unique tokens j k is.1.1 misfit))
tells-syntax tokens (Err fault.Memory) is = λ short none k misfit. inr refl
tells-syntax tokens (Err (fault.Long j)) is = λ short none k misfit. absurd (short j is.long)
