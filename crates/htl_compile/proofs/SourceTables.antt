-- What the tables of a source keep, and that nothing is accepted for a path that is overloaded.
use Rattle.std.proofs.Common.{arith, ◌≡◌, ◌≤◌, ◌+◌, ℕ, List, [], ◌∷◌, ◌++◌, length, sym, ap, subst, length-append}
use Rattle.htl_compile.proofs.Words.{zip, AreSourceTables, SourceTablesFit, NoneForOverloaded, IsTablesOf, path_refusal, frame_of, Tables, names-in-range, names-keep-limits, functions_small, bounded_tree, MeetsBounds, tree-bounded, span-some, tokens-spellable, Cuts, Tokens, TokenList, Token, some_root, legs_follow, path_jobs, legs}
use Rattle.htl_compile.proofs.BuiltLaws.{are_ready}

-- ---- a text has no more tokens than bytes

few_tokens : (ts : List Token) (os : List ℕ) (at : ℕ) (bytes : List ℕ) (end : ℕ) (rest : List ℕ) → length os ≡ length ts → Cuts at bytes (zip ts os) end rest → length ts ≤ length bytes
few_tokens [] os at bytes end rest e p = omega arith
few_tokens (t ∷ ts) [] at bytes end rest e p = absurd (omega (arith, e))
few_tokens (t ∷ ts) (o ∷ os) at bytes end rest e p =
    let some = span-some p.1 p.2 p.5 in
    let later = few_tokens ts os (at + length p.0 + length p.1) p.2 end rest (omega (arith, e)) p.8 in
    let whole : length bytes ≡ length (p.0 ++ (p.1 ++ p.2)) = ap length p.3 in
    omega (arith, some, later, whole, length-append p.0 (p.1 ++ p.2), length-append p.1 p.2)

tokens_fit : (bytes : List ℕ) (t : TokenList) → Tokens bytes t → length t.tokens ≤ length bytes
tokens_fit bytes t h = let p = h.cut in few_tokens t.tokens t.offsets 0 bytes p.0 p.1 h.paired p.3

-- ---- the tables of a source

-- its programs meet the conditions under which names are resolved
programs_fit : (bytes : List ℕ) (t : Tables) → length bytes ≤ 1048576 → (h : IsTablesOf bytes t) → MeetsBounds h.programs
programs_fit bytes t short h =
    bounded_tree h.programs
    (tree-bounded h.list.tokens h.programs (omega (arith, short, tokens_fit bytes h.list h.reads.tokens)) (tokens-spellable bytes h.list h.reads.tokens) h.reads.short h.spelled)

pub source_tables_fit : SourceTablesFit
source_tables_fit bytes t short h =
    let fits = programs_fit bytes t short h in
    let ranges = names-in-range h.programs fits h.named in
    subst AreSourceTables (sym h.is)
    (record {
      ranges = ranges;
      limits = names-keep-limits h.programs fits h.named;
      small = functions_small h.programs fits h.named ranges;
    })

-- ---- an overloaded path

pub none_for_overloaded : NoneForOverloaded
none_for_overloaded t path a b demand ranges formed less over =
    let paths_are = are_ready t ranges formed in
    let here = paths_are.each path less in
    path_refusal (path_jobs t path) (legs t path) (frame_of t) here.jobs here.order (legs_follow t path (some_root t path less) (paths_are.long (omega (arith, less)))) a b demand over
