-- The tables and the fault of a source.
use Rattle.std.proofs.Common.{◌≡◌, ℕ, List, [], ◌∷◌, ◌++◌, slice_get, Some, refl, sym, ◌∙◌, ap, subst}
use Rattle.htl_compile.proofs.Words.{first-unique, AreTyped, IsFirstFault, OneTables, Reads, BeginsAt, BeginsOrEndsAt, IsTablesOf, IsNameFaultOf, IsFunctionFaultOf, IsSourceFault, SourceFault, FnFault, Tables, one_name_fault, tables_of_tree, IsFirstNameFault, AreNamesRight, NameFault, one_tree-law, misfit-unique, Spell, IsMisfit, IsLong, IsFirstLong, Tokens-sound, Faults-unique, Tokens-unique, PlainProgram, tokens_numbered, IsTokens, Faults, TokenList, LexFault}
use Rattle.htl_compile.proofs.FunctionTokens.{IsTold, not_all_typed, one_function_fault}
use Rattle.htl_compile.specs.declared.source_fault.SourceFault.TheVariants as fault
use Rattle.htl_func.specs.declared.compiler.FnFault.TheVariants as fn_fault
use Rattle.htl_names.specs.declared.fault.NameFault.TheVariants as name
use Rattle.htl_text.specs.declared.lexer.LexFault.TheVariants as lex

-- ---- the parts of a source

-- all readings of a text have the same tokens
same_list : (bytes : List ℕ) (t u : TokenList) → Reads bytes t → Reads bytes u → u ≡ t
same_list bytes t u one two = Tokens-unique bytes u t two.tokens one.tokens

-- and the same programs
same_programs : (bytes : List ℕ) (t u : TokenList) (ps qs : List PlainProgram) → Reads bytes t → Reads bytes u → Spell t.tokens ps → Spell u.tokens qs → ps ≡ qs
same_programs bytes t u ps qs one two p q =
    one_tree-law (tokens_numbered 0 t.tokens) ps qs p (subst (λ (v : TokenList). Spell v.tokens qs) (same_list bytes t u one two) q)

begins_once : (t : TokenList) (j k a b : ℕ) → j ≡ k → BeginsAt t j a → BeginsAt t k b → a ≡ b
begins_once t j k a b same p q =
    let both : Some a ≡ Some b = sym p ∙ ap (slice_get t.offsets) same ∙ q in cc

-- ---- tables

-- a source has one list of tables at most
pub tables_unique : OneTables
tables_unique bytes t u p q =
    p.is ∙ ap tables_of_tree (same_programs bytes p.list q.list p.programs q.programs p.reads q.reads p.spelled q.spelled) ∙ sym q.is

-- ---- the stages of compiling

-- a fault of a text, as one of a source
abbrev of_text : LexFault → SourceFault
of_text (lex.Char at) = fault.Char at
of_text (lex.Number at) = fault.Number at
of_text (lex.NameLong at) = fault.NameLong at
of_text lex.Memory = fault.Syntax 0

-- a broken name rule, as a fault of a source with these tokens
abbrev IsOfNames : TokenList → NameFault → SourceFault → Type 0
IsOfNames t (name.Twice token) f = (at : ℕ) × BeginsAt t token at × (fault.Twice at ≡ f)
IsOfNames t (name.Unknown token) f = (at : ℕ) × BeginsAt t token at × (fault.Unknown at ≡ f)
IsOfNames t (name.Kind token) f = (at : ℕ) × BeginsAt t token at × (fault.Kind at ≡ f)
IsOfNames t (name.NotATree program) f = fault.NotATree program ≡ f
IsOfNames t (name.Limit which count) f = fault.Limit which count ≡ f
IsOfNames t name.Memory f = ⊥

-- a fault of a function, as a fault of a source with these tokens
abbrev IsOfFunctions : TokenList → FnFault → SourceFault → Type 0
IsOfFunctions t (fn_fault.IllTyped token) f = (at : ℕ) × BeginsAt t token at × (fault.IllTyped at ≡ f)
IsOfFunctions t (fn_fault.Deep token) f = (at : ℕ) × BeginsAt t token at × (fault.Deep at ≡ f)
IsOfFunctions t fn_fault.Memory f = ⊥

told : (t : TokenList) (e : FnFault) (f : SourceFault) → IsOfFunctions t e f → IsTold e
told t fn_fault.Memory f h = h
told t _ f h = tt

-- the fault is found at one of these stages
data Stage (bytes : List ℕ) (f : SourceFault) : Type 0 where
  text : (l : LexFault) → Faults bytes l → of_text l ≡ f → Stage bytes f
  long : (at : ℕ) → IsSourceFault bytes (fault.Long at) → fault.Long at ≡ f → Stage bytes f
  tree : (at : ℕ) → IsSourceFault bytes (fault.Syntax at) → fault.Syntax at ≡ f → Stage bytes f
  names : (t : TokenList) (n : NameFault) → IsNameFaultOf bytes t n → IsOfNames t n f → Stage bytes f
  functions : (t : TokenList) (e : FnFault) → IsFunctionFaultOf bytes t e → IsOfFunctions t e f → Stage bytes f

stage : (bytes : List ℕ) (f : SourceFault) → IsSourceFault bytes f → Stage bytes f
stage bytes (fault.TooLong seen) p = absurd p
stage bytes (fault.Char at) p = text (lex.Char at) p refl
stage bytes (fault.Number at) p = text (lex.Number at) p refl
stage bytes (fault.NameLong at) p = text (lex.NameLong at) p refl
stage bytes (fault.Long at) p = long at p refl
stage bytes (fault.Syntax at) p = tree at p refl
stage bytes (fault.Twice at) p = names p.0 (name.Twice p.1) p.2 (at, p.3, refl)
stage bytes (fault.Unknown at) p = names p.0 (name.Unknown p.1) p.2 (at, p.3, refl)
stage bytes (fault.Kind at) p = names p.0 (name.Kind p.1) p.2 (at, p.3, refl)
stage bytes (fault.NotATree program) p = names p.0 (name.NotATree program) p.1 refl
stage bytes (fault.Limit which count) p = names p.0 (name.Limit which count) p.1 refl
stage bytes (fault.IllTyped at) p = functions p.0 (fn_fault.IllTyped p.1) p.2 (at, p.3, refl)
stage bytes (fault.Deep at) p = functions p.0 (fn_fault.Deep p.1) p.2 (at, p.3, refl)

-- ---- two stages exclude each other

no_text : (bytes : List ℕ) (f : LexFault) (t : TokenList) → Faults bytes f → IsTokens bytes t → ⊥
no_text bytes f t p q = Tokens-sound bytes t f q p

no_long : (bytes : List ℕ) (a : ℕ) (t : TokenList) → IsSourceFault bytes (fault.Long a) → Reads bytes t → ⊥
no_long bytes a t p reads =
    let same : p.0 ≡ t = Tokens-unique bytes p.0 t p.1 reads.tokens in
    reads.short p.2 (subst (λ (v : TokenList). IsFirstLong v.tokens p.2) same p.3).long

no_syntax : (bytes : List ℕ) (at : ℕ) (t : TokenList) (ps : List PlainProgram) → IsSourceFault bytes (fault.Syntax at) → Reads bytes t → Spell t.tokens ps → ⊥
no_syntax bytes at t ps p reads spelled =
    let same : t ≡ p.0 = Tokens-unique bytes t p.0 reads.tokens p.1.tokens in
    p.2 ps (subst (λ (v : TokenList). Spell v.tokens ps) same spelled)

no_names : (bytes : List ℕ) (t u : TokenList) (n : NameFault) (ps : List PlainProgram) → IsNameFaultOf bytes t n → Reads bytes u → Spell u.tokens ps → AreNamesRight ps → ⊥
no_names bytes t u n ps p reads spelled right =
    let first = subst (λ (qs : List PlainProgram). IsFirstNameFault qs n) (same_programs bytes t u p.programs ps p.reads reads p.spelled spelled) p.first in
    right first.rule first.place n first.broken

no_functions : (bytes : List ℕ) (t : TokenList) (e : FnFault) (u : Tables) → IsTold e → IsFunctionFaultOf bytes t e → IsTablesOf bytes u → AreTyped u → ⊥
no_functions bytes t e u told p source typed =
    let programs = same_programs bytes t source.list p.programs source.programs p.reads source.reads p.spelled source.spelled in
    let same : u ≡ tables_of_tree p.programs = source.is ∙ ap tables_of_tree (sym programs) in
    not_all_typed (tables_of_tree p.programs) e told p.first (subst AreTyped same typed)

-- a source has no fault where it has tables whose functions are typed
pub typed_or_fault : (bytes : List ℕ) (t : Tables) (f : SourceFault) → IsTablesOf bytes t → AreTyped t → IsSourceFault bytes f → ⊥
typed_or_fault bytes t f p typed q = by (stage bytes f q)
  where
    by : Stage bytes f → ⊥
    by (text l faults e) = no_text bytes l p.list faults p.reads.tokens
    by (long at is e) = no_long bytes at p.list is p.reads
    by (tree at is e) = no_syntax bytes at p.list p.programs is p.reads p.spelled
    by (names u n is e) = no_names bytes u p.list n p.programs is p.reads p.spelled p.named
    by (functions u e is of) = no_functions bytes u e t (told u e f of) is p typed

-- ---- at one stage there is one fault

one_long : (bytes : List ℕ) (a b : ℕ) → IsSourceFault bytes (fault.Long a) → IsSourceFault bytes (fault.Long b) → a ≡ b
one_long bytes a b p q =
    let same : q.0 ≡ p.0 = Tokens-unique bytes q.0 p.0 q.1 p.1 in
    let second = subst (λ (v : TokenList). IsFirstLong v.tokens q.2 × BeginsAt v q.2 b) same (q.3, q.4) in
    begins_once p.0 p.2 q.2 a b (first-unique (IsLong p.0.tokens) p.2 q.2 p.3.long second.0.long p.3.first second.0.first) p.4 second.1

one_syntax : (bytes : List ℕ) (a b : ℕ) → IsSourceFault bytes (fault.Syntax a) → IsSourceFault bytes (fault.Syntax b) → a ≡ b
one_syntax bytes a b p q =
    let same : q.0 ≡ p.0 = same_list bytes p.0 q.0 p.1 q.1 in
    let second = subst (λ (v : TokenList). IsMisfit v.tokens q.3 × BeginsOrEndsAt v q.3 b) same (q.4, q.5) in
    let place : p.3 ≡ q.3 = misfit-unique p.0.tokens p.3 q.3 p.4 second.0 in
    let both : Some a ≡ Some b = sym p.5 ∙ ap (slice_get (p.0.offsets ++ p.0.end ∷ [])) place ∙ second.1 in cc

one_of_names : (t : TokenList) (n : NameFault) (f g : SourceFault) → IsOfNames t n f → IsOfNames t n g → f ≡ g
one_of_names t (name.Twice k) f g p q = sym p.2 ∙ ap fault.Twice (begins_once t k k p.0 q.0 refl p.1 q.1) ∙ q.2
one_of_names t (name.Unknown k) f g p q = sym p.2 ∙ ap fault.Unknown (begins_once t k k p.0 q.0 refl p.1 q.1) ∙ q.2
one_of_names t (name.Kind k) f g p q = sym p.2 ∙ ap fault.Kind (begins_once t k k p.0 q.0 refl p.1 q.1) ∙ q.2
one_of_names t name.Memory f g p q = absurd p
one_of_names t _ f g p q = sym p ∙ q

one_names : (bytes : List ℕ) (t u : TokenList) (n m : NameFault) (f g : SourceFault) → IsNameFaultOf bytes t n → IsNameFaultOf bytes u m → IsOfNames t n f → IsOfNames u m g → f ≡ g
one_names bytes t u n m f g p q is other =
    let programs = same_programs bytes t u p.programs q.programs p.reads q.reads p.spelled q.spelled in
    let same = one_name_fault q.programs n m (subst (λ (ps : List PlainProgram). IsFirstNameFault ps n) programs p.first) q.first in
    one_of_names u m f g (subst (λ (k : NameFault). IsOfNames u k f) same (subst (λ (v : TokenList). IsOfNames v n f) (sym (same_list bytes t u p.reads q.reads)) is)) other

one_of_functions : (t : TokenList) (e : FnFault) (f g : SourceFault) → IsOfFunctions t e f → IsOfFunctions t e g → f ≡ g
one_of_functions t (fn_fault.IllTyped k) f g p q = sym p.2 ∙ ap fault.IllTyped (begins_once t k k p.0 q.0 refl p.1 q.1) ∙ q.2
one_of_functions t (fn_fault.Deep k) f g p q = sym p.2 ∙ ap fault.Deep (begins_once t k k p.0 q.0 refl p.1 q.1) ∙ q.2
one_of_functions t fn_fault.Memory f g p q = absurd p

one_functions : (bytes : List ℕ) (t u : TokenList) (e d : FnFault) (f g : SourceFault) → IsFunctionFaultOf bytes t e → IsFunctionFaultOf bytes u d → IsOfFunctions t e f → IsOfFunctions u d g → f ≡ g
one_functions bytes t u e d f g p q is other =
    let programs = same_programs bytes t u p.programs q.programs p.reads q.reads p.spelled q.spelled in
    let first = subst (λ (ps : List PlainProgram). IsFirstFault (tables_of_tree ps) e) programs p.first in
    let same = one_function_fault (tables_of_tree q.programs) e d (told t e f is) (told u d g other) first q.first in
    one_of_functions u d f g (subst (λ (k : FnFault). IsOfFunctions u k f) same (subst (λ (v : TokenList). IsOfFunctions v e f) (sym (same_list bytes t u p.reads q.reads)) is)) other

-- a source has one fault at most
pub fault_unique : (bytes : List ℕ) (f g : SourceFault) → IsSourceFault bytes f → IsSourceFault bytes g → f ≡ g
fault_unique bytes f g p q = by (stage bytes f p) (stage bytes g q)
  where
    by : Stage bytes f → Stage bytes g → f ≡ g
    by (text l is e) (text m other d) = sym e ∙ ap of_text (Faults-unique bytes l m is other) ∙ d
    by (text l is e) (long at other d) = absurd (no_text bytes l other.0 is other.1)
    by (text l is e) (tree b other d) = absurd (no_text bytes l other.0 is other.1.tokens)
    by (text l is e) (names t n other d) = absurd (no_text bytes l t is other.reads.tokens)
    by (long at is e) (text l other d) = absurd (no_text bytes l is.0 other is.1)
    by (long at is e) (long other also d) = sym e ∙ ap fault.Long (one_long bytes at other is also) ∙ d
    by (long at is e) (tree b other d) = absurd (no_long bytes at other.0 is other.1)
    by (long at is e) (names t n other d) = absurd (no_long bytes at t is other.reads)
    by (tree at is e) (text l other d) = absurd (no_text bytes l is.0 other is.1.tokens)
    by (tree at is e) (long b other d) = absurd (no_long bytes b is.0 other is.1)
    by (tree at is e) (tree b also d) = sym e ∙ ap fault.Syntax (one_syntax bytes at b is also) ∙ d
    by (tree at is e) (names t n other d) = absurd (no_syntax bytes at t other.programs is other.reads other.spelled)
    by (names t n is e) (text l other d) = absurd (no_text bytes l t other is.reads.tokens)
    by (names t n is e) (long at other d) = absurd (no_long bytes at t other is.reads)
    by (names t n is e) (tree b other d) = absurd (no_syntax bytes b t is.programs other is.reads is.spelled)
    by (names t n is e) (names u m other d) = one_names bytes t u n m f g is other e d
    by (text l is e) (functions t n other d) = absurd (no_text bytes l t is other.reads.tokens)
    by (long at is e) (functions t n other d) = absurd (no_long bytes at t is other.reads)
    by (tree at is e) (functions t n other d) = absurd (no_syntax bytes at t other.programs is other.reads other.spelled)
    by (names t n is e) (functions u m other d) = absurd (no_names bytes t u n other.programs is other.reads other.spelled other.named)
    by (functions t n is e) (text l other d) = absurd (no_text bytes l t other is.reads.tokens)
    by (functions t n is e) (long at other d) = absurd (no_long bytes at t other is.reads)
    by (functions t n is e) (tree b other d) = absurd (no_syntax bytes b t is.programs other is.reads is.spelled)
    by (functions t n is e) (names u m other d) = absurd (no_names bytes u t m is.programs other is.reads is.spelled is.named)
    by (functions t n is e) (functions u m other d) = one_functions bytes t u n m f g is other e d

-- ---- the fault of a function

-- the fault of the first function of a source's tables is the source's
pub function_fault : (bytes : List ℕ) (t : Tables) (list : TokenList) (e : FnFault) (source : IsTablesOf bytes t) → source.list ≡ list → IsFirstFault t e → IsFunctionFaultOf bytes list e
function_fault bytes t list e source same first =
    record {
      reads = subst (Reads bytes) same source.reads;
      programs = source.programs;
      spelled = subst (λ (l : TokenList). Spell l.tokens source.programs) same source.spelled;
      named = source.named;
      first = subst (λ (u : Tables). IsFirstFault u e) source.is first;
    }
