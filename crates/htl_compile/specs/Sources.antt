-- The tables of a source, and its one fault where it has none or their functions aren't compiled.
use Rattle.std.specs.Prelude.{ℕ, ◌≡◌, Some, List, [], ◌∷◌, ◌++◌, slice_get, Result, Ok, Err}
use Rattle.htl_compile.specs.{Coded.CanCode, Coded.coded, FunctionFaults.IsFirstFault, declared.source.FrontFault.FrontFault, declared.source_fault.SourceFault.SourceFault}
use Rattle.htl_compile.specs.declared.source.FrontFault.TheVariants as front
use Rattle.htl_compile.specs.declared.source_fault.SourceFault.TheVariants as fault
use Rattle.htl_func.specs.declared.compiler.FnFault.{FnFault}
use Rattle.htl_func.specs.declared.compiler.FnFault.TheVariants as fn_fault
use Rattle.htl_model.specs.Tables.{Tables}
use Rattle.htl_names.specs.{Flat.tables_of_tree, NameRules.AreNamesRight, NameRules.IsFirstNameFault, declared.fault.NameFault.NameFault}
use Rattle.htl_names.specs.declared.fault.NameFault.TheVariants as name
use Rattle.htl_parse.specs.{Answers.Spell, Answers.SpellNone, Answers.IsMisfit, Runs.AreShort, Runs.IsFirstLong}
use Rattle.htl_text.specs.{TokenLists.TokenList, Spans.Tokens, Spans.Faults, Nodes.PlainProgram}
use Rattle.htl_text.specs.declared.lexer.LexFault.TheVariants as lex

-- the tokens of the text, none of whose runs is too long
pub record Reads (bytes : List ℕ) (t : TokenList) : Type 0 where
  pub tokens : Tokens bytes t
  pub short : AreShort t.tokens

-- the token of this number begins at this byte
abbrev pub BeginsAt : TokenList → ℕ → ℕ → Type 0
BeginsAt t k at = slice_get t.offsets k ≡ Some at

-- the token of this number begins at this byte; behind the last token, the source ends there
abbrev pub BeginsOrEndsAt : TokenList → ℕ → ℕ → Type 0
BeginsOrEndsAt t k at = slice_get (t.offsets ++ t.end ∷ []) k ≡ Some at

-- ---- tables

-- These are the tables of the source: it spells programs whose names are right, and the tables are theirs.
pub record IsTablesOf (bytes : List ℕ) (tables : Tables) : Type 0 where
  pub list : TokenList
  pub reads : Reads bytes list
  pub programs : List PlainProgram
  pub spelled : Spell list.tokens programs
  pub named : AreNamesRight programs
  pub is : tables ≡ tables_of_tree programs

-- the source has tables whose functions are typed, and these are they with code in the place of the functions
pub record IsFront (bytes : List ℕ) (u : Tables) : Type 0 where
  pub tables : Tables
  pub source : IsTablesOf bytes tables
  pub can : CanCode tables
  pub is : u ≡ coded tables

-- ---- faults

-- The source spells programs, and this is the first broken name rule of them; its tokens are those of the list.
pub record IsNameFaultOf (bytes : List ℕ) (list : TokenList) (f : NameFault) : Type 0 where
  pub reads : Reads bytes list
  pub programs : List PlainProgram
  pub spelled : Spell list.tokens programs
  pub first : IsFirstNameFault programs f

-- the first broken name rule of the source, told by a token that begins at this byte
abbrev pub IsNameFaultAt : List ℕ → (ℕ → NameFault) → ℕ → Type 0
IsNameFaultAt bytes f at = (t : TokenList) × (token : ℕ) × IsNameFaultOf bytes t (f token) × BeginsAt t token at

-- The source has tables, and this is the fault of their first function that isn't compiled; its tokens are those of the list.
pub record IsFunctionFaultOf (bytes : List ℕ) (list : TokenList) (f : FnFault) : Type 0 where
  pub reads : Reads bytes list
  pub programs : List PlainProgram
  pub spelled : Spell list.tokens programs
  pub named : AreNamesRight programs
  pub first : IsFirstFault (tables_of_tree programs) f

-- that fault, told by a token that begins at this byte
abbrev pub IsFunctionFaultAt : List ℕ → (ℕ → FnFault) → ℕ → Type 0
IsFunctionFaultAt bytes f at = (t : TokenList) × (token : ℕ) × IsFunctionFaultOf bytes t (f token) × BeginsAt t token at

-- This is the source's fault.
abbrev pub IsSourceFault : List ℕ → SourceFault → Type 0
IsSourceFault bytes (fault.TooLong seen) = ⊥
IsSourceFault bytes (fault.Char at) = Faults bytes (lex.Char at)
IsSourceFault bytes (fault.Number at) = Faults bytes (lex.Number at)
IsSourceFault bytes (fault.NameLong at) = Faults bytes (lex.NameLong at)
IsSourceFault bytes (fault.Long at) = (t : TokenList) × Tokens bytes t × (k : ℕ) × IsFirstLong t.tokens k × BeginsAt t k at
IsSourceFault bytes (fault.Syntax at) = (t : TokenList) × Reads bytes t × SpellNone t.tokens × (k : ℕ) × IsMisfit t.tokens k × BeginsOrEndsAt t k at
IsSourceFault bytes (fault.Twice at) = IsNameFaultAt bytes (λ token. name.Twice token) at
IsSourceFault bytes (fault.Unknown at) = IsNameFaultAt bytes (λ token. name.Unknown token) at
IsSourceFault bytes (fault.Kind at) = IsNameFaultAt bytes (λ token. name.Kind token) at
IsSourceFault bytes (fault.NotATree program) = (t : TokenList) × IsNameFaultOf bytes t (name.NotATree program)
IsSourceFault bytes (fault.Limit which count) = (t : TokenList) × IsNameFaultOf bytes t (name.Limit which count)
IsSourceFault bytes (fault.IllTyped at) = IsFunctionFaultAt bytes (λ token. fn_fault.IllTyped token) at
IsSourceFault bytes (fault.Deep at) = IsFunctionFaultAt bytes (λ token. fn_fault.Deep token) at

-- want of memory is free
abbrev pub IsFrontFault : List ℕ → FrontFault → Type 0
IsFrontFault bytes (front.Source f) = IsSourceFault bytes f
IsFrontFault bytes front.Memory = Unit {0}

-- what compiling a source to tables answers
abbrev pub IsRead : List ℕ → Result Tables FrontFault → Type 0
IsRead bytes (Ok u) = IsFront bytes u
IsRead bytes (Err (front.Source f)) = IsSourceFault bytes f
IsRead bytes (Err front.Memory) = Unit {0}
