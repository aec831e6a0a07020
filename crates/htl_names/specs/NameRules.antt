-- When a name rule is broken, where, and which fault is the first.
use Rattle.std.specs.Prelude.{ℕ, suc, ◌≡◌, ◌<◌, ◌⊎◌, ◌-◌, ◌^◌, min, List, length, slice_get, Some, Result, Ok, Err}
use Rattle.htl_names.specs.{Trees.Tables, Trees.PlainProgram, Trees.NameFault, Trees.Entry, Trees.Use, Entries.entries, Entries.Repeats, Flat.symbols_of, Flat.tables_of_tree, Kinds.Judged, Kinds.kinds, Kinds.token_of, Kinds.IsWrongKind}
use Rattle.htl_names.specs.declared.fault.NameFault.TheVariants as fault
use Rattle.htl_names.specs.{Limits.counts, Limits.limits, Parents.ParentUse, Parents.parents, Parents.IsUnmatchedParent, Programs.IsMisplaced, Uses.uses, Uses.IsUnknown}

-- the rules, in the order in which they are tried
pub data NameRule : Type 0 where
  RepeatedName : NameRule
  UnknownName : NameRule
  WrongKind : NameRule
  ProgramTree : NameRule
  ParentName : NameRule
  Limits : NameRule

abbrev pub order_of : NameRule → ℕ
order_of RepeatedName = 1
order_of UnknownName = 2
order_of WrongKind = 3
order_of ProgramTree = 4
order_of ParentName = 5
order_of Limits = 6

-- The rule is broken at the place of this number, and told by this fault. The places of a rule are numbered in source
-- order; those of the limits in the order of the limits.
abbrev pub NameBroken : List PlainProgram → NameRule → ℕ → NameFault → Type 0
NameBroken ps RepeatedName k f =
    (e : Entry) × (slice_get (entries ps) k ≡ Some e) × Repeats (entries ps) k e × (f ≡ fault.Twice e.token)
NameBroken ps UnknownName k f =
    (u : Use) × (slice_get (uses ps) k ≡ Some u) × IsUnknown (symbols_of ps) u × (f ≡ fault.Unknown u.token)
NameBroken ps WrongKind k f =
    (j : Judged) × (slice_get (kinds ps) k ≡ Some j) × IsWrongKind j × (f ≡ fault.Kind (token_of j))
NameBroken ps ProgramTree k f = (k < length ps) × IsMisplaced (symbols_of ps) ps k × (f ≡ fault.NotATree k)
NameBroken ps ParentName k f =
    (u : ParentUse) × (slice_get (parents ps) k ≡ Some u) × IsUnmatchedParent (symbols_of ps) ps u.program u.id × (f ≡ fault.Unknown u.id.token)
NameBroken ps Limits k f =
    (count limit : ℕ) × (slice_get (counts (symbols_of ps) ps) k ≡ Some count) × (slice_get limits k ≡ Some limit) × (limit < count)
    × (f ≡ fault.Limit (suc k) (min count (2 ^ 32 - 1)))

-- a place that is tried before another
abbrev pub TriedBefore : NameRule → ℕ → NameRule → ℕ → Type 0
TriedBefore r j s k = (order_of r < order_of s) ⊎ ((order_of r ≡ order_of s) × (j < k))

-- the fault tells of a broken rule, and no rule is broken at a place that is tried before
pub record IsFirstNameFault (ps : List PlainProgram) (f : NameFault) : Type 0 where
  pub rule : NameRule
  pub place : ℕ
  pub broken : NameBroken ps rule place f
  pub first : (r : NameRule) (j : ℕ) (g : NameFault) → TriedBefore r j rule place → NameBroken ps r j g → ⊥

-- the programs of a source have one first fault of names at most
abbrev pub OneNameFault : Type 0
OneNameFault = (ps : List PlainProgram) (f g : NameFault) → IsFirstNameFault ps f → IsFirstNameFault ps g → f ≡ g

-- no name rule is broken
abbrev pub AreNamesRight : List PlainProgram → Type 0
AreNamesRight ps = (r : NameRule) (k : ℕ) (f : NameFault) → NameBroken ps r k f → ⊥

-- what resolving the names of a tree answers
abbrev pub IsResolved : List PlainProgram → Result Tables NameFault → Type 0
IsResolved ps (Ok t) = AreNamesRight ps × (t ≡ tables_of_tree ps)
IsResolved ps (Err (fault.Twice token)) = IsFirstNameFault ps (fault.Twice token)
IsResolved ps (Err (fault.Unknown token)) = IsFirstNameFault ps (fault.Unknown token)
IsResolved ps (Err (fault.Kind token)) = IsFirstNameFault ps (fault.Kind token)
IsResolved ps (Err (fault.NotATree program)) = IsFirstNameFault ps (fault.NotATree program)
IsResolved ps (Err (fault.Limit which count)) = IsFirstNameFault ps (fault.Limit which count)
IsResolved ps (Err fault.Memory) = Unit {0}
