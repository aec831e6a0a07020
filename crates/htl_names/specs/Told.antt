-- What the test of one name rule tells.
use Rattle.std.specs.Prelude.{ℕ, ◌≡◌, ◌<◌, ◌⊎◌, List, MatchOption, MatchResult, Option, Result}
use Rattle.htl_names.specs.{Trees.PlainProgram, Trees.NameFault, NameRules.NameRule, NameRules.order_of, NameRules.NameBroken, NameRules.AreNamesRight, NameRules.IsFirstNameFault}
use Rattle.htl_names.specs.declared.fault.NameFault.TheVariants as fault

-- the rule is broken nowhere
abbrev pub IsKept : List PlainProgram → NameRule → Type 0
IsKept ps rule = (k : ℕ) (f : NameFault) → NameBroken ps rule k f → ⊥

-- the fault tells of the rule's first place at which it is broken
abbrev pub IsFirstOf : List PlainProgram → NameRule → NameFault → Type 0
IsFirstOf ps rule f = (place : ℕ) × NameBroken ps rule place f × ((k : ℕ) (g : NameFault) → k < place → NameBroken ps rule k g → ⊥)

-- a search for the first place of a rule: what it finds is told by a fault
abbrev pub IsSearched : {A : Type 0} → List PlainProgram → NameRule → (A → NameFault) → Option A → Type 0
IsSearched ps rule fault o = MatchOption o (IsKept ps rule) (λ x. IsFirstOf ps rule (fault x))

-- the rules before the n-th are kept
abbrev pub KeptBelow : List PlainProgram → ℕ → Type 0
KeptBelow ps n = (r : NameRule) → order_of r < n → IsKept ps r

abbrev pub IsRefusal : List PlainProgram → NameFault → Type 0
IsRefusal ps f = (f ≡ fault.Memory) ⊎ IsFirstNameFault ps f

-- a test of all rules
abbrev pub IsJudged : List PlainProgram → Result (Unit {0}) NameFault → Type 0
IsJudged ps r = MatchResult r (λ _. AreNamesRight ps) (IsRefusal ps)
