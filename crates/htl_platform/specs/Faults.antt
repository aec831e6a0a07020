-- The first fault of a platform file's table.
use Rattle.std.specs.Prelude.{ℕ, suc, Bool, cond, List, [], ◌∷◌, length, is_none, Option, Some, None, codes}
use Rattle.htl_model.specs.Tables.{Tables}
use Rattle.toml.specs.Data.{Members, get_member}
use Rattle.htl_platform.specs.{Entries.entries_of, Entries.worst_of, Entries.is_top_entry, Entries.is_whole_entry, Entries.is_declared, Entries.is_worst_entry, declared.fault.PlatformFault.PlatformFault}
use Rattle.htl_platform.specs.declared.fault.PlatformFault.TheVariants as fault

-- the place, counted from k, of the first item that fails the test
abbrev pub first_failing : {A : Type 0} → (A → Bool) → ℕ → List A → Option ℕ
first_failing test k [] = None
first_failing test k (x ∷ xs) = cond (test x) (first_failing test (suc k) xs) (Some k)

-- the first of two, where there is one
abbrev pub or_then : {A : Type 0} → Option A → Option A → Option A
or_then (Some x) later = Some x
or_then None later = later

-- the number of entries of the file's own table, where `name` is missing
abbrev pub missing_name : Members → Option ℕ
missing_name ms = cond (is_none (get_member (codes "name") ms)) (Some (length (entries_of ms))) None

-- the first entry of the file's own table, then of `worst`, that has another shape; without one, the missing name
abbrev pub bad_shape : Members → Option ℕ
bad_shape ms =
    or_then (first_failing is_top_entry 0 (entries_of ms))
    (or_then (first_failing is_whole_entry (length (entries_of ms)) (entries_of (worst_of ms))) (missing_name ms))

-- the first entry of `worst` whose key is no task's
abbrev pub bad_key : Tables → Members → Option ℕ
bad_key t ms = first_failing (is_declared t) (length (entries_of ms)) (entries_of (worst_of ms))

-- the first entry of `worst` whose number is out of range
abbrev pub bad_number : Members → Option ℕ
bad_number ms = first_failing is_worst_entry (length (entries_of ms)) (entries_of (worst_of ms))

abbrev pub at_entry : (ℕ → PlatformFault) → Option ℕ → Option PlatformFault
at_entry make (Some entry) = Some (make entry)
at_entry make None = None

-- the shape of all entries comes before the keys of `worst`, and these before its numbers
abbrev pub fault_in : Tables → Members → Option PlatformFault
fault_in t ms =
    or_then (at_entry (λ entry. fault.Shape entry) (bad_shape ms))
    (or_then (at_entry (λ entry. fault.Unknown entry) (bad_key t ms)) (at_entry (λ entry. fault.Range entry) (bad_number ms)))
