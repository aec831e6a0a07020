-- The entries of a platform file, and what each has to be.
use Rattle.std.specs.Prelude.{ℕ, ℤ, pos, negsuc, Bool, false, cond, ◌&&◌, nat_le, List, [], ◌∷◌, ◌++◌, slice_get, is_some, option_and_then, Option, Some, None, codes}
use Rattle.std.specs.{List.list_any, Str.bytes_eq}
use Rattle.htl_base.specs.{Names.is_name, declared.limits.TheConstants.MAX_PERIOD}
use Rattle.htl_model.specs.{Tables.Tables, declared.parts.Module.Module, declared.parts.Task.Task}
use Rattle.toml.specs.Data.{Data, Members, no_members, member, get_member, as_str, as_integer, as_table}

-- a key and its value
abbrev pub Entry : Type 0
Entry = List ℕ × Data

-- the entries of a table, by the bytes of their keys
abbrev pub entries_of : Members → List Entry
entries_of no_members = []
entries_of (member key d ms) = (key, d) ∷ entries_of ms

abbrev pub members_or : Option Members → Members
members_or (Some ms) = ms
members_or None = no_members

-- the table `worst`, empty where there is none
abbrev pub worst_of : Members → Members
worst_of ms = members_or (option_and_then as_table (get_member (codes "worst") ms))

-- ---- the file's own table

-- a text that is a name
abbrev pub is_platform_name : Data → Bool
is_platform_name d = elim (as_str d) [ Some text ↦ is_name text | None ↦ false ]

-- a `name` that is one, or a table `worst`
abbrev pub is_top_entry : Entry → Bool
is_top_entry e =
    cond (bytes_eq e.0 (codes "name")) (is_platform_name e.1) (bytes_eq e.0 (codes "worst") && is_some (as_table e.1))

-- ---- the table `worst`

-- a whole number
abbrev pub is_whole_entry : Entry → Bool
is_whole_entry e = is_some (as_integer e.1)

-- the key `module.task` of a task
abbrev pub key_of : List Module → Task → List ℕ
key_of modules k = elim (slice_get modules k.«module») [ Some x ↦ x.name ++ 46 ∷ k.name | None ↦ [] ]

-- a key of a declared task
abbrev pub is_declared : Tables → Entry → Bool
is_declared t e = list_any (λ k. bytes_eq e.0 (key_of t.modules k)) t.tasks

-- a worst case is from 1 to 1,000,000 ticks
abbrev pub is_worst : ℤ → Bool
is_worst (pos n) = nat_le 1 n && nat_le n MAX_PERIOD
is_worst (negsuc n) = false

-- a number in range
abbrev pub is_worst_entry : Entry → Bool
is_worst_entry e = elim (as_integer e.1) [ Some x ↦ is_worst x | None ↦ false ]

-- a worst case in range, else the task's own
abbrev pub number_or : ℕ → ℤ → ℕ
number_or own (pos n) = cond (is_worst (pos n)) n own
number_or own (negsuc n) = own

-- the worst case that an entry gives, where there is one in range, else the task's own
abbrev pub worst_or : ℕ → Option Data → ℕ
worst_or own entry = elim (option_and_then as_integer entry) [ Some x ↦ number_or own x | None ↦ own ]
