-- The keys of tasks in an index.
use Rattle.std.specs.Prelude.{◌≡◌, ℕ, Bool, List, map, Vec}
use Rattle.std.specs.{List.list_any, Str.bytes_eq, declared.alloc.Global.Global}
use Rattle.htl_model.specs.{declared.parts.Module.Module, declared.parts.Task.Task}
use Rattle.htl_platform.specs.Entries.{key_of}

abbrev pub has_key : List (Vec ℕ Global) → List ℕ → Bool
has_key index key = list_any (λ k. bytes_eq key k.items) index

abbrev pub keys_of : List Module → List Task → List (List ℕ)
keys_of modules tasks = map (key_of modules) tasks

-- the index has these keys and no others
abbrev pub Holds : List (Vec ℕ Global) → List (List ℕ) → Type 0
Holds index keys = (key : List ℕ) → has_key index key ≡ list_any (bytes_eq key) keys
