-- Names and bytes as a shelf in memory keeps them.
use Rattle.std.specs.Prelude.{ℕ, Bool, true, ◌&&◌, not, ◌≡◌, ◌<◌, ◌≤◌, List, [], ◌∷◌, length, map, string_bytes, Ok, Err}
use Rattle.std.specs.{declared.option.Option.Option, FinMap.from_entries, FinMap.get, Ordering.nat_cmp, Cmp.Lexicographic.slice_cmp, List.list_any, Str.bytes_eq, declared.string.String.String, declared.vec.Vec.Vec}
use Rattle.std.specs.{declared.alloc.Global.Global, declared.result.Result.Result}
use Rattle.htl_edge.specs.{declared.shelf.ShelfFault.ShelfFault, declared.shelf.ShelfFault.TheVariants.Failed, declared.shelf.ShelfFault.TheVariants.TooLong, declared.shelf.ShelfFault.TheVariants.Memory}

-- each name's bytes, and the bytes under it
abbrev pub entries_of : List (String Global × Vec ℕ Global) → List (List ℕ × List ℕ)
entries_of items = map (λ e. (string_bytes e.0, e.1.items)) items

abbrev pub have_different_names : List (List ℕ × List ℕ) → Bool
have_different_names [] = true
have_different_names (e ∷ es) = not (list_any (λ other. bytes_eq e.0 other.0) es) && have_different_names es

-- the bytes under a name
abbrev pub bytes_under : List (List ℕ × List ℕ) → List ℕ → Option (List ℕ)
bytes_under entries name = get {R = slice_cmp nat_cmp} (from_entries entries) name

-- these bytes, or their length where that is above the limit, or no memory for them
abbrev pub IsCopy : List ℕ → ℕ → Result (Vec ℕ Global) ShelfFault → Type 0
IsCopy bytes limit (Ok copied) = (copied.items ≡ bytes) × (length bytes ≤ limit)
IsCopy bytes limit (Err (TooLong seen)) = (seen ≡ length bytes) × (limit < seen)
IsCopy bytes limit (Err Failed) = ⊥
IsCopy bytes limit (Err Memory) = length bytes ≤ limit
