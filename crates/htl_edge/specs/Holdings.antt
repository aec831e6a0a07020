-- What a shelf holds, where it tells it.
use Rattle.std.specs.Prelude.{ℕ, ◌≡◌, ◌<◌, Option, Some, Err, List, length, IfSome}
use Rattle.std.specs.{declared.result.Result.Result, Ordering.nat_cmp, Cmp.Lexicographic.slice_cmp, FinMap.FinMap, FinMap.get, FinMap.from_entries}
use Rattle.htl_edge.specs.{declared.shelf.ShelfFault.ShelfFault, declared.shelf.ShelfFault.TheVariants.Failed, declared.shelf.ShelfFault.TheVariants.TooLong}

-- bytes by name
abbrev pub Holdings : Type 0
Holdings = FinMap (slice_cmp nat_cmp) (List ℕ)

-- what these names and bytes make
abbrev pub holdings_of : List (List ℕ × List ℕ) → Holdings
holdings_of entries = from_entries entries

-- Where it is told, these bytes are held under the name.
abbrev pub HoldsUnder : Option Holdings → List ℕ → List ℕ → Type 0
HoldsUnder holds name bytes = IfSome holds (λ held. get held name ≡ Some bytes)

-- A file is too long only above the limit, and where it is told, `seen` is its length.
abbrev pub IsTooLong : Option Holdings → List ℕ → ℕ → ShelfFault → Type 0
IsTooLong holds name limit (TooLong seen) =
    (limit < seen) × IfSome holds (λ held. (bytes : List ℕ) × (get held name ≡ Some bytes) × (seen ≡ length bytes))
IsTooLong holds name limit _ = Unit {0}

-- A count of faults stands where it stood, unless the answer is a failed fetch.
abbrev pub IsKept : {T : Type 0} → ℕ → ℕ → Result T ShelfFault → Type 0
IsKept before now (Err Failed) = Unit {0}
IsKept before now _ = now ≡ before
