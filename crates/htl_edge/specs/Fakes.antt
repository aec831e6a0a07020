-- What the sources, sinks and shelves in memory hold, and exactly what each call of them does.
use Rattle.std.specs.Prelude.{ℕ, ◌+◌, ◌-◌, ◌^◌, ◌<◌, ◌≤◌, ◌≡◌, ◌⊎◌, min, List, ◌++◌, length, take, drop, Contains, None, Some, Ok, Err}
use Rattle.std.specs.{declared.alloc.Global.Global, declared.result.Result.Result, declared.vec.Vec.Vec}
use Rattle.htl_edge.specs.{Entries.bytes_under, declared.Failed.Failed, declared.shelf.ShelfFault.ShelfFault}
use Rattle.htl_edge.specs.declared.shelf.ShelfFault.TheVariants as fault

-- one more, where the type has one
abbrev pub one_more : ℕ → ℕ
one_more n = min (n + 1) (2 ^ 64 - 1)

-- what is left, the bytes for each call at most, the calls that fail, the calls and faults so far
pub record TapeState : Type 0 where
  pub rest : List ℕ
  pub step : ℕ
  pub fails : List ℕ
  pub calls : ℕ
  pub faults : ℕ

-- a tape after a read
abbrev pub tape_after : TapeState → Result ℕ Failed → TapeState
tape_after old (Ok n) = record old { rest = drop n old.rest; calls = one_more old.calls }
tape_after old (Err failed) = record old { calls = one_more old.calls; faults = one_more old.faults }

-- A read gives as much as the buffer holds, a call may give and is left. It fails exactly at the calls that
-- it was told, where the buffer has room.
abbrev pub IsTapeRead : TapeState → List ℕ → Result ℕ Failed → Type 0
IsTapeRead old buf (Ok n) =
    (n ≡ min (min (length buf) old.step) (length old.rest)) × (take n buf ≡ take n old.rest)
    × (Contains old.fails (one_more old.calls) → length buf ≡ 0)
IsTapeRead old buf (Err failed) = (0 < length buf) × Contains old.fails (one_more old.calls)

-- what was written, how much may be, the calls that fail, the calls and faults so far
pub record PageState : Type 0 where
  pub written : List ℕ
  pub room : ℕ
  pub fails : List ℕ
  pub calls : ℕ
  pub faults : ℕ

-- a page after a write
abbrev pub page_after : PageState → List ℕ → Result ℕ Failed → PageState
page_after old piece (Ok n) = record old { written = old.written ++ take n piece; calls = one_more old.calls }
page_after old piece (Err failed) = record old { calls = one_more old.calls; faults = one_more old.faults }

-- A write takes what fits of the piece. It fails exactly where the piece isn't empty and no room is left, or
-- the call is one that fails.
abbrev pub IsPageWrite : PageState → List ℕ → Result ℕ Failed → Type 0
IsPageWrite old piece (Ok n) =
    (n ≡ min (length piece) (old.room - length old.written))
    × (0 < length piece → (length old.written < old.room) × (Contains old.fails (one_more old.calls) → ⊥))
IsPageWrite old piece (Err failed) =
    (0 < length piece) × ((old.room ≤ length old.written) ⊎ Contains old.fails (one_more old.calls))

-- names and their bytes, the calls that fail, the calls and faults so far
pub record DrawerState : Type 0 where
  pub entries : List (List ℕ × List ℕ)
  pub fails : List ℕ
  pub calls : ℕ
  pub faults : ℕ

-- a drawer after a fetch
abbrev pub drawer_after : DrawerState → Result (Vec ℕ Global) ShelfFault → DrawerState
drawer_after old (Err fault.Failed) = record old { calls = one_more old.calls; faults = one_more old.faults }
drawer_after old _ = record old { calls = one_more old.calls }

-- the call isn't one that fails, and the drawer has these bytes under the name
abbrev pub Finds : DrawerState → List ℕ → List ℕ → Type 0
Finds old name bytes = (Contains old.fails (one_more old.calls) → ⊥) × (bytes_under old.entries name ≡ Some bytes)

-- A fetch fails exactly at the calls that it was told and at names that aren't there. Else it answers the bytes
-- under the name, or their length where that is above the limit, or that there is no memory for them.
abbrev pub IsDrawerFetch : DrawerState → List ℕ → ℕ → Result (Vec ℕ Global) ShelfFault → Type 0
IsDrawerFetch old name limit (Ok bytes) = Finds old name bytes.items × (length bytes.items ≤ limit)
IsDrawerFetch old name limit (Err (fault.TooLong seen)) =
    (bytes : List ℕ) × Finds old name bytes × (seen ≡ length bytes) × (limit < seen)
IsDrawerFetch old name limit (Err fault.Memory) = (bytes : List ℕ) × Finds old name bytes × (length bytes ≤ limit)
IsDrawerFetch old name limit (Err fault.Failed) = Contains old.fails (one_more old.calls) ⊎ (bytes_under old.entries name ≡ None)
