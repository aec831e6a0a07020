-- The events that a script can have.
use Rattle.std.specs.Prelude.{ℕ, ◌≡◌, ◌<◌, ◌≤◌, true, ℤ, List, [], ◌∷◌, ◌++◌, Option, Some, IsSome, IfSome, slice_get}
use Rattle.htl_base.specs.declared.limits.TheConstants.{MAX_INSTANT}
use Rattle.htl_model.specs.{declared.parts.Comm.Comm, declared.parts.Inv.Inv, declared.event.Event.Event, Tables.Tables, Tables.is_concrete, Ranges.FitsType}
use Rattle.htl_model.specs.declared.event.Event.TheVariants as event
use Rattle.htl_script.specs.Judging.{worst_of}

-- a sensor, and a value of its type
abbrev pub IsSensed : Tables → ℕ → ℤ → Type 0
IsSensed t c x = (comm : Comm) × (slice_get t.comms c ≡ Some comm) × (comm.sensor ≡ true) × FitsType comm.ty x

-- a concrete invocation, and a length from 1 to its worst case
abbrev pub IsTaken : Tables → ℕ → ℕ → Type 0
IsTaken t i ticks =
    (inv : Inv) × (slice_get t.invs i ≡ Some inv) × (is_concrete t inv ≡ true) × (1 ≤ ticks) × (ticks ≤ worst_of t i)

-- Behind the last reading, readings rise and are instants of a run, what is sensed and taken has a reading before
-- it, and an end isn't below the last reading and is the last event.
abbrev pub AreEvents : Tables → Option ℕ → List Event → Type 0
AreEvents t last [] = Unit {0}
AreEvents t last (event.At instant ∷ es) = (instant ≤ MAX_INSTANT) × IfSome last (λ reading. reading < instant) × AreEvents t (Some instant) es
AreEvents t last (event.Sense c x ∷ es) = IsSome last × IsSensed t c x × AreEvents t last es
AreEvents t last (event.Took i ticks ∷ es) = IsSome last × IsTaken t i ticks × AreEvents t last es
AreEvents t last (event.End instant ∷ es) = (instant ≤ MAX_INSTANT) × IfSome last (λ reading. reading ≤ instant) × (es ≡ [])

-- the last event ends the run
abbrev pub EndWith : List Event → ℕ → Type 0
EndWith events end = (front : List Event) × (events ≡ front ++ event.End end ∷ [])
