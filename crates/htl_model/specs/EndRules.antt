-- The rules on the ends of an invocation and on its window.
use Rattle.std.specs.Prelude.{◌≡◌, ◌≢◌, ◌≤◌, ◌<◌, ◌⊎◌, ℕ, ◌*◌, true, false, Bool, Option, Some, None, option_map, List, [], length, slice_get}
use Rattle.htl_base.specs.declared.Ty.{Ty}
use Rattle.htl_base.specs.declared.Ty.TheVariants as ty
use Rattle.htl_model.specs.{declared.parts.Inv.Inv, declared.parts.End.End, Tables.Tables, Tables.mode_period, Tables.comm_period, Tables.is_concrete, Tables.task_worst, Tables.release, Tables.window_end}
use Rattle.htl_model.specs.declared.parts.End.TheVariants as E

-- 4: a communicator is read at the end of the period or later
abbrev pub ReadLate : Tables → Inv → End → ℕ → ℕ → Type 0
ReadLate t i (E.Comm c n) have need = (have ≡ n * comm_period t c) × (need ≡ mode_period t i.mode) × (need ≤ have)
ReadLate t i (E.Port p) have need = ⊥

-- 4: a communicator is written at the start of the round, or later than its end
abbrev pub WriteOutside : Tables → Inv → End → ℕ → ℕ → Type 0
WriteOutside t i (E.Comm c n) have need = (have ≡ n * comm_period t c) × (need ≡ mode_period t i.mode) × ((have ≡ 0) ⊎ (need < have))
WriteOutside t i (E.Port p) have need = ⊥

-- the types of a task's inputs and outputs; none where there is no such task
abbrev pub input_types : Tables → ℕ → List Ty
input_types t k = elim (slice_get t.tasks k) [ Some x ↦ x.inputs | None ↦ [] ]

abbrev pub output_types : Tables → ℕ → List Ty
output_types t k = elim (slice_get t.tasks k) [ Some x ↦ x.outputs | None ↦ [] ]

-- 5: there are more or fewer inputs than the task has; or as many, and more or fewer outputs
abbrev pub CountsDiffer : Tables → Inv → ℕ → ℕ → Type 0
CountsDiffer t i have need =
    ((have ≡ length i.reads) × (need ≡ length (input_types t i.task)) × (have ≢ need))
    ⊎ ((length i.reads ≡ length (input_types t i.task)) × (have ≡ length i.writes) × (need ≡ length (output_types t i.task)) × (have ≢ need))

abbrev pub type_number : Ty → ℕ
type_number ty.Int = 0
type_number ty.Bool = 1

-- the type of what an end names
abbrev pub end_type : Tables → End → Option Ty
end_type t (E.Comm c n) = option_map (λ x. x.ty) (slice_get t.comms c)
end_type t (E.Port p) = option_map (λ x. x.ty) (slice_get t.ports p)

-- 5: the end at a place has another type than the task's there
abbrev pub TypeDiffers : Tables → List Ty → ℕ → End → ℕ → ℕ → Type 0
TypeDiffers t types j e have need =
    (option_map type_number (end_type t e) ≡ Some have) × (option_map type_number (slice_get types j) ≡ Some need) × (have ≢ need)

-- 6: the release isn't before the window's end
abbrev pub WindowEmpty : Tables → Inv → ℕ → ℕ → Type 0
WindowEmpty t i have need = (have ≡ release t i) × (need ≡ window_end t i) × (need ≤ have)

-- 7: the worst case is longer than the period
abbrev pub WorstLong : Tables → Inv → ℕ → ℕ → Type 0
WorstLong t i have need = (have ≡ task_worst t i.task) × (need ≡ mode_period t i.mode) × (need < have)

-- an abstract invocation writes the port
pub record IsAbstractlyWritten (t : Tables) (p : ℕ) : Type 0 where
  pub number : ℕ
  pub writer : Inv
  pub at : slice_get t.invs number ≡ Some writer
  pub abstract : is_concrete t writer ≡ false
  pub place : ℕ
  pub writes : slice_get writer.writes place ≡ Some (E.Port p)

-- 10: a concrete invocation reads a port that an abstract one writes; the input's place is told
abbrev pub AbstractRead : Tables → Inv → ℕ → End → ℕ → ℕ → Type 0
AbstractRead t i j (E.Comm c n) have need = ⊥
AbstractRead t i j (E.Port p) have need = (have ≡ j) × (need ≡ 0) × (is_concrete t i ≡ true) × IsAbstractlyWritten t p

-- whether a communicator is a sensor
abbrev pub is_sensor : Tables → ℕ → Bool
is_sensor t c = elim (slice_get t.comms c) [ Some x ↦ x.sensor | None ↦ false ]

-- 11: a sensor is written; the output's place is told
abbrev pub SensorWritten : Tables → ℕ → End → ℕ → ℕ → Type 0
SensorWritten t j (E.Comm c n) have need = (have ≡ j) × (need ≡ 0) × (is_sensor t c ≡ true)
SensorWritten t j (E.Port p) have need = ⊥
