-- Modes: their owners don't fall along the list, and the names of one owner differ.
use Rattle.std.specs.Prelude.{ℕ, ◌==◌, ◌&&◌, ◌-◌, Bool, not, List, ◌++◌, Ok, Some, None, length, slice_get}
use Rattle.htl_object.specs.{Common.w16, Common.w32, Common.to_be_bytes, Common.list_any, Common.bytes_eq, Common.Mode, declared.malformed.MalKind.TheVariants.Spelling, Fields.name_bytes, Fields.name_at, Fields.owner_at, Fields.span_at}
use Rattle.htl_object.specs.Reading.{Read, ◌>>=◌, bad_at, need}

abbrev pub mode_bytes : Mode → List ℕ
mode_bytes m = name_bytes m.name ++ (to_be_bytes w16 m.module ++ to_be_bytes w32 m.period)

-- the owner of the last mode
abbrev pub last_module : List Mode → ℕ
last_module before = elim (slice_get before (length before - 1)) [ Some m ↦ m.module | None ↦ 0 ]

-- a mode before, of the same module, has the name
abbrev pub is_named_mode : List Mode → ℕ → List ℕ → Bool
is_named_mode before module_number name = list_any (λ m. (m.module == module_number) && bytes_eq m.name name) before

abbrev pub mode_at : ℕ → List Mode → List ℕ → Read Mode
mode_at modules before bytes =
    name_at bytes >>= λ name rest.
    owner_at modules (last_module before) rest >>= λ owner rest.
    need (not (is_named_mode before owner name)) (bad_at Spelling bytes) (
    span_at rest >>= λ period rest.
    Ok (record { name = name; «module» = owner; period = period }, rest))
