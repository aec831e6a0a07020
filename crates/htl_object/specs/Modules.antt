-- Modules: a parent is a mode of an earlier module, a start one of the module itself.
use Rattle.std.specs.Prelude.{ℕ, zero, suc, ◌==◌, ◌-◌, Bool, true, false, not, List, ◌++◌, Option, Ok, Some, None, length, slice_get}
use Rattle.htl_object.specs.{Common.w16, Common.MAX_LEVELS, Common.to_be_bytes, Common.list_any, Common.bytes_eq, Common.Mode, Common.Module, declared.malformed.MalKind.TheVariants.Spelling, declared.malformed.MalKind.TheVariants.Index}
use Rattle.htl_object.specs.Reading.{Read, ◌>>=◌, bad_at, need, field_at, number_at}
use Rattle.htl_object.specs.Fields.{name_bytes, option_bytes, name_at, option_at}

abbrev pub module_bytes : Module → List ℕ
module_bytes m = name_bytes m.name ++ (option_bytes m.parent ++ to_be_bytes w16 m.start)

abbrev pub is_named_module : List Module → List ℕ → Bool
is_named_module before name = list_any (λ m. bytes_eq m.name name) before

-- the mode is one of the module
abbrev pub is_mode_of : List Mode → ℕ → ℕ → Bool
is_mode_of modes k n = elim (slice_get modes n) [ Some m ↦ m.«module» == k | None ↦ false ]

-- going from parent to parent over the modules before ends within so many steps
abbrev pub leads_up_within : ℕ → List Mode → List Module → Option ℕ → Bool
leads_up_within n modes before None = true
leads_up_within zero modes before (Some q) = false
leads_up_within (suc n) modes before (Some q) =
    elim (slice_get modes q) [
      | Some m ↦ elim (slice_get before m.«module») [ Some above ↦ leads_up_within n modes before above.parent | None ↦ false ]
      | None ↦ false
    ]

abbrev pub module_at : List Mode → List Module → List ℕ → Read Module
module_at modes before bytes =
    name_at bytes >>= λ name rest.
    need (not (is_named_module before name)) (bad_at Spelling bytes) (
    field_at Index (leads_up_within (MAX_LEVELS - 1) modes before) option_at rest >>= λ parent rest.
    field_at Index (is_mode_of modes (length before)) (number_at w16) rest >>= λ start rest.
    Ok (record { name = name; parent = parent; start = start }, rest))
