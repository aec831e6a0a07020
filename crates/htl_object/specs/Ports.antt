-- Ports and tasks: names differ within their owners.
use Rattle.std.specs.Prelude.{ℕ, ◌==◌, ◌&&◌, ◌-◌, Bool, not, List, ◌++◌, Ok, Some, None, length, slice_get}
use Rattle.htl_object.specs.{Common.w16, Common.w32, Common.to_be_bytes, Common.list_any, Common.flat_map, Common.bytes_eq, Common.MAX_ENDS, Common.Ty, Common.Port, Common.Task, declared.malformed.MalKind.TheVariants.Spelling}
use Rattle.htl_object.specs.Reading.{Read, ◌>>=◌, bad_at, need, list_at}
use Rattle.htl_object.specs.Fields.{name_bytes, type_bytes, flag_bytes, name_at, type_at, flag_at, owner_at, span_at}

abbrev pub port_bytes : Port → List ℕ
port_bytes p = name_bytes p.name ++ (to_be_bytes w16 p.mode ++ type_bytes p.ty)

abbrev pub last_mode : List Port → ℕ
last_mode before = elim (slice_get before (length before - 1)) [ Some p ↦ p.mode | None ↦ 0 ]

abbrev pub is_named_port : List Port → ℕ → List ℕ → Bool
is_named_port before owner name = list_any (λ p. (p.mode == owner) && bytes_eq p.name name) before

abbrev pub port_at : ℕ → List Port → List ℕ → Read Port
port_at modes before bytes =
    name_at bytes >>= λ name rest.
    owner_at modes (last_mode before) rest >>= λ owner rest.
    need (not (is_named_port before owner name)) (bad_at Spelling bytes) (
    type_at rest >>= λ ty rest.
    Ok (record { name = name; mode = owner; ty = ty }, rest))

abbrev pub types_bytes : List Ty → List ℕ
types_bytes ts = to_be_bytes w16 (length ts) ++ flat_map type_bytes ts

abbrev pub types_at : List ℕ → Read (List Ty)
types_at = list_at MAX_ENDS (λ _. type_at)

abbrev pub task_bytes : Task → List ℕ
task_bytes t =
    name_bytes t.name ++ (to_be_bytes w16 t.«module» ++ (flag_bytes t.is_abstract ++ (to_be_bytes w32 t.worst ++ (types_bytes t.inputs ++ types_bytes t.outputs))))

abbrev pub last_owner : List Task → ℕ
last_owner before = elim (slice_get before (length before - 1)) [ Some t ↦ t.«module» | None ↦ 0 ]

abbrev pub is_named_task : List Task → ℕ → List ℕ → Bool
is_named_task before owner name = list_any (λ t. (t.«module» == owner) && bytes_eq t.name name) before

abbrev pub task_at : ℕ → List Task → List ℕ → Read Task
task_at modules before bytes =
    name_at bytes >>= λ name rest.
    owner_at modules (last_owner before) rest >>= λ owner rest.
    need (not (is_named_task before owner name)) (bad_at Spelling bytes) (
    flag_at rest >>= λ is_abstract rest.
    span_at rest >>= λ worst rest.
    types_at rest >>= λ inputs rest.
    types_at rest >>= λ outputs rest.
    Ok (record { name = name; «module» = owner; is_abstract = is_abstract; worst = worst; inputs = inputs; outputs = outputs }, rest))
