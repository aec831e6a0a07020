-- Communicators.
use Rattle.std.specs.Prelude.{ℕ, Bool, not, List, ◌++◌, Ok}
use Rattle.htl_object.specs.{Common.w32, Common.to_be_bytes, Common.list_any, Common.bytes_eq, Common.Comm, declared.malformed.MalKind.TheVariants.Spelling}
use Rattle.htl_object.specs.Reading.{Read, ◌>>=◌, bad_at, need}
use Rattle.htl_object.specs.Fields.{name_bytes, type_bytes, flag_bytes, value_bytes, name_at, type_at, flag_at, span_at, init_at}

abbrev pub comm_bytes : Comm → List ℕ
comm_bytes c =
    name_bytes c.name ++ (type_bytes c.ty ++ (flag_bytes c.sensor ++ (to_be_bytes w32 c.period ++ value_bytes c.init)))

-- a communicator before has the name
abbrev pub is_named_comm : List Comm → List ℕ → Bool
is_named_comm before name = list_any (λ c. bytes_eq c.name name) before

abbrev pub comm_at : List Comm → List ℕ → Read Comm
comm_at before bytes =
    name_at bytes >>= λ name rest.
    need (not (is_named_comm before name)) (bad_at Spelling bytes) (
    type_at rest >>= λ ty rest.
    flag_at rest >>= λ sensor rest.
    span_at rest >>= λ period rest.
    init_at ty rest >>= λ init rest.
    Ok (record { name = name; ty = ty; sensor = sensor; period = period; init = init }, rest))
