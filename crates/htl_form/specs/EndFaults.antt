-- What the tests of the rules on ends find.
use Rattle.std.specs.Prelude.{ℕ, ◌*◌, not, ◌&&◌, eqb, ltb, List, length, slice_get, Option, Some, None, option_map}
use Rattle.htl_base.specs.declared.Ty.{Ty}
use Rattle.htl_model.specs.{declared.parts.Inv.Inv, declared.parts.End.End, Tables.Tables, Tables.mode_period, Tables.comm_period, Tables.is_concrete, First.or_else, Found.Found, Found.unless}
use Rattle.htl_model.specs.declared.parts.End.TheVariants as E
use Rattle.htl_model.specs.EndRules.{input_types, output_types, type_number, end_type, is_sensor}
use Rattle.htl_form.specs.AbstractWriters.{is_abstractly_written}

abbrev pub read_offset_fault : Tables → Inv → End → Found
read_offset_fault t i (E.Comm c n) = unless (ltb (n * comm_period t c) (mode_period t i.mode)) (n * comm_period t c) (mode_period t i.mode)
read_offset_fault t i (E.Port p) = None

abbrev pub write_offset_fault : Tables → Inv → End → Found
write_offset_fault t i (E.Comm c n) =
    unless (ltb 0 (n * comm_period t c) && not (ltb (mode_period t i.mode) (n * comm_period t c))) (n * comm_period t c) (mode_period t i.mode)
write_offset_fault t i (E.Port p) = None

abbrev pub unless_equal : ℕ → ℕ → Found
unless_equal x y = unless (eqb x y) x y

-- inputs, then outputs
abbrev pub count_fault : Tables → Inv → Found
count_fault t i = or_else (unless_equal (length i.reads) (length (input_types t i.task))) (unless_equal (length i.writes) (length (output_types t i.task)))

abbrev pub unless_same : Option ℕ → Option ℕ → Found
unless_same (Some x) (Some y) = unless_equal x y
unless_same (Some x) None = None
unless_same None o = None

abbrev pub type_fault : Tables → List Ty → ℕ → End → Found
type_fault t types j e = unless_same (option_map type_number (end_type t e)) (option_map type_number (slice_get types j))

abbrev pub abstract_read_fault : Tables → Inv → ℕ → End → Found
abstract_read_fault t i j (E.Comm c n) = None
abstract_read_fault t i j (E.Port p) = unless (not (is_concrete t i && is_abstractly_written t p)) j 0

abbrev pub sensor_fault : Tables → ℕ → End → Found
sensor_fault t j (E.Comm c n) = unless (not (is_sensor t c)) j 0
sensor_fault t j (E.Port p) = None
