-- One schedule.
use Rattle.std.specs.Prelude.{ℕ, List, [], ◌++◌, length, Ok}
use Rattle.htl_object.specs.{Common.w32, Common.to_be_bytes, Common.flat_map, Common.SInstr, Common.Schedule, Instructions.s_bytes, Instructions.s_instr_at, Items.Every, Items.Is32, Items.IsSInstr}
use Rattle.htl_object.specs.Reading.{Read, ◌>>=◌, items_at, number_at}

abbrev pub schedule_bytes : Schedule → List ℕ
schedule_bytes s = to_be_bytes w32 (length s.instrs) ++ flat_map s_bytes s.instrs

abbrev pub s_code_at : List ℕ → Read (List SInstr)
s_code_at bytes = number_at w32 bytes >>= λ n rest. items_at (λ _. s_instr_at) n [] rest

abbrev pub schedule_at : List ℕ → Read Schedule
schedule_at bytes = s_code_at bytes >>= λ instrs rest. Ok (record { instrs = instrs }, rest)

abbrev pub IsSchedule : Schedule → Type 0
IsSchedule s = Is32 (length s.instrs) × Every IsSInstr s.instrs
