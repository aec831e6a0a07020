-- A table with a row for each port: a bit for each of its writers.
use Rattle.std.specs.{Prelude.ℕ, Prelude.Bool, Prelude.false, Prelude.List, Prelude.Option, Prelude.Some, Prelude.None, List.list_any}
use Rattle.htl_model.specs.{declared.parts.Inv.Inv, declared.parts.End.End, Bits.cell, PortWriters.is_port}
use Rattle.htl_model.specs.declared.parts.End.TheVariants as E

-- whether the invocation writes the port
abbrev pub writes_to : Option Inv → ℕ → Bool
writes_to (Some x) p = list_any (is_port p) x.writes
writes_to None p = false

-- the end is a port that writer q of the table writes
abbrev pub is_from : List ℕ → ℕ → End → Bool
is_from table q (E.Comm c n) = false
is_from table q (E.Port p) = cell table p q
