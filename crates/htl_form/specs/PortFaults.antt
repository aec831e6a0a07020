-- What the tests of a port's writers find.
use Rattle.std.specs.Prelude.{ℕ, ◌+◌, Bool, false, cond, eqb, ltb, take, Option, Some, None}
use Rattle.std.specs.List.{list_any}
use Rattle.htl_model.specs.{declared.parts.Inv.Inv, declared.parts.End.End, PortWriters.is_port, PortWriters.port_uses, PortWriters.writers_in, PortWriters.port_writers, Tables.Tables, First.first_from, Found.Found, Found.unless}
use Rattle.htl_model.specs.declared.parts.End.TheVariants as E

-- the number of an invocation that writes the port
abbrev pub port_writer : ℕ → ℕ → Inv → Option ℕ
port_writer p l x = cond (list_any (is_port p) x.writes) (Some l) None

-- the first invocation that writes the port
abbrev pub first_port_writer : Tables → ℕ → Option ℕ
first_port_writer t p = first_from (port_writer p) 0 t.invs

-- whether there is a number, and it is below k
abbrev pub is_below : Option ℕ → ℕ → Bool
is_below (Some l) k = ltb l k
is_below None k = false

-- how many outputs that write the port stand before output j of invocation k, which is i
abbrev pub writers_before : Tables → ℕ → ℕ → Inv → ℕ → ℕ
writers_before t p k i j = writers_in p (take k t.invs) + port_uses p (take j i.writes)

abbrev pub unwritten_fault : Tables → End → Found
unwritten_fault t (E.Comm c n) = None
unwritten_fault t (E.Port p) = unless (ltb 0 (port_writers t p)) 0 1

abbrev pub rewritten_fault : Tables → ℕ → Inv → ℕ → End → Found
rewritten_fault t k i j (E.Comm c n) = None
rewritten_fault t k i j (E.Port p) = unless (eqb (writers_before t p k i j) 0) (port_writers t p) 1
