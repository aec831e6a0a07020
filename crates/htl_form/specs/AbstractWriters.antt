-- Which ports abstract invocations write.
use Rattle.std.specs.Prelude.{◌≡◌, ◌<◌, ℕ, Bool, false, not, ◌&&◌, List, get_or}
use Rattle.std.specs.List.{list_any}
use Rattle.htl_model.specs.{declared.parts.Inv.Inv, Tables.Tables, Tables.is_concrete, PortWriters.is_port}

abbrev pub writes_abstractly : Tables → ℕ → Inv → Bool
writes_abstractly t p i = not (is_concrete t i) && list_any (is_port p) i.writes

abbrev pub is_abstractly_written : Tables → ℕ → Bool
is_abstractly_written t p = list_any (writes_abstractly t p) t.invs

-- a row of marks, one for each port that tables can have, is right about each
abbrev pub MarksPorts : (ℕ → Bool) → List Bool → Type 0
MarksPorts is marks = (p : ℕ) → p < 4096 → get_or marks p false ≡ is p
