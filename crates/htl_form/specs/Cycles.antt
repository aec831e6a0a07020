-- What the test for cycles of ports finds.
use Rattle.std.specs.Prelude.{ℕ, Bool, not, ◌&&◌, length, slice_get}
use Rattle.htl_model.specs.{declared.parts.Inv.Inv, NumbersBelow.count_below, PortOrder.leads_below, PortOrder.feeds, PortOrder.is_of_mode, Tables.Tables, Found.Found, Found.unless}

-- whether an invocation precedes itself by the ports
unfoldable pub precedes_itself : Tables → ℕ → Bool
precedes_itself t k = leads_below (feeds t) (length t.invs) k k

-- whether an invocation of the mode precedes itself
abbrev pub is_on_cycle : Tables → ℕ → ℕ → Bool
is_on_cycle t m k = is_of_mode m (slice_get t.invs k) && precedes_itself t k

-- how many invocations of the mode precede themselves
abbrev pub cycle_count : Tables → ℕ → ℕ
cycle_count t m = count_below (is_on_cycle t m) (length t.invs)

abbrev pub cycle_fault : Tables → ℕ → Inv → Found
cycle_fault t k i = unless (not (precedes_itself t k)) (cycle_count t i.mode) 0
