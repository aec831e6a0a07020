-- What the tests of the rules on periods find.
use Rattle.std.specs.Prelude.{ℕ, ◌%◌, Bool, ◌&&◌, eqb, ltb, Option, Some, None}
use Rattle.htl_model.specs.{declared.parts.Mode.Mode, declared.parts.Inv.Inv, declared.parts.End.End, Tables.Tables, Tables.mode_period, Tables.comm_period, PeriodRules.asked_period, Found.Found, Found.unless}
use Rattle.htl_model.specs.declared.parts.End.TheVariants as E

-- nothing where the number is the one that is asked, or none is asked
abbrev pub unless_asked : ℕ → Option ℕ → Found
unless_asked x None = None
unless_asked x (Some y) = unless (eqb x y) x y

abbrev pub module_period_fault : Tables → Mode → Found
module_period_fault t x = unless_asked x.period (asked_period t x.«module»)

abbrev pub divides : ℕ → ℕ → Bool
divides p whole = ltb 0 p && eqb (whole % p) 0

abbrev pub divides_fault : Tables → ℕ → ℕ → Found
divides_fault t m c = unless (divides (comm_period t c) (mode_period t m)) (comm_period t c) (mode_period t m)

abbrev pub end_divides_fault : Tables → Inv → End → Found
end_divides_fault t i (E.Comm c n) = divides_fault t i.mode c
end_divides_fault t i (E.Port p) = None
