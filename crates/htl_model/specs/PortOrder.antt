-- What precedes what by ports: an invocation that reads a port follows the invocation that writes it.
use Rattle.std.specs.Prelude.{◌≡◌, ℕ, zero, suc, Bool, true, false, eqb, ◌&&◌, ◌||◌, List, length, slice_get, Option, Some, None}
use Rattle.std.specs.List.{list_any, Contains, IsDistinct}
use Rattle.htl_model.specs.{declared.parts.Inv.Inv, declared.parts.End.End, Tables.Tables, PortWriters.is_port}
use Rattle.htl_model.specs.declared.parts.End.TheVariants as E

-- a leads to b: by one step, or through another
pub data Leads (step : ℕ → ℕ → Bool) : ℕ → ℕ → Type 0 where
  direct : (a b : ℕ) → step a b ≡ true → Leads step a b
  through : (a c b : ℕ) → Leads step a c → Leads step c b → Leads step a b

-- the same, by steps that go through places below k alone
abbrev pub leads_below : (ℕ → ℕ → Bool) → ℕ → ℕ → ℕ → Bool
leads_below step zero a b = step a b
leads_below step (suc k) a b = leads_below step k a b || (leads_below step k a k && leads_below step k k b)

-- the end is a port that is among these outputs
abbrev pub is_read_from : List End → End → Bool
is_read_from writes (E.Comm c n) = false
is_read_from writes (E.Port p) = list_any (is_port p) writes

abbrev pub feeds_at : Option Inv → Option Inv → Bool
feeds_at (Some x) (Some y) = eqb x.mode y.mode && list_any (is_read_from x.writes) y.reads
feeds_at (Some x) None = false
feeds_at None o = false

-- invocation b reads a port that invocation a writes, both of one mode
abbrev pub feeds : Tables → ℕ → ℕ → Bool
feeds t a b = feeds_at (slice_get t.invs a) (slice_get t.invs b)

-- an invocation precedes another by the ports, directly or through others
abbrev pub Precedes : Tables → ℕ → ℕ → Type 0
Precedes t a b = Leads (feeds t) a b

abbrev pub is_of_mode : ℕ → Option Inv → Bool
is_of_mode m (Some i) = eqb i.mode m
is_of_mode m None = false

-- the invocation is one of the mode, and precedes itself
pub record IsOnCycle (t : Tables) (m k : ℕ) : Type 0 where
  pub inv : Inv
  pub at : slice_get t.invs k ≡ Some inv
  pub mode : inv.mode ≡ m
  pub cycle : Precedes t k k

-- the list has each invocation of the mode that precedes itself, once, and nothing else
pub record AreOnCycles (t : Tables) (m : ℕ) (ks : List ℕ) : Type 0 where
  pub once : IsDistinct eqb ks
  pub only : (k : ℕ) → Contains ks k → IsOnCycle t m k
  pub all : (k : ℕ) → IsOnCycle t m k → Contains ks k

-- invocation k, which is i, precedes itself; have is the number of the invocations of its mode that precede themselves, on
-- whatever cycle
abbrev pub InCycle : Tables → ℕ → Inv → ℕ → ℕ → Type 0
InCycle t k i have need = Precedes t k k × (need ≡ 0) × (ks : List ℕ) × AreOnCycles t i.mode ks × (have ≡ length ks)
