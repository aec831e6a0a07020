-- Where a module is before an instant: the laws that every instant keeps.
use Rattle.std.proofs.Common.{◌≡◌, ℕ, zero, suc, ◌≤◌, ◌<◌, List, [], Some, arith}
use Rattle.htl_runs.proofs.Words.{Event, Stay, Tables, AreInRange, before, stay_of, not_some, IsStanding, standing_at}

module _ (t : Tables) (range : AreInRange t) where
  standing_none : IsStanding t [] 0
  standing_none = grind (arith, not_some)

  pub standing_before : (es : List Event) (now : ℕ) → (n : ℕ) × IsStanding t (before t es now).stays n × (n ≤ now)
  standing_before es zero = (0, standing_none, omega arith)
  standing_before es (suc n) = (n, standing_at t range es n, omega arith)

-- before an instant a round began earlier
pub began_before : (t : Tables) (range : AreInRange t) (es : List Event) (now k : ℕ) (y : Stay) → stay_of (before t es now).stays k ≡ Some y → y.start < now
began_before t range es zero k y e = not_some y e
began_before t range es (suc n) k y e = omega (arith, (standing_at t range es n).past k y e)
