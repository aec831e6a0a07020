-- What is noted once before the inputs are judged: what precedes what by ports, and the parents of the ports' writers.
use Rattle.std.specs.Prelude.{◌≡◌, ◌<◌, ◌≤◌, ℕ, ◌+◌, List, get_or, slice_get, Option, Some, None}
use Rattle.htl_refine.specs.{Common.Inv, Common.Tables, declared.order.Order.Order, Refining.inv_precedes, Refining.writer_parent}
use Rattle.htl_model.specs.Bits.{has_bit}

-- of each invocation in a mode below m the row has a bit for each invocation of its mode that precedes it, by place
abbrev pub AreRowsBelow : Tables → ℕ → List ℕ → List ℕ → Type 0
AreRowsBelow t m rows places =
    (a b : ℕ) (x y : Inv) → slice_get t.invs a ≡ Some x → slice_get t.invs b ≡ Some y → x.mode ≡ y.mode → y.mode < m → has_bit (get_or rows b 0) (get_or places a 0) ≡ inv_precedes t a b

abbrev pub ArePlaces : List ℕ → Type 0
ArePlaces places = (a : ℕ) → get_or places a 0 < 128

abbrev pub AreParents : Tables → List (Option ℕ) → Type 0
AreParents t parents = (p : ℕ) → p < 4096 → get_or parents p None ≡ writer_parent t p

-- the items from `base` on are these n, and the others are as they were
pub record IsPut (base n : ℕ) (f : ℕ → ℕ) (old new : List ℕ) : Type 0 where
  pub inside : (q : ℕ) → q < n → get_or new (base + q) 0 ≡ f q
  pub below : (k : ℕ) → k < base → get_or new k 0 ≡ get_or old k 0
  pub above : (k : ℕ) → base + n ≤ k → get_or new k 0 ≡ get_or old k 0

-- the order is that of these tables
pub record IsOrderOf (t : Tables) (order : Order) : Type 0 where
  pub rows : AreRowsBelow t 256 order.rows order.places
  pub places : ArePlaces order.places
  pub parents : AreParents t order.parents
