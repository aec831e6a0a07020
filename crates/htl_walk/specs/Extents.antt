-- Where the items that pass a test stand in a list.
use Rattle.std.specs.Prelude.{◌≡◌, ◌≤◌, ℕ, ◌+◌, Bool, cond, eqb, List, [], length, drop, get_or}
use Rattle.htl_model.specs.{Lists.places_from, Selections.mode_of_module, Selections.inv_of_mode, Tables.Tables}
use Rattle.htl_walk.specs.{declared.extents.Extent.Extent, declared.extents.Extents.Extents}

-- those of the first k items stand there, and behind them are these places
pub record Stand {X : Type 0} (test : X → Bool) (k : ℕ) (left : List ℕ) (e : Extent) (items : List X) : Type 0 where
  pub first : places_from test e.first (drop e.first items) ≡ places_from test 0 items
  pub end : places_from test e.end (drop e.end items) ≡ left
  pub count : e.count + length left ≡ length (places_from test 0 items)
  pub few : e.count ≤ k
  pub order : e.first ≤ e.end
  pub within : e.end ≤ k

abbrev pub no_items : Extent
no_items = record { first = 0; end = 0; count = 0 }

-- with the item at place k, which stands behind them
abbrev pub widened : ℕ → Extent → Extent
widened k e = record { first = cond (eqb e.end 0) k e.first; end = k + 1; count = e.count + 1 }

-- the modes of each module and the invocations of each mode stand there
pub record AreExtents (t : Tables) (x : Extents) : Type 0 where
  pub modes : (u : ℕ) → Stand (mode_of_module u) (length t.modes) [] (get_or x.modes u no_items) t.modes
  pub invs : (m : ℕ) → Stand (inv_of_mode m) (length t.invs) [] (get_or x.invs m no_items) t.invs
