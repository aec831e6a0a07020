-- Where the invocations of a mode begin in the list.
use Rattle.std.specs.Prelude.{◌≡◌, ◌≤◌, ◌<◌, ℕ, length, slice_get, Some}
use Rattle.htl_model.specs.{declared.parts.Inv.Inv, Tables.Tables}

-- the invocations of mode m and of later modes are those from number k on
pub record IsStartOf (t : Tables) (m k : ℕ) : Type 0 where
  pub within : k ≤ length t.invs
  pub below : (q : ℕ) (i : Inv) → q < k → slice_get t.invs q ≡ Some i → i.mode < m
  pub above : (q : ℕ) (i : Inv) → k ≤ q → slice_get t.invs q ≡ Some i → m ≤ i.mode
