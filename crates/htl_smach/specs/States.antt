-- The states of positions, in sets of bits.
use Rattle.std.specs.Prelude.{◌≡◌, ℕ, zero, suc, ◌+◌, ◌<◌, Bool, false, cond, not, eqb, List, [], ◌∷◌, get_or}
use Rattle.htl_model.specs.Bits.{has_bit}
use Rattle.htl_walk.specs.{declared.job.Job.Job, Walk.job_at}
use Rattle.htl_smach.specs.{declared.position_states.PositionStates.PositionStates, declared.state.PosState.PosState, Rounds.state_by}

-- n bits of a set, from bit k on
abbrev pub flags_from : ℕ → ℕ → ℕ → List Bool
flags_from row k zero = []
flags_from row k (suc n) = has_bit row k ∷ flags_from row (suc k) n

-- the first n bits of a set
abbrev pub flags : ℕ → ℕ → List Bool
flags n row = flags_from row 0 n

-- the set has bit p as given, and all others as before
abbrev pub IsPut : ℕ → ℕ → ℕ → Bool → Type 0
IsPut old new p b = (q : ℕ) → has_bit new q ≡ cond (eqb q p) b (has_bit old q)

abbrev pub state_in : PositionStates → ℕ → PosState
state_in x p = state_by (has_bit x.present p) (has_bit x.done p) (has_bit x.released p)

-- the first n jobs begin at the positions from `first` on: none is released, and none done but where no job is present; the positions
-- before these stay as they are
pub record HaveBegun (old new : PositionStates) (first n : ℕ) (jobs : List Job) : Type 0 where
  pub before_present : (q : ℕ) → q < first → has_bit new.present q ≡ has_bit old.present q
  pub before_released : (q : ℕ) → q < first → has_bit new.released q ≡ has_bit old.released q
  pub before_done : (q : ℕ) → q < first → has_bit new.done q ≡ has_bit old.done q
  pub present : (k : ℕ) → k < n → has_bit new.present (first + k) ≡ (job_at jobs k).present
  pub released : (k : ℕ) → k < n → has_bit new.released (first + k) ≡ false
  pub done : (k : ℕ) → k < n → has_bit new.done (first + k) ≡ not (job_at jobs k).present

-- the sets are those of n positions with these jobs and this work left
pub record AreStates (x : PositionStates) (n : ℕ) (jobs : List Job) (left : List ℕ) : Type 0 where
  pub present : (p : ℕ) → p < n → has_bit x.present p ≡ (job_at jobs p).present
  pub done : (p : ℕ) → p < n → has_bit x.done p ≡ eqb (get_or left p 0) 0
