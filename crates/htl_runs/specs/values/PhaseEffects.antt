-- A phase of an instant that is being done.
use Rattle.std.specs.Prelude.{◌≡◌, ℕ, List, [], ◌∷◌, slice_get, Option, Some, None}
use Rattle.htl_runs.specs.Common.{Event, Tables, ECode, EInstr, Done, Content, effect, IsShaped, Standing, StandsSafely}
use Rattle.htl_emach.specs.Following.{Midway}

-- the world after the instructions at these addresses
abbrev pub effect_at : Tables → Option EInstr → Content → Content
effect_at t None w = w
effect_at t (Some i) w = effect t i w

abbrev pub replay : Tables → ECode → List Done → Content → Content
replay t code [] w = w
replay t code (d ∷ ds) w = replay t code ds (effect_at t (slice_get code.instrs d.address) w)

-- these addresses are done, those are to come; in the switch phase the values are the first ones
pub record IsRunning (t : Tables) (code : ECode) (es : List Event) (at phase : ℕ) (m : Standing) (w first : Content) : Type 0 where
  pub done : List Done
  pub rest : List Done
  pub midway : Midway t code es at phase m done rest
  pub safe : StandsSafely t code m
  pub shaped : IsShaped t w
  pub content : w ≡ replay t code done first
  pub values : phase ≡ 2 → w.values ≡ first.values
