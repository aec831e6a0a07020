-- When the rounds of a module begin and how long they stand: each module has the period of its root module.
use Rattle.std.specs.Prelude.{◌≡◌, ℕ, suc, ◌+◌, ◌*◌, ◌/◌, ◌<◌, true, List, Option, Some}
use Rattle.htl_refine.specs.Common.{Event, Stay, KeptApart, AreInRange}
use Rattle.htl_model.specs.{Frames.root_periods, Frames.begins, Meaning.state, Meaning.stay_of, Tables.Tables, Tables.mode_period}

-- every round that stands began with the last whole period of its module
abbrev pub OwnStarts : Type 0
OwnStarts = (t : Tables) (es : List Event) (n k : ℕ) (y : Stay) → AreInRange t → KeptApart t 12 → stay_of (state t es n).stays k ≡ Some y → y.start ≡ mode_period t y.mode * (n / mode_period t y.mode)

-- where a module is, it has been since its round began
abbrev pub StaysSince : Type 0
StaysSince = (t : Tables) (es : List Event) (n k : ℕ) (y : Stay) → AreInRange t → KeptApart t 12 → stay_of (state t es n).stays k ≡ Some y → stay_of (state t es y.start).stays k ≡ Some y

-- and it stays until the round is over
abbrev pub StaysUntil : Type 0
StaysUntil =
    (t : Tables) (es : List Event) (s d k : ℕ) (y : Stay) → AreInRange t → KeptApart t 12 → stay_of (state t es s).stays k ≡ Some y → s + d < y.start + mode_period t y.mode
    → stay_of (state t es (s + d)).stays k ≡ Some y

-- the round of some module ends at an instant
pub record RoundEnds (t : Tables) (stays : List (Option Stay)) (at : ℕ) : Type 0 where
  pub unit : ℕ
  pub stay : Stay
  pub is : stay_of stays unit ≡ Some stay
  pub ends : stay.start + mode_period t stay.mode ≡ at

-- where a round of a root module begins after the first instant, one ends: so there is something to do wherever a list begins
abbrev pub BeginningsEnd : Type 0
BeginningsEnd = (t : Tables) (es : List Event) (n : ℕ) → AreInRange t → KeptApart t 12 → begins (root_periods t) (suc n) ≡ true → RoundEnds t (state t es n).stays (suc n)
