-- The readings on which the generated program is run.
use Rattle.std.specs.Prelude.{ℕ, ◌*◌, List, [], ◌∷◌, ◌++◌, pos}
use Rattle.htl_model.specs.{Lists.up_to, declared.event.Event.Event}
use Rattle.htl_model.specs.declared.event.Event.TheVariants as event

-- the clock comes to the start of a round, and the sensor, which is the first communicator, shows the round's number
abbrev pub round_readings : ℕ → List Event
round_readings r = event.At (1000 * r) ∷ event.Sense 0 (pos r) ∷ []

-- the readings of so many rounds
abbrev pub readings_of : ℕ → List Event
readings_of rounds = up_to round_readings rounds

-- and the end, with the last of these rounds
abbrev pub bulk_events : ℕ → List Event
bulk_events rounds = readings_of rounds ++ event.End (1000 * rounds) ∷ []
