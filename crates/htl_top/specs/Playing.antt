-- The events of a script, as a machine is told them one by one.
use Rattle.std.specs.Prelude.{ℕ, suc, ◌≡◌, ◌≤◌, false, List, [], ◌∷◌, ◌++◌, Option, None, Some}
use Rattle.htl_top.specs.{Common.append_known, Common.MAX_INSTANT, Common.Shown, Common.Tables, Common.Event, Common.Object, Common.past_of, Common.script_of, Texts.text_before_fault}
use Rattle.htl_machine.specs.Calls.{Seen, Follows, IsFinished, IsSensorValue, IsLength, IsSameRun, text_between}
use Rattle.htl_runs.specs.events.ToldSoFar.{reading_of}
use Rattle.htl_model.specs.declared.event.Event.TheVariants as event
use Rattle.htl_script.specs.{Events.AreEvents, Reading.behind, Streaming.Ahead, Streaming.Gives, Streaming.still}

-- what a machine may be told next, whose last reading is this
abbrev pub IsNext : Tables → ℕ → Event → Type 0
IsNext t reading (event.At to) = (reading ≤ to) × (to ≤ MAX_INSTANT)
IsNext t reading (event.Sense c x) = IsSensorValue t c x
IsNext t reading (event.Took i n) = IsLength t i n
IsNext t reading (event.End to) = (reading ≤ to) × (to ≤ MAX_INSTANT)

-- what is written then
abbrev pub text_more : Object → Shown → List Event → Event → List ℕ
text_more o show told (event.At to) = text_between o told show (reading_of 0 told) to
text_more o show told (event.End to) = text_between o told show (reading_of 0 told) (suc to)
text_more o show told _ = []

-- the machine behind an event: it follows one more, or it is finished
abbrev pub IsBehind : Seen → List Event → Event → Type 0
IsBehind m told (event.At to) = Follows m (told ++ event.At to ∷ [])
IsBehind m told (event.Sense c x) = Follows m (told ++ event.Sense c x ∷ [])
IsBehind m told (event.Took i n) = Follows m (told ++ event.Took i n ∷ [])
IsBehind m told (event.End to) = IsFinished m told to

-- none of the events is an end
abbrev pub HaveNoEnd : List Event → Type 0
HaveNoEnd [] = Unit {0}
HaveNoEnd (event.At to ∷ es) = HaveNoEnd es
HaveNoEnd (event.Sense c x ∷ es) = HaveNoEnd es
HaveNoEnd (event.Took i n ∷ es) = HaveNoEnd es
HaveNoEnd (event.End to ∷ es) = ⊥

-- ---- a run as it goes

-- the machine behind the events told: it follows them, or it is finished where the last is the end
abbrev pub IsTold : Seen → List Event → Option ℕ → Type 0
IsTold m told None = HaveNoEnd told × Follows m told
IsTold m told (Some end) = (front : List Event) × (told ≡ front ++ event.End end ∷ []) × IsFinished m front end

-- These events were read and told, all lines of the instants past by then are written, and what is still to come of the script stands
-- behind them.
pub record IsPlaying (t : Tables) (first now : Seen) (a : Ahead) (known rest old new : Option (List ℕ)) : Type 0 where
  pub told : List Event
  pub are : AreEvents t None told
  pub past : a.here.past ≡ past_of told
  pub machine : IsTold now told (past_of told).end
  pub same : IsSameRun first now
  pub text : new ≡ append_known old (text_before_fault first.object first.show told)
  pub script : Gives false a.ahead.over known rest (λ bytes later. script_of t bytes ≡ behind told (still t a later))
