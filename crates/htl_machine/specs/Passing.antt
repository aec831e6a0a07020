-- The machine while it goes from instant to instant.
use Rattle.std.specs.Prelude.{◌≡◌, ◌≤◌, ℕ, List, Option}
use Rattle.htl_machine.specs.{Common.append_known, Common.Event, Common.IsAccepted, Calls.Seen, Calls.IsUpTo, Calls.IsSameRun, Calls.text_between, Quiet.AreQuiet}

-- all instants from `from` up to before `at` are done and written
pub record IsPassing (first now : Seen) (es : List Event) (from at : ℕ) (w0 w : Option (List ℕ)) (f0 f : ℕ) : Type 0 where
  pub before : IsUpTo now es at
  pub same : IsSameRun first now
  pub read : now.run_state.reading ≡ first.run_state.reading
  pub text : w ≡ append_known w0 (text_between first.object es first.show from at)
  pub kept : f ≡ f0

-- the same for every list of events that the machine followed at first
pub record ArePassing (first now : Seen) (from at : ℕ) (w0 w : Option (List ℕ)) (f0 f : ℕ) : Type 0 where
  pub passing : (es : List Event) → IsUpTo first es from → IsPassing first now es from at w0 w f0 f
  pub same : IsSameRun first now
  pub read : now.run_state.reading ≡ first.run_state.reading

-- the same from the reading, and from there up to before another instant nothing is due
pub record IsOnward (first now : Seen) (at due to : ℕ) (w0 w : Option (List ℕ)) (f0 f : ℕ) : Type 0 where
  pub done : ArePassing first now first.run_state.reading at w0 w f0 f
  pub begun : first.run_state.reading ≤ at
  pub within : at ≤ to
  pub order : at ≤ due
  pub quiet : AreQuiet now at due
  pub accepted : IsAccepted now.object
