-- What `plan` answers of an accepted object.
use Rattle.std.specs.Prelude.{ℕ, ◌≡◌, List, Option, Ok, Err}
use Rattle.htl_top.specs.{Common.append_known, Common.Rose, Common.AppendsPrefix, Common.none_left, Common.Tables, Common.Object, Common.OfScript, Common.ScriptFault, Answers.Streams, Answers.IsUntouched, Objects.IsOnFile, Stops.Ended}
use Rattle.htl_model.specs.Selected.{IsSelection}
use Rattle.htl_open.specs.Files.{Files}
use Rattle.htl_top.specs.{declared.stop.OnObject.OnObject, declared.stop.RunStop.RunStop}
use Rattle.htl_plan.specs.{Plans.plan_text, SelectionInput.Whole, SelectionInput.Bad, SelectionInput.input_of}
use Rattle.htl_top.specs.declared.stop.RunStop.TheVariants.{Script, Read, Write, Memory}

-- The input says this selection of running modes: it is some bytes that do, and where it tells what it has left, it is that.
pub record IsSelected (t : Tables) (rest : Option (List ℕ)) (modes : List (Option ℕ)) : Type 0 where
  pub told : OfScript rest (λ bytes. input_of t bytes ≡ Whole modes)
  pub selection : IsSelection t modes

-- The input had a whole selection, which was read to its end, and the plan of it was written.
pub record IsWholePlan (o : Object) (rest left old new : Option (List ℕ)) : Type 0 where
  pub modes : List (Option ℕ)
  pub selected : IsSelected o.tables rest modes
  pub read : left ≡ none_left rest
  pub written : new ≡ append_known old (plan_text o.tables o.schedules modes)

-- The input had a whole selection, and a prefix of the plan of it was written.
pub record IsCutPlan (o : Object) (rest old new : Option (List ℕ)) : Type 0 where
  pub modes : List (Option ℕ)
  pub selected : IsSelected o.tables rest modes
  pub written : AppendsPrefix old new (plan_text o.tables o.schedules modes)

-- This is the first fault of the input.
abbrev pub IsBadSelection : Object → Option (List ℕ) → ScriptFault → Type 0
IsBadSelection o rest f = OfScript rest (λ bytes. input_of o.tables bytes ≡ Bad f.line f.kind)

-- the selection is read, and its plan is written
abbrev pub IsPlanned : Object → Streams → Streams → Ended RunStop → Type 0
IsPlanned o old new (Ok done) = IsWholePlan o old.rest new.rest old.written new.written
IsPlanned o old new (Err (Script f)) = IsBadSelection o old.rest f × (new.written ≡ old.written)
IsPlanned o old new (Err Read) = Rose old.read_faults new.read_faults × (new.written ≡ old.written)
IsPlanned o old new (Err Write) = Rose old.write_faults new.write_faults × IsCutPlan o old.rest old.written new.written
IsPlanned o old new (Err Memory) = IsUntouched old new

-- An accepted object was had, and planned; or none was had, nothing was read and nothing written.
abbrev pub IsPlannedOnFile : Option (List ℕ) → Files → Streams → Streams → Ended (OnObject RunStop) → Type 0
IsPlannedOnFile name shelf old new r = IsOnFile (λ o. IsPlanned o old new) (IsUntouched old new) name shelf r
