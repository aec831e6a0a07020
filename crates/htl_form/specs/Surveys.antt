-- What is counted once over the tables before their ends are judged.
use Rattle.std.specs.Prelude.{◌≡◌, ◌<◌, ℕ, Bool, false, List, get_or, slice_get, Some, None}
use Rattle.htl_model.specs.{declared.parts.Inv.Inv, PortWriters.port_writers, Tables.Tables}
use Rattle.htl_form.specs.{Apart.AreApart, Cycles.precedes_itself, PortFaults.first_port_writer, declared.survey.Survey.Survey}

-- the marks say of each invocation whether it precedes itself
abbrev pub AreCycleMarks : Tables → List Bool → Type 0
AreCycleMarks t marks = (k : ℕ) (i : Inv) → slice_get t.invs k ≡ Some i → get_or marks k false ≡ precedes_itself t k

-- The survey is that of these tables.
pub record IsSurveyOf (t : Tables) (survey : Survey) : Type 0 where
  -- how many outputs write each port
  pub writers : (p : ℕ) → p < 4096 → get_or survey.writers p 0 ≡ port_writers t p
  -- the first invocation that writes each port
  pub first_writers : (p : ℕ) → p < 4096 → get_or survey.first_writers p None ≡ first_port_writer t p
  -- which invocations precede themselves
  pub on_cycle : AreCycleMarks t survey.on_cycle
  -- some of the invocations that write nothing that an earlier concrete one writes
  pub apart : AreApart t survey.apart
