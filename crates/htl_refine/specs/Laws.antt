-- The laws of refinement.
use Rattle.std.specs.Prelude.{◌≡◌, ◌<◌, ℕ, List, [], Option, length, get_or}
use Rattle.htl_refine.specs.{Common.Event, Common.FormFault, Common.AreInRange, Common.Tables, Common.SInstr, Common.IsSelection, ConcreteJobs.concrete_jobs, ConcreteJobs.IsOfSelection, Roots.selection_of}
use Rattle.htl_model.specs.{Broken.KeptTo, Broken.Formed, Broken.IsFirstBroken, Chosen.IsChosen, Chosen.chosen, Selections.selection_count}
use Rattle.htl_walk.specs.{Jobs.abstract_jobs, Laws.IsDominated, Refinement.Refines, Refinement.HaveLengths, Refinement.AreWithinWorst, Walk.ScheduleIsAccepted, Walk.Meets}
use Rattle.htl_refine.specs.Records.{AreTookWithin, round_at, modes_at}

-- keeping the rules up to 16 is keeping all
abbrev pub AllRules : Type 0
AllRules = (t : Tables) → (KeptTo t 16 → Formed t) × (Formed t → KeptTo t 16)

-- tables in range have one first fault at most
abbrev pub OneFirstFault : Type 0
OneFirstFault = (t : Tables) (f g : FormFault) → AreInRange t → IsFirstBroken t f → IsFirstBroken t g → f ≡ g

-- in tables that keep the rules the child that is followed first is the one that runs, so what is chosen stands for the invocation,
-- and nothing else does
abbrev pub ExactChoice : Type 0
ExactChoice = (t : Tables) (modes : List (Option ℕ)) (k : ℕ) → AreInRange t → KeptTo t 16 → IsChosen t modes k (chosen t modes k)

-- tables that keep the form rules, and a selection of running modes with the root modes of the root selection
pub record IsInherited (t : Tables) (sel : ℕ) (modes : List (Option ℕ)) : Type 0 where
  pub range : AreInRange t
  pub kept : KeptTo t 16
  pub selection : IsSelection t modes
  pub roots : IsOfSelection t sel modes

-- what stands at the positions refines the root invocations
abbrev pub Refinement : Type 0
Refinement = (t : Tables) (sel : ℕ) (modes : List (Option ℕ)) → IsInherited t sel modes → Refines (concrete_jobs t modes) (abstract_jobs t sel)

-- a schedule that is accepted for the root invocations serves what stands for them, with any lengths up to the worst cases
abbrev pub Inheritance : Type 0
Inheritance =
    (t : Tables) (sel : ℕ) (modes : List (Option ℕ)) (lengths : List ℕ) (s : List SInstr) (period : ℕ) → IsInherited t sel modes
    → HaveLengths (concrete_jobs t modes) lengths → AreWithinWorst (concrete_jobs t modes) lengths → ScheduleIsAccepted (abstract_jobs t sel) period s
    → IsDominated (concrete_jobs t modes) (abstract_jobs t sel) lengths s

-- the root selection in whose modes the root modules are: there is one, and no other
pub record IsRootSelection (t : Tables) (modes : List (Option ℕ)) (sel : ℕ) : Type 0 where
  pub below : sel < selection_count t
  pub roots : IsOfSelection t sel modes
  pub only : (other : ℕ) → other < selection_count t → IsOfSelection t other modes → other ≡ sel

abbrev pub OneRootSelection : Type 0
OneRootSelection = (t : Tables) (modes : List (Option ℕ)) → AreInRange t → 0 < length t.modules → IsSelection t modes → IsRootSelection t modes (selection_of t modes)

-- at each instant of a run the modes in which the modules are make a selection
abbrev pub StatesAreSelections : Type 0
StatesAreSelections = (t : Tables) (es : List Event) (now : ℕ) → AreInRange t → IsSelection t (modes_at t es now)

-- in each round the schedule that is accepted for the root invocations of its root selection meets, however long the jobs take within
-- their worst cases
abbrev pub RoundsMeet : Type 0
RoundsMeet =
    (t : Tables) (schedules : List (List SInstr)) (es : List Event) (start period : ℕ) → AreInRange t → KeptTo t 16 → AreTookWithin t es
    → ((sel : ℕ) → sel < selection_count t → ScheduleIsAccepted (abstract_jobs t sel) period (get_or schedules sel []))
    → let r = round_at t schedules es start in Meets r.jobs r.lengths r.schedule
