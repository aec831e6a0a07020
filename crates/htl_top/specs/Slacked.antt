-- What `slack` answers of an accepted object.
use Rattle.std.specs.Prelude.{◌≡◌, ℕ, Bool, false, ◌&&◌, List, ◌++◌, length, slice_get, Option, Some, None, Ok, Err, codes, decimal}
use Rattle.htl_top.specs.{Common.append_known, Common.bytes_eq, Common.Rose, Common.AppendsPrefix, Common.Holdings, Common.Module, Common.instrs_of, Common.Schedule, Answers.Streams, Objects.IsOnFile, Words.Command, Words.Slack}
use Rattle.htl_console.specs.Listing.{all_lines, schedule_lines}
use Rattle.htl_edf.specs.{Greatest.with_worst, Greatest.IsGreatest, NodePlans.AreNodeLists}
use Rattle.htl_model.specs.{declared.parts.Task.Task as TaskOf, Frames.nodes, Tables.Tables, Tables.task_worst}
use Rattle.htl_slack.specs.{RootTasks.IsRootTask, RootTasks.limit_of, Slack.StandsAbove, declared.report.Above.Above}
use Rattle.htl_walk.specs.Feasible.{AreFeasible}
use Rattle.htl_open.specs.{Files.Files, Objects.IsAcceptedFile}
use Rattle.htl_top.specs.{Stops.Came, Stops.Ended, Stops.object_as, Stops.slack_as, declared.outcome.Outcome.Outcome, declared.stop.OnObject.OnObject, declared.stop.SlackStop.SlackStop}
use Rattle.htl_top.specs.declared.stop.SlackStop.TheVariants as slack

-- ---- the task

-- the task has this name, and its module that
pub record IsNamed (t : Tables) (owner name : List ℕ) (task : ℕ) : Type 0 where
  pub item : TaskOf
  pub at : slice_get t.tasks task ≡ Some item
  pub unit : Module
  pub owned : slice_get t.modules item.«module» ≡ Some unit
  pub by_unit : unit.name ≡ owner
  pub by_task : item.name ≡ name

-- and it is invoked in a root module
pub record IsRootNamed (t : Tables) (owner name : List ℕ) (task : ℕ) : Type 0 where
  pub named : IsNamed t owner name task
  pub root : IsRootTask t task

-- no task that is invoked in a root module has these names
abbrev pub NamesNoTask : Tables → List ℕ → List ℕ → Type 0
NamesNoTask t owner name = (task : ℕ) → IsRootNamed t owner name task → ⊥

-- ---- the text

-- `slack MODULE.TASK worst W greatest G`
abbrev pub slack_line : List ℕ → List ℕ → ℕ → ℕ → List ℕ
slack_line owner name worst g =
    codes "slack " ++ owner ++ codes "." ++ name ++ codes " worst " ++ decimal worst ++ codes " greatest " ++ decimal g ++ codes "\n"

-- `overload P from A to B demand D`
abbrev pub overload_line : Above → List ℕ
overload_line a =
    codes "overload " ++ decimal a.selection ++ codes " from " ++ decimal a.from ++ codes " to " ++ decimal a.to ++ codes " demand " ++ decimal a.demand
    ++ codes "\n"

-- that, or `limit period P`
abbrev pub above_line : ℕ → Option Above → List ℕ
above_line limit (Some a) = overload_line a
above_line limit None = codes "limit period " ++ decimal limit ++ codes "\n"

-- both lines, and a line for each instruction of the lists
abbrev pub slack_text : Tables → List ℕ → List ℕ → ℕ → ℕ → Option Above → List Schedule → List ℕ
slack_text t owner name task g above lists =
    slack_line owner name (task_worst t task) g ++ above_line (limit_of t task) above ++ all_lines schedule_lines lists

-- ---- the slack

-- The greatest worst case of a task up to the period of its module, what one tick more overloads, and the lists of earliest deadline first
-- for the greatest, which every path accepts.
pub record IsSlack (t : Tables) (task g : ℕ) (told : Option Above) (schedules : List Schedule) : Type 0 where
  pub greatest : IsGreatest t task (limit_of t task) g
  pub above : StandsAbove t task (limit_of t task) g told
  pub count : length schedules ≡ nodes t
  pub lists : AreNodeLists (with_worst t task g) (instrs_of schedules)
  pub accepted : AreFeasible (with_worst t task g) (instrs_of schedules)

-- The names are those of a task that is invoked in a root module, and the fact holds of the text of its slack.
pub record HasSlack (t : Tables) (owner name : List ℕ) (Fact : List ℕ → Type 0) : Type 0 where
  pub task : ℕ
  pub named : IsRootNamed t owner name task
  pub g : ℕ
  pub above : Option Above
  pub schedules : List Schedule
  pub slack : IsSlack t task g above schedules
  pub fact : Fact (slack_text t owner name task g above schedules)

-- ---- the answers

-- the text is written, or a prefix of it; or nothing, since no such task has the names or no memory was left
abbrev pub IsSlackTold : List ℕ → List ℕ → Tables → Option (List ℕ) → Option (List ℕ) → ℕ → ℕ → Ended SlackStop → Type 0
IsSlackTold owner name t old new before now (Ok done) = HasSlack t owner name (λ text. new ≡ append_known old text)
IsSlackTold owner name t old new before now (Err slack.Write) = Rose before now × HasSlack t owner name (λ text. AppendsPrefix old new text)
IsSlackTold owner name t old new before now (Err slack.Task) = NamesNoTask t owner name × (new ≡ old)
IsSlackTold owner name t old new before now (Err slack.Memory) = new ≡ old

-- The slack of a task of an accepted object was told; or none was had, and nothing was written.
abbrev pub IsSlackOnObject : List ℕ → List ℕ → Option (List ℕ) → Files → Option (List ℕ) → Option (List ℕ) → ℕ → ℕ → Ended (OnObject SlackStop) → Type 0
IsSlackOnObject owner name file shelf old new before now r = IsOnFile (λ o s. IsSlackTold owner name o.tables old new before now s) (new ≡ old) file shelf r

-- and nothing is read
abbrev pub IsSlackCall : List ℕ → List ℕ → Option (List ℕ) → Files → Streams → Streams → Outcome → Type 0
IsSlackCall owner name file shelf old new outcome =
    (new.rest ≡ old.rest) × Came (object_as slack_as) (IsSlackOnObject owner name file shelf old.written new.written old.write_faults new.write_faults) outcome

-- The command asks for the slack of a task of an accepted object, and no task that is invoked in a root module has the names.
abbrev pub IsTaskCause : Option Command → Option Holdings → Type 0
IsTaskCause (Some (Slack name owner task)) holds = IsAcceptedFile (Some name) holds (λ o. NamesNoTask o.tables owner task)
IsTaskCause _ holds = ⊥

-- ---- as the code finds the task

abbrev pub has_names : Tables → List ℕ → List ℕ → TaskOf → Bool
has_names t owner name x =
    elim (slice_get t.modules x.«module») [ Some u ↦ bytes_eq u.name owner && bytes_eq x.name name | None ↦ false ]
