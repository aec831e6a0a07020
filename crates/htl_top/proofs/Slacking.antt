-- The task of two names, and what `slack` answers.
use Rattle.std.proofs.Common.{◌≡◌, ◌≤◌, ◌<◌, ℕ, Bool, true, false, ◌&&◌, List, length, slice_get, Option, Some, None, Ok, Err, refl, sym, ap, ◌∙◌, subst, arith, inl, inr}
use Rattle.htl_top.proofs.Vocabulary.{append_known, AppendsPrefix, HasSlack, bytes_eq, and_parts, slice_get_within, bytes_eq-Decides, Rose, Module, TaskOf, Tables, Object, Files, Streams, IsBeforeRun, IsOrMemory, IsOnObject, IsObjectTables, SpeaksOf, IsNamed, IsRootNamed, NamesNoTask, has_names, IsSlackTold, Work, Outcome, Done, Task, Write}
use Rattle.htl_top.proofs.{ObjectAnswering.IsWork, ObjectAnswering.IsOfWork, Stops.SpeaksOf-object, Stops.answered}
use Rattle.htl_top.specs.{Slacked.IsSlackCall, Slacked.IsSlackOnObject, Stops.Came, Stops.Ended, Stops.ended_as, Stops.ended_tables, Stops.no_tables, Stops.object_as, Stops.object_tables, Stops.slack_as, declared.stop.OnObject.OnObject}
use Rattle.htl_top.specs.declared.stop.SlackStop.{SlackStop}
use Rattle.htl_top.specs.declared.stop.SlackStop.TheVariants as slack

-- ---- the names

abbrev names_in : List ℕ → List ℕ → TaskOf → Option Module → Bool
names_in owner name x o = elim o [ Some u ↦ bytes_eq u.name owner && bytes_eq x.name name | None ↦ false ]

pub found : (t : Tables) (owner name : List ℕ) (task : ℕ) (x : TaskOf) → slice_get t.tasks task ≡ Some x → has_names t owner name x ≡ true → IsNamed t owner name task
found t owner name task x at is = by (slice_get t.modules x.«module») refl is
  where
    by : (o : Option Module) → slice_get t.modules x.«module» ≡ o → names_in owner name x o ≡ true → IsNamed t owner name task
    by None e h = absurd (let no : false ≡ true = h in cc)
    by (Some u) e h =
        let both = and_parts (bytes_eq u.name owner) (bytes_eq x.name name) h in
        record { item = x; at = at; unit = u; owned = e; by_unit = (bytes_eq-Decides u.name owner).0 both.0; by_task = (bytes_eq-Decides x.name name).0 both.1 }

pub finding : (t : Tables) (owner name : List ℕ) (task : ℕ) (x : TaskOf) → slice_get t.tasks task ≡ Some x → IsNamed t owner name task → has_names t owner name x ≡ true
finding t owner name task x at is =
    let same : is.item ≡ x = let a = is.at in cc in
    let owned : slice_get t.modules x.«module» ≡ Some is.unit = subst (λ (y : TaskOf). slice_get t.modules y.«module» ≡ Some is.unit) same is.owned in
    let name_is : x.name ≡ name = subst (λ (y : TaskOf). y.name ≡ name) same is.by_task in
    ap (names_in owner name x) owned
    ∙ ap (λ (b : Bool). b && bytes_eq x.name name) ((bytes_eq-Decides is.unit.name owner).1 is.by_unit)
    ∙ (bytes_eq-Decides x.name name).1 name_is

-- ---- the search

-- the first k tasks don't have them
abbrev pub NoneBelow : Tables → List ℕ → List ℕ → ℕ → Type 0
NoneBelow t owner name k = (task : ℕ) → task < k → IsRootNamed t owner name task → ⊥

pub NoneBelow-all : (t : Tables) (owner name : List ℕ) (k : ℕ) → length t.tasks ≤ k → NoneBelow t owner name k → NamesNoTask t owner name
NoneBelow-all t owner name k all below task is = below task (omega (arith, all, slice_get_within t.tasks task is.named.item is.named.at)) is

-- ---- the answers

-- the slack of a task is told, and nothing is read
abbrev pub IsSlacked : List ℕ → List ℕ → Work
IsSlacked owner name o old new outcome =
    (new.rest ≡ old.rest) × Came slack_as (IsSlackTold owner name o.tables old.written new.written old.write_faults new.write_faults) outcome

module _ (owner name : List ℕ) (o : Object) (old new : Streams) where
  abbrev Told : Ended SlackStop → Type 0
  Told r = IsSlackTold owner name o.tables old.written new.written old.write_faults new.write_faults r

  work_by : (r : Ended SlackStop) → IsOfWork (ended_as slack_as r)
  work_by (Ok done) = tt
  work_by (Err slack.Task) = tt
  work_by (Err slack.Memory) = tt
  work_by (Err slack.Write) = tt

  unwritten_by : (r : Ended SlackStop) (outcome : Outcome) → outcome ≡ ended_as slack_as r → Told r → IsBeforeRun outcome → new.written ≡ old.written
  unwritten_by (Ok done) outcome is told early = absurd (subst IsBeforeRun is early)
  unwritten_by (Err slack.Task) outcome is told early = told.1
  unwritten_by (Err slack.Memory) outcome is told early = told
  unwritten_by (Err slack.Write) outcome is told early = absurd (subst IsBeforeRun is early)

  done_by : (r : Ended SlackStop) → Done ≡ ended_as slack_as r → Told r → HasSlack o.tables owner name (λ text. new.written ≡ append_known old.written text)
  done_by (Ok done) is told = told
  done_by (Err slack.Memory) is told = absurd (let p = is in cc)
  done_by _ is told = absurd (let p = is in cc)

  write_by : (r : Ended SlackStop) → Write ≡ ended_as slack_as r → Told r
      → Rose old.write_faults new.write_faults × HasSlack o.tables owner name (λ text. AppendsPrefix old.written new.written text)
  write_by (Err slack.Write) is told = told
  write_by _ is told = absurd (let p = is in cc)

  task_by : (r : Ended SlackStop) → Task ≡ ended_as slack_as r → Told r → NamesNoTask o.tables owner name
  task_by (Err slack.Task) is told = told.0
  task_by _ is told = absurd (let p = is in cc)

  complete_by : (r : Ended SlackStop) (outcome : Outcome) → outcome ≡ ended_as slack_as r → (task : ℕ) → IsRootNamed o.tables owner name task
      → (Rose old.write_faults new.write_faults → ⊥) → Told r → IsOrMemory outcome Done
  complete_by (Ok done) outcome is task named still told = inl is
  complete_by (Err slack.Task) outcome is task named still told = absurd (told.0 task named)
  complete_by (Err slack.Memory) outcome is task named still told = inr is
  complete_by (Err slack.Write) outcome is task named still told = absurd (still told.0)

  no_task_by : (r : Ended SlackStop) (outcome : Outcome) → outcome ≡ ended_as slack_as r → NamesNoTask o.tables owner name → Told r → IsOrMemory outcome Task
  no_task_by (Ok done) outcome is none told = absurd (none told.task told.named)
  no_task_by (Err slack.Task) outcome is none told = inl is
  no_task_by (Err slack.Memory) outcome is none told = inr is
  no_task_by (Err slack.Write) outcome is none told = absurd (none told.1.task told.1.named)

  pub whole : IsSlacked owner name o old new Done → HasSlack o.tables owner name (λ text. new.written ≡ append_known old.written text)
  whole d = done_by d.1.result d.1.is d.1.came

  pub part : IsSlacked owner name o old new Write → Rose old.write_faults new.write_faults × HasSlack o.tables owner name (λ text. AppendsPrefix old.written new.written text)
  part d = write_by d.1.result d.1.is d.1.came

  pub unknown : IsSlacked owner name o old new Task → NamesNoTask o.tables owner name
  unknown d = task_by d.1.result d.1.is d.1.came

  -- where a task has the names, its slack is written
  pub slack_done : (task : ℕ) (outcome : Outcome) → IsRootNamed o.tables owner name task → (Rose old.write_faults new.write_faults → ⊥)
      → IsSlacked owner name o old new outcome → IsOrMemory outcome Done
  slack_done task outcome named still d = complete_by d.1.result outcome d.1.is task named still d.1.came

  -- where none has, that is the answer
  pub no_task : (outcome : Outcome) → NamesNoTask o.tables owner name → IsSlacked owner name o old new outcome → IsOrMemory outcome Task
  no_task outcome none d = no_task_by d.1.result outcome d.1.is none d.1.came

pub slacking : (owner name : List ℕ) → IsWork (IsSlacked owner name)
slacking owner name = record {
  only = λ o old new outcome d. subst IsOfWork (sym d.1.is) (work_by owner name o old new d.1.result);
  unwritten = λ o old new outcome d early. unwritten_by owner name o old new d.1.result outcome d.1.is d.1.came early;
  unread = λ o old new d. d.0;
}

pub seen_slack : (owner name : List ℕ) (file : Option (List ℕ)) (shelf : Files) (old new : Streams) (outcome : Outcome) → IsSlackCall owner name file shelf old new outcome
    → IsOnObject (IsSlacked owner name) file shelf old new outcome
seen_slack owner name file shelf old new outcome call =
    answered SlackStop slack_as (λ o r. IsSlackTold owner name o.tables old.written new.written old.write_faults new.write_faults r) (new.written ≡ old.written) file shelf (IsSlacked owner name)
    old new outcome (λ kept. record { rest = call.0; written = kept }) (λ o came. (call.0, came)) call.1

slack_speaks : (Sources Objects : (Tables → Type 0) → Type 0) (stop : SlackStop) → SpeaksOf Sources Objects (slack_as stop) None
slack_speaks Sources Objects slack.Task = tt
slack_speaks Sources Objects slack.Memory = tt
slack_speaks Sources Objects slack.Write = tt

-- the line of an object that is refused has names of its tables
pub SpeaksOf-slack : (owner name : List ℕ) (Sources : (Tables → Type 0) → Type 0) (file : Option (List ℕ)) (shelf : Files) (old new : Streams) (r : Ended (OnObject SlackStop))
    (outcome : Outcome) (tables : Option Tables) → outcome ≡ ended_as (object_as slack_as) r → tables ≡ ended_tables (object_tables no_tables) r
    → IsSlackOnObject owner name file shelf old.written new.written old.write_faults new.write_faults r → SpeaksOf Sources (IsObjectTables file shelf.holds) outcome tables
SpeaksOf-slack owner name Sources file shelf old new =
    SpeaksOf-object SlackStop slack_as (λ o r. IsSlackTold owner name o.tables old.written new.written old.write_faults new.write_faults r) (new.written ≡ old.written) file shelf no_tables Sources
    (λ o stop d. slack_speaks Sources (IsObjectTables file shelf.holds) stop)
