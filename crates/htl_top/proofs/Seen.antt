-- What a command answered, as its proofs see it: by what was done, and by the answer.
use Rattle.std.proofs.Common.{◌≡◌, Option, None, Some}
use Rattle.htl_top.proofs.Vocabulary.{check_text, show_text, Files, Streams, IsBulked, IsCall, IsGoing, IsOnObject, Object, Work, Command, Go, Compile, CompileWith, Run, Check, Plan, Show, Bulk, Slack, Audit, Patch, Outcome, Usage}
use Rattle.htl_top.proofs.{Slacking.IsSlacked, Slacking.seen_slack, Auditing.AuditAs, Auditing.seen_audit, Compiling.CompilingAs, Compiling.seen_compile, CompilingOn.CompilingOnAs, CompilingOn.seen_compile_with}
use Rattle.htl_top.proofs.{Patching.PatchingAs, Patching.seen_patch, Telling.TextOf, Telling.seen_text, Planning.PlanOf, Planning.plan_answered, Running.RunOf, Running.run_answered}
use Rattle.htl_top.specs.{Answers.IsUntouched, Stops.Came, Stops.go_as}

abbrev pub IsChecked : Work
IsChecked = TextOf (λ (o : Object). check_text o.tables)

abbrev pub IsShown : Work
IsShown = TextOf show_text

abbrev pub IsSeen : Option Command → Files → Streams → Streams → Outcome → Type 0
IsSeen None shelf old new outcome = (outcome ≡ Usage) × IsUntouched old new
IsSeen (Some (Go name)) shelf old new outcome = Came go_as (IsGoing (Some name) shelf old new) outcome
IsSeen (Some Compile) shelf old new outcome = CompilingAs old new outcome
IsSeen (Some (CompileWith platform)) shelf old new outcome = CompilingOnAs (Some platform) shelf old new outcome
IsSeen (Some (Run show name)) shelf old new outcome = IsOnObject (RunOf show) (Some name) shelf old new outcome
IsSeen (Some (Check name)) shelf old new outcome = IsOnObject IsChecked (Some name) shelf old new outcome
IsSeen (Some (Plan name)) shelf old new outcome = IsOnObject PlanOf (Some name) shelf old new outcome
IsSeen (Some (Show name)) shelf old new outcome = IsOnObject IsShown (Some name) shelf old new outcome
IsSeen (Some (Bulk n)) shelf old new outcome = IsBulked n old new outcome
IsSeen (Some (Slack name owner task)) shelf old new outcome = IsOnObject (IsSlacked owner task) (Some name) shelf old new outcome
IsSeen (Some (Audit name log)) shelf old new outcome = AuditAs name log shelf old new outcome
IsSeen (Some (Patch name unit mode donor)) shelf old new outcome = PatchingAs unit mode (Some name) (Some donor) shelf old new outcome

pub seen : (command : Option Command) (shelf : Files) (old new : Streams) (outcome : Outcome) → IsCall command shelf old new outcome → IsSeen command shelf old new outcome
seen None shelf old new outcome call = call
seen (Some (Go name)) shelf old new outcome call = call
seen (Some Compile) shelf old new outcome call = seen_compile old new outcome call
seen (Some (CompileWith platform)) shelf old new outcome call = seen_compile_with (Some platform) shelf old new outcome call
seen (Some (Run show name)) shelf old new outcome call = run_answered show (Some name) shelf old new outcome call
seen (Some (Check name)) shelf old new outcome call = seen_text (λ o. check_text o.tables) (Some name) shelf old new outcome call
seen (Some (Plan name)) shelf old new outcome call = plan_answered (Some name) shelf old new outcome call
seen (Some (Show name)) shelf old new outcome call = seen_text show_text (Some name) shelf old new outcome call
seen (Some (Bulk n)) shelf old new outcome call = call
seen (Some (Slack name owner task)) shelf old new outcome call = seen_slack owner task (Some name) shelf old new outcome call
seen (Some (Audit name log)) shelf old new outcome call = seen_audit name log shelf old new outcome call
seen (Some (Patch name unit mode donor)) shelf old new outcome call = seen_patch unit mode (Some name) (Some donor) shelf old new outcome call
