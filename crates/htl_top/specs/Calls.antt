-- What the top call answers, command by command.
use Rattle.std.specs.Prelude.{◌≡◌, Option, None, Some, List, ℕ}
use Rattle.htl_top.specs.{Common.Holdings, Common.Tables, Answers.Streams, Answers.IsUntouched, Answers.KeepsCounts, Audited.IsAudit, Bulk.IsBulked, Checked.check_text, Compiling.IsCompiling, CompilingOn.IsCompilingOn, Going.IsGoing}
use Rattle.htl_open.specs.{Files.Files, Objects.IsObjectTables}
use Rattle.htl_script.specs.Reading.{LosesFront}
use Rattle.htl_top.specs.{Objects.IsTextCall, PatchedFiles.IsPatching, PatchedFiles.IsPatchedTables, Planned.IsPlannedOnFile, Runs.IsRunOnFile, Shown.show_text, Slacked.IsSlackCall, Sources.IsTypedProgram, Sources.IsTypedInput}
use Rattle.htl_top.specs.{SourcesOn.IsTypedOn, Stops.Came, Stops.audit_as, Stops.compile_as, Stops.compile_with_as, Stops.donor_as, Stops.go_as, Stops.object_as, Stops.run_as, ErrorLines.SpeaksOf, declared.answer.Answer.Answer}
use Rattle.htl_top.specs.{Words.Command, Words.Go, Words.Compile, Words.CompileWith, Words.Run, Words.Check, Words.Plan, Words.Show, Words.Bulk, Words.Slack, Words.Audit, Words.Patch, Words.most_taken, declared.outcome.Outcome.Outcome}
use Rattle.htl_top.specs.declared.outcome.Outcome.TheVariants.{Usage}

-- no command: nothing was read and nothing written
abbrev pub IsCall : Option Command → Files → Streams → Streams → Outcome → Type 0
IsCall None shelf old new outcome = (outcome ≡ Usage) × IsUntouched old new
IsCall (Some (Go name)) shelf old new outcome = Came go_as (IsGoing (Some name) shelf old new) outcome
IsCall (Some Compile) shelf old new outcome = Came compile_as (IsCompiling old new) outcome
IsCall (Some (CompileWith platform)) shelf old new outcome = Came compile_with_as (IsCompilingOn (Some platform) shelf old new) outcome
IsCall (Some (Run show name)) shelf old new outcome = Came (object_as run_as) (IsRunOnFile show (Some name) shelf old new) outcome
IsCall (Some (Check name)) shelf old new outcome = IsTextCall (λ o. check_text o.tables) (Some name) shelf old new outcome
IsCall (Some (Plan name)) shelf old new outcome = Came (object_as run_as) (IsPlannedOnFile (Some name) shelf old new) outcome
IsCall (Some (Show name)) shelf old new outcome = IsTextCall show_text (Some name) shelf old new outcome
IsCall (Some (Bulk n)) shelf old new outcome = IsBulked n old new outcome
IsCall (Some (Slack name owner task)) shelf old new outcome = IsSlackCall owner task (Some name) shelf old new outcome
IsCall (Some (Audit name log)) shelf old new outcome = Came (object_as audit_as) (IsAudit name log shelf old new) outcome
IsCall (Some (Patch name unit mode donor)) shelf old new outcome = Came (object_as donor_as) (IsPatching unit mode (Some name) (Some donor) shelf old new) outcome

-- The source that a command compiles has tables whose functions are typed, and the fact holds of them, with the worst cases of the
-- platform where one is named; or the fact holds of the tables with a donor's refinement.
abbrev pub HasSource : Option Command → Option Holdings → Option (List ℕ) → (Tables → Type 0) → Type 0
HasSource (Some (Go name)) holds rest Fact = IsTypedProgram (Some name) holds Fact
HasSource (Some Compile) holds rest Fact = IsTypedInput rest Fact
HasSource (Some (CompileWith platform)) holds rest Fact = IsTypedOn (Some platform) holds rest Fact
HasSource (Some (Patch name unit mode donor)) holds rest Fact = IsPatchedTables name unit mode donor holds Fact
HasSource _ holds rest Fact = ⊥

-- The object that a command is about has tables of which the fact holds.
abbrev pub HasObject : Option Command → Option Holdings → (Tables → Type 0) → Type 0
HasObject (Some (Run show name)) holds Fact = IsObjectTables (Some name) holds Fact
HasObject (Some (Check name)) holds Fact = IsObjectTables (Some name) holds Fact
HasObject (Some (Plan name)) holds Fact = IsObjectTables (Some name) holds Fact
HasObject (Some (Show name)) holds Fact = IsObjectTables (Some name) holds Fact
HasObject (Some (Slack name owner task)) holds Fact = IsObjectTables (Some name) holds Fact
HasObject (Some (Audit name log)) holds Fact = IsObjectTables (Some name) holds Fact
HasObject (Some (Patch name unit mode donor)) holds Fact = IsObjectTables (Some name) holds Fact
HasObject _ holds Fact = ⊥

-- What a command answers, and the tables that its line speaks of; no more of the input than a front was taken, and the counts of faults
-- stand where they stood but for the answer.
pub record IsAnswered (command : Option Command) (shelf : Files) (old new : Streams) (answer : Answer) : Type 0 where
  pub call : IsCall command shelf old new answer.outcome
  pub tables : SpeaksOf (HasSource command shelf.holds old.rest) (HasObject command shelf.holds) answer.outcome answer.tables
  pub taken : LosesFront (most_taken command) old.rest new.rest
  pub counts : KeepsCounts shelf old new answer.outcome
