-- What each command came to: its stops, as outcomes, and the tables that the line of each speaks of.
use Rattle.std.specs.Prelude.{◌≡◌, ◌+◌, Ok, Err}
use Rattle.htl_top.specs.{Common.MAX_SOURCE, Common.None, Common.Option, Common.Result, Common.Some, Common.Tables, declared.answer.Answer.Answer, declared.input.InputStop.InputStop, declared.outcome.Outcome.Outcome}
use Rattle.htl_compile.specs.declared.source_fault.SourceFault.TheVariants as source_fault
use Rattle.htl_compile.specs.declared.stop.SourceStop.{SourceStop}
use Rattle.htl_compile.specs.declared.stop.SourceStop.TheVariants as source
use Rattle.htl_edge.specs.declared.Failed.{Failed}
use Rattle.htl_open.specs.{declared.stop.FetchStop.FetchStop, declared.stop.OpenStop.OpenStop}
use Rattle.htl_open.specs.declared.stop.FetchStop.TheVariants as fetch
use Rattle.htl_open.specs.declared.stop.OpenStop.TheVariants as open_stop
use Rattle.htl_patch.specs.declared.fault.PatchStop.{PatchStop}
use Rattle.htl_patch.specs.declared.fault.PatchStop.TheVariants as patch
use Rattle.htl_top.specs.declared.input.InputStop.TheVariants as input
use Rattle.htl_top.specs.declared.outcome.Outcome.TheVariants.{Done, Source, IllFormed, Unschedulable, Object, Script, Shelf, Read, Write, Memory, Platform, Task, Log, Patch}
use Rattle.htl_top.specs.{declared.stop.AuditStop.AuditStop, declared.stop.CompileStop.CompileStop, declared.stop.DonorStop.DonorStop, declared.stop.GoStop.GoStop, declared.stop.OnObject.OnObject, declared.stop.PutStop.PutStop}
use Rattle.htl_top.specs.declared.stop.AuditStop.TheVariants as audit
use Rattle.htl_top.specs.declared.stop.CompileStop.TheVariants as compile
use Rattle.htl_top.specs.declared.stop.DonorStop.TheVariants as donor
use Rattle.htl_top.specs.declared.stop.GoStop.TheVariants as go
use Rattle.htl_top.specs.declared.stop.OnObject.TheVariants as on
use Rattle.htl_top.specs.{declared.stop.CompileWithStop.CompileWithStop, declared.stop.RunStop.RunStop, declared.stop.SlackStop.SlackStop}
use Rattle.htl_top.specs.declared.stop.CompileWithStop.TheVariants as compile_with
use Rattle.htl_top.specs.declared.stop.PutStop.TheVariants as put
use Rattle.htl_top.specs.declared.stop.RunStop.TheVariants as run
use Rattle.htl_top.specs.declared.stop.SlackStop.TheVariants as slack

-- ---- from what a command came to, to the outcome

-- what ends without a value: it was done, or this stopped it
abbrev pub Ended : Type 0 → Type 0
Ended A = Result (Unit {0}) A

-- what was done is Done, and a stop is its outcome
abbrev pub ended_as : {A : Type 0} → (A → Outcome) → Ended A → Outcome
ended_as of (Ok done) = Done
ended_as of (Err stop) = of stop

-- the tables that the line speaks of
abbrev pub ended_tables : {A : Type 0} → (A → Option Tables) → Ended A → Option Tables
ended_tables of (Ok done) = None
ended_tables of (Err stop) = of stop

-- the answer has this outcome, and its line speaks of these tables
pub record IsAnswerOf {A : Type 0} (of : A → Outcome) (told : A → Option Tables) (a : A) (answer : Answer) : Type 0 where
  pub outcome : answer.outcome ≡ of a
  pub tables : answer.tables ≡ told a

-- a command came to something of its own, and this is the outcome
pub record Came {A : Type 0} (of : A → Outcome) (Is : Ended A → Type 0) (outcome : Outcome) : Type 0 where
  pub result : Ended A
  pub is : outcome ≡ ended_as of result
  pub came : Is result

-- ---- stops, as outcomes

abbrev pub write_as : Failed → Outcome
write_as failed = Write

abbrev pub put_as : PutStop → Outcome
put_as put.Write = Write
put_as put.Memory = Memory

abbrev pub slack_as : SlackStop → Outcome
slack_as slack.Task = Task
slack_as slack.Memory = Memory
slack_as slack.Write = Write

abbrev pub run_as : RunStop → Outcome
run_as (run.Script fault) = Script fault
run_as run.Read = Read
run_as run.Write = Write
run_as run.Memory = Memory

abbrev pub audit_as : AuditStop → Outcome
audit_as (audit.Log fault) = Log fault
audit_as (audit.Run stop) = run_as stop

abbrev pub fetch_as : FetchStop → Outcome
fetch_as (fetch.Shelf why) = Shelf why
fetch_as fetch.Memory = Memory

abbrev pub open_as : OpenStop → Outcome
open_as (open_stop.Shelf why) = Shelf why
open_as (open_stop.Object fault tables) = Object fault
open_as open_stop.Memory = Memory

abbrev pub object_as : {A : Type 0} → (A → Outcome) → OnObject A → Outcome
object_as of (on.Open stop) = open_as stop
object_as of (on.Work stop) = of stop

abbrev pub patch_as : PatchStop → Outcome
patch_as (patch.Refused fault tables) = Patch fault
patch_as patch.Memory = Memory

abbrev pub donor_as : DonorStop → Outcome
donor_as (donor.Patch stop) = patch_as stop
donor_as (donor.Put stop) = put_as stop

abbrev pub source_as : SourceStop → Outcome
source_as (source.Fault fault) = Source fault
source_as (source.Platform fault) = Platform fault
source_as (source.IllFormed fault tables) = IllFormed fault
source_as (source.Unschedulable sel a b demand) = Unschedulable sel a b demand
source_as source.Memory = Memory

abbrev pub input_as : InputStop → Outcome
input_as input.TooLong = Source (source_fault.TooLong (MAX_SOURCE + 1))
input_as input.Read = Read
input_as input.Memory = Memory

abbrev pub compile_as : CompileStop → Outcome
compile_as (compile.Input stop) = input_as stop
compile_as (compile.Source stop) = source_as stop
compile_as compile.Write = Write

abbrev pub compile_with_as : CompileWithStop → Outcome
compile_with_as (compile_with.File stop) = fetch_as stop
compile_with_as (compile_with.Compile stop) = compile_as stop

abbrev pub go_as : GoStop → Outcome
go_as (go.File stop) = fetch_as stop
go_as (go.Source stop) = source_as stop
go_as (go.Run stop) = run_as stop

-- ---- the tables that their lines speak of

abbrev pub open_tables : OpenStop → Option Tables
open_tables (open_stop.Object fault tables) = tables
open_tables _ = None

abbrev pub object_tables : {A : Type 0} → (A → Option Tables) → OnObject A → Option Tables
object_tables of (on.Open stop) = open_tables stop
object_tables of (on.Work stop) = of stop

abbrev pub donor_tables : DonorStop → Option Tables
donor_tables (donor.Patch (patch.Refused fault tables)) = tables
donor_tables _ = None

abbrev pub source_tables : SourceStop → Option Tables
source_tables (source.IllFormed fault tables) = Some tables
source_tables _ = None

abbrev pub compile_tables : CompileStop → Option Tables
compile_tables (compile.Source stop) = source_tables stop
compile_tables _ = None

abbrev pub compile_with_tables : CompileWithStop → Option Tables
compile_with_tables (compile_with.Compile stop) = compile_tables stop
compile_with_tables _ = None

abbrev pub go_tables : GoStop → Option Tables
go_tables (go.Source stop) = source_tables stop
go_tables _ = None

-- of none
abbrev pub no_tables : {A : Type 0} → A → Option Tables
no_tables stop = None
