use Rattle.std.proofs.Common.{◌∙◌, None, Err}
use Rattle.htl_top.proofs.Vocabulary.{Option, Command, Some, refl, sym, ap, subst, check_text, show_text, files, streams, IsRun, IsPlanned, IsObjectTables, Shelf, Failed, Read, Write, asked_for, Asked}
use Rattle.htl_open.specs.declared.stop.FetchStop.TheVariants as fetch
use Rattle.htl_open.specs.declared.stop.OpenStop.TheVariants as open_stop
use Rattle.htl_top.proofs.{Answering.counted, Answering.usage_answered, Bulking.ended_put, Inputs.taken_none, Slacking.SpeaksOf-slack, Stops.SpeaksOf-object, Stops.unless, Telling.IsOfPut, Telling.SpeaksOf-text}
use Rattle.htl_top.proofs.ErrorLineNames.{SpeaksOf-audit, SpeaksOf-compile, SpeaksOf-compile-with, SpeaksOf-go, SpeaksOf-patch, SpeaksOf-put, SpeaksOf-run}
use Rattle.htl_top.specs.{Answers.IsUntouched, Calls.IsAnswered, declared.stop.RunStop.RunStop}
use Rattle.htl_top.specs.Stops.{audit_as, compile_as, compile_with_as, donor_as, go_as, no_tables, object_as, put_as, run_as, slack_as, write_as}
use Rattle.htl_top.specs.declared.input.InputStop.TheVariants as input
use Rattle.htl_top.specs.declared.stop.AuditStop.TheVariants as audit
use Rattle.htl_top.specs.declared.stop.CompileStop.TheVariants as compile
use Rattle.htl_top.specs.declared.stop.CompileWithStop.TheVariants as for_file
use Rattle.htl_top.specs.declared.stop.DonorStop.TheVariants as donor
use Rattle.htl_top.specs.declared.stop.GoStop.TheVariants as go
use Rattle.htl_top.specs.declared.stop.OnObject.TheVariants as on
use Rattle.htl_top.specs.declared.stop.PutStop.TheVariants as put
use Rattle.htl_top.specs.declared.stop.RunStop.TheVariants as run_stop
use Rattle.htl_top.specs.declared.stop.SlackStop.TheVariants as slack
use Rattle.htl_top.proofs.commands.answer_to.Goals as goal

pub returns-in_default-clause-answer : goal.returns-in_default-clause-answer
returns-in_default-clause-answer g c =
    let side = streams g.R.Source.rest g.R.Source.faults g.W.Sink.written g.W.Sink.faults in
    let shelf = files g.S.Shelf.holds g.S.Shelf.faults c.args.shelf.now c.args.shelf.now in
    let old = side c.args.input.now c.args.out.now in
    subst (λ (o : Option Command). IsAnswered o shelf old old c.plain.result) (sym c.in_default.ensures.command)
    (usage_answered shelf old c.plain.result c.plain.ensures.outcome (λ file. refl))

pub returns-in-Go-clause-answer : goal.returns-in-Go-clause-answer
returns-in-Go-clause-answer g c =
    let side = streams g.R.Source.rest g.R.Source.faults g.W.Sink.written g.W.Sink.faults in
    let shelf = files g.S.Shelf.holds g.S.Shelf.faults c.args.shelf.now c.go_file.new.shelf in
    let old = side c.args.input.now c.args.out.now in
    let new = side c.go_file.new.input c.go_file.new.out in
    let told = c.of_go in
    let did = c.go_file in
    subst (λ (o : Option Command). IsAnswered o shelf old new told.result) (sym (c.in-Some.ensures.command ∙ ap (λ (a : Asked). Some (asked_for a)) c.in-Go.is))
    (
    record {
      call = record { result = did.result; is = told.ensures.outcome; came = did.ensures.answer };
      tables = SpeaksOf-go (λ fact. ⊥) (Some c.in-Go.name.now) shelf old new did.result told.result.outcome told.result.tables told.ensures.outcome told.ensures.tables did.ensures.answer;
      taken = did.ensures.taken;
      counts =
          counted go_as (Err (go.File (fetch.Shelf Failed))) (Err (go.Run run_stop.Read)) (Err (go.Run run_stop.Write)) shelf old new did.result told.result.outcome
          told.ensures.outcome refl refl refl did.ensures.shelf_count did.ensures.read_count did.ensures.write_count;
    }
    )

pub returns-in-Compile-clause-answer : goal.returns-in-Compile-clause-answer
returns-in-Compile-clause-answer g c =
    let side = streams g.R.Source.rest g.R.Source.faults g.W.Sink.written g.W.Sink.faults in
    let shelf = files g.S.Shelf.holds g.S.Shelf.faults c.args.shelf.now c.args.shelf.now in
    let old = side c.args.input.now c.args.out.now in
    let new = side c.compile_input.new.input c.compile_input.new.out in
    let told = c.of_compile in
    let did = c.compile_input in
    subst (λ (o : Option Command). IsAnswered o shelf old new told.result) (sym (c.in-Some.ensures.command ∙ ap (λ (a : Asked). Some (asked_for a)) c.in-Compile.is))
    (
    record {
      call = record { result = did.result; is = told.ensures.outcome; came = did.ensures.answer };
      tables = SpeaksOf-compile (λ fact. ⊥) old new did.result told.result.outcome told.result.tables told.ensures.outcome told.ensures.tables did.ensures.answer;
      taken = did.ensures.taken;
      counts = record { files = λ apart file. refl; read = unless compile_as did.result (Err (compile.Input input.Read)) told.result.outcome Read told.ensures.outcome refl did.ensures.read_count; write = unless compile_as did.result (Err (compile.Write)) told.result.outcome Write told.ensures.outcome refl did.ensures.write_count };
    }
    )

pub returns-in-CompileWith-clause-answer : goal.returns-in-CompileWith-clause-answer
returns-in-CompileWith-clause-answer g c =
    let side = streams g.R.Source.rest g.R.Source.faults g.W.Sink.written g.W.Sink.faults in
    let shelf = files g.S.Shelf.holds g.S.Shelf.faults c.args.shelf.now c.compile_for_file.new.shelf in
    let old = side c.args.input.now c.args.out.now in
    let new = side c.compile_for_file.new.input c.compile_for_file.new.out in
    let told = c.of_compile_with in
    let did = c.compile_for_file in
    subst (λ (o : Option Command). IsAnswered o shelf old new told.result) (sym (c.in-Some.ensures.command ∙ ap (λ (a : Asked). Some (asked_for a)) c.in-CompileWith.is))
    (
    record {
      call = record { result = did.result; is = told.ensures.outcome; came = did.ensures.answer };
      tables = SpeaksOf-compile-with (λ fact. ⊥) (Some c.in-CompileWith.platform.now) shelf old new did.result told.result.outcome told.result.tables told.ensures.outcome told.ensures.tables did.ensures.answer;
      taken = did.ensures.taken;
      counts =
          counted compile_with_as (Err (for_file.File (fetch.Shelf Failed))) (Err (for_file.Compile (compile.Input input.Read))) (Err (for_file.Compile compile.Write)) shelf old new did.result told.result.outcome
          told.ensures.outcome refl refl refl did.ensures.shelf_count did.ensures.read_count did.ensures.write_count;
    }
    )

pub returns-in-Run-clause-answer : goal.returns-in-Run-clause-answer
returns-in-Run-clause-answer g c =
    let side = streams g.R.Source.rest g.R.Source.faults g.W.Sink.written g.W.Sink.faults in
    let shelf = files g.S.Shelf.holds g.S.Shelf.faults c.args.shelf.now c.run_file.new.shelf in
    let old = side c.args.input.now c.args.out.now in
    let new = side c.run_file.new.input c.run_file.new.out in
    let told = c.of_run in
    let did = c.run_file in
    subst (λ (o : Option Command). IsAnswered o shelf old new told.result) (sym (c.in-Some.ensures.command ∙ ap (λ (a : Asked). Some (asked_for a)) c.in-Run.is))
    (
    record {
      call = record { result = did.result; is = told.ensures.outcome; came = did.ensures.answer };
      tables = SpeaksOf-object RunStop run_as (λ o. IsRun c.in-Run.show o.tables o old new) (IsUntouched old new) (Some c.in-Run.name.now) shelf no_tables (λ fact. ⊥)
          (λ o s d. SpeaksOf-run (λ fact. ⊥) (IsObjectTables (Some c.in-Run.name.now) shelf.holds) s None) did.result told.result.outcome told.result.tables told.ensures.outcome told.ensures.tables did.ensures.answer;
      taken = did.ensures.taken;
      counts =
          counted (object_as run_as) (Err (on.Open (open_stop.Shelf Failed))) (Err (on.Work run_stop.Read)) (Err (on.Work run_stop.Write)) shelf old new did.result told.result.outcome
          told.ensures.outcome refl refl refl did.ensures.shelf_count did.ensures.read_count did.ensures.write_count;
    }
    )

pub returns-in-Check-clause-answer : goal.returns-in-Check-clause-answer
returns-in-Check-clause-answer g c =
    let side = streams g.R.Source.rest g.R.Source.faults g.W.Sink.written g.W.Sink.faults in
    let shelf = files g.S.Shelf.holds g.S.Shelf.faults c.args.shelf.now c.check_file.new.shelf in
    let old = side c.args.input.now c.args.out.now in
    let new = side c.args.input.now c.check_file.new.out in
    let told = c.of_text in
    let did = c.check_file in
    subst (λ (o : Option Command). IsAnswered o shelf old new told.result) (sym (c.in-Some.ensures.command ∙ ap (λ (a : Asked). Some (asked_for a)) c.in-Check.is))
    (
    record {
      call = (refl, record { result = did.result; is = told.ensures.outcome; came = did.ensures.answer });
      tables = SpeaksOf-text (λ o. check_text o.tables) (λ fact. ⊥) (Some c.in-Check.name.now) shelf old new did.result told.result.outcome told.result.tables told.ensures.outcome told.ensures.tables did.ensures.answer;
      taken = taken_none 0 old.rest;
      counts = record { files = unless (object_as write_as) did.result (Err (on.Open (open_stop.Shelf Failed))) told.result.outcome (Shelf Failed) told.ensures.outcome refl did.ensures.shelf_count; read = λ apart. refl; write = unless (object_as write_as) did.result (Err (on.Work (record {}))) told.result.outcome Write told.ensures.outcome refl did.ensures.write_count };
    }
    )

pub returns-in-Plan-clause-answer : goal.returns-in-Plan-clause-answer
returns-in-Plan-clause-answer g c =
    let side = streams g.R.Source.rest g.R.Source.faults g.W.Sink.written g.W.Sink.faults in
    let shelf = files g.S.Shelf.holds g.S.Shelf.faults c.args.shelf.now c.plan_file.new.shelf in
    let old = side c.args.input.now c.args.out.now in
    let new = side c.plan_file.new.input c.plan_file.new.out in
    let told = c.of_run-in-Plan in
    let did = c.plan_file in
    subst (λ (o : Option Command). IsAnswered o shelf old new told.result) (sym (c.in-Some.ensures.command ∙ ap (λ (a : Asked). Some (asked_for a)) c.in-Plan.is))
    (
    record {
      call = record { result = did.result; is = told.ensures.outcome; came = did.ensures.answer };
      tables = SpeaksOf-object RunStop run_as (λ o. IsPlanned o old new) (IsUntouched old new) (Some c.in-Plan.name.now) shelf no_tables (λ fact. ⊥)
          (λ o s d. SpeaksOf-run (λ fact. ⊥) (IsObjectTables (Some c.in-Plan.name.now) shelf.holds) s None) did.result told.result.outcome told.result.tables told.ensures.outcome told.ensures.tables did.ensures.answer;
      taken = did.ensures.taken;
      counts =
          counted (object_as run_as) (Err (on.Open (open_stop.Shelf Failed))) (Err (on.Work run_stop.Read)) (Err (on.Work run_stop.Write)) shelf old new did.result told.result.outcome
          told.ensures.outcome refl refl refl did.ensures.shelf_count did.ensures.read_count did.ensures.write_count;
    }
    )

pub returns-in-Show-clause-answer : goal.returns-in-Show-clause-answer
returns-in-Show-clause-answer g c =
    let side = streams g.R.Source.rest g.R.Source.faults g.W.Sink.written g.W.Sink.faults in
    let shelf = files g.S.Shelf.holds g.S.Shelf.faults c.args.shelf.now c.show_file.new.shelf in
    let old = side c.args.input.now c.args.out.now in
    let new = side c.args.input.now c.show_file.new.out in
    let told = c.of_text-in-Show in
    let did = c.show_file in
    subst (λ (o : Option Command). IsAnswered o shelf old new told.result) (sym (c.in-Some.ensures.command ∙ ap (λ (a : Asked). Some (asked_for a)) c.in-Show.is))
    (
    record {
      call = (refl, record { result = did.result; is = told.ensures.outcome; came = did.ensures.answer });
      tables = SpeaksOf-text show_text (λ fact. ⊥) (Some c.in-Show.name.now) shelf old new did.result told.result.outcome told.result.tables told.ensures.outcome told.ensures.tables did.ensures.answer;
      taken = taken_none 0 old.rest;
      counts = record { files = unless (object_as write_as) did.result (Err (on.Open (open_stop.Shelf Failed))) told.result.outcome (Shelf Failed) told.ensures.outcome refl did.ensures.shelf_count; read = λ apart. refl; write = unless (object_as write_as) did.result (Err (on.Work (record {}))) told.result.outcome Write told.ensures.outcome refl did.ensures.write_count };
    }
    )

pub returns-in-Bulk-clause-answer : goal.returns-in-Bulk-clause-answer
returns-in-Bulk-clause-answer g c =
    let side = streams g.R.Source.rest g.R.Source.faults g.W.Sink.written g.W.Sink.faults in
    let shelf = files g.S.Shelf.holds g.S.Shelf.faults c.args.shelf.now c.args.shelf.now in
    let old = side c.args.input.now c.args.out.now in
    let new = side c.args.input.now c.bulk.new.out in
    let told = c.of_put in
    let did = c.bulk in
    subst (λ (o : Option Command). IsAnswered o shelf old new told.result) (sym (c.in-Some.ensures.command ∙ ap (λ (a : Asked). Some (asked_for a)) c.in-Bulk.is))
    (
    record {
      call = (refl, record { result = did.result; is = told.ensures.outcome; came = did.ensures.answer });
      tables = SpeaksOf-put (λ fact. ⊥) (λ fact. ⊥) told.result.outcome told.result.tables (subst IsOfPut (sym told.ensures.outcome) (ended_put did.result));
      taken = taken_none 0 old.rest;
      counts = record { files = λ apart file. refl; read = λ apart. refl; write = unless put_as did.result (Err (put.Write)) told.result.outcome Write told.ensures.outcome refl did.ensures.write_count };
    }
    )

pub returns-in-Slack-clause-answer : goal.returns-in-Slack-clause-answer
returns-in-Slack-clause-answer g c =
    let side = streams g.R.Source.rest g.R.Source.faults g.W.Sink.written g.W.Sink.faults in
    let shelf = files g.S.Shelf.holds g.S.Shelf.faults c.args.shelf.now c.slack_file.new.shelf in
    let old = side c.args.input.now c.args.out.now in
    let new = side c.args.input.now c.slack_file.new.out in
    let told = c.of_slack in
    let did = c.slack_file in
    subst (λ (o : Option Command). IsAnswered o shelf old new told.result) (sym (c.in-Some.ensures.command ∙ ap (λ (a : Asked). Some (asked_for a)) c.in-Slack.is))
    (
    record {
      call = (refl, record { result = did.result; is = told.ensures.outcome; came = did.ensures.answer });
      tables = SpeaksOf-slack c.in-Slack.owner c.in-Slack.task (λ fact. ⊥) (Some c.in-Slack.name.now) shelf old new did.result told.result.outcome told.result.tables told.ensures.outcome told.ensures.tables did.ensures.answer;
      taken = taken_none 0 old.rest;
      counts = record { files = unless (object_as slack_as) did.result (Err (on.Open (open_stop.Shelf Failed))) told.result.outcome (Shelf Failed) told.ensures.outcome refl did.ensures.shelf_count; read = λ apart. refl; write = unless (object_as slack_as) did.result (Err (on.Work slack.Write)) told.result.outcome Write told.ensures.outcome refl did.ensures.write_count };
    }
    )

pub returns-in-Audit-clause-answer : goal.returns-in-Audit-clause-answer
returns-in-Audit-clause-answer g c =
    let side = streams g.R.Source.rest g.R.Source.faults g.W.Sink.written g.W.Sink.faults in
    let shelf = files g.S.Shelf.holds g.S.Shelf.faults c.args.shelf.now c.audit_file.new.shelf in
    let old = side c.args.input.now c.args.out.now in
    let new = side c.audit_file.new.input c.audit_file.new.out in
    let told = c.of_audit in
    let did = c.audit_file in
    subst (λ (o : Option Command). IsAnswered o shelf old new told.result) (sym (c.in-Some.ensures.command ∙ ap (λ (a : Asked). Some (asked_for a)) c.in-Audit.is))
    (
    record {
      call = record { result = did.result; is = told.ensures.outcome; came = did.ensures.answer };
      tables = SpeaksOf-audit (λ fact. ⊥) c.in-Audit.name.now c.in-Audit.log.now shelf old new did.result told.result.outcome told.result.tables told.ensures.outcome told.ensures.tables did.ensures.answer;
      taken = did.ensures.taken;
      counts =
          counted (object_as audit_as) (Err (on.Open (open_stop.Shelf Failed))) (Err (on.Work (audit.Run run_stop.Read))) (Err (on.Work (audit.Run run_stop.Write))) shelf old new did.result told.result.outcome
          told.ensures.outcome refl refl refl did.ensures.shelf_count did.ensures.read_count did.ensures.write_count;
    }
    )

pub returns-in-Patch-clause-answer : goal.returns-in-Patch-clause-answer
returns-in-Patch-clause-answer g c =
    let side = streams g.R.Source.rest g.R.Source.faults g.W.Sink.written g.W.Sink.faults in
    let shelf = files g.S.Shelf.holds g.S.Shelf.faults c.args.shelf.now c.patch_file.new.shelf in
    let old = side c.args.input.now c.args.out.now in
    let new = side c.args.input.now c.patch_file.new.out in
    let told = c.of_patch in
    let did = c.patch_file in
    subst (λ (o : Option Command). IsAnswered o shelf old new told.result) (sym (c.in-Some.ensures.command ∙ ap (λ (a : Asked). Some (asked_for a)) c.in-Patch.is))
    (
    record {
      call = record { result = did.result; is = told.ensures.outcome; came = (refl, did.ensures.answer) };
      tables = SpeaksOf-patch c.in-Patch.name.now c.in-Patch.unit c.in-Patch.mode c.in-Patch.donor.now shelf old.written new.written old.write_faults new.write_faults did.result told.result.outcome told.result.tables told.ensures.outcome told.ensures.tables did.ensures.answer;
      taken = taken_none 0 old.rest;
      counts = record { files = unless (object_as donor_as) did.result (Err (on.Open (open_stop.Shelf Failed))) told.result.outcome (Shelf Failed) told.ensures.outcome refl did.ensures.shelf_count; read = λ apart. refl; write = unless (object_as donor_as) did.result (Err (on.Work (donor.Put put.Write))) told.result.outcome Write told.ensures.outcome refl did.ensures.write_count };
    }
    )
