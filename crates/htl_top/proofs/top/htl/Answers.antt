use Rattle.std.proofs.Common.{◌≡◌, Option, Some}
use Rattle.htl_top.proofs.AuditRows as audits
use Rattle.htl_top.proofs.Calling as calling
use Rattle.htl_top.proofs.{Counts.kept_done, Seen.IsSeen, Seen.seen}
use Rattle.htl_top.proofs.ErrorLineNames as line_names
use Rattle.htl_top.proofs.ObjectRows as objects
use Rattle.htl_top.proofs.SourceRows as sources
use Rattle.htl_top.proofs.Vocabulary.{subst, files, streams, Tells, command_in, Command, Go, Compile, CompileWith, Run, Check, Plan, Show, Bulk, Slack, Audit, Patch, Outcome, Memory}
use Rattle.htl_compile.specs.declared.compiling.CompileFault.TheVariants as compile
use Rattle.htl_top.proofs.top.htl.Goals as goal

pub returns : goal.returns
returns g c =
    let command = command_in c.args.words.now in
    let shelf = files g.S.Shelf.holds g.S.Shelf.faults c.args.shelf.now c.answer_to-answer.new.shelf in
    let side = streams g.R.Source.rest g.R.Source.faults g.W.Sink.written g.W.Sink.faults in
    let old = side c.args.input.now c.args.out.now in
    let new = side c.answer_to-answer.new.input c.answer_to-answer.new.out in
    let outcome = c.answer_to-answer.result.outcome in
    let answer = seen command shelf old new outcome c.answer_to-answer.ensures.answer.call in
    let Answered : Outcome → Type 0 = λ o. IsSeen command shelf old new o in
    let of : (asked : Command) → command ≡ Some asked → IsSeen (Some asked) shelf old new outcome = λ asked is. subst (λ (c : Option Command). IsSeen c shelf old new outcome) is answer in
    record {
      usage = calling.usage shelf old new command outcome answer;
      done = λ name is. sources.go_done shelf old new outcome name (of (Go name) is);
      go = λ name is. sources.go_rows shelf old new outcome name (of (Go name) is);
      compile = λ is. sources.compile_rows shelf old new outcome (of Compile is);
      compile_with = λ platform is. sources.compile_with_rows shelf old new outcome platform (of (CompileWith platform) is);
      run = λ show name is. objects.run_rows shelf old new outcome name show (of (Run show name) is);
      check = λ name is. objects.check_rows shelf old new outcome name (of (Check name) is);
      show = λ name is. objects.show_rows shelf old new outcome name (of (Show name) is);
      plan = λ name is. objects.plan_rows shelf old new outcome name (of (Plan name) is);
      slack = λ name owner task is. objects.slack_rows shelf old new outcome name owner task (of (Slack name owner task) is);
      audit = λ name log is. audits.audit_rows shelf old new outcome name log (of (Audit name log) is);
      patch = λ name unit mode donor is. objects.patch_rows shelf old new outcome name unit mode donor (of (Patch name unit mode donor) is);
      bulk = λ n is. sources.bulk_rows shelf old new outcome n (of (Bulk n) is);
      causes = record {
        shelf_failed = λ e. calling.shelf_failed shelf old new command (subst Answered e answer);
        shelf_long = λ seen e. calling.shelf_long shelf old new command seen (subst Answered e answer);
        source = λ fault e. calling.cause shelf old new command (compile.Source fault) (λ m. cc) (subst Answered e answer);
        ill_formed = λ fault e. calling.cause shelf old new command (compile.IllFormed fault) (λ m. cc) (subst Answered e answer);
        unschedulable = λ sel a b demand e. calling.cause shelf old new command (compile.Unschedulable sel a b demand) (λ m. cc) (subst Answered e answer);
        platform = λ fault e. calling.platform shelf old new command fault (subst Answered e answer);
        task = λ e. objects.task_cause shelf old new command (subst Answered e answer);
        log = λ fault e. audits.log_cause shelf old new command fault (subst Answered e answer);
        patch = λ fault e. objects.patch_cause shelf old new command fault (subst Answered e answer);
      };
      object = record {
        refused = λ fault e. calling.object shelf old new command fault (subst Answered e answer);
        long = λ bytes given. objects.long_object shelf old new command bytes outcome given answer;
        faulty = λ bytes given. objects.faulty_object shelf old new command bytes outcome given answer;
      };
      memory = record {
        written = λ e. calling.unwritten shelf old new command Memory (subst Answered e answer) tt;
        read = λ runs e. calling.memory_unread shelf old new command (subst Answered e answer) runs;
        unwritten = calling.unwritten shelf old new command outcome answer;
        unread = calling.unread shelf old new command outcome answer;
        unfetched = calling.unfetched shelf old new command outcome answer;
      };
      taken = c.answer_to-answer.ensures.answer.taken;
      shelf = c.answer_to-answer.ensures.shelf;
      counts = c.answer_to-answer.ensures.answer.counts;
      kept = λ e. kept_done shelf old new outcome e c.answer_to-answer.ensures.answer.counts;
      told = record {
        line =
            line_names.IsLineTold-report command shelf.holds old.rest
            (Tells (g.E.Sink.written c.args.err.now) (g.E.Sink.written c.report.new.err) (g.E.Sink.faults c.args.err.now) (g.E.Sink.faults c.report.new.err))
            c.answer_to-answer.result.tables outcome c.answer_to-answer.ensures.answer.tables (rw c.as_ref.ensures.value at c.report.ensures.told);
        quiet = c.report.ensures.quiet;
      };
      answer = c.answer_to-answer.ensures.answer.call;
    }
