-- The words that several proofs cite, of this crate and of those below it, passed on from one place. Declares nothing.
pub use Rattle.htl_audit.proofs.{FaultLaws.first_fault_found, FaultLaws.legal_without_fault, FaultLaws.one_first_fault, Growing.rounds_same}
pub use Rattle.htl_audit.proofs.Words.{AreTookWithin, BeginningJobs, Follows, IsAudited, IsFinished, IsFirstFault, IsFirstFaultIn, IsLegal, KeptApart, Left, Puts, Puts-failed, Puts-second, RunningList, Seen, accepted_is_loaded, all_rounds, all_zero, and_parts, any_job, append-nil, append_assoc, append_known, append_known-start, before, before_of, begins_at, begun_before, capped, e_done, eq-eqb, filter, frame_at, history_local, hyper, in_frame, inl, inv_of_mode, is_free, is_over, job_lines_to, jobs_are_found, joined, later_leave, left_in, legs_of, length-append, lies_in, line_fault, lines_of, lists_at, lists_from, lists_of, log_of, nat_tests, ne_eqb, new_records_by, newest, old_records_by, reading_more, reading_of, records, rounds_before, run_shows, schedules_of, sense, slice_get, slice_is_out_of_order, state, text_between, text_of, took, up_to, up_to_more, up_to_none}
pub use Rattle.htl_audit.specs.{Logs.Log as LogOf, Logs.Read as ReadLog, Logs.Refused as RefusedLog, declared.slice.LogFault.LogFault, declared.slice.LogKind.LogKind, declared.slice.Slice.Slice}
pub use Rattle.htl_base.specs.{declared.Ty.Ty, declared.limits.TheConstants.MAX_OBJECT, declared.limits.TheConstants.MAX_SOURCE}
pub use Rattle.htl_bulk.proofs.Generated.{sensor_comm, source_fits}
pub use Rattle.htl_bulk.specs.{BulkEvents.bulk_events, BulkEvents.readings_of, BulkEvents.round_readings, BulkTree.bulk_bytes, BulkTree.bulk_sensor}
pub use Rattle.htl_compile.proofs.{BuiltLaws.built_accepted, CodedLaws.coded_runs, Completeness.compile_only_memory, Completeness.one_compile_fault, GeneratedTables.bulk_has_tables, OnPlatform.one_with_fault, OnPlatform.only_memory}
pub use Rattle.htl_compile.proofs.SourceLaws.{tables_unique}
pub use Rattle.htl_compile.proofs.Words.{AreInRange, AreSchedulable, AreTyped, CanBuild, Each, Expr, Formed, IsAccepted, IsCompileFault, IsCompiledOn, IsCompiledTo, IsObject, IsTablesOf, IsWithFault, Placed, PlainMode, PlainModule, PlainOut, PlainProgram, PlainSwitch, PlainTask, Put, Tables, ap, built, cases_lt, choices, choices_some, coded, codes, decimal, div-mul-add, each_at, each_flat_map, each_flat_map_at, each_weaker, flat_map, frame_limit, frame_of, instrs_of, invs_of, layout, length, length-list_to, length-map, map-append, modes_of, module_at, modules_at, multiple_of, node, object_bytes, path_places, paths, platform_of, pos, ready, refl, root_modules, rounds, rounds_at, rounds_have, slice_get-get_or, slice_get_within, starts, starts_below, subst, sym, task_worst, tokens-spellable, tokens_numbered, unit_period, with_worst}
pub use Rattle.htl_compile.specs.{Stops.HasTypedOn, Stops.HasTypedTables, Stops.IsNotCompiled, Stops.IsNotCompiledOn, declared.compiling.CompileFault.CompileFault, declared.compiling_on.WithFault.WithFault}
pub use Rattle.htl_compile.specs.declared.stop.SourceStop.{SourceStop}
pub use Rattle.htl_console.specs.{declared.shown.Shown.Shown, declared.shown.Shown.TheVariants.Jobs, declared.shown.Shown.TheVariants.Nothing, declared.shown.Shown.TheVariants.Values}
pub use Rattle.htl_ecode.specs.declared.ecode.ECode.{ECode}
pub use Rattle.htl_edf.proofs.NodeLists.{nodes_refused}
pub use Rattle.htl_edge.proofs.Puts.{AppendsPrefix-more}
pub use Rattle.htl_edge.specs.{Causes.Rose, Content.AppendsPrefix, Holdings.Holdings, Holdings.HoldsUnder}
pub use Rattle.htl_load.proofs.{OneAnswer.accepted_bytes, OneAnswer.bad_field_told, OneAnswer.fault_told, OneAnswer.one_bad_field, Words.HasBytes, Words.RefusesBytes, Words.RefusesObject, Words.first_bad, Words.object_in, Words.whole_at}
pub use Rattle.htl_load.specs.{Loading.IsLoadedAs, declared.fault.LoadFault.LoadFault, declared.fault.ObjectFault.ObjectFault}
pub use Rattle.htl_machine.proofs.Words.{IsSameRun, IsSensorValue, places_from, slice_get_past, slice_get_read}
pub use Rattle.htl_model.proofs.{Locality.Agree, Locality.not_yet, Locality.run_lines_same, Words.History, Words.count_by, Words.history, Words.past}
pub use Rattle.htl_model.specs.{Lines.totals_line, declared.event.Event.Event, declared.form_fault.FormFault.FormFault, declared.frame.Round.Round, declared.line.Line.Line, declared.parts.Inv.Inv, declared.parts.Mode.Mode}
pub use Rattle.htl_model.specs.{declared.line.Line.TheVariants.ModeLine, declared.line.Line.TheVariants.ValueLine, declared.parts.Module.Module, declared.parts.Task.Task as TaskOf, declared.state.State.State, declared.state.Stay.Stay}
pub use Rattle.htl_names.proofs.{Members.each_all, Words.comm_item}
pub use Rattle.htl_names.specs.declared.place.ModuleAt.{ModuleAt}
pub use Rattle.htl_object.proofs.{ObjectLaws.one_object, ObjectLaws.says_itself, Words.nat_le, Words.nat_lt}
pub use Rattle.htl_object.specs.{declared.malformed.Malformed.Malformed, declared.object.Object.Object, declared.object.Object.Object as ObjectOf}
pub use Rattle.htl_open.specs.{Files.Files, Files.IsFaultOf, Files.IsGiven, Files.IsLongFile, Files.IsObjectFile, Files.files, Lines.Tells, Lines.place_of_fault, declared.object.ObjectStop.ObjectStop, declared.stop.ShelfCause.ShelfCause}
pub use Rattle.htl_open.specs.Objects.{HasObjectTables, IsAcceptedFile, IsObjectRead, IsObjectTables, IsReadyObject, IsRefusedFile, SpeaksOfObject}
pub use Rattle.htl_open.specs.declared.stop.ShelfCause.TheVariants.{Failed, TooLong}
pub use Rattle.htl_parse.proofs.Words.{AreSpellable, Level, Spells, add, and, atom, brackets, choice, cmp, compare, conj, drop_all, multiply, name, or, prefix, prod, sum, unary}
pub use Rattle.htl_patch.proofs.{OneStop.one_patch_fault, Stopping.patch_not_refused}
pub use Rattle.htl_patch.proofs.Words.{CanPatch, IsFaultBy, IsHandedBackBy, IsPatchFault, IsPatchStop, Option, Replacement, bytes_eq, bytes_eq-Decides, count_places, mode_in, patched, patched_object, places_in, replacement_of}
pub use Rattle.htl_patch.specs.{declared.fault.PatchFault.PatchFault, declared.fault.PatchStop.PatchStop}
pub use Rattle.htl_platform.specs.{declared.fault.PlatformFault.PlatformFault, declared.platform.Platform.Platform as PlatformOf}
pub use Rattle.htl_refine.proofs.Words.{get_or, grow_times, mod-eq_of_lt, most_invs}
pub use Rattle.htl_runs.proofs.Words.{AreReadFrom, HasNames, List, add-mul-mod_self_left, append_known-more, doubling, empty_mode, every_job_in_time, first_value, flat_map-cons, get_or-take, initial, is_name, jobs_done, last_sense, length-take, line_text, lines, lines_text, mode_of_module, next_value, old_lines, places_of, s_done, value_lines, ℕ}
pub use Rattle.htl_runs.proofs.{events.SameSensors.sense_end, events.SameSensors.took_end, jobs.JobTimes.told_in_time, lines.JobLines.new_alone, lines.JobLines.old_alone, lines.PutLines.IsPutting, lines.PutLines.one_line}
pub use Rattle.htl_runs.proofs.lists.LoadedLists.{run_of}
pub use Rattle.htl_script.proofs.{Behind.behind-append, Behind.behind-nil, Behind.events_of-behind, Behind.script_of-rest, Examples.sample, Fitting.AreEvents-front, Fitting.script-events, Fitting.whole-script, SameScript.script_same}
pub use Rattle.htl_script.proofs.{Streaming.given_all, Streaming.given_script, Streaming.gives_more, Streaming.told_of, Taken.taken_all, Taken.taken_more, Taken.taken_none, Taken.taken_on, Taken.taken_to_line}
pub use Rattle.htl_script.proofs.Words.{Ahead, AreEvents, EndWith, Gives, IfSome, IsAnswer, LosesFront, LosesPiece, OfScript, StopsAtLine, Whole, at_first, at_start, behind, none_left, past_after, past_after_all, past_of, prepend_known, prepend_known-nil, script_of, still, true≢false}
pub use Rattle.htl_script.specs.{Orders.IsIndex, Streaming.Goes, declared.fault.ScriptFault.ScriptFault, declared.fault.ScriptKind.ScriptKind, declared.fault.ScriptStop.ScriptStop, declared.judge.Past.Past}
pub use Rattle.htl_slack.specs.Slack.{NoneOverloaded}
pub use Rattle.htl_text.proofs.Words.{IsSpellable, Some}
pub use Rattle.htl_text.specs.{declared.token.Token.Token, declared.token.Word.Word, declared.tree.CommNode.CommNode, declared.tree.ConstNode.ConstNode, declared.tree.EndNode.EndNode, declared.tree.Id.Id, declared.tree.ParamNode.ParamNode}
pub use Rattle.htl_text.specs.declared.tree.InvokeNode.{InvokeNode}
pub use Rattle.htl_top.specs.{Answers.AreCountsKept, Answers.IsBeforeRun, Answers.IsBeforeScript, Answers.IsOfReading, Answers.IsUntouched, Answers.KeepsCounts, Answers.Streams, Answers.streams, Causes.IsOrMemory, Causes.IsSource}
pub use Rattle.htl_top.specs.{AuditPlaying.IsAuditBehind, AuditPlaying.IsAuditPlaying, AuditPlaying.IsAuditTold, AuditPlaying.IsConcluded, Bulk.IsBulked, Bulk.object_text, Bulk.totals_text, Bulk.value_seen, Shown.show_text}
pub use Rattle.htl_top.specs.Audited.{HasLog, HasSlices, IsAudit, IsAuditOf, IsAuditRun, IsCutAudit, IsIllegalAudit, IsLogCause, IsLogFault, IsWholeAudit, audit_text, audited_line, audited_text, verdict_text}
pub use Rattle.htl_top.specs.{Calls.HasObject, Calls.HasSource, Calls.IsCall, Checked.check_text, Checked.most_positions_below, Compiling.HasBuilt, Compiling.IsCompiling, Compiling.IsInputCompiled, Compiling.compiled_bytes}
pub use Rattle.htl_top.specs.{CompilingOn.IsBuiltOn, CompilingOn.IsCompileCause, CompilingOn.IsCompilingOn, CompilingOn.IsPlatformCause, CompilingOn.IsUnbuiltOn, CompilingOn.compiled_on, Fetching.IsOnBoth, Fetching.IsUnhad}
pub use Rattle.htl_top.specs.{ErrorLines.IsFaultTold, ErrorLines.IsLineTold, ErrorLines.IsPatchFaultTold, ErrorLines.SpeaksOf, Files.AreFilesOf, Files.IsFileOf, Files.IsHad, Files.IsReadyFile, Scripts.EndsAt, Scripts.IsBad, Scripts.IsWhole}
pub use Rattle.htl_top.specs.{Going.IsGoing, Going.IsReadySource, Going.IsUncompiled, JobLaws.GoJobLinesAreFound, JobLaws.GoShowsJobLines, JobLaws.GoTellsJobsInTime, Planned.IsBadSelection, Planned.IsCutPlan, Planned.IsPlanned}
pub use Rattle.htl_top.specs.{Laws.EarlierReadingsDecideTexts, Laws.EarlierReadingsDecideValues, Laws.GoKeepsDeadlines, Laws.GoShowsTheMeaning, Laws.read_where, Runs.IsCutRun, Runs.IsFaultyRun, Runs.IsRun, Runs.IsWholeRun}
pub use Rattle.htl_top.proofs.Views.{IsOnObject, IsStopped, Work}
pub use Rattle.htl_top.specs.PatchedFiles.{HasPatch, HasPatchedTables, IsBadDonor, IsDonorFault, IsDonorTold, IsObjectPut, IsPatchCause, IsPatchOfFiles, IsPatchedTables, IsPatching, RefusesDonor, SpeaksOfPatch}
pub use Rattle.htl_top.specs.{Playing.HaveNoEnd, Playing.IsBehind, Playing.IsNext, Playing.IsPlaying, Playing.IsTold, Playing.text_more, Status.fault_line, Texts.text_before_fault, Texts.text_of_script, Texts.text_to}
pub use Rattle.htl_top.specs.{Slacked.HasSlack, Slacked.IsNamed, Slacked.IsRootNamed, Slacked.IsSlackTold, Slacked.IsTaskCause, Slacked.NamesNoTask, Slacked.has_names, declared.outcome.Outcome.Outcome, declared.words.Asked.Asked}
pub use Rattle.htl_top.specs.Sources.{HasTables, IsFaultyInput, IsFaultyProgram, IsInput, IsInputFault, IsInputOf, IsInputProgram, IsLongInput, IsProgram, IsTypedInput, IsTypedProgram, answer_of}
pub use Rattle.htl_top.specs.SourcesOn.{IsFaultyOn, IsInputFaultOn, IsProgramOn, IsTypedOn, answer_on}
pub use Rattle.htl_top.specs.Words.{Audit, Bulk, Check, Command, Compile, CompileWith, Go, Patch, Plan, Run, RunsObject, Show, Slack, asked_for, command_in, command_object, command_of, most_taken, of_four, of_three, of_two, platform_file, second_file, source_of}
pub use Rattle.htl_top.specs.declared.outcome.Outcome.TheVariants.{Done, IllFormed, Log, Memory, Object as Refused, Patch as Unpatched, Platform, Read, Script, Script as Faulty, Shelf, Source, Task, Unschedulable, Usage, Write}
pub use Rattle.htl_walk.proofs.Words.{HaveModes, mul-add-div_right}
pub use Rattle.htl_walk.specs.{declared.job.Job.Job, declared.schedule.SInstr.SInstr, declared.schedule.SInstr.TheVariants.Dispatch, declared.schedule.SInstr.TheVariants.End}
pub use Rattle.std.proofs.Math.Seq.{drop-cons}
pub use Rattle.std.specs.{Borrow.Bor, FinMap.get, Ordering.ord_max}
