-- The words that several proofs cite, of this crate and of those below it, passed on from one place. Declares nothing.
pub use Rattle.htl_base.proofs.{Tests.or_with_false, Words.div-le_self, Words.or-false, Words.trailing_zeros}
pub use Rattle.htl_console.specs.declared.shown.Shown.{Shown}
pub use Rattle.htl_ecode.specs.{declared.ecode.ECode.ECode, declared.instr.EInstr.EInstr}
pub use Rattle.htl_edge.specs.declared.Failed.{Failed}
pub use Rattle.htl_emach.proofs.{Effects.list_other, Inside.trigger_set_modes, Phases.to_reads, Phases.to_switches, SafeCalls.ready_safely}
pub use Rattle.htl_emach.proofs.Words.{IsNext, IsNextOf, IsReady, SensorsStay, block_in, calendar_effect, entry_of, first_content, take_more_set, taken, taken_by, writes_at}
pub use Rattle.htl_emach.specs.{declared.trigger.Block.Block, declared.trigger.EDone.EDone}
pub use Rattle.htl_form.proofs.Words.{list_any-append, slice_get_read}
pub use Rattle.htl_load.proofs.Words.{subst}
pub use Rattle.htl_machine.specs.{Asking.AreToClose, Asking.AreToCloseAndBegin, Asking.AreToRead, Asking.IsNoted, Asking.IsSound, Asking.IsToClose, Asking.IsToCloseAndBegin, Asking.IsToRead, Beginning.CanFollow, Beginning.IsToBegin}
pub use Rattle.htl_machine.specs.Calls.{Follows, GoesBy, IsBefore, IsFinished, IsLength, IsSameRun, IsSensorValue, IsUpTo, Seen, first_seen, schedule_by, text_between}
pub use Rattle.htl_machine.specs.{Counts.one_instr, Counts.one_record, Counts.with_instrs, Counts.with_records, Doing.IsDoing, Doing.IsDoingAll, Doing.IsStarting, Doing.instr_lines, Doing.path_lines, Doing.told_in_phase, Instant.IsReadyAt}
pub use Rattle.htl_machine.specs.{Fitted.IsFitted, Fitted.seen_by, Marks.is_marked, Noting.KeepsNoted, Noting.MarksChanges, Noting.decides, Noting.is_written, Passing.ArePassing, Passing.IsOnward, Passing.IsPassing, declared.path.Path.Path}
pub use Rattle.htl_machine.specs.{Numbering.IsAtFirst, Numbering.IsNumbering, Numbering.IsPath, Numbering.first_list, Quiet.AreQuiet, Quiet.IsEmpty, Quiet.IsQuiet, Quiet.PassOver, Waiting.MarksWaiting, Waiting.takes_now}
pub use Rattle.htl_machine.specs.{Opening.IsOpened, Opening.Opens, Opening.beginning_text, Opening.closing_text, Opening.first_records, Opening.reading_text, declared.machine.Machine.TheInside.Inside, declared.marks.Marks.Marks}
pub use Rattle.htl_machine.specs.{Printing.Counted, Printing.IsPrinting, Printing.Prints, Printing.code_text, Printing.job_text, Printing.place_text, Printing.plan_text, Printing.slice_text, declared.noted.Noted.Noted}
pub use Rattle.htl_machine.specs.{StandingList.instrs_by, StandingList.next_at, StandingList.node_by, StandingList.turn_list, declared.numbering.ListAt.ListAt, declared.numbering.Numbering.Numbering, declared.sensors.Sensors.Sensors}
pub use Rattle.htl_machine.specs.declared.tally.Tally.{Tally}
pub use Rattle.htl_model.specs.{Functions.same, Meaning.mode_in_state, Meaning.mode_line, Meaning.same_mode, Meaning.value_in, Meaning.value_line, declared.event.Event.Event, declared.frame.Place.Place, declared.line.Line.Line}
pub use Rattle.htl_model.specs.{declared.line.Line.TheVariants.ModeLine, declared.line.Line.TheVariants.ValueLine, declared.parts.Comm.Comm, declared.parts.Inv.Inv, declared.parts.Module.Module, declared.state.Stay.Stay}
pub use Rattle.htl_object.proofs.{NodeCounts.nodes_few, Words.IsShort, Words.[], Words.get_or_past, Words.on_ok_weaker, Words.sym}
pub use Rattle.htl_object.specs.declared.object.Object.{Object}
pub use Rattle.htl_refine.proofs.{BeginningsEnd.beginnings_end, BegunLimits.choice_few, BegunLimits.start_early, Words.All, Words.frame_limit, Words.get_or-map, Words.has_bit, Words.limits_kept, Words.places_from, Words.slice_get_past}
pub use Rattle.htl_refine.specs.declared.selection.Selection.{Selection}
pub use Rattle.htl_runs.proofs.Words.{AreInRange, AreListed, AreOf, AreShown, AreTookWithin, AreTurns, AreWithinWorst, Between, Calendar, CanBegin, CanStart, Content, Done, Entry, FitsType, FollowsCode, HasValues, HaveLengths, InForm, IsAccepted, IsAtEnd, IsCommInRange, IsDueAt, IsFeasibleRun, IsInForm, IsKept, IsLoaded, IsRecording, IsRunning, IsSelection, IsShaped, IsTold, IsTookWithin, IsValued, KeptApart, Leaves, Left, Midway, ModeReads, Onward, Passed, Plan, Point, Puts, Puts-failed, Puts-second, Records, Round, RunLine, RunRecord, RunState, SMachineAt, SMachineFollows, SMachineStands, Sound, Spells, Standing, Stands, StandsSafely, StepLine, Tables, Turn, absent_job, added, after, all_at, all_reads, and_parts, append-nil, append_assoc, append_known, append_known-more, append_known-start, at_reading, before, cases_eq, cases_lt, cases_up_to, choice_of, closed_slice_line, comm_of, complete_at, complete_by, content_after, count_by, count_left_before, derived_place, done_at, done_in, done_line, done_of, due_by, e_done, e_line, e_path, each_at, effect, eq-eqb, eqb-false, eqb-true, eqb_apart, finished_before, finishes_by, first_due, first_standing, frame_modes, frame_of, frame_places, frame_some, frame_start, get_or_from_slice_get, hyper, initial, instant_records, instr_line, inv_at, inv_worst, is_concrete, is_root, item_at, job_at, job_done_line, job_lines, jobs_done, joined, kept_lengths, last_took, left_before, left_by, left_same, length-map, length-set, lines, lines_text, list_any, list_at, list_begun, list_turn, list_walk, map_at, mode_of, mode_period, modes_at, nat_tests, ne_eqb, new_jobs, new_lines, new_records, next_left, next_list, next_node, next_point, no_round, nodes_below, not_some, old_lines, old_records, opens, or_parts, path_of, paths_read, phase_path, placed_job, plan_records, position_from, printed, raise_all, reading_of, record_of, record_text, records_at, replay, root_modules, root_periods, round_begun, run_records, s_done, s_machine_at, s_machine_does, s_machine_replay, s_machine_taking, same_Some, schedules_of, sense, shown_as, shown_then, shows_code, shows_jobs, shows_values, slice_get_within, some_records, some_round_begins, sound, spelled_departs_not, standing_after, standing_at, standing_new, standing_old, starts, starts_below, state, states_are_selections, stay_of, step_line, step_lines, steps, sum_by-append, sum_by-cons, take_more, taken_as, task_worst, time_after, told, told_from, took, triggers_of, turn_at, turn_by, turn_walk, up_to, up_to_none, up_to_same, value_lines, values_before, walk_from, whole_path, with_sensors, work_after, ℕ}
pub use Rattle.htl_runs.specs.{lines.ChangedItems.all_changes, lines.ChangedItems.mode_change, lines.ChangedItems.mode_changes, lines.ChangedItems.value_changes, lines.Programs.lines_of, lists.ListLengths.instrs_of}
pub use Rattle.htl_runs.specs.values.ShownValues.{AreSet, ShowsNothing}
pub use Rattle.htl_smach.proofs.{RoundRecords.take_more_get, Words.cleared, Words.ext_get_or}
pub use Rattle.htl_smach.specs.Rounds.{IsNextLeave}
pub use Rattle.htl_walk.proofs.{Clean.passes, Steps.time_passes, Words.bit_at, Words.bit_at-trailing_zeros, Words.bit_at-zero, Words.has_no_bit, Words.w128}
pub use Rattle.htl_walk.specs.{declared.job.Job.Job, declared.schedule.SInstr.SInstr, declared.schedule.Schedule.Schedule}
pub use Rattle.std.proofs.{Math.Bool.or-true, lemmas.List.drop-take, lemmas.Nat.shr-shr}
