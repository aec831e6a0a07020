-- The words that several proofs cite, of this crate and of those below it, passed on from one place. Declares nothing.
pub use Rattle.htl_base.proofs.{Places.length_mapped, Tests.and_with_true, Tests.none_below, Words.filter-append, Words.length-le_from_distinct_below, Words.mul-mod_right, Words.slice_get-map, Words.ℕ}
pub use Rattle.htl_base.specs.{Names.is_word_byte, declared.Ty.Ty}
pub use Rattle.htl_console.specs.{Instrs.instr_text, Instrs.phase_word, Instrs.step_text, Lines.done_line, Lines.instr_line, Lines.step_line, Shows.shows_code, Shows.shows_jobs, Shows.shows_values, declared.shown.Shown.Shown}
pub use Rattle.htl_console.specs.Names.{full_inv, full_mode, inv_name, mode_text, module_text, task_name}
pub use Rattle.htl_console.specs.declared.shown.Shown.TheVariants.{Code, Jobs, Values}
pub use Rattle.htl_ecode.proofs.{Spelled.Reads, SpellingLaws.spells_or_departs, Words.Spells}
pub use Rattle.htl_ecode.specs.{Paths.instant_path, Paths.reads_done, Paths.switches_done, Paths.writes_done, declared.ecode.ECode.ECode, declared.fault.EFault.EFault, declared.fault.EKind.TheVariants.Action, declared.instr.EInstr.EInstr}
pub use Rattle.htl_edge.proofs.Puts.{Puts-failed, Puts-second, append_known-more, append_known-start}
pub use Rattle.htl_edge.specs.Content.{Puts}
pub use Rattle.htl_emach.proofs.{Completing.concrete_task, Inside.next_of_block, Keeping.switch_quiet, ModuleLaws.ModuleLaws, ModuleLaws.due_target, Phases.from_zero, Switching.Sound}
pub use Rattle.htl_emach.proofs.Instants.{IsPhase, call_onward, every_module, first_follows, follows_writes, reads_follows, steps, switches_reads, whole_path, writes_switches}
pub use Rattle.htl_emach.proofs.{Soundness.has_ends, Soundness.phase_is, Soundness.sound as is_sound, Soundness.sound, States.active_some, States.begins_now, States.module_at, States.parent_at, States.parent_runs}
pub use Rattle.htl_emach.proofs.Words.{Between, Calendar, Content, Done, Entry, FollowsCode, HasValues, IsAllowed, IsBlockPhase, IsDueAt, IsResolved, IsShaped, Jumps, Resolved, Midway, ModeReads, Onward, Reached, Standing, StandsSafely, Step, alternating, anchor_is, argument, arguments, awaited, begin_path, bind, bind_ok, block_begun, block_from, block_path, blocks, buffer, calendar_replay, call_read, call_write, chain_path, comm_of, comm_period, completed, content_after, counted_in, decide_chain, decide_path, decided, done_at, done_in, doubling, due_path, e_path, effect, ending, enter_chain, enter_path, entered, entering, fault, first_due, first_standing, followed, from_module, function_value, get_or-set_other, get_or-set_same, greatest, holds, holds_in, is_called, resolve_is, resolved, leaving, branch_target, length-set, list_at, made, meets, mode_of, new_stay, no_block, nothing_ends, offsets, old_stay, on, opening, output_function, pass, passed_by, phase_blocks, phase_path, port_output, ports, preempted, put_in, reach, reach_is, read, read_is, same_instr, same_is, sense, spelled_departs_not, spelled_reads, spelled_stands, standing_after, step_from, steps_of, switch_path, target_at, triggers_of, turn_step, turning, with_trigger, writer_from}
pub use Rattle.htl_emach.specs.{Following.done_of, declared.trigger.Block.Block, declared.trigger.EDone.EDone, declared.trigger.Trigger.Trigger}
pub use Rattle.htl_model.proofs.{FrameSteps.node_step, Laws.seen_before, Laws.state_step, Locality.history_local, Sources.empty_mode}
pub use Rattle.htl_model.proofs.Words.{AbstractPorts, ConcreteWriters, changes, end_to, first_value, first_values, input_value, line_text, lines_text, mul-le-mul_left, newest, next_value, next_values, out, out_by, round_down, round_start, val, value_lines, with_start, write_from, write_in, written, written_by}
pub use Rattle.htl_model.specs.{Frames.no_place, Lines.comm_name, Lines.mode_name, Lines.module_name, Lines.shown_mode, Meaning.in_round, Meaning.initial, Meaning.last_sense, declared.event.Event.Event, declared.frame.Place.Place}
pub use Rattle.htl_model.specs.{declared.event.Event.TheVariants.At, declared.event.Event.TheVariants.End as Ends, declared.event.Event.TheVariants.Sense, declared.event.Event.TheVariants.Took, declared.line.Line.Line}
pub use Rattle.htl_model.specs.{declared.line.Line.TheVariants.ModeLine, declared.line.Line.TheVariants.ValueLine, declared.parts.Comm.Comm, declared.parts.End.End, declared.parts.Inv.Inv, declared.parts.Mode.Mode, declared.parts.Task.Task}
pub use Rattle.htl_model.specs.{declared.parts.Module.Module, declared.parts.Switch.Switch, declared.state.State.State, declared.state.Stay.Stay, declared.state.Write.Write}
pub use Rattle.htl_object.proofs.Words.{AtAnchor, ModeJump, Exactly, FitsType, IsCommInRange, SwitchJump, EndOfRound, NextBlock, Requirement, all_do, ap, append-nil, append_known, asks_for, begin_chain, block_chain, call_of, calls, calls_of, cases_below, children, choices_some, count_at, count_by, counts, flat_map-cons, get_list_to, get_or-take, is_name, layout, mul_assoc, next_offset, nodes, or_second, phase_offsets, places_at, radices, release_of, releases, rounds_have, sum_by-append, sum_by-cons, take_more, test_of, tests_of, waits_for}
pub use Rattle.htl_object.specs.{Accepted.IsAccepted, declared.object.Object.Object}
pub use Rattle.htl_refine.proofs.{AlongPath.legs_within, BegunTimes.start_below, Chains.right_parent, DoneRecords.done_is, DoneRecords.done_some, Exact.chosen_exact_apart, FinishingRecords.finish_more, FinishingRecords.last_is}
pub use Rattle.htl_refine.proofs.{FramesAgree.frames_agree, FrontPlans.front_plan, FrontPlans.front_walks, FrontPlans.leg_same, FrontPlans.point_long, Fronts.front_there, Fronts.take_work, Inherit.map_at, Inherit.mapped, OneFault.kept_all}
pub use Rattle.htl_refine.proofs.{LaterPoints.later_released, LaterPoints.later_time, LaterPoints.later_unreleased, LaterPoints.later_walks, LengthsLater.lengths_later, ListCounts.count_all, ListCounts.count_split, ListCounts.done_split}
pub use Rattle.htl_refine.proofs.{ListWalks.front_agrees, ListWalks.list_walks, ListWalks.point_agrees, ListsFollow.begins_by, ListsFollow.leg_from, ListsFollow.leg_knows, ListsFollow.legs_many, ListsFollow.lists_follow, Positions.root_is}
pub use Rattle.htl_refine.proofs.{Members.at_place, Members.in_flat, Members.of_flat, Members.of_places, NewJobs.first_jobs, NewJobs.next_jobs, NodeRead.node_steps, NodeRead.nodes_agree, NodeRead.nodes_read, PathDerived.placed_present}
pub use Rattle.htl_refine.proofs.{OwnPeriods.parent_period, OwnPeriods.same_period, OwnPeriods.some_time, OwnRounds.goes_on, OwnRounds.own_starts, OwnRounds.since, OwnRounds.turns, OwnRounds.until, PathRead.paths_read}
pub use Rattle.htl_refine.proofs.{PlaceOrder.places_ordered, RecordLists.new_joined, RecordLists.no_frames, RecordLists.none_joined, RecordLists.old_joined, RecordLists.up_to_none, RootSelection.roots_some, ServedSoFar.front_served}
pub use Rattle.htl_refine.proofs.{RecordOrder.counted, RecordOrder.not_some, RecordOrder.path_rises, RecordOrder.times_within, RecordOrder.walk_rises, RoundLaws.have_lengths, RoundLaws.within_worst, SliceOrder.slice_inside}
pub use Rattle.htl_refine.proofs.{RoundOrder.of_rounds, RoundOrder.round_of, RoundOrder.run_of, ServedFrames.every_job_in_time, ServedFrames.frames_are_served, ServedFrames.paths_are, StateLaws.states_are_selections}
pub use Rattle.htl_refine.proofs.{Standing.IsStanding, Standing.standing_at, Standing.stood, WorkDone.length-walk, WorkDone.work_done}
pub use Rattle.htl_refine.proofs.Words.{AgreeAt, AgreeBefore, AreInForm, AreInRange, AreOrdered, AreSameSoFar, AreTookWithin, AreWithin, AreWithinWorst, Finishes, Frame, HaveLengths, InForm, Input, IsAbstractIn, IsActive, IsEndInRange, IsEntry, IsFeasibleRun, IsInvInRange, IsModeInRange, IsModeThat, IsSelection, IsServing, IsSwitchInRange, KeptApart, KeptTo, Left, Leg, ListPlan, ListPlan as Plan, Output, OutputBefore, ParentFault, Point, Rises, RunningList, Runs, StandsFor, Tables, absent_job, add-mul-div_left, add-mul-mod_self_left, all_at, and_from, and_none, and_parts, arith, before, begins, begins_at, begun_before, below, cases_eq, cases_less_more, cases_less_same, cases_lt, cases_up_to, choice_at, choice_of, choices, choices_starts, chosen, count_left_before, derived_jobs, derived_place, dispatch_begins, div-add-mod, done_by, each_at, earlier, end_to_end, entry, entry_place, eq-eqb, eqb-false, eqb-true, eqb_apart, feeds, feeds_at, filter, finish, finishes_by, first_point, flat_map, frame_at, frame_jobs, frame_modes, frame_of, frame_places, frame_some, front_of, get_back, get_front, get_or_from_slice_get, get_taken, hyper, in_frame, into_back, inv_of_mode, inv_worst, invs_of, is_concrete, is_fed_by, is_port, is_position, is_read_from, is_root, item_at, itself, job_at, job_in, job_there, joined, known_by, known_few, known_rises, last_point, last_took, le-leb, le-ltb, leb-false, leb-true, left_by, left_falls, left_falls_to, left_in, left_same, leg_at, legs_of, length-drop, length-list_to, length-map, length-take, length-take-le, lengths_of, list_any, list_plan, list_point, list_start, list_to, list_walk, lists_at, lists_from, lists_of, lt-leb, lt-ltb, ltb-false, ltb-true, map-append, map_same, mask, mod-lt, mode_module, mode_of_module, mode_period, modes_at, modes_of, modes_some, mul-div_cancel_left, mul_comm, nat_tests, ne_eqb, new_jobs, new_records_by, next_of, next_point, no_leg, node, node_read, nodes_below, nodes_of, none-some, numbered, of_bool, old_records_by, option_map, or_left, or_parts, or_right, parent_mode, parent_of, path_in, path_of, path_point, place, placed, placed_job, placed_jobs, places_of, plain, precedes, records, records_before, reentered, refined, release, root_modules, root_periods, rounds, rounds_at, rounds_before, rounds_of, running_invs, running_places, runs, runs_is, same_Some, same_length, same_number_lists, shifted, slice_between, slice_get, slice_get-get_or, slice_get_within, slice_onto, slices, spent, standing_places, starts, starts_below, starts_order, state, stay_of, take_all, task_worst, time_after, time_rises, times_grow, took, unit_period, unit_start, up_to, up_to_same, walk_from, walk_of, walks_from, walks_of, ways, window_end, within_front, work, work_after, work_length, work_present, work_some, zero_down}
pub use Rattle.htl_refine.specs.{AgreeingRuns.AreAlike, AgreeingRuns.begun_by_offset, ListLaws.IsFollowed, Records.IsTookWithin, ServedJobs.IsServed, ServedSoFar.IsServedSoFar}
pub use Rattle.htl_runs.specs.events.ToldSoFar.{AreReadFrom, IsKept, IsLoaded, IsValued, RunState, at_reading, reading_of, s_machine_taking, set_pending, shown_as, taken_as, with_length}
pub use Rattle.htl_runs.specs.{instants.InstantParts.Passed, frames.JobsSoFar.AreJobsSoFar, frames.JobsSoFar.HaveWindows, frames.JobsSoFar.IsJob, frames.JobsSoFar.finish_or, frames.JobsSoFar.rank, frames.JobsSoFar.rank_at}
pub use Rattle.htl_runs.specs.frames.FramePlaces.{FrameJobsStand, IsFramePlacing, JobsOfPlacing, PlacedByModes, begun_by, frame_start}
pub use Rattle.htl_runs.specs.frames.FrameSteps.{AreFrames, FinishedCarried, Now, finished_at, frame_records, next_by_frames, present_finished}
pub use Rattle.htl_runs.specs.{frames.LastPositions.finished_in, frames.LastPositions.last_position_done, frames.LastPositions.later_or, frames.LastPositions.position_from, lists.ListLengths.kept_lengths}
pub use Rattle.htl_runs.specs.{frames.RoundStarts.first_period, frames.RoundStarts.opens, frames.RoundStarts.some_round_begins, instants.ReleaseFlags.raise_all, instants.ReleaseFlags.raise_at, instants.ReleaseFlags.raise_want}
pub use Rattle.htl_runs.specs.{frames.RunFrames.FeasibleRuns, frames.RunFrames.RunFrames, frames.RunFrames.RunReady, frames.RunFrames.ValuesGoOn, frames.RunFrames.now_of, lists.RecordEffects.finished_before, lists.RecordEffects.next_world}
pub use Rattle.htl_runs.specs.instants.Releases.{made_ready, released_to, s_machine_all, s_machine_at, s_machine_does, s_machine_replay, s_machine_want}
pub use Rattle.htl_runs.specs.jobs.JobTimes.{AllToldInTime, IsToldInTime, done_time, inv_period, is_in, job_round, slice_time}
pub use Rattle.htl_runs.specs.lines.Lines.{all_records, capped, change_lines, e_done, e_line, e_lines, jobs_done, lines, new_lines, old_lines, records_at, run_text, s_done, text_before}
pub use Rattle.htl_runs.specs.{lines.Programs.before_of, lines.Programs.schedules_of, lines.Programs.text_of, lists.FirstStand.CanStart, lists.FirstStand.IsAtEnd, lists.FirstStand.ListsAreBegun, lists.FirstStand.list_begun}
pub use Rattle.htl_runs.specs.lines.RunLines.{HasNames, RunLine, ShowsJobs, begins_as_job, closed_slice_line, is_job_line, job_done_line, job_lines, job_lines_at, job_lines_to, onto_first, printed, record_lines, record_text, step_lines, text_lines}
pub use Rattle.htl_runs.specs.lines.RunLines.RunLine.{ChangeLine, DoneLine, InstrLine, SliceLine, StepLine, TotalsLine}
pub use Rattle.htl_runs.specs.lines.RunRecords.{RunRecord, instant_records, inv_at, list_records, lists_records, new_records, old_records, old_turn, plan_records, record_of, some_records, standing_new, standing_old, turn_new_records, turn_old_records}
pub use Rattle.htl_runs.specs.{lists.NextLists.ListsBegin, lists.NextLists.NextListStands, lists.NextLists.next_list, lists.NextLists.next_node, records.DueRecords.Leaves, records.DueRecords.as_told, records.DueRecords.due_by}
pub use Rattle.htl_runs.specs.{lists.NextSMachines.SMachinesGoOn, lists.NextSMachines.more_jobs, lists.NextSMachines.more_lengths, values.FinishedJobs.complete_at, values.FinishedJobs.complete_by, values.FinishedJobs.run_records}
pub use Rattle.htl_runs.specs.lists.RunLists.{RunsGoByLists, begun_of, list_number, list_turn, no_turn, turn_at, turn_by, turn_of}
pub use Rattle.htl_runs.specs.lists.StandingLists.{AreListed, AreTurns, IsListed, IsTurn, SMachineFollows, Turn, left_before, records_so_far, turn_finished_by, turn_walk}
pub use Rattle.htl_runs.specs.{records.RecordSteps.AreOf, records.RecordSteps.IsJobOf, records.RecordSteps.IsRecording, records.RecordSteps.Records, values.PhaseEffects.IsRunning, values.PhaseEffects.effect_at, values.PhaseEffects.replay}
pub use Rattle.htl_runs.specs.{records.SMachineStands.SMachineAt, records.SMachineStands.SMachineStands, records.SMachineStands.released_before, values.ShownValues.AreShown, values.ShownValues.shown_then}
pub use Rattle.htl_runs.specs.values.InstantEffects.{all_reads, all_writes, effects, shown, shown_at, want_effect, wanted_reads, wanted_writes, with_sensors, world_after}
pub use Rattle.htl_runs.specs.values.Values.{AreCarried, AreDistinct, EndIsMet, HasPlaces, HasReadInputs, InvStands, IsDue, IsPast, IsRead, Orders, Ready, ValuesFollow, and_also, out_val, values_before}
pub use Rattle.htl_smach.proofs.{Adding.stands_added, Answering.answer_is}
pub use Rattle.htl_smach.proofs.RoundRecords.{absent_idle, is_pending, length-told, next_point_is, pending_is, stands_begun, told_from-take}
pub use Rattle.htl_smach.proofs.Words.{CanBegin, IsEven, IsInForm, IsTold, Round, Stands, added, after, form_at, front_more, job_front, job_is, left_until, moved, next_left, point_next, round_begun, state_by, state_of, take-append_seam, told, told_from, untouched, walk_records}
pub use Rattle.htl_smach.specs.{Rounds.no_round, declared.state.PosState.PosState, declared.state.PosState.TheVariants.Done as Finished, declared.state.PosState.TheVariants.Pending}
pub use Rattle.htl_walk.proofs.{GoingOn.onward_lists, Masks.get_mapped, Masks.mask_bit, Nodes.nodes_within, PathReady.IsRootAt, PathReady.as_unit, PathReady.window_within}
pub use Rattle.htl_walk.proofs.Words.{AllWithin, DoneBy, List, and_right, flat_map-append, frame_divided, kept_apart, least_or, list_all, mul-le-mul_right, multiple_of, place_passes_0, times_same}
pub use Rattle.htl_walk.specs.{declared.job.Job.Job, declared.schedule.SInstr.SInstr, declared.schedule.SInstr.TheVariants.Dispatch}
pub use Rattle.std.proofs.{Math.Seq.get_or-append_seam, lemmas.Grind.get_or-set_at, lemmas.List.append_assoc, lemmas.List.drop-map, lemmas.List.set-get_or, lemmas.List.take-map, lemmas.List.take-take, lemmas.List.Folds.list_all-append}
