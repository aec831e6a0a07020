-- The words that several proofs cite, of this crate and of those below it, passed on from one place. Declares nothing.
pub use Rattle.htl_audit.specs.{Agreeing.Agree, Agreeing.AreEarly, Agreeing.HasMatch, Agreeing.IsMatched, Agreeing.Matches, Faults.IsFirstFault, Faults.IsFirstFaultIn, Growing.AgreeBefore, Growing.HaveRounds, Saying.Says}
pub use Rattle.htl_audit.specs.{Auditing.AreDue, Auditing.AreSized, Auditing.Audit, Auditing.AuditFollows, Auditing.IsAudited, Auditing.IsAuditor, Auditing.IsNextIn, Auditing.IsSameAudit, Auditing.IsStopped, declared.slice.LogKind.LogKind}
pub use Rattle.htl_audit.specs.Computed.{GivesTheMeaning, Known, LegalLogGivesTheMeaning, ended, ending, is_done_from, is_done_in, is_finished, known, next_known, with_lines}
pub use Rattle.htl_audit.specs.{Feeders.all_feeders, Feeders.are_done, Feeders.feeders_from, Feeders.feeders_of, Feeders.is_done_at, Jobs.BeginningJobs, Jobs.all_rounds, Jobs.beginning, Jobs.jobs_from, Jobs.round_of, Jobs.starts_before}
pub use Rattle.htl_audit.specs.Keeping.{Kept, Roster, any_fell_short, any_fell_short_from, begins_round, end_at, fell_short, first_kept, has_job, inv_runs_in, inv_takes, is_clear_of, is_free_at, is_free_from, is_full, is_inside, judged, judged_to, kind_of, length_at, lengths_begun, passed, release_at, renewed, renewed_to, settled, start_at, sum_at, ticks_of, with_kind, with_slice}
pub use Rattle.htl_audit.specs.Legal.{IsLegal, IsLegalIn, any_job, any_short, end_fault, fault_at, first_fault, first_fault_in, first_line_fault, how_many, is_done, is_free, is_over, is_short, job_length, jobs_done, last_end, lies_in, line_fault, slice_is_out_of_order, ticks}
pub use Rattle.htl_audit.specs.{Lines.AreJudged, Lines.BeganBefore, Lines.IsLast, Lines.IsLate, Lines.IsNext, Rosters.AreKept, Rosters.AreSummed, Rosters.HasJob, Rosters.IsCurrent, Rosters.IsIn, Rosters.IsSized, declared.slice.Slice.Slice}
pub use Rattle.htl_audit.specs.{Logs.IsFirstLine, Logs.Read, Logs.Refused, Logs.line_of, Logs.line_of_fields, Logs.log_of, Logs.log_of_lines, Logs.slices_in_front, declared.auditor.AuditTotals.AuditTotals, declared.slice.LogFault.LogFault}
pub use Rattle.htl_audit.specs.Own.{OwnLogIsFound, OwnLogIsLegal, OwnLogIsPrinted, begins_as_slice, line_slice, own_at, own_log, own_of, own_slice, slice_text}
pub use Rattle.htl_audit.specs.Verdicts.{LogEnds, LogFollows, Numbers, fault_in, verdict_of}
pub use Rattle.htl_base.proofs.{Numbers.cases_below as order, Places.get_either, Places.get_mapped as mapped_at, Words.drop, Words.inl, Words.suc, Words.take-length}
pub use Rattle.htl_console.specs.{declared.shown.Shown.Shown, declared.shown.Shown.TheVariants.Values}
pub use Rattle.htl_ecode.specs.declared.ecode.ECode.{ECode}
pub use Rattle.htl_emach.proofs.{Keeping.first_shaped, Words.cond_same}
pub use Rattle.htl_emach.specs.Pending.{Between as Pending}
pub use Rattle.htl_form.proofs.Words.{eqb_less}
pub use Rattle.htl_load.proofs.Words.{AreFeasible, slice_get_cases}
pub use Rattle.htl_machine.proofs.{Passing.up_to_more, Settling.list_is}
pub use Rattle.htl_machine.proofs.Words.{Follows, GoesBy, IsFinished, IsLength, Seen, ext_get_or, first_content, lines_of, or_with_false, subst, sym, text_between, turn_list}
pub use Rattle.htl_machine.specs.declared.numbering.ListAt.{ListAt}
pub use Rattle.htl_model.proofs.{SelectionLaws.all_places_below, Words.all_zero}
pub use Rattle.htl_model.specs.{Lists.all_some, declared.event.Event.Event, declared.event.Event.TheVariants.At, declared.event.Event.TheVariants.End as Ends, declared.event.Event.TheVariants.Sense, declared.event.Event.TheVariants.Took}
pub use Rattle.htl_model.specs.{declared.frame.Place.Place, declared.frame.Round.Round as FrameRound, declared.parts.Inv.Inv, declared.parts.Mode.Mode, declared.parts.Module.Module, declared.parts.Task.Task, declared.state.State.State}
pub use Rattle.htl_model.specs.declared.state.Stay.{Stay}
pub use Rattle.htl_object.proofs.Words.{map, none_marked, take}
pub use Rattle.htl_object.specs.declared.object.Object.{Object}
pub use Rattle.htl_refine.proofs.{Chains.Under, Chains.no_parent, Chains.one_top, Chains.same, Chains.under_more, ListsFollow.leg_from, ListsFollow.leg_knows, ListsFollow.rises_next, NewJobs.first_jobs, NewJobs.next_jobs}
pub use Rattle.htl_refine.proofs.{RisingPositions.AreRising, RisingPositions.running_rise, RoundLaws.took_within, RoundLaws.worst_some, SliceOrder.slices_apart, SliceSums.spent_is}
pub use Rattle.htl_refine.proofs.Words.{AreChained, IsTaskInRange, Meets, cases_below_next, false_from_ne_true, is_at, job_of, length-append, mul-div-le, same_truth, slice_of, stays, stays_at, two_periods, walk, window_small}
pub use Rattle.htl_runs.proofs.Words.{AllWithin, AreCarried, AreFrames, AreInForm, AreInRange, AreJobsSoFar, AreOrdered, AreTookWithin, Calendar, ChangeLine, Content, DoneLine, Entry, Frame, HasPlaces, HasReadInputs, InstrLine, InvStands, IsAccepted, IsDue, IsEntry, IsFeasibleRun, IsInvInRange, IsJob, IsLoaded, IsModeInRange, IsPast, IsSelection, IsServing, IsTookWithin, KeptApart, Left, Leg, Orders, Point, Puts, Puts-failed, Puts-second, Ready, Rises, Round, RunLine, RunRecord, RunningList, Runs, SMachineFollows, SMachineStands, SliceLine, StandsFor, StepLine, Tables, TotalsLine, Turn, ValuesFollow, absent_job, add-mul-mod_self_left, all_reads, all_writes, and_also, and_from, and_none, and_parts, append-nil, append_assoc, append_known, append_known-start, arith, as_told, at_place, before, before_of, begins, begins_as_job, begins_at, begins_by, begun_before, begun_by, below, capped, cases_below, cases_eq, cases_less_more, cases_lt, chosen, chosen_exact_apart, closed_slice_line, completed, count_by, count_left_before, derived_place, dispatch_begins, div-add-mod, done_some, e_done, e_path, each_at, effects, end_to_end, entry, eq-eqb, eqb-false, eqb-true, feeds, feeds_at, filter, finish, finished_before, first_point, flat_map, frame_at, frame_divided, frame_jobs, frame_modes, frame_of, frame_places, frame_some, frame_start, frames_are_served, front_there, get_front, get_list_to, get_mapped, get_or-set_other, get_or-set_same, get_or_from_slice_get, history_local, hyper, in_flat, in_frame, in_round, instant_path, into_back, inv_at, inv_of_mode, inv_worst, invs_of, is_concrete, is_fed_by, is_job_line, is_position, is_read_from, is_root, item_at, itself, job_at, job_in, job_is, job_lines, job_lines_at, job_lines_to, job_there, joined, kept_all, kept_apart, known_by, last_point, le-leb, le-ltb, leb-false, leb-true, left_before, left_by, left_falls, left_in, legs_of, length-drop, length-list_to, length-set, length_mapped, lengths_of, list_all, list_any, list_at, list_point, list_to, lists_at, lists_from, lists_of, lists_records, lt-leb, lt-ltb, ltb-false, ltb-true, map-append, map_at, map_same, mapped, mask, mask_bit, mod-lt, mode_module, mode_of, mode_period, modes_at, mul-div_cancel_left, mul-mod_right, mul_assoc, multiple_of, nat_tests, ne_eqb, new_records_by, newest, next_point, no_place, node, none-some, not_some, now_of, numbered, of_bool, of_flat, of_places, old_records, old_records_by, option_map, or_left, or_parts, or_right, own_starts, parent_mode, path_of, place, placed_job, placed_present, places_ordered, ports, precedes, preempted, printed, rank, reading_of, record_of, records, refined, release, root_modules, root_periods, rounds, rounds_at, rounds_before, rounds_of, run_of, running_invs, same_Some, schedules_of, sense, shifted, shown_as, since, slice_between, slice_get, slice_get-get_or, slice_get_within, slice_inside, slice_onto, slices, some_time, spent, standing_at, standing_places, starts, starts_below, state, states_are_selections, stay_of, take-append_seam, taken_as, task_worst, text_lines, text_of, time_after, time_rises, times_grow, times_within, took, turn_at, turn_finished_by, unit_period, unit_start, up_to, up_to_none, up_to_same, walk_from, walk_rises, walks_from, walks_of, window_end, window_within, with_sensors, work_present, work_some, writer_from}
pub use Rattle.htl_runs.proofs.{events.NextReading.all_read, events.NextReading.turn_same, events.NextReading.within_more, events.SameTriggers.triggers_alike, events.TextSoFar.later_leave, frames.FrameMembers.below_start}
pub use Rattle.htl_runs.proofs.events.SameSensors.{Alike, before_same, reading_more, sense_at, sense_sense, sense_took, state_same, took_at, took_sense, took_took, values_alike}
pub use Rattle.htl_runs.proofs.{frames.JobWindows.end_before_writes, frames.JobWindows.reads_before_release, frames.OwedJobs.in_order, frames.PlacedStays.entry_is, frames.PlacedStays.there_front, frames.RunFrames.feasible_runs}
pub use Rattle.htl_runs.proofs.{frames.RootModes.has_root, frames.RootModes.unit_period_is, frames.RootPaths.climb, frames.RootPaths.down, jobs.Accepted.accepted_is_loaded, records.DoneBefore.done_exactly, values.PortWriters.fed}
pub use Rattle.htl_runs.proofs.{lines.JobLines.begins_silent, lines.JobLines.job_lines_of, lines.JobLines.jobs_are_found, lines.JobLines.run_shows, values.FinishedOutputs.completed_shape, values.FinishedOutputs.finish_follows}
pub use Rattle.htl_runs.proofs.{records.InstantRecords.none_at_first, records.InstantRecords.rounds_are, records.InstantRecords.up_to_last, values.JobOutputs.writer_is, values.JobOutputs.writer_stands, values.WorldShapes.has_places}
pub use Rattle.htl_runs.proofs.values.InstantWorlds.{after_shape, follows_on, holds_values}
pub use Rattle.htl_runs.specs.lines.Lines.{all_records}
pub use Rattle.htl_script.proofs.{Places.none_found, Splitting.lines_of-last}
pub use Rattle.htl_script.proofs.Words.{fields_of, invocation_of, is_invocation, is_space, length-slice_split, position-Some, position_from, position_from-zero, position_or_len, position_or_len_is, slice_split, slice_split_first}
pub use Rattle.htl_smach.proofs.Words.{take_all}
pub use Rattle.htl_walk.proofs.{Accepted.form_joined, Accepted.met_same, JobLaws.preds_of, Joining.begun_idle, Joining.body, NodeWalks.starts_order, Starts.starts_rise, Words.marked_within}
pub use Rattle.htl_walk.specs.{Walk.position_of, declared.job.Job.Job, declared.schedule.SInstr.SInstr, declared.schedule.SInstr.TheVariants.Dispatch, declared.schedule.SInstr.TheVariants.End, declared.schedule.SInstr.TheVariants.Idle}
pub use Rattle.std.proofs.{Math.Nat.two-pow-succ, lemmas.List.append_cancel_left, lemmas.List.drop-map, lemmas.List.take-append-le, lemmas.List.take-map}
