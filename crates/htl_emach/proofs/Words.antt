-- The words that several proofs cite, of this crate and of those below it, passed on from one place. Declares nothing.
pub use Rattle.htl_base.proofs.{Numbers.cases_le, Options.not_both, Places.item_at, Places.nothing_ends, Tests.and_first, Tests.cond_same}
pub use Rattle.htl_base.proofs.Words.{arith, cases_eq, get_or_default, length-replicate, map-append, map_more, same_Some, sym, to_z-of_z}
pub use Rattle.htl_base.specs.declared.Ty.{Ty}
pub use Rattle.htl_ecode.proofs.{BlockLaws.IsBlockPhase, BlockLaws.no_block, BlockLaws.spelled_first, BlockLaws.spelled_links, BlockLaws.spelled_stands, Fitting.holds_append, Least.IsLeast, Least.least_is, SpellingLaws.spelled_departs_not}
pub use Rattle.htl_ecode.proofs.{Kept.instr_of, Kept.instrs_of, Kept.kept, Kept.kept_are, Kept.kept_jumps, Kept.kept_one, Kept.kept_reached, Spelled.ModeReads, Spelled.spelled_reads}
pub use Rattle.htl_ecode.proofs.Reading.{IsInstr, IsResolved, IsReached, Jumps, anchor_is, bind_ok, jump_to_is, resolve_is, reach_is, read_is, same_is}
pub use Rattle.htl_ecode.proofs.Words.{AreInRange, AtAnchor, ModeJump, Exactly, Done, IsInvInRange, IsModeInRange, Resolved, Output, Reached, Step, Tables, SwitchJump, EndOfRound, NextBlock, Requirement, all_do, alternating, and_parts, asks_for, begin_chain, bind, block_at, block_begun, block_chain, blocks, call_of, calls, calls_of, cases_below, children, comm_period, counted_in, counts, decide_chain, decided, departure, doubling, ends_in, enter_chain, entered, eq-eqb, eqb-true, fault, get_list_to, greatest, holds, is_child, is_concrete, joined, jump_to, resolved, layout, least_from, leaving, list_to, mode_module, mode_period, nat_tests, next_offset, numbered, offsets, or_cases, or_right, parent_of, pass, passed_by, phase_offsets, places_at, places_from, ports, preempted, reach, read, reentered, refined, release, release_of, releases, same_instr, slice_get_within, steps_of, tanks, target_of, test_of, tests_of, up_to, waits_for}
pub use Rattle.htl_ecode.specs.{Chains.branch_target, Offsets.meets, Phases.number_of, Phases.phase_of, declared.ecode.ECode.ECode, declared.fault.EFault.EFault, declared.fault.EKind.TheVariants.Action, declared.instr.EInstr.EInstr}
pub use Rattle.htl_ecode.specs.Paths.{begin_path, block_path, chain_path, decide_path, due_path, e_path, enter_path, followed, holds_in, on, round_end, step_from, switch_path, turn_step}
pub use Rattle.htl_emach.specs.Calendars.{Calendar, HasModule, Standing, block_from, block_in, calendar_effect, content_after, done_at, done_in, entry_of, first_calendar, first_due, first_standing, first_trigger, goes, going_on, list_at, runs_in, standing_after, stepped, taken, taken_by, target_at, triggers_of, with_trigger}
pub use Rattle.htl_emach.specs.Contents.{Content, argument, arguments, buffer, call_read, call_write, comm_of, completed, effect, first_content, input_row, made, output_row, put_in, reads_at, writes_at, zeros}
pub use Rattle.htl_emach.specs.{Due.IsDueAt, Due.IsEarliest, Due.IsNext, Due.IsNextOf, Due.IsUpToNext, Due.LacksModules, Due.NoneBefore, Due.earlier, Due.earliest, Due.earliest_of, Laws.NothingOverdue, Laws.PassesInstant}
pub use Rattle.htl_emach.specs.Following.{BlockRuns, FollowsCode, IsBetweenBlocks, IsInBlock, Midway, Onward, PhaseStands, blocks_to_come, calendar_at, calendar_replay, from_module, phase_blocks, phase_path}
pub use Rattle.htl_emach.specs.{Indices.Indices, Indices.first_functions, Indices.index_of, Indices.is_own, Indices.port_writers, Indices.sensor_type, Indices.writer_of, Ready.Fits, Ready.IsReady, declared.contender.Contender.Contender}
pub use Rattle.htl_emach.specs.{Leading.AreAllowed, Leading.Ends, Leading.HasInput, Leading.HasOutput, Leading.IsAllowed, Leading.Leads, Leading.goes_at, declared.trigger.Block.Block, declared.trigger.EDone.EDone}
pub use Rattle.htl_emach.specs.Pending.{Between, Entry, IsSized, awaited, closed, ended, ending, entering, entry_after, entry_at, entry_before, is_called, new_stay, next_block, old_stay, opening, pending_entry, switched, trigger_at, turning}
pub use Rattle.htl_emach.specs.{Safety.IsFit, Safety.IsSafe, Safety.IsStart, Safety.LeadToBlocks, Safety.MayLead, Safety.RunsSafely, Safety.StandsSafely, Safety.StartsIn, Safety.safe, declared.trigger.Trigger.Trigger}
pub use Rattle.htl_emach.specs.Shapes.{Applies, HasEnds, HasRoom, HasValues, IsShaped, RowFits, SensorsStay, TaskApplies, comm_types, is_of_type, sensor_takes, values_at}
pub use Rattle.htl_fcode.proofs.Runs.{FitsType-Verified}
pub use Rattle.htl_fcode.specs.Arguments.{AreArguments}
pub use Rattle.htl_model.proofs.{Listed.length-list_to, PlaceLaws.output_types_at, PlaceLaws.switch_types_at, SelectionLaws.output_within, Stays.stay_at}
pub use Rattle.htl_model.proofs.Words.{Formula, Fun, FunctionType, History, IsEndInRange, IsModeThat, KeptApart, Sensors, TypeDiffers, before, cases_Bool, cases_lt, comm_type, count_at, count_before, each_at, first_mode, function_count, function_value, get_or-set_other, get_or-set_same, go_on_or_begin, history, input_types, is_zero, length-map, length-set, lt-ltb, ne_eqb, next_stay, none-some, not-true, output_function, output_type, output_types, runs, sense, slice_get-get_or, state, stay_of, stays_to, subst, switch_function, switch_holds, switch_type, take_more_set, target_from, true_not_false}
pub use Rattle.htl_model.specs.{EndRules.CountsDiffer, EndRules.type_number, FunctionTypes.FitPlaces, FunctionTypes.IsFunctionOf, Meaning.mode_of, Meaning.port_output, Meaning.target, Meaning.writer_from, PeriodRules.asked_period}
pub use Rattle.htl_model.specs.{Ranges.FitsType, Ranges.IsCommInRange, Ranges.IsSwitchInRange, Ranges.IsTaskInRange, Tables.Compiled, Tables.fun, declared.event.Event.Event, declared.parts.Comm.Comm, declared.parts.End.End}
pub use Rattle.htl_model.specs.{declared.parts.Inv.Inv, declared.parts.Mode.Mode, declared.parts.Module.Module, declared.parts.Port.Port, declared.parts.Switch.Switch, declared.parts.Task.Task, declared.state.Stay.Stay}
pub use Rattle.std.proofs.{Math.Seq.drop-cons, Math.Seq.set-append_seam, lemmas.List.map-set, lemmas.List.same_lists}
pub use Rattle.std.specs.Vec.{with_item}
