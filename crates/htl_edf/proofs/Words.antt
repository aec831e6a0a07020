-- The words that several proofs cite, of this crate and of those below it, passed on from one place. Declares nothing.
pub use Rattle.htl_base.proofs.Tests.{and_first, eqb_apart, eqb_flips, none_below}
pub use Rattle.htl_base.proofs.Words.{All-cons, All-nil, Any-from_list_any, IfOk, IsDistinct-IsPermutation, IsNonDecreasingBy-from_sort, IsPermutation, IsSorted, IsStrictlyIncreasing-from_distinct, OnOk, ap, below_from_sorted, both_ways, count_by, count_by-le-length, div-le_self, get_or_default, length-take, sorted_from_strictly_increasing, take, trailing_zeros}
pub use Rattle.htl_base.specs.declared.Ty.{Ty}
pub use Rattle.htl_edf.specs.{Code.closed_of, Code.dispatches_of, Code.edf_schedule, Code.open_of, Edf.Slice, Edf.earliest, Edf.edf, Edf.edf_on, Edf.left, Edf.longer, Edf.maximal_slices, Edf.run_for, Faults.IsReport}
pub use Rattle.htl_edf.specs.FrameSamples.{IsFramed, frame_comm, frame_comms, frame_inv, frame_invs, frame_mode, frame_modes, frame_modules, frame_sample, frame_sample_of, frame_task, frame_tasks}
pub use Rattle.htl_edf.specs.Greatest.{FewerFit, Fits, FrameWithWorst, GreatestByOneMore, LimitsWithWorst, OneGreatest, OwnWorst, ReadyWithWorst, with_worst, worst_in}
pub use Rattle.htl_edf.specs.{Laws.Acceptance, Laws.FunctionsDecideNoPlan, Laws.HaveWork, Laws.IsFrontOf, Laws.OneReport, Laws.TightWindows, Laws.Tightening, Parts.part, Parts.parts, Parts.slices_from, Sums.bit, Sums.sum_below}
pub use Rattle.htl_edf.specs.{Lists.AgreeBelow, Lists.AreInTime, Lists.AreTightened, Lists.HoldsAfter, Lists.LeftAt, Lists.QuietFrom, Lists.jobs_of, Lists.no_window, Lists.tightened, Turns.HaveEnds, Turns.HaveReleases}
pub use Rattle.htl_edf.specs.{MoreWork.AreLonger, MoreWork.AsksMore, MoreWork.IsLonger, MoreWork.LongerOverload, MoreWork.MoreWork, MoreWork.ShorterFit, MoreWork.StaysOverloaded, declared.plan.PlanFault.PlanFault}
pub use Rattle.htl_edf.specs.NodePlans.{AreNodeLists, ArePlannedTo, AreReady, ExplainsNodes, HasPart, HaveParts, IsPathReady, NodesAccepted, NodesRefused, OneListOfNode}
pub use Rattle.htl_edf.specs.{PartLaws.OneNodePart, PartLaws.OnePart, PartLaws.PathAcceptance, PartLaws.PathRefusal, Plan.ArePlannable, Plan.ArePlanned, Plan.ExplainsPlan, Plan.IsPlanned, declared.rounds.Tight.Tight}
pub use Rattle.htl_edf.specs.Ranks.{AreInOrder, AreRanked, IsAhead, IsReleased, end_time, item, number_of, release_time, time_of}
pub use Rattle.htl_edf.specs.Slices.{Apart, DoNotOverlap, Each, HaveTicks, SlicesMeet, SlicesMeetIn, covers, on_slices, ticks_of}
pub use Rattle.htl_edf.specs.Tight.{Jobs, NoCycle, TicksMeet, end_at, greatest_below, least_below, release_at, tight}
pub use Rattle.htl_edf.specs.Windows.{IsEdf, NoOverload, OneATick, Overloaded, Ready, Reported, Served, Windows, demand_of, given, inside}
pub use Rattle.htl_edf.specs.declared.plan.PlanFault.TheVariants.{Memory, Overload}
pub use Rattle.htl_model.proofs.FrameLists.{all_choices_framed, all_most_framed, limit_framed, path_places_framed, paths_framed, radices_framed, rounds_framed}
pub use Rattle.htl_model.proofs.{FrameSteps.begins_zero, FrameSteps.room_for, NumbersBelow.count_less, NumbersBelow.count_strict, SameRanges.selection_count_same}
pub use Rattle.htl_model.proofs.Sources.{call, int_one, mode, module_named, task, two_periods}
pub use Rattle.htl_model.proofs.Words.{BreaksAt, IsDistinct, IsDistinct-from_apart, IsEndInRange, IsFunInRange, IsModuleInRange, IsNonDecreasing, KeepsFrames, Leads, PortCycles, breach, count_below, div-one, eqb-true, false_from_ne_true, feeds, greatest, input_types, length-set, mode_module, or_cases, or_left, or_right, output_types}
pub use Rattle.htl_model.specs.{EndRules.end_type, EndRules.is_sensor, EndRules.type_number, Frames.path_positions, Ranges.IsCommInRange, Ranges.IsPortInRange, Ranges.IsSwitchInRange, Tables.task_is_abstract, declared.frame.Frame.Frame}
pub use Rattle.htl_model.specs.{declared.frame.Place.Place, declared.parts.Comm.Comm, declared.parts.Inv.Inv, declared.parts.Mode.Mode, declared.parts.Module.Module, declared.parts.Task.Task}
pub use Rattle.htl_walk.proofs.{Accepted.accepted_apart, Accepted.accepted_joined, Accepted.form_joined, CodeWalk.end_read, CodeWalk.start_read, EqualPeriods.first_round, Joining.body, Joining.joined, NodeNumbers.node_depth}
pub use Rattle.htl_walk.proofs.{Fine.IsFine, Fine.accepted_fine, Fine.fine_accepted, Fine.first_left, Fine.job_at_is, NodeWalks.list_front, Nodes.leg_at, Nodes.nodes_share, Nodes.nodes_within, Nodes.some_root, SameJobs.abstract_jobs_same}
pub use Rattle.htl_walk.proofs.{OneRound.are_rounds, OneRound.each_round, OneRound.no_limit, OneRound.no_selection, OneRound.nodes_are, OneRound.none_or_some, PathReady.position_placed, PathReady.walkable}
pub use Rattle.htl_walk.proofs.{PendingLaws.cleared, PendingLaws.kept_pending, PendingLaws.not_both, PendingLaws.not_kept, Steps.left_falls, Steps.left_other, Steps.left_same, Steps.time_rises}
pub use Rattle.htl_walk.proofs.Starts.{Rises, Stands, get_map, legs_follow, legs_know, mask_bit, no_place, placed_is, starts_rise}
pub use Rattle.htl_walk.proofs.Words.{AreChained, AreFeasible, AreInForm, AreInRange, AreRounds, AreWellFormed, EndWithin, InForm, IsFrame, IsInvInRange, IsModeInRange, IsPathAccepted, IsSpan, IsTaskInRange, IsWellFormed, KeepsLimits, KeptApart, KeptTo, KnowReleased, Leg, List, Point, RootsHaveOnePeriod, ScheduleIsAccepted, ShareNodes, Tables, absent_job, abstract_jobs, and_from, and_none, and_parts, arith, bit_and, bit_at, bit_at-suc, bit_at-trailing_zeros, bit_at-zero, cases_Bool, cases_eq, cases_lt, cell, choices, comm_period, direct, dispatch_begins, div-div-eq-div-mul, feeds_at, first_point, frame_limit, frame_of, get_or-map, get_or_past, get_taken, has_bit, has_no_bit, hyper, instrs_of, is_fed_by, job_at, job_in, kept_apart, known_by, least_or, legs, legs_of, length, length-append, length-map, list_any, list_to, lists_of, mask, mode_period, modes_of, most_positions, nat_tests, ne_eqb, next_of, next_point, node, nodes, nodes_of, offsets, path_jobs, path_places, paths, placed, placed_job, placed_jobs, precedes, radices, refl, root_modules, root_periods, round_length, rounds, same_Some, selection_count, slice_get, slice_get-get_or, slice_get_cases, start_at, start_end_at, starts, subst, sym, task_worst, through, time_after, unit_period, w128, work_after, worst_cases}
pub use Rattle.htl_walk.specs.{Jobs.precedes as precedes_job, Walk.dispatch_begins as begins_at, declared.job.Job.Job, declared.schedule.SInstr.SInstr, declared.schedule.Schedule.Schedule}
pub use Rattle.htl_walk.specs.declared.schedule.SInstr.TheVariants.{Dispatch, End, Idle}
pub use Rattle.std.proofs.{Math.Nat.pow-succ', lemmas.Bool.and_cases, lemmas.Bool.cases_eq as apart, lemmas.Int.clamps, lemmas.Int.ints, lemmas.List.Folds.list_any_at, lemmas.Result.IfErr-weaker}
pub use Rattle.std.proofs.lemmas.List.Sorted.{All-permutation, list_any-IsPermutation}
pub use Rattle.std.specs.{Int.int_min, declared.alloc.Global.Global, declared.result.Result.Result, declared.result.Result.TheVariants.Err, declared.result.Result.TheVariants.Ok, declared.vec.Vec.Vec}
