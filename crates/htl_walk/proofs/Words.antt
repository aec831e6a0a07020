-- The words that several proofs cite, of this crate and of those below it, passed on from one place. Declares nothing.
pub use Rattle.htl_base.proofs.{Numbers.grow_times, Numbers.one_more_time, Numbers.same_from_neither, Numbers.times_same, Places.get_taken, Places.marked_within}
pub use Rattle.htl_base.proofs.Words.{All-map, List, None, and_from, and_right, arith, bit_and, bit_at-trailing_zeros, cases_eq, div-add-mod, div-mul-add, ext_get_or, flat_map-append, get_or, get_or-take, get_or_past, length, list_all, ltb-true, map-append, mod-mul-add, mul-add-div_right, mul-add-lt, refl, rules, same_Some, same_number_lists, slice_get_past, sym, take-append-drop, take_all}
pub use Rattle.htl_model.proofs.{BitLaws.has_no_bit, BitLaws.same_row, FrameBuild.frame_some, FrameBuild.paths_ways, FrameRules.first_own, FrameRules.frame_divided, FrameRules.kept_apart, PortChains.mode_there, SameRanges.positions_same}
pub use Rattle.htl_model.proofs.{FrameLimits.HaveModes, FrameLimits.choices_append, FrameLimits.choices_starts, FrameLimits.limits_kept, FrameLimits.one_divides, FrameLimits.rounds_have, SameRules.release_same, SameRules.window_end_same}
pub use Rattle.htl_model.proofs.{LimitCode.limit_none, LimitCode.limit_rest, LimitCode.not_exceeded, LimitCode.rest_is, PortTableLaws.one_writer, PortTableLaws.row_of_none, PortTableLaws.row_of_reads, Sources.ports, Sources.preempted}
pub use Rattle.htl_model.proofs.SelectionLaws.{modes_some, place_passes_0, position_below, root_period_is}
pub use Rattle.htl_model.proofs.Words.{All-from_get_or, AreInRange, Fun, IsInvInRange, IsModeInRange, Itself, KeepsLimits, KeptApart, KeptTo, Offsets, Output, Part, Site, Tables, Windows, and_none, and_parts, begins, bit_at, bit_at-suc, bit_at-zero, bit_at_lowest, cases_Bool, cases_lt, cell, choices, choices_from, comm_period, common_multiple, direct, div-div-eq-div-mul, each_at, eq-eqb, feeds_at, first_mode, flat_map, frame_limit, frame_of, gcd_in, get_or-map, get_or_from_slice_get, has_bit, hyper, inv_of_mode, invs_of, is_from, is_root, le-ltb, least_or, length-append, length-map, list_any, list_to, lt-ltb, mod-eq_of_lt, mod_self, mode_from, mode_in, mode_of_module, mode_period, modes_of, most_invs, most_positions, mul-le-mul_right, mul_assoc, mul_comm, multiple_of, nat_tests, ne_eqb, node_of, nodes_of, offsets, other_limit, parent_of, path_places, paths, places_from, places_in, places_of, positions, product_parts, radices, release, root_mode, root_modules, root_period, root_periods, rounds, rounds_at, rounds_of, selection_count, slice_get, slice_get-get_or, slice_get_cases, slice_get_within, starts, starts_below, subst, take-suc, take_more_set, task_worst, through, too_long, unit_period, unit_start, w128, ways, window_end, with_functions, writes_to}
pub use Rattle.htl_model.specs.{FormRules.ModulePeriod, FrameTables.IsFrame, Frames.known_by, Frames.node, Frames.nodes, Frames.path_mode, Functions.of_bool, PeriodRules.asked_period, Ranges.IsSpan, Ranges.IsTaskInRange}
pub use Rattle.htl_model.specs.{Selections.round_length, declared.frame.Frame.Frame, declared.frame.Place.Place, declared.frame.Round.Round, declared.parts.Inv.Inv, declared.parts.Mode.Mode, declared.parts.Module.Module}
pub use Rattle.htl_model.specs.declared.parts.Task.{Task}
pub use Rattle.htl_walk.specs.{EqualPeriods.AllHave, EqualPeriods.AreRounds, EqualPeriods.HasOnePeriod, EqualPeriods.OnePeriod, EqualPeriods.RootsHaveOnePeriod, Extents.AreExtents, Extents.Stand, Extents.no_items, Extents.widened}
pub use Rattle.htl_walk.specs.{Feasible.AreFeasible, Feasible.lists_of, Following.ArePending, Following.IsFollowed, Following.IsInTime, Following.IsKnown, Following.IsMissAt, Following.IsReady, GoingOn.OnwardLists, GoingOn.Untouched}
pub use Rattle.htl_walk.specs.FrameLaws.{AreFronts, LegsAreFronts, LegsFollow, LegsKnow, ModesStay, NodesDiffer, NodesReached, NodesShare, NodesWithin, start_at, start_end_at}
pub use Rattle.htl_walk.specs.{Fronts.IsRoundFront, Fronts.KnowReleased, Fronts.ShareFront, Jobs.absent_job, Jobs.abstract_jobs, Jobs.is_fed_by, Jobs.job_among, Jobs.job_of, Jobs.jobs_standing, Jobs.mask, Jobs.precedes}
pub use Rattle.htl_walk.specs.{Laws.AgreeBefore, Laws.Dominance, Laws.FunctionsDecideNoJob, Laws.OneFirstMiss, Laws.UnreleasedLengths, Placing.HasTimes, Placing.begins_with, Placing.moved, Placing.standing_of, declared.job.Job.Job}
pub use Rattle.htl_walk.specs.Misses.{DepartsAt, DepartsBy, DispatchesAt, IsCleanBefore, IsFirstBefore, IsFirstDeparture, IsFirstLate, IsFirstMiss, IsFirstUnfinished, IsTooEarly, IsTooLate, worst_point}
pub use Rattle.htl_walk.specs.NodeWalks.{AreCleanTo, AreResumed, AreSaved, AreWalkable, AreWalkedTo, IsCleanAt, IsFirstFailing, IsMissIn, IsNodeMissAt, ListIsClean, MissesAt, ShareNodes, count_to, instrs_of, list_at, reach, reached}
pub use Rattle.htl_walk.specs.{PathJobs.job_in, PathJobs.legs, PathJobs.legs_of, PathJobs.next_of, PathJobs.path_jobs, PathJobs.placed, PathJobs.placed_job, PathJobs.placed_jobs, declared.extents.Extent.Extent, declared.miss.Miss.Miss}
pub use Rattle.htl_walk.specs.PathLaws.{Accepting, CleanAlike, Locality, OneList, OneListAccepted, OneListMiss, OnePathMiss, PathDominance, PathInheritance, PathRefused, WaitWithin, whole}
pub use Rattle.htl_walk.specs.PathMisses.{AreClean, IsCleanIn, IsFirstBeforeIn, IsFirstLateIn, IsFirstOpenIn, IsListClean, IsListMiss, IsOpen, IsPathMiss, IsTooEarlyIn, IsTooLateIn, counted, point_in}
pub use Rattle.htl_walk.specs.Paths.{AgreeAt, AgreeOn, AreChained, AreInForm, AreInOrder, IsPathAccepted, Leg, PathMeets, end_to_end, list_point, no_leg, path_point, walks_from}
pub use Rattle.htl_walk.specs.{Refinement.AreWithinWorst, Refinement.HasWork, Refinement.HaveLengths, Refinement.LeadsTo, Refinement.Refines, Refinement.RefinesJob, WellFormed.AreWellFormed, WellFormed.EndWithin, WellFormed.IsWellFormed}
pub use Rattle.htl_walk.specs.Walk.{AllWithin, AreDone, DoneBy, InForm, InOrder, IsMet, IsStep, Left, Meets, Point, ScheduleIsAccepted, dispatch_begins, earlier, finish, finishes_by, first_point, is_position, job_at, last_point, left_by, next_point, point_at, slice_between, slice_onto, slices, time_after, walk, walk_from, work, work_after, worst_cases}
pub use Rattle.htl_walk.specs.{Writers.AreWriters, Writers.inv_of, Writers.job_with, Writers.reads_of, Writers.standing_in, Writers.stands, declared.extents.Extents.Extents, declared.schedule.SInstr.SInstr}
pub use Rattle.htl_walk.specs.{declared.schedule.SInstr.TheVariants.Dispatch, declared.schedule.SInstr.TheVariants.End, declared.schedule.SInstr.TheVariants.Idle, declared.schedule.Schedule.Schedule}
pub use Rattle.std.proofs.{Math.Arith.mod-mul, Math.ListN.length-set, Math.Nat.add-mul-mod_self_right, Math.Nat.div-eq_of_eq-mul_right, Math.Nat.two-pow-succ, Math.Nat.zero-div, lemmas.Bool.and_left, lemmas.Nat.and_le_r}
pub use Rattle.std.proofs.lemmas.Nat.Bits.{bit_at_above, bit_at_and, bit_at_clear_other, bit_at_clear_same}
pub use Rattle.std.specs.{Int.bit_not, List.All}
