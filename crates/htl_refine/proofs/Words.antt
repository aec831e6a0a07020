-- The words that several proofs cite, of this crate and of those below it, passed on from one place. Declares nothing.
pub use Rattle.htl_base.proofs.{Numbers.cases_less_more, Numbers.times_grow, Numbers.zero_down, Places.from_map, Places.into_back, Places.map_same, Places.take_all, Places.take_front}
pub use Rattle.htl_base.proofs.Words.{Decides, add-mul-div_left, add-mul-mod_self_left, div-lt_iff_lt-mul, drop-append_seam, eqb-false, filter, le-leb, leb-false, leb-true, length-drop, length-replicate, length-take, lt-leb, ltb-false, mod-lt, mul-div-le, mul-div_cancel_left}
pub use Rattle.htl_base.specs.declared.Ty.TheVariants.{Int as IntTy}
pub use Rattle.htl_form.proofs.{AbstractLaws.goes, CycleLaws.leads_same, EndLaws.finds_or_else, Finding.Finds, Finding.finds_nothing, Finding.finds_unless, Judging.Judges, PartLaws.taken, Places.filled_at}
pub use Rattle.htl_form.proofs.{OneFault.SameSite, OneFault.broken_there, OneFault.one_at, OneFault.one_form_fault, OneFault.order, OneFault.same_fault, SiteLaws.IsFirstOfRule, SiteLaws.rule_first, SiteLaws.rule_none}
pub use Rattle.htl_form.proofs.RowLaws.{cell_below, same_mode, unfold_follows, way_in, way_out}
pub use Rattle.htl_form.proofs.Words.{AreSteps, BreaksAt, Broken, ComesBefore, FormRule, Formed, Input, IsEndInRange, IsFirstAt, IsFirstBroken, IsRangeOf, IsStartOf, Leads, OutputBefore, PartBreaks, WritesPort, all_at, and_true, any_passes_from_place, breach, call, cases_below_next, cases_le, cases_less_same, eqb-true, eqb_apart, false_from_ne_true, feeds, feeds_within, first_from, first_start, follows, found_at, int_one, is_concrete, is_port, item_at, leads_below, leads_from, leads_within, mode, mode_module, module_named, no_bits, none-some, none_at, not-true, number_of, option_map, or_else, or_left, or_parts, or_right, parent_mode, plain, port_writers, same_truth, site_of, some_place, switch, task, through_all, true_not_false, unless}
pub use Rattle.htl_model.proofs.{ChosenLaws.chosen_here, ChosenLaws.chosen_next, FirstLaws.to_found, FirstLaws.to_none, FrameLimits.radix_few, FrameLimits.roots_have, Listed.length-list_to, Listed.list_same, Locality.up_to_same}
pub use Rattle.htl_model.proofs.{SelectionLaws.no_modules, Sources.reentered, Sources.refined, Sources.two_periods, StartLaws.modes_rise, Stays.length-stays_to, Stays.module_is, Stays.runs_is, Stays.stay_at}
pub use Rattle.htl_model.proofs.Words.{AsksMore, Exceeds, Inheritance, IsAbstractIn, IsModeThat, IsRefined, IsWriterOf, ParentFault, Parents, PortWriters, SecondChild, SharedParents, SharesParent, StandsUnrefined, Unordered, before, cases_up_to, child, child_from, chosen, chosen_in, div-eq_of_lt, entry, first_to, followed, get_back, get_front, get_mapped, go_on_or_begin, is_at, is_child, is_read_from, is_running, is_selection, itself_or, next_stay, runs, state, stay_of, stays_at, stays_to, switch_holds, target_from, up_to, within_front}
pub use Rattle.htl_model.specs.{Chosen.IsChosen, Chosen.StandsFor, Chosen.below, Chosen.itself, Lists.joined, Lists.numbered, Meaning.module_stay, Meaning.target, Ranges.IsSwitchInRange, RefinementRules.ParentWrong, declared.parts.Inv.Inv}
pub use Rattle.htl_model.specs.{Selected.IsActive, Selected.IsEntry, Selected.IsModeOf, Selected.IsSelection, Selected.Runs, Selected.are_entries, Selected.is_active, Selected.is_entry, Selected.is_mode_of, declared.event.Event.Event}
pub use Rattle.htl_model.specs.{declared.event.Event.TheVariants.At, declared.event.Event.TheVariants.End as Ends, declared.event.Event.TheVariants.Took, declared.form_fault.FormFault.FormFault, declared.frame.Place.Place}
pub use Rattle.htl_model.specs.{declared.frame.Round.Round, declared.parts.Mode.Mode, declared.parts.Module.Module, declared.parts.Port.Port, declared.parts.Switch.Switch, declared.parts.Task.Task, declared.state.Stay.Stay}
pub use Rattle.htl_refine.specs.{AgreeingRuns.AreSameSoFar, AgreeingRuns.FramesAgree, AgreeingRuns.FrontsAlike, AgreeingRuns.WalksAgree, FramePlaces.AreOrdered, FramePlaces.PlacesOrdered, FramePlaces.place, FramePlaces.standing_places}
pub use Rattle.htl_refine.specs.{BegunJobs.choice_of, BegunJobs.choice_rest, BegunJobs.new_jobs, BegunJobs.new_places, BegunJobs.nowhere, Orders.ArePlaces, Orders.AreRowsBelow, Orders.IsPut, ServedSoFar.FrontServed, ServedSoFar.ListServed}
pub use Rattle.htl_refine.specs.{ConcreteJobs.IsOfSelection, ConcreteJobs.concrete_jobs, ConcreteJobs.running_invs, ConcreteJobs.running_positions, ConcreteJobs.standing, Tests.first_refinement_fault, Tests.refinement_fault_of, Tests.tests}
pub use Rattle.htl_refine.specs.DerivedPaths.{IsAlong, PathRefinement, PathServes, begun_jobs, begun_mode, begun_places, derived_jobs, derived_place, modes_of_all, round_places, standing_place, start_modes, start_places}
pub use Rattle.htl_refine.specs.{FrameLaws.NodeSteps, FrameLaws.NodesAgree, FrameLaws.NodesRead, FrameLaws.OneFrameRecords, FrameLaws.PathsRead, RecordCounts.Rises, RecordCounts.count_left_before, RecordCounts.done_by}
pub use Rattle.htl_refine.specs.FrameRecords.{RunningList, begins_at, begun_before, in_frame, left_in, lists_at, lists_from, new_records, new_records_by, old_records, old_records_by, records}
pub use Rattle.htl_refine.specs.FrameRuns.{Frame, choice_at, frame_at, frame_jobs, frame_modes, frame_places, node_read, nodes_below, path_in, path_of, running_places, walk_of, walks_of}
pub use Rattle.htl_refine.specs.{ListLaws.CountSplit, ListLaws.DoneSplit, ListLaws.LengthsLater, ListLaws.ListWalks, ListLaws.ListsFollow, ListLaws.WorkDone, Roots.entry_place, Roots.place_among, Roots.selection_from, Roots.selection_of}
pub use Rattle.htl_refine.specs.{ListPlans.ListPlan, ListPlans.front_of, ListPlans.leg_at, ListPlans.list_plan, ListPlans.list_start, ListPlans.list_walk, ListPlans.records_before, declared.rule.Rule.Rule}
pub use Rattle.htl_refine.specs.{OwnRounds.BeginningsEnd, OwnRounds.OwnStarts, OwnRounds.RoundEnds, OwnRounds.StaysSince, OwnRounds.StaysUntil, Rules.refinement_law_of, Rules.refinement_rule_number, Rules.refinement_rules}
pub use Rattle.htl_refine.specs.{RecordLists.ListsRun, RecordLists.NewRecords, RecordLists.NoNewRecords, RecordLists.NoOldRecords, RecordLists.OldRecords, RecordLists.list_at, declared.selection.Selection.Selection}
pub use Rattle.htl_refine.specs.Records.{AreTookWithin, inv_worst, last_took, left_at, lengths_of, modes_at, round_at, round_records, rounds_before, shifted, took}
pub use Rattle.htl_refine.specs.Refining.{clash_before, clashes, excess, excess_at, excess_by, excess_fault, first_clash, inv_precedes, is_abstract_at, is_refined, order_fault, order_fault_by, parent_fault, parent_fault_by, place_fault, refines, shared_fault, shared_fault_by, told_clash, unless_less, unless_more, writer_parent, writers_parent}
pub use Rattle.htl_refine.specs.ServedFrames.{EveryJobInTime, FramesAreServed, FramesServe, IsFeasibleRun, IsServing}
pub use Rattle.htl_refine.specs.ServedJobs.{Finishes, Serves, SlicesAreApart, spent}
pub use Rattle.htl_walk.proofs.{Acceptance.left_falls_to, Acceptance.no_finish, Accepted.past_legs, Accepted.path_dominance, CodeWalk.start_read, CodeWalk.work_length, Dominance.dominance, GoingOn.same_length, Waiting.time_rises_to}
pub use Rattle.htl_walk.proofs.{Finishes.ends, Finishes.finish_later, Finishes.finish_now, JobLaws.abstract_jobs_work, JobLaws.worst_some, Joining.dispatch_stays, Joining.stays, NodeWalks.known_rises, NodeWalks.starts_order}
pub use Rattle.htl_walk.proofs.{Locality.locality, Locality.path_inheritance, Locality.take_forms, Locality.take_walks, Locality.walk_alike, Nodes.known_append, Nodes.map_append, Nodes.some_root, PathReady.period_at, PathReady.window_small}
pub use Rattle.htl_walk.proofs.{OnePeriod.job_at_start, OnePeriod.one_period, OnePeriod.places_join, PathLists.form_at, PathLists.walk_at, PathLists.walk_take, PathLists.job_front, Unreleased.Alike, Unreleased.alike_walks}
pub use Rattle.htl_walk.proofs.Starts.{Stands, job_is, known_few, later_stands, legs_follow, mask_bit, no_place, path_later, placed_is, starts_rise}
pub use Rattle.htl_walk.proofs.{Steps.left_falls, Steps.left_other, Steps.left_same, Steps.time_rises, Work.job_there, Work.present_or_idle, Work.work_present, Work.work_some}
pub use Rattle.htl_walk.proofs.Words.{AgreeAt, AgreeBefore, AgreeOn, All, All-from_get_or, AreChained, AreInForm, AreInRange, AreWithinWorst, HasOnePeriod, HasTimes, HasWork, HaveLengths, InForm, IsInvInRange, IsMet, IsModeInRange, IsPathAccepted, IsTaskInRange, Itself, KeepsLimits, KeptApart, KeptTo, LeadsTo, Left, Leg, Meets, ModulePeriod, None, Output, Part, Point, Refines, RefinesJob, ScheduleIsAccepted, Site, Tables, absent_job, abstract_jobs, and_from, and_none, and_parts, arith, asked_period, begins, cases_eq, cases_lt, cell, choices, choices_append, choices_from, choices_starts, direct, dispatch_begins, div-add-mod, div-mul-add, each_at, earlier, end_to_end, eq-eqb, feeds_at, finish, finishes_by, first_mode, first_point, flat_map, frame_limit, frame_of, frame_some, get_or, get_or-map, get_or_from_slice_get, get_taken, grow_times, has_bit, hyper, inv_of_mode, invs_of, is_fed_by, is_position, is_root, job_at, job_in, job_of, jobs_standing, kept_apart, known_by, last_point, le-ltb, left_by, legs, legs_of, length-append, length-map, limits_kept, list_any, list_point, list_to, lists_of, lt-ltb, ltb-true, map-append, mask, mod-eq_of_lt, mode_from, mode_in, mode_of_module, mode_period, modes_of, modes_some, most_invs, most_positions, mul_comm, nat_tests, ne_eqb, next_of, next_point, node, node_of, nodes_of, of_bool, one_more_time, parent_of, path_jobs, path_mode, path_places, path_point, paths, placed, placed_job, placed_jobs, places_from, places_in, places_of, positions, precedes, release, root_mode, root_modules, root_period, root_periods, rounds, rounds_at, rounds_of, rules, same_Some, same_number_lists, selection_count, slice_between, slice_get, slice_get-get_or, slice_get_past, slice_get_within, slice_onto, slices, starts, starts_below, task_worst, through, time_after, unit_period, unit_start, walk, walk_from, walks_from, ways, window_end, work, work_after}
pub use Rattle.htl_walk.specs.{PathLaws.RefinesFront, Paths.AreWithin, Paths.no_leg, Paths.path_point_at, Walk.slice_of, declared.job.Job.Job, declared.schedule.SInstr.SInstr}
pub use Rattle.htl_walk.specs.declared.schedule.SInstr.TheVariants.{Dispatch, End, End as Stop, Idle}
pub use Rattle.std.proofs.{lemmas.Bool.eq-eqb as equal, lemmas.Bool.eqb-true as same_number, lemmas.Bool.Decides.Decides-and, lemmas.Bool.Decides.Decides-not, lemmas.List.length-take-le, lemmas.List.take-map, lemmas.Slice.drop-put_mid}
