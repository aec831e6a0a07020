-- The words that several proofs cite, of those below, passed on from one place. Declares nothing.
pub use Rattle.htl_base.proofs.{Places.each_at, Places.from_map, Places.get_mapped, Places.item_at, Places.map_same, Places.take_all, Words.cases_lt, Words.get_or_past, Words.none-some, Words.same_Some}
pub use Rattle.htl_form.proofs.SearchLaws.{kept_12}
pub use Rattle.htl_model.proofs.{FrameBuild.frame_some, FrameRules.kept_apart, Sources.two_periods}
pub use Rattle.htl_model.specs.{Bits.has_bit, Chosen.StandsFor, Chosen.chosen, Chosen.followed, Chosen.StandsFor.below, Chosen.StandsFor.itself, FrameRules.KeptApart, FrameTables.IsFrame, First.or_else, Lists.list_to, RootModes.modes_below}
pub use Rattle.htl_model.specs.Frames.{choices, frame_limit, frame_of, multiple_of, no_place, node, nodes, path_places, paths, places_in, places_of, rounds, rounds_of, starts, starts_below, unit_period}
pub use Rattle.htl_model.specs.{PortOrder.Leads.direct, Ranges.AreInRange, Ranges.IsInvInRange, Ranges.IsModeInRange, Ranges.IsModeThat, RefinementRules.IsAbstractIn, RefinementRules.ParentFault, SecondWriters.parent_mode}
pub use Rattle.htl_model.specs.{Selections.invs_of, Selections.modes_of, Selections.root_modules, Tables.Tables, Tables.mode_module, Tables.task_worst, declared.event.Event.Event, declared.frame.Frame.Frame, declared.frame.Place.Place}
pub use Rattle.htl_model.specs.{declared.frame.Round.Round, declared.parts.Inv.Inv, declared.parts.Mode.Mode, declared.parts.Module.Module}
pub use Rattle.htl_object.specs.{Accepted.IsAccepted, declared.object.Object.Object}
pub use Rattle.htl_refine.proofs.{Chains.no_parent, Chains.right_parent, Exact.chosen_exact_apart, FinishingRecords.finish_record, FinishingRecords.last_is, PathDerived.path_refinement, PathDerived.placed_present, PathRead.paths_read}
pub use Rattle.htl_refine.proofs.{PathServing.path_work, RecordOrder.not_some, RoundLaws.have_lengths, RoundLaws.within_worst, ServedFrames.frames_are_served, ServedJobs.frame_serves, StateLaws.states_are_selections}
pub use Rattle.htl_refine.specs.{DerivedPaths.derived_jobs, DerivedPaths.derived_place, FramePlaces.place, FrameRuns.frame_at, FrameRuns.frame_modes, FrameRuns.frame_places, FrameRuns.path_of, FrameRuns.running_places, FrameRuns.walk_of}
pub use Rattle.htl_refine.specs.{Records.AreTookWithin, Records.inv_worst, Records.last_took, Records.lengths_of, Records.took, ServedFrames.IsFeasibleRun}
pub use Rattle.htl_walk.proofs.{Accepted.accepted_joined, Accepted.form_joined, Accepted.path_dominance, Ahead.Ahead, Ahead.ahead_last, Ahead.ahead_next, CodeWalk.left_length, CodeWalk.list_read, CodeWalk.start_read, Dominance.dominance}
pub use Rattle.htl_walk.proofs.{Finishes.finish_ahead, Finishes.finish_later, Joining.joined, Joining.show_joined, Joining.stays, NodeWalks.list_front, PathReady.walkable, Placing.formed_times, Starts.legs_follow, Steps.left_falls}
pub use Rattle.htl_walk.proofs.Work.{absent_precedes, job_cases, job_is, job_there, work_present, work_some, worst_at}
pub use Rattle.htl_walk.specs.{Feasible.lists_of, Jobs.absent_job, Jobs.precedes, NodeWalks.instrs_of, NodeWalks.list_at, NodeWalks.reach, NodeWalks.reached, PathLaws.RefinesFront, Placing.HasTimes, WellFormed.IsWellFormed}
pub use Rattle.htl_walk.specs.{PathJobs.job_in, PathJobs.legs, PathJobs.legs_of, PathJobs.path_jobs, PathJobs.placed, PathJobs.placed_job, PathJobs.placed_jobs, declared.job.Job.Job, declared.schedule.SInstr.SInstr}
pub use Rattle.htl_walk.specs.{Paths.AreChained, Paths.AreInOrder, Paths.IsPathAccepted, Paths.Leg, Paths.end_to_end, Paths.list_point, Paths.walk_path, Paths.walks_from, declared.schedule.Schedule.Schedule}
pub use Rattle.htl_walk.specs.Refinement.{AreWithinWorst, HasWork, HaveLengths, Refines}
pub use Rattle.htl_walk.specs.Walk.{DoneBy, InOrder, Left, Point, dispatch_begins, finish, finishes_by, first_point, is_position, job_at, last_point, left_by, next_point, slice_between, time_after, walk_from, work, work_after, worst_cases}
pub use Rattle.htl_walk.specs.declared.schedule.SInstr.TheVariants.{Dispatch, End, Idle}
