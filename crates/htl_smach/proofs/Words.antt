-- The words that several proofs cite, of this crate and of those below it, passed on from one place. Declares nothing.
pub use Rattle.htl_base.proofs.{Places.front_more, Places.none_marked, Tests.eqb_some}
pub use Rattle.htl_base.proofs.Words.{ap, le-leb, leb-false, length-drop, length-replicate, length-take, lt-leb, ltb-false, take, take-append_seam}
pub use Rattle.htl_smach.specs.{Adding.CanBegin, Adding.IsEven, Adding.StandsAdded, Fields.inside_round, Order.NoneLeftOut, Order.RecordsInOrder, Order.RecordsOfLengths, Order.after_all, Order.answers, Order.left_by_then}
pub use Rattle.htl_smach.specs.PathRuns.{FinishedBefore, IsOver, IsPath, PathRecords, PathRun, answers_before, leg_at, list_answers, list_at, list_begun, told_path, untils_at}
pub use Rattle.htl_smach.specs.Rounds.{IsFinishedSoFar, IsInForm, IsTold, Round, Stands, added, added_from, after, finish_so_far, given, left_until, moved, next_left, one_more, round_begun, state_by, state_of, told, told_from, walk_records, was_finished}
pub use Rattle.htl_smach.specs.{States.AreStates, States.HaveBegun, States.IsPut, States.flags, States.flags_from, States.state_in, Steps.point_of, Steps.put_work, Steps.told_of, Upcoming.IsUpcoming, declared.left.Left.Left}
pub use Rattle.htl_smach.specs.{declared.machine.SMach.TheInside.Inside, declared.position_states.PositionStates.PositionStates, declared.step.Step.Step}
pub use Rattle.htl_smach.specs.declared.state.PosState.TheVariants.{Done, Pending, Ready}
pub use Rattle.htl_walk.proofs.{Acceptance.left_falls_to, Acceptance.no_finish, Acceptance.point_step, CodeWalk.work_length, Finishes.ends, Finishes.finish_later, Finishes.finish_now, Following.known_at, Locality.walk_alike}
pub use Rattle.htl_walk.proofs.{GoingOn.same_length, GoingOn.untouched, PathLists.form_at, PathLists.point_first, PathLists.point_next, PathLists.walk_at, PathLists.walk_take, PathLists.job_front, PendingLaws.cleared}
pub use Rattle.htl_walk.proofs.{Steps.left_falls, Steps.left_other, Steps.left_same, Steps.time_rises, Waiting.time_rises_to, Waiting.time_waits, Waiting.told_by, Waiting.told_waits, Waiting.work_waits}
pub use Rattle.htl_walk.proofs.Words.{AgreeAt, AreChained, AreInForm, AreWithinWorst, HaveLengths, InForm, IsKnown, Leg, Point, arith, cases_eq, cases_lt, end_to_end, eq-eqb, ext_get_or, finish, first_point, get_or-take, get_or_from_slice_get, get_or_past, has_bit, is_position, job_at, last_point, left_by, length-append, length-map, length-set, list_point, nat_tests, ne_eqb, next_point, no_leg, path_point, same_Some, slice_get-get_or, slice_get_cases, slice_get_past, subst, sym, take_all, walk_from, walks_from, work}
pub use Rattle.htl_walk.proofs.Work.{job_is, job_there, work_present, work_some}
pub use Rattle.htl_walk.specs.{Paths.walk_path, declared.job.Job.Job, declared.schedule.SInstr.SInstr, declared.schedule.SInstr.TheVariants.Dispatch}
pub use Rattle.std.proofs.{Math.Seq.take-set-lt, lemmas.List.length-take-le}
