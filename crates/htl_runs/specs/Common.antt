-- The words that several definitions cite, of those below, passed on from one place. Declares nothing.
pub use Rattle.htl_console.specs.{Lines.done_line, Lines.instr_line, Lines.slice_line, Lines.step_line, Shows.shows_code, Shows.shows_jobs, Shows.shows_values, declared.shown.Shown.Shown}
pub use Rattle.htl_ecode.specs.{Chains.Exactly, Chains.Requirement, Paths.Done, Paths.e_path, declared.ecode.ECode.ECode, declared.instr.EInstr.EInstr}
pub use Rattle.htl_emach.specs.{Calendars.Standing, Calendars.list_at, Contents.Content, Contents.effect, Following.Onward, Following.phase_path, Safety.StandsSafely, Shapes.HasValues, Shapes.IsShaped}
pub use Rattle.htl_model.specs.{FrameRules.KeptApart, Frames.frame_of, Frames.hyper, Frames.starts, Lines.lines_text, Lines.totals_line, Lists.joined, Lists.up_to, Ranges.AreInRange, Selections.root_modules, declared.event.Event.Event}
pub use Rattle.htl_model.specs.{Meaning.before, Meaning.sense, Meaning.state, Meaning.stay_of, Meaning.value_lines, Meaning.writer_from, Tables.Tables, Tables.is_concrete, Tables.mode_period, Tables.window_end, declared.line.Line.Line}
pub use Rattle.htl_model.specs.{declared.parts.Comm.Comm, declared.parts.Inv.Inv, declared.state.Stay.Stay}
pub use Rattle.htl_object.specs.{Accepted.IsAccepted, declared.object.Object.Object}
pub use Rattle.htl_refine.specs.{BegunJobs.choice_of, BegunJobs.new_jobs, FrameRecords.RunningList, FrameRecords.begins_at, FrameRecords.begun_before, FrameRecords.left_in, FrameRecords.lists_at, FrameRecords.records}
pub use Rattle.htl_refine.specs.{FrameRuns.frame_at, FrameRuns.frame_jobs, FrameRuns.frame_modes, FrameRuns.frame_places, FrameRuns.nodes_below, ListPlans.ListPlan as Plan, ListPlans.leg_at, ListPlans.list_plan, ListPlans.list_walk}
pub use Rattle.htl_refine.specs.{RecordCounts.count_left_before, RecordCounts.done_by, Records.AreTookWithin, Records.modes_at, Records.rounds_before, Records.took, ServedFrames.IsFeasibleRun}
pub use Rattle.htl_smach.specs.{Adding.CanBegin, Rounds.IsInForm, Rounds.IsTold, Rounds.Round, Rounds.Stands, Rounds.added, Rounds.no_round, Rounds.state_of, declared.state.PosState.PosState, declared.state.PosState.TheVariants.Pending}
pub use Rattle.htl_walk.specs.{Refinement.AreWithinWorst, Refinement.HaveLengths, Walk.Left, Walk.job_at, declared.job.Job.Job, declared.schedule.SInstr.SInstr, declared.schedule.Schedule.Schedule}
pub use Rattle.std.specs.{List.filter, Prelude.List, Prelude.None, Prelude.Option, Prelude.Some, Prelude.cond, Prelude.get_or, Prelude.map, Prelude.slice_get, Prelude.suc, Prelude.zero, Prelude.ℕ}
