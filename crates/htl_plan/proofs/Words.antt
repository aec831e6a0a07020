-- What the proofs of this crate name from below.
pub use Rattle.htl_base.proofs.{Numbers.product_parts, Places.front_more, Places.get_taken, Places.prepend_known-append, Places.prepend_known-nil, Places.take_all}
pub use Rattle.htl_console.proofs.{Writing.Puts-cut, Writing.nothing_put}
pub use Rattle.htl_console.specs.Lines.{plan_line}
pub use Rattle.htl_edge.proofs.Puts.{Puts-failed, Puts-second, append_known-more, append_known-start}
pub use Rattle.htl_edge.specs.Content.{AppendsPrefix, Puts, none_left}
pub use Rattle.htl_model.proofs.{FrameLimits.choices_append, FrameLimits.choices_some, FrameLimits.limits_kept, FrameLimits.rounds_have, Listed.get_list_to, Listed.length-list_to}
pub use Rattle.htl_model.proofs.Sources.{call, mode, refined, two_periods}
pub use Rattle.htl_model.specs.{FrameRules.KeptApart, FrameTables.IsFrame, Ranges.AreInRange, Ranges.IsModeThat, Ranges.parent_of, Selections.root_modules, Tables.Tables, Tables.mode_module, declared.frame.Frame.Frame}
pub use Rattle.htl_model.specs.Frames.{choices, frame_limit, frame_of, hyper, known_by, multiple_of, node, path_places, paths, root_periods, rounds, rounds_at, starts, unit_period}
pub use Rattle.htl_model.specs.{Selected.IsActive, Selected.IsEntry, Selected.IsModeOf, Selected.IsSelection, Selected.entry, Selected.is_active, declared.frame.Round.Round, declared.parts.Mode.Mode, declared.parts.Module.Module}
pub use Rattle.htl_object.specs.{Accepted.IsAccepted, declared.object.Object.Object}
pub use Rattle.htl_plan.specs.Plans.{done_text, finishes, frame_text, left_text, plan_text, slice_text, staying_frame, walk_text, work_of}
pub use Rattle.htl_plan.specs.SelectionInput.{Bad, entered, input_of_lines, judged, judged_text, listed, named_by}
pub use Rattle.htl_refine.proofs.{BegunLimits.choice_few, BegunLimits.start_early, ListsFollow.leg_from, ListsFollow.legs_many, ListsFollow.rises_next, Members.of_flat, NewJobs.first_jobs, NewJobs.next_jobs, NodeRead.path_join}
pub use Rattle.htl_refine.proofs.{PathRead.paths_read, SelectedLaws.active_is, WorkDone.length-walk}
pub use Rattle.htl_refine.specs.{BegunJobs.choice_of, BegunJobs.new_jobs, DerivedPaths.derived_place, FrameRuns.frame_jobs, FrameRuns.frame_places, FrameRuns.path_in, FrameRuns.path_of, FrameRuns.running_places, FrameRuns.walk_of}
pub use Rattle.htl_script.specs.LineReading.{AnswersLine, IsAtLine, IsLinePlace, IsRefused, LinesAhead, Place, ReadsOn, behind_line, bytes_taken, first_place, line_in, nothing_read, size_fault, text_of}
pub use Rattle.htl_script.specs.{Streaming.Gives, Reading.LosesFront, Reading.OfScript, Statements.fields_of, Statements.is_space, declared.fault.ScriptFault.ScriptFault, declared.fault.ScriptKind.ScriptKind}
pub use Rattle.htl_walk.proofs.{CodeWalk.list_read, CodeWalk.start_read, Following.known_at, NodeWalks.known_rises, NodeWalks.starts_order, Nodes.nodes_within, PathLists.form_at, Starts.known_few, Starts.starts_rise, Walked.known_more}
pub use Rattle.htl_walk.specs.{Feasible.lists_of, Following.IsKnown, Jobs.absent_job, NodeWalks.instrs_of, NodeWalks.list_at, PathJobs.legs, PathJobs.legs_of, PathJobs.placed_job, declared.job.Job.Job, declared.schedule.SInstr.SInstr}
pub use Rattle.htl_walk.specs.{Paths.Leg, Paths.end_to_end, Paths.no_leg, Paths.walk_path, Paths.walks_from, declared.schedule.SInstr.TheVariants.Dispatch, declared.schedule.SInstr.TheVariants.End, declared.schedule.Schedule.Schedule}
pub use Rattle.htl_walk.specs.Walk.{InForm, Left, Point, dispatch_begins, dispatched, finished_by, finishes_by, job_at, last_point, left_by, next_point, slice_between, slice_of, time_after, walk_from, work, work_after, worst_cases}
pub use Rattle.std.proofs.{Common.IfSome, Common.List, Common.OnOk, Common.Option, Common.ap, Common.option_map, Common.slice_get, Common.sym, Common.ℕ, Math.ListN.get_or-append, Math.Seq.drop-cons, lemmas.Bool.Decides.nat_tests}
pub use Rattle.std.proofs.lemmas.Bool.{and_from, and_parts, cases_Bool, eqb-false, eqb-true, le-leb, le-ltb, lt-ltb, ne_eqb}
pub use Rattle.std.proofs.{lemmas.Grind.flat_map-append, lemmas.List.drop_all, lemmas.List.ext_get_or, lemmas.List.get_or-map, lemmas.List.length-append, lemmas.List.length-map, lemmas.List.length-take, lemmas.List.Concat.flat_map-cons}
pub use Rattle.std.proofs.{lemmas.List.Splits.length-slice_split, lemmas.Option.get_or_from_slice_get, lemmas.Option.none-some, lemmas.Option.slice_get-get_or, lemmas.Option.slice_get_within}
pub use Rattle.std.specs.{Io.KnownBytes.IsAtEnd, Io.KnownBytes.append_known, Io.KnownBytes.prepend_known, List.All, List.flat_map, List.position_from, Prelude.unwrap_or, Str.bytes_eq}
