-- The words that several definitions cite, of those below, passed on from one place. Declares nothing.
pub use Rattle.htl_model.specs.{Chosen.chosen, FrameRules.KeptApart, Frames.choices, Frames.frame_of, Frames.known_by, Frames.node, Frames.path_places, Frames.rounds, Frames.starts, Lists.numbered, Lists.up_to, Meaning.state}
pub use Rattle.htl_model.specs.{Ranges.AreInRange, Selected.IsSelection, Selected.entry, Selections.invs_of, Selections.root_modules, Selections.root_period, Tables.Tables, Tables.task_worst, declared.event.Event.Event}
pub use Rattle.htl_model.specs.{declared.form_fault.FormFault.FormFault, declared.frame.Place.Place, declared.parts.Inv.Inv, declared.parts.Module.Module, declared.state.Stay.Stay}
pub use Rattle.htl_walk.specs.{PathJobs.placed_jobs, Paths.AreChained, Paths.AreInForm, Paths.Leg, Refinement.AreWithinWorst, Refinement.HaveLengths, Walk.Left, declared.job.Job.Job, declared.schedule.SInstr.SInstr}
pub use Rattle.std.specs.{List.filter, List.flat_map, Prelude.List, Prelude.Option, Prelude.[], Prelude.get_or, Prelude.length, Prelude.take, Prelude.ℕ}
