-- The words that several definitions cite, of those below, passed on from one place. Declares nothing.
pub use Rattle.htl_console.specs.declared.shown.Shown.{Shown}
pub use Rattle.htl_ecode.specs.{declared.ecode.ECode.ECode, declared.instr.EInstr.EInstr}
pub use Rattle.htl_edge.specs.Content.{Puts}
pub use Rattle.htl_model.specs.{Tables.task_worst, declared.event.Event.Event, declared.parts.Comm.Comm, declared.parts.Inv.Inv}
pub use Rattle.htl_object.specs.declared.object.Object.{Object}
pub use Rattle.htl_runs.specs.Common.{AreTookWithin, Content, HasValues, IsAccepted, IsInForm, IsShaped, IsTold, KeptApart, List, None, Onward, Option, Plan, Round, Some, Standing, Stands, StandsSafely, Tables, choice_of, e_path, frame_of, get_or, hyper, instr_line, is_concrete, joined, lines_text, list_at, modes_at, new_jobs, no_round, nodes_below, phase_path, records, sense, shows_code, shows_values, starts, state, took, up_to, value_lines, ℕ}
pub use Rattle.htl_walk.specs.{declared.job.Job.Job, declared.schedule.SInstr.SInstr, declared.schedule.Schedule.Schedule}
pub use Rattle.std.specs.{Io.KnownBytes.append_known, Prelude.[], declared.result.Result.Result}
