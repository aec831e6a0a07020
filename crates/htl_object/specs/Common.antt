-- The words that several definitions cite, of those below, passed on from one place. Declares nothing.
pub use Rattle.htl_base.specs.{Names.is_name, declared.Ty.Ty}
pub use Rattle.htl_base.specs.declared.limits.TheConstants.{MAX_ARGUMENTS, MAX_COMMUNICATORS, MAX_ENDS, MAX_LEVELS, MAX_PERIOD, MAX_TASKS}
pub use Rattle.htl_ecode.specs.declared.instr.EInstr.{EInstr}
pub use Rattle.htl_model.specs.{Broken.KeepsLimits, Frames.frame_limit, Frames.nodes, Ranges.AreInRange, Tables.Compiled, Tables.Formula, Tables.Fun, Tables.Tables, declared.function.Code.Code, declared.function.FInstr.FInstr}
pub use Rattle.htl_model.specs.{declared.parts.Comm.Comm, declared.parts.End.End, declared.parts.Inv.Inv, declared.parts.Mode.Mode, declared.parts.Module.Module, declared.parts.Port.Port, declared.parts.Switch.Switch}
pub use Rattle.htl_model.specs.declared.parts.Task.{Task}
pub use Rattle.htl_walk.specs.{Feasible.AreFeasible, declared.schedule.SInstr.SInstr, declared.schedule.Schedule.Schedule}
pub use Rattle.std.proofs.{Common.ap, lemmas.Slice.Eq.bytes_eq-Decides}
pub use Rattle.std.specs.{Int.to_be_bytes, Int.w16, Int.w32, Int.w64, List.flat_map, List.list_any, Str.bytes_eq}
