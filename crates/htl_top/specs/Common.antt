-- The words that several definitions cite, of those below, passed on from one place. Declares nothing.
pub use Rattle.htl_audit.specs.{Legal.first_fault, declared.slice.LogFault.LogFault, declared.slice.LogKind.LogKind, declared.slice.Slice.Slice}
pub use Rattle.htl_base.specs.declared.limits.TheConstants.{MAX_INSTANT, MAX_OBJECT, MAX_SOURCE}
pub use Rattle.htl_compile.specs.{Built.CanBuild, Built.built, Coded.AreTyped, Coded.CanCode, Coded.coded, Sources.IsTablesOf, declared.compiling.CompileFault.CompileFault}
pub use Rattle.htl_console.specs.{declared.shown.Shown.Shown, declared.shown.Shown.TheVariants.Jobs, declared.shown.Shown.TheVariants.Values}
pub use Rattle.htl_edge.specs.{Causes.Rose, Content.AppendsPrefix, Content.none_left, Holdings.Holdings, Holdings.HoldsUnder}
pub use Rattle.htl_load.specs.{Loading.HasBytes, declared.fault.ObjectFault.ObjectFault}
pub use Rattle.htl_machine.specs.Calls.{Seen}
pub use Rattle.htl_model.specs.{Frames.frame_of, Frames.hyper, Lines.lines_text, Meaning.val, Meaning.value_lines, Tables.Tables, declared.event.Event.Event, declared.parts.Module.Module}
pub use Rattle.htl_object.specs.{Accepted.IsAccepted, Objects.object_bytes, declared.object.Object.Object}
pub use Rattle.htl_patch.specs.declared.fault.PatchFault.{PatchFault}
pub use Rattle.htl_platform.specs.{declared.fault.PlatformFault.PlatformFault, declared.platform.Platform.Platform as PlatformOf}
pub use Rattle.htl_runs.specs.lines.Programs.{before_of, lines_of, schedules_of, text_of}
pub use Rattle.htl_script.specs.{Judging.past_of, Reading.OfScript, Script.Bad, Script.Script, Script.Whole, Script.script_of, Streaming.Ahead, declared.fault.ScriptFault.ScriptFault, declared.fault.ScriptKind.ScriptKind}
pub use Rattle.htl_walk.specs.{NodeWalks.instrs_of, declared.schedule.Schedule.Schedule}
pub use Rattle.std.specs.{Io.KnownBytes.append_known, List.position_from, Option.option_map, Prelude.List, Prelude.None, Prelude.Option, Prelude.Some, Prelude.[], Prelude.suc, Prelude.ℕ, Str.bytes_eq, declared.result.Result.Result}
