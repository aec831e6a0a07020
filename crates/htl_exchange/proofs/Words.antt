-- The words that several proofs cite, of those below, passed on from one place. Declares nothing.
pub use Rattle.htl_model.specs.{declared.event.Event.Event, declared.parts.Comm.Comm, declared.parts.End.End, declared.parts.Inv.Inv, declared.parts.Mode.Mode, declared.parts.Module.Module, declared.parts.Port.Port, declared.line.Line.Line}
pub use Rattle.htl_model.specs.{declared.parts.Switch.Switch, declared.parts.Task.Task, declared.state.State.State, declared.state.Stay.Stay, declared.state.Write.Write}
pub use Rattle.htl_model.specs.Meaning.{before, go_on, go_on_or_begin, initial, input_value, last_sense, next_stay, next_value, next_values, out, out_by, port_output, runs, sense, state, stay_begun, stay_of, stays_at, stays_to, switch_holds, target, target_from, val, write_from, writer_from, written, written_by, first_value, first_values, module_stay, mode_in_state, mode_line, mode_of, same_mode, value_in, value_line}
pub use Rattle.htl_model.specs.declared.line.Line.TheVariants.{ModeLine, ValueLine}
