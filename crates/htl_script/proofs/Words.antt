-- The words that several proofs cite, of this crate and of those below it, passed on from one place. Declares nothing.
pub use Rattle.htl_base.proofs.{Numbers.cases_below_next, Places.prepend_known-append, Places.prepend_known-nil}
pub use Rattle.htl_base.proofs.Words.{IfSome, IsAtEnd, IsSome, Option, and_from, and_right, ap, both_ways, eqb-false, false≢true, get_or-take, is_eq, is_eq-slice_cmp, le-leb, leb-true, length-drop, length-slice_split, length-take, ltb-false, ltb-true, nat_cmp, nat_lt, not-false, or_parts, position-Some, position_from, position_from-zero, position_or_len, position_or_len_is, prepend_known, same_Some, slice_cmp, slice_split, slice_split_first, sym, take-append-drop, take-append_seam, true≢false, unwrap_or}
pub use Rattle.htl_base.specs.{declared.Ty.Ty, declared.Ty.TheVariants.Bool as BoolTy, declared.Ty.TheVariants.Int as IntTy}
pub use Rattle.htl_edge.specs.{Content.none_left, declared.Failed.Failed}
pub use Rattle.htl_model.proofs.Sources.{call, mode, module_named, plain, sensor}
pub use Rattle.htl_model.proofs.Words.{Fun, Tables, and_parts, bytes_eq, bytes_eq-Decides, cases_Bool, cases_lt, eqb-true, is_concrete, le-ltb, length-append, lt-ltb, nat_tests, ne_eqb, none-some, not-true, slice_get, slice_get_within, true_not_false, with_functions}
pub use Rattle.htl_model.specs.{Ranges.FitsType, Tables.tables_of, declared.event.Event.Event, declared.parts.Comm.Comm, declared.parts.Inv.Inv, declared.parts.Mode.Mode, declared.parts.Module.Module, declared.parts.Task.Task}
pub use Rattle.htl_script.specs.{Events.AreEvents, Events.EndWith, Events.IsSensed, Events.IsTaken, Laws.FunctionsDecideNoScript, Naming.count_of, Naming.dotted, Naming.name_of, Naming.number_named, Naming.sensor_name, Naming.through}
pub use Rattle.htl_script.specs.Judging.{as_some, at_first, event_of, event_unless, fault_of, invocation_of, is_above, is_below, is_invocation, is_out_of_order, is_out_of_range, is_sensor, is_unknown, is_value, judged, judged_statement, judged_text, number_with_sign, overrun_of, past_after, past_after_all, past_of, sensor_of, type_of, worst_of}
pub use Rattle.htl_script.specs.{Lines.ScriptLine, Lines.feeds_of, Lines.is_line_feed, Lines.is_long, Lines.is_passed_over, Lines.is_past_limit, Lines.lines_of, Lines.lines_of_parts, Lines.size_of, Numbers.signed_of, Numbers.with_digit}
pub use Rattle.htl_script.specs.{Keys.Keyed, Keys.key_of, Orders.AreKeys, Orders.AreOrdered, Orders.AreRising, Orders.IsOrder, Orders.IsPlace, Orders.compared, Orders.keyed, Orders.keyed_name, Readers.Here, Readers.rest_of}
pub use Rattle.htl_script.specs.LineReading.{AnswersLine, IsAtLine, IsLinePlace, IsRefused, LinesAhead, Pending, Place, ReadsOn, SeesByte, StopsBefore, behind_line, bytes_taken, line_in, size_fault, text_of}
pub use Rattle.htl_script.specs.{Reading.LosesFront, Reading.OfScript, Reading.StopsAtLine, Reading.behind, Reading.past_after_if, Reading.rest_at_end, Reading.rest_of_lines, Reading.with_digit_capped, declared.fault.ScriptKind.ScriptKind}
pub use Rattle.htl_script.specs.{Script.Bad, Script.Script, Script.Whole, Script.ended, Script.events_of, Script.listed, Script.script_of, Script.script_of_lines, declared.fault.ScriptFault.ScriptFault, declared.fault.ScriptStop.ScriptStop}
pub use Rattle.htl_script.specs.Statements.{At, End, Sense, Statement, Took, fields_of, is_space, statement_of, statement_of_fields}
pub use Rattle.htl_script.specs.Streaming.{Ahead, AnswersEnd, Gives, Goes, IsAnswer, IsEventAfter, IsSame, LosesPiece, TakesLine, ahead_of, at_start, lines_in, still, taken_of}
pub use Rattle.htl_script.specs.{declared.judge.Past.Past, declared.naming.Named.Named, declared.naming.Named.TheVariants.Invocation, declared.naming.Named.TheVariants.Sensor}
pub use Rattle.std.proofs.{lemmas.Cmp.nat_list_cmp_total, lemmas.Cmp.tied_itself, lemmas.List.Splits.slice_split-cons_no, lemmas.List.Splits.slice_split-cons_yes, lemmas.List.Splits.slice_split_at, lemmas.List.Splits.slice_split_none}
pub use Rattle.std.proofs.lemmas.List.Sums.{fails_before_first}
pub use Rattle.std.specs.{List.All, List.fold, List.onto_first, Option.option_map, Ordering.ordering_reverse, Ordering.ordering_then, Prelude.OnErr, declared.cmp.Ordering.Ordering}
pub use Rattle.std.specs.declared.cmp.Ordering.TheVariants.{Equal, Greater, Less}
