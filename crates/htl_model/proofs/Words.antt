-- The words that several proofs cite, of this crate and of those below it, passed on from one place. Declares nothing.
pub use Rattle.htl_base.proofs.{Numbers.cases_at_most, Numbers.cases_below, Numbers.cases_less_same, Numbers.cases_up_to, Numbers.product_parts, Numbers.round_down, Tests.and_none, Tests.or_second, Tests.true_not_false}
pub use Rattle.htl_base.proofs.Places.{all_zero, each_at, get_back, get_front, get_mapped, some_place, within_front}
pub use Rattle.htl_base.proofs.Words.{All-append, All-from_get_or, All-get_or, AllByRecursion, Contains-from_any, IsDistinct, IsDistinct-cons, IsDistinct-from_apart, IsGcd, IsNonDecreasing, and_parts, bit_at, bit_at-lt, bit_at-suc, bit_at-zero, bit_at_lowest, bit_or, bytes_eq, bytes_eq-Decides, cases_Bool, cases_lt, div-div-eq-div-mul, div-eq_of_lt, div-one, drop-set-lt, dvd-mul_left, dvd_trans, eq-eqb, eqb-true, false_from_ne_true, flat_map, get_or-map, get_or_from_slice_get, le-ltb, length-append, length-map, length-set, list_any, list_any-from_Contains, list_any_more, lt-ltb, mod-eq_of_lt, mod_self, mul-le-mul_left, mul-le-mul_right, mul_assoc, mul_comm, nat_eq_equiv, nat_tests, ne_eqb, nil_from_length, none-some, not-true, or_cases, or_left, or_right, pos, pos_of_dvd_of_pos, slice_get, slice_get-get_or, slice_get_cases, slice_get_within, subst, take-suc, take_more_set, w128, sum_by-cons}
pub use Rattle.htl_base.specs.{declared.Ty.Ty, declared.Ty.TheVariants.Bool as BoolTy, declared.Ty.TheVariants.Int as IntTy, declared.operator.UnOp.TheVariants.Not}
pub use Rattle.htl_base.specs.declared.operator.BinOp.TheVariants.{Add, Div, Ge, Gt, Lt, Mul, Sub}
pub use Rattle.htl_model.specs.{Bits.cell, Bits.has_bit, Chosen.AreChildrenFrom, Chosen.child, Chosen.child_from, Chosen.chosen, Chosen.chosen_in, Chosen.followed, Chosen.is_child, Chosen.itself_or, Found.Found, FrameRules.KeptApart}
pub use Rattle.htl_model.specs.{Broken.Breach, Broken.BreaksAt, Broken.Broken, Broken.Formed, Broken.IsFirstBroken, Broken.KeepsLimits, Broken.KeptTo, Broken.ModeBreaks, Broken.PartBreaks, Broken.breach, Broken.site_of, Starts.IsStartOf}
pub use Rattle.htl_model.specs.{EndRules.AbstractRead, EndRules.ReadLate, EndRules.SensorWritten, EndRules.TypeDiffers, EndRules.WindowEmpty, EndRules.WriteOutside, EndRules.input_types, EndRules.output_types, Windows.least_on}
pub use Rattle.htl_model.specs.{Exchanged.MeanTheSame, Exchanged.SameRuns, Exchanged.with_functions, First.first_from, First.first_to, First.or_else, FunctionCode.AreCode, FunctionCode.HoldsCode, FunctionCode.IsCode, declared.parts.End.End}
pub use Rattle.htl_model.specs.FormRules.{AbstractPlaces, AbstractPorts, ConcreteWriters, Divides, Ends, FormRule, FrameLimits, Inheritance, Input, Itself, ModulePeriod, Offsets, Output, Parents, Part, PortCycles, PortWriters, Sensors, SharedParents, Site, Test, Windows, WorstCases}
pub use Rattle.htl_model.specs.Frames.{KeepsFrames, begins, choices, common_multiple, exceeds, frame_limit, frame_of, gcd_in, hyper, last_of, mode_from, mode_in, most_invs, most_positions, multiple_of, node_of, nodes_of, other_limit, path_places, paths, places_in, places_of, radices, root_periods, rounds, rounds_at, rounds_of, starts, starts_below, too_long, unit_period, unit_start, ways}
pub use Rattle.htl_model.specs.{FunctionTypes.FunctionType, FunctionTypes.comm_type, FunctionTypes.function_types, FunctionTypes.output_type, FunctionTypes.switch_type, FunctionTypes.task_types, Lines.line_text, Lines.lines_text}
pub use Rattle.htl_model.specs.{Functions.Arg, Functions.Binary, Functions.Choose, Functions.Number, Functions.Term, Functions.Unary, Functions.is_zero, Lists.AreApart, Lists.list_to, Lists.places_from, Lists.up_to, declared.line.Line.Line}
pub use Rattle.htl_model.specs.Meaning.{History, all_value_lines, before, changes, end_to, first_state, first_value, first_values, go_on, go_on_or_begin, history, input_value, newest, next_state, next_stay, next_stay_at, next_value, next_values, no_state, out, out_by, past, round_start, run_lines, runs, sense, state, state_after, stay_of, stays_at, stays_to, switch_holds, target_from, val, value_lines, with_start, write_from, write_in, written, written_by}
pub use Rattle.htl_model.specs.{NumbersBelow.count_below, NumbersBelow.numbers_below, PeriodRules.EndNotDivided, PeriodRules.FrameExceeds, PeriodRules.first_mode, PortTable.is_from, PortTable.writes_to, declared.event.Event.Event}
pub use Rattle.htl_model.specs.PortOrder.{AreOnCycles, InCycle, IsOnCycle, Leads, Precedes, direct, feeds, feeds_at, is_of_mode, is_read_from, leads_below, through}
pub use Rattle.htl_model.specs.{PortWriters.Rewritten, PortWriters.Unwritten, PortWriters.is_port, RootModes.AreRootModes, RootModes.below, RootModes.modes_below, RootModes.root_entry, declared.form_fault.FormFault.FormFault}
pub use Rattle.htl_model.specs.Ranges.{AreInRange, IsEndInRange, IsFunInRange, IsInvInRange, IsModeInRange, IsModeThat, IsModuleInRange, are_different, are_different_numbers, are_different_owned, are_different_pairs, is_within, parent_of, same_owned, same_pair}
pub use Rattle.htl_model.specs.RefinementRules.{AsksMore, Exceeds, IsAbstractIn, IsRefined, IsWriterOf, ParentAstray, ParentFault, SecondChild, SharesParent, StandsUnrefined, Unordered}
pub use Rattle.htl_model.specs.{Search.Tests, Search.at_inv, Search.at_read, Search.at_switch, Search.in_mode, Search.inv_in_mode, Search.of_rule, Search.told, Selected.entry, Selected.is_at, Selected.is_running, Selected.is_selection}
pub use Rattle.htl_model.specs.{SecondWriters.AreSameWrite, SecondWriters.OnPath, SecondWriters.SecondWriter, SecondWriters.WritesBefore, SecondWriters.above, SecondWriters.itself, declared.frame.Place.Place, declared.frame.Round.Round}
pub use Rattle.htl_model.specs.Selections.{choices_from, inv_of_mode, invs_of, is_root, mode_of_module, modes_of, positions, root_mode, root_modules, root_period, selection_count}
pub use Rattle.htl_model.specs.Tables.{Formula, Fun, Tables, comm_period, count_at, count_before, fun_of, function_count, function_value, greatest, is_concrete, least_or, mode_module, mode_period, offsets, output_function, release, switch_function, task_worst, window_end}
pub use Rattle.htl_model.specs.{declared.function.Function.Function, declared.parts.Comm.Comm, declared.parts.Inv.Inv, declared.parts.Mode.Mode, declared.parts.Module.Module, declared.parts.Switch.Switch, declared.parts.Task.Task}
pub use Rattle.htl_model.specs.{declared.line.Line.TheVariants.ModeLine, declared.line.Line.TheVariants.ModeLine as m, declared.line.Line.TheVariants.ValueLine, declared.line.Line.TheVariants.ValueLine as v, declared.search.EndSite.EndSite}
pub use Rattle.htl_model.specs.{declared.state.State.State, declared.state.Stay.Stay, declared.state.Write.Write}
pub use Rattle.std.proofs.{Math.Nat.le-mul_of_pos_right, Math.Nat.mul-div_assoc, Math.Nat.mul-mod_left, Math.Seq.drop-length, Math.Seq.take-suc-set, lemmas.Bool.cases_order, lemmas.Nat.le-div, lemmas.Nat.mul-lt}
pub use Rattle.std.proofs.{lemmas.List.append-nil, lemmas.List.get_or-set_other, lemmas.List.get_or-set_same, lemmas.Nat.Bits.bit_at_or, lemmas.Nat.Bits.bit_at_set_other, lemmas.Nat.Bits.bit_at_set_same}
pub use Rattle.std.proofs.lemmas.Nat.Gcd.{IsGcd-from_mod, IsGcd-from_zero, dvd_of_mod-eq-zero, le_of_dvd, mod-eq-zero_of_dvd}
pub use Rattle.std.specs.Prelude.{count_by}
