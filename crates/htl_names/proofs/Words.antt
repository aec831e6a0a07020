-- The words that several proofs cite, of this crate and of those below it, passed on from one place. Declares nothing.
pub use Rattle.htl_base.proofs.{Numbers.cases_less_more, Places.all_at, Places.from_map, Places.from_take, Places.get_either, Places.into_take, Places.item_at}
pub use Rattle.htl_base.proofs.Words.{All, All-cons, All-map, All-nil, List, any_passes_from_place, cases_eq, drop, drop_more, filter-append, flat_map-append, flat_map-cons, flat_map-map, get_or-take, get_or_default, length, length-le_from_distinct_below, length-take, list_any-append, or-false, same_Some, slice_get_read, sum_by-le, sym}
pub use Rattle.htl_base.specs.declared.Ty.TheVariants.{Bool as BoolTy}
pub use Rattle.htl_model.proofs.{Apart.different, Apart.different_numbers, Apart.different_owned, Apart.different_pairs, ChoiceLaws.capped as product_capped, Listed.get_list_to, Listed.length-list_to, RootModeLaws.own_mode}
pub use Rattle.htl_model.proofs.Words.{All-get_or, AreApart, AreInRange, FunctionType, IsEndInRange, IsFunInRange, IsInvInRange, IsModeInRange, IsModeThat, IsModuleInRange, IsNonDecreasing, KeepsLimits, cases_lt, comm_type, count_before, fun_of, function_count, function_types, get_back, get_front, get_mapped, get_or_from_slice_get, is_within, length-map, mode_module, nat_eq_equiv, ne_eqb, none-some, output_type, parent_of, places_from, slice_get-get_or, subst, switch_type, task_types}
pub use Rattle.htl_model.specs.{Lists.first_some, Ranges.FitsType, Ranges.IsCommInRange, Ranges.IsPortInRange, Ranges.IsSpan, Ranges.IsSwitchInRange, Ranges.IsTaskInRange, Tables.Compiled, Tables.tables_of, declared.parts.Comm.Comm}
pub use Rattle.htl_model.specs.{Small.AreSmall, Small.ArgumentsBelow, Small.IsSmallFunction, Small.nodes, declared.parts.Inv.Inv, declared.parts.Mode.Mode, declared.parts.Module.Module, declared.parts.Port.Port, declared.parts.Task.Task}
pub use Rattle.htl_model.specs.declared.parts.Switch.{Switch}
pub use Rattle.htl_names.specs.{Conditions.MeetsBounds, Conditions.MeetsInvokeBounds, Conditions.MeetsSwitchBounds, Conditions.MeetsTaskBounds, Lists.distinct, Lists.flat_map_at, Lists.map_at, Lists.place_in, Lists.with_new}
pub use Rattle.htl_names.specs.Entries.{AreApartTo, EntriesAreApart, IsRepeat, Repeats, comm_entry, entries, entries_from, entry, invoke_entry, mode_entries, module_entries, param_entry, params_of, port_entry, program_entries, task_entries}
pub use Rattle.htl_names.specs.Flat.{Layout, comm_item, comm_items, comms_in, end_item, flat_output_function, flat_switch_function, function_items, input_place, invoke_item, invoke_items, invokes_before, is_abstract, is_module, layout, layout_by, meaning, mode_functions, mode_invoke_items, mode_item, mode_items, mode_number, mode_port_items, mode_switch_items, modes_before, module_functions, module_item, module_items, module_items_at, module_mode_items, module_number, module_task_items, outs_functions, parent_number, port_item, port_items, ports_before, read_place, refined_mode, size_of, switch_item, switch_items, symbols_of, tables_by, tables_of_tree, task_functions, task_item, task_items, tasks_before, term_by, types_of, value_of}
pub use Rattle.htl_names.specs.{Keys.comm_key, Keys.invoke_key, Keys.key_in, Keys.look_up, Keys.mode_key, Keys.module_key, Keys.pair_of, Keys.port_key, Keys.program_key, Keys.same_key, Keys.task_key, Recorded.AddsWith}
pub use Rattle.htl_names.specs.Kinds.{Initial, Instance, IsWrongKind, Judged, Span, comm_kinds, end_kinds, has_type, invoke_kinds, is_instance, is_kind, is_span, kinds, mode_kinds, module_kinds, program_kinds, task_kind, token_of, wrong_token}
pub use Rattle.htl_names.specs.{Limits.choices, Limits.counts, Limits.limits, Limits.most_invokes, Limits.most_positions, Limits.selections, SameKeys.same_key_decides, declared.limits.ModeTally.ModeTally, declared.limits.Tally.Tally}
pub use Rattle.htl_names.specs.NameRules.{AreNamesRight, IsFirstNameFault, IsResolved, Limits, NameBroken, NameRule, ParentName, ProgramTree, RepeatedName, TriedBefore, UnknownName, WrongKind, order_of}
pub use Rattle.htl_names.specs.RefinedModes.{AreRefinedModes, MarksReached, is_misplaced, with_refined, with_refinement, refined_at, refines_none}
pub use Rattle.htl_names.specs.{Narrow.IsNarrow, Narrow.IsNarrowEnd, Narrow.IsNarrowInvoke, Narrow.IsNarrowParent, Narrow.refined_place, Told.IsFirstOf, Told.IsKept, Told.IsRefusal, Told.IsSearched, Told.KeptBelow}
pub use Rattle.htl_names.specs.Order.{below, invokes_at, children, mode_at, mode_children, mode_in, mode_order, modes_at, module_at, module_modes, modules_at, modules_in, nth_module, order, ports_at, program_modules, switches_at, tasks_at}
pub use Rattle.htl_names.specs.Parents.{IsUnmatchedParent, ParentUse, absent, invoke_parent, mode_parents, module_parents, unmatched_at, unmatched_token, parent_in, parents, program_parents}
pub use Rattle.htl_names.specs.Programs.{Graph, IsMisplaced, Reached, below as beneath, level, level_by, levels, levels_by, edges, mode_refinement, module_refinements, edges_from, refinement, refinement_by, refining_program, refinements, refinement_rows, refined_count, program_refinements, refined_by, refined_in, root, edge_targets}
pub use Rattle.htl_names.specs.{Rows.Rows, Rows.out_rows, Rows.parent_use_of, Rows.program_rows, Rows.rows, Rows.rows_joined, Rows.using, Rows.wrong_tokens, declared.limits.ModuleTally.ModuleTally}
pub use Rattle.htl_names.specs.Tallies.{IsTally, capped, chosen, no_modes, no_tally, placed, selected, with_mode, with_module, with_program}
pub use Rattle.htl_names.specs.Trees.{Abstract, CommNode, Concrete, ConstNode, EndNode, Entry, Formula, Fun, Id, InvokeNode, IsBounded, Key, ModeAt, ModuleAt, NameFault, RefinedModes, Refinement, ParamNode, PlainMode, PlainModule, PlainOut, PlainOuts, PlainProgram, PlainSwitch, PlainTask, Space, Tables, Ty, Use, comms_of, greatest, invokes_of, list_to, mode_of, module_of, modules_of, names_of, out_of, out_params, out_values, ports_of, program_of, switch_of, switches_of, task_of, tasks_of, tree_nodes}
pub use Rattle.htl_names.specs.Uses.{IsUnknown, comm_use, end_use, input_use, invoke_uses, mode_uses, module_uses, output_uses, outputs_uses, program_use, program_uses, switch_uses, task_uses, unknown_by, unknown_token, usage, use_in, uses}
pub use Rattle.htl_text.proofs.Words.{and_parts, arith, bytes_eq-Decides, length-flat_map, list_any, map, map-append, modes_of, names_in, nat_tests, or_cases, range_with_len, rules, slice_get_within, sum_by-append, sum_by-cons, sum_by-le-sum_by}
pub use Rattle.htl_text.specs.{Bounds.IsBoundedInvoke, Bounds.IsBoundedMode, Bounds.IsBoundedModule, Bounds.IsBoundedProgram, Bounds.IsBoundedSwitch, Bounds.IsBoundedTask, Nodes.tree_of, declared.tree.ModeNode.ModeNode}
pub use Rattle.htl_text.specs.{Expressions.Choice, Expressions.Expr, Expressions.Flag, Expressions.Infix, Expressions.Number, Expressions.Prefix, Expressions.Variable, declared.tree.Num.Num, declared.tree.ProgramNode.ProgramNode}
pub use Rattle.indexmap.proofs.CallerLemmas.{insert_entry-new}
pub use Rattle.std.proofs.{Common.bytes_eq, Common.flat_map, Common.length-append, Math.ListN.get_or-map, Math.ListN.set, Math.Nat.eq-or-lt_of_le, Math.Nat.one-mul, Math.Nat.zero-add, iter.Serving.serving, lemmas.List.length-take-le}
pub use Rattle.std.proofs.{lemmas.Bool.cond-true, lemmas.Bool.cond_both, lemmas.Bool.true_from_ne_false, lemmas.Grind.common_steps, lemmas.Grind.fold-append, lemmas.Iterator.Adapters.items_from_extend, lemmas.List.Concat.flat_map_single}
pub use Rattle.std.proofs.{lemmas.Iterator.YieldsList-from_map, lemmas.Iterator.YieldsList-from_range, lemmas.Iterator.YieldsList-from_slice, lemmas.Iterator.Consumers.YieldsList-at, lemmas.List.Elements.All-weaker, lemmas.Nat.mul-le}
pub use Rattle.std.proofs.{lemmas.List.FromFn.map-range_with_len_more, lemmas.List.Sums.get_or-le-sum_by, lemmas.List.Sums.sum-map, lemmas.List.Sums.sum_by-set, lemmas.List.Sums.sum_by_push, lemmas.Map.Steps.le-length_from_below}
pub use Rattle.std.proofs.{lemmas.Map.Keys.IsDistinct-push, lemmas.Map.Keys.apart_from_distinct, lemmas.Map.Made.distinct_count-le, lemmas.Map.Made.length-from_keys, lemmas.Option.MatchOption-at_some, lemmas.Simd.map-map}
pub use Rattle.std.proofs.lemmas.Slice.Zip.{AllZip-left, AllZip-long}
pub use Rattle.std.specs.{List.AllZip, Map.lookup, Set.distinct_count}
