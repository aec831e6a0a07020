-- The words that several proofs cite, of this crate and of those below it, passed on from one place. Declares nothing.
pub use Rattle.htl_base.proofs.{Places.all_at, Places.from_map, Places.from_take, Places.none_marked, Places.take_all, Tests.and_first}
pub use Rattle.htl_base.proofs.Words.{All, IfOk, IfOk-weaker, [], ap, append_known, codes, count_by, drop_more, eqb-false, err_from_is_err_and, false≢true, flat_map-cons, flat_map-map, is_none, le-leb, leb-true, length-take, ltb-false, map, map_more, nat_le, nat_lt, not, on_ok_weaker, slice_eq-Decides, sum_by, sum_by-append, sum_by-cons, take, take_more, ℤ, list_any-append, or-false}
pub use Rattle.htl_base.specs.{Names.is_name, declared.Ty.Ty, declared.Ty.TheVariants.Bool as BoolTy, declared.Ty.TheVariants.Bool as Truth, declared.Ty.TheVariants.Int}
pub use Rattle.htl_ecode.proofs.Words.{All-cons, All-head, All-nil, All-tail, AtAnchor, ModeJump, Exactly, SwitchJump, EndOfRound, NextBlock, Requirement, all_do, asks_for, asks_of, begin_chain, begin_code, begin_place, block_chain, block_end, blocks_code, call_of, calls, calls_of, cases_below, children, counts, decide_code, decide_place, ends_in, enter_calls, enter_places, eqb-true, first_block, get_list_to, joined, laid, layout, mode_code, mode_module, mode_place, next_offset, numbered, or_cases, or_right, phase_code, phase_offsets, places_at, reads_place, release_of, releases, tables_of, test_of, tests_of, turn, up_to, waits_for, writes_place}
pub use Rattle.htl_ecode.specs.{Layout.block_code, declared.ecode.ECode.ECode, declared.instr.EInstr.EInstr}
pub use Rattle.htl_model.proofs.{Apart.apart_names, Apart.apart_numbers, Apart.apart_owned, Apart.apart_pairs, Apart.different, Apart.different_numbers, Apart.different_owned, Apart.different_pairs, FrameLimits.choices_some}
pub use Rattle.htl_model.proofs.{FrameSteps.nodes_small, Listed.length-list_to, PlaceLaws.count_more, PlaceLaws.output_types_at, PlaceLaws.switch_types_at, SelectionLaws.no_modules, SelectionLaws.output_within, SelectionLaws.count_places}
pub use Rattle.htl_model.proofs.Stays.{module_is}
pub use Rattle.htl_model.proofs.Words.{All-append, AllByRecursion, AreApart, Formula, IsEndInRange, IsFunInRange, IsModeThat, IsNonDecreasing, append-nil, are_different_numbers, bytes_eq, bytes_eq-Decides, cases_at_most, comm_type, count_at, count_before, fun_of, function_count, function_types, get_mapped, is_within, nil_from_length, not-true, or_left, or_second, output_type, true_not_false}
pub use Rattle.htl_model.specs.{Ranges.FitsType, Ranges.IsCommInRange, Ranges.IsPortInRange, Ranges.IsSwitchInRange, Tables.Compiled, Tables.function_count as task_count, declared.function.Code.Code, declared.function.FInstr.FInstr}
pub use Rattle.htl_model.specs.{declared.function.Function.Function, declared.parts.Comm.Comm, declared.parts.End.End, declared.parts.Inv.Inv, declared.parts.Mode.Mode, declared.parts.Module.Module, declared.parts.Port.Port}
pub use Rattle.htl_model.specs.{declared.parts.Switch.Switch, declared.parts.Task.Task}
pub use Rattle.htl_object.specs.Blocks.{AreSpelled, block_at, block_count, block_list, block_number_at, block_numbers, blocks_at, blocks_bytes, blocks_from, count_from, instr_numbers, is_new, number_in, numbers_from, same_schedule, schedules_of, with_block}
pub use Rattle.htl_object.specs.{Bytes.Puts, Comms.comm_at, Comms.comm_bytes, Comms.is_named_comm, Laws.NoBadField, Laws.OneObject, Laws.OneSpelling, Laws.SaysItself, Modes.is_named_mode, Modes.last_module, Modes.mode_at, Modes.mode_bytes}
pub use Rattle.htl_object.specs.Fields.{flag_at, flag_bytes, init_at, is_of, is_owner, is_span, name_at, name_bytes, option_at, option_bytes, option_of, owner_at, place_at, span_at, type_at, type_bytes, value_at, value_bytes}
pub use Rattle.htl_object.specs.Files.{AreAnchors, AreCounts, IsECode, IsFileInRange, IsFront, IsFrontInRange, anchors_at, anchors_bytes, are_few, counted_functions, counts_at, counts_bytes, counts_of, e_code_at, e_code_bytes, fault_of, file_at, file_bytes, first_bad, front_at, front_bytes, is_node_count, is_root_number as is_root_at, malformed_at, positions_to, selections_of, selections_to, whole_at, widest_to, with_schedules}
pub use Rattle.htl_object.specs.Instructions.{code_at, code_bytes, e_bytes, e_instr_at, e_table, f_bytes, f_instr_at, f_table, function_bytes, is_body, is_phase, phase_at, s_bytes, s_instr_at, s_table}
pub use Rattle.htl_object.specs.Invocations.{end_at, end_bytes, end_table, ends_at, ends_bytes, inv_at, inv_bytes, is_instance, is_inv_mode, is_inv_task, is_parent, is_port_of, is_read, is_target, last_inv_mode, last_switch_mode, switch_at, switch_bytes}
pub use Rattle.htl_object.specs.Items.{AreEnds, AreTypes, Each, Every, Fits16, Is32, IsCode, IsComm, IsEInstr, IsEnd, IsFInstr, IsInv, IsMode, IsModule, IsOption, IsPhase, IsPort, IsSInstr, IsSwitch, IsTask}
pub use Rattle.htl_object.specs.{Lists.anchors_of, Lists.codes_of, Lists.counts_in, Lists.lists_of, Lists.object_from, Lists.object_of_lists, Lists.tables_from, Lists.tables_of_lists, Names.owned, Names.same_name}
pub use Rattle.htl_object.specs.{Modules.is_mode_of, Modules.is_named_module, Modules.leads_up_within, Modules.leads_up_within as is_within_before, Modules.module_at, Modules.module_bytes, Notes.CountsMode, Notes.IsAdded, Notes.IsNoted}
pub use Rattle.htl_object.specs.Objects.{HasWidths, IsDecoded, IsObject, IsReadAs, KeepsFunction, KeepsTypes, object_at, object_bytes, object_in, object_or}
pub use Rattle.htl_object.specs.{Ports.is_named_port, Ports.is_named_task, Ports.last_mode, Ports.last_owner, Ports.port_at, Ports.port_bytes, Ports.task_at, Ports.task_bytes, Ports.types_at, Ports.types_bytes, declared.lists.Counts.Counts}
pub use Rattle.htl_object.specs.{Ranges.IsFunctionCode, Ranges.IsInRange, Ranges.IsPhased, Ranges.IsShort, Schedules.IsSchedule, Schedules.s_code_at, Schedules.schedule_at, Schedules.schedule_bytes, declared.lists.Anchors.Anchors}
pub use Rattle.htl_object.specs.Reading.{Fails, IsBytes, Read, bad_at, byte_at, choose, items_at, need, number_at, plain_at, short, tagged_at}
pub use Rattle.htl_object.specs.Versions.{IsPlatformName, head_at, head_bytes, platform_at, platform_bytes, tail_at, tail_bytes, text_at, version_of}
pub use Rattle.htl_object.specs.{declared.decoding.DecodeFault.DecodeFault, declared.lists.Lists.Lists, declared.malformed.Bad.Bad, declared.malformed.MalKind.MalKind, declared.malformed.Malformed.Malformed, declared.malformed.Stop.Stop}
pub use Rattle.htl_object.specs.declared.malformed.MalKind.TheVariants.{Index, Magic, Short, Spelling, Tag, Trailing, Version}
pub use Rattle.htl_object.specs.{declared.notes.InvNotes.InvNotes, declared.object.Object.Object}
pub use Rattle.htl_walk.proofs.Words.{All-map, AreInRange, Fun, IsInvInRange, IsModeInRange, IsSpan, IsTaskInRange, KeepsLimits, Tables, and_from, arith, cases_lt, choices, choices_from, choices_starts, div-mul-add, each_at, eq-eqb, flat_map, frame_limit, get_or-take, get_or_past, inv_of_mode, invs_of, is_root, le-ltb, length, length-append, length-map, limits_kept, list_any, list_to, ltb-true, map-append, mod-mul-add, mode_of_module, modes_of, modes_some, mul-add-lt, mul_assoc, mul_comm, nat_tests, ne_eqb, nodes, parent_of, places_from, positions, radices, refl, root_mode, root_modules, rounds, rounds_at, rounds_have, selection_count, slice_get-get_or, slice_get_cases, slice_get_within, starts, sym, take-append-drop, take-suc, ways}
pub use Rattle.htl_walk.specs.{declared.schedule.SInstr.SInstr, declared.schedule.Schedule.Schedule}
pub use Rattle.std.proofs.{Math.Facts.Fits-lt-pow, Math.Facts.Fits-of_lt, Math.Facts.Fits-of_z, Math.Facts.of_z-to_z, Math.Facts.sfits_to_z, Math.Facts.to_z-of_z, lemmas.Bool.not_from_false, lemmas.Bool.or_from}
pub use Rattle.std.proofs.{lemmas.Bool.Decides.Decides-int_eq, lemmas.List.drop_at, lemmas.List.flat_map_more, lemmas.List.take_at, lemmas.List.Concat.flat_map-append, lemmas.List.Elements.All-push}
pub use Rattle.std.proofs.lemmas.Nat.{be_bytes_2, be_bytes_4, be_bytes_8, from_be_bytes-to_be_bytes_2, from_be_bytes-to_be_bytes_4, from_be_bytes-to_be_bytes_8}
pub use Rattle.std.specs.{Int.Width, Int.byte_len, Int.cast_signed, Int.cast_unsigned, Int.from_be_bytes, Int.to_be_bytes, Int.w16, Int.w32, Int.w64, Ordering.int_eq, Prelude.FitsSigned}
