-- The words that several proofs cite, of this crate and of those below it, passed on from one place. Declares nothing.
pub use Rattle.htl_base.proofs.{Options.not_both, Places.get_either, Tests.and_with_true, Words.Decides-eqb, Words.Option, Words.length-le_from_distinct_below, Words.ℕ}
pub use Rattle.htl_base.specs.{declared.Ty.TheVariants.Int as IntTy, declared.operator.BinOp.TheVariants.Add, declared.operator.BinOp.TheVariants.Ge, declared.operator.BinOp.TheVariants.Mul, declared.operator.UnOp.TheVariants.Not}
pub use Rattle.htl_base.specs.declared.limits.TheConstants.{MAX_ARGUMENTS, MAX_COMMUNICATORS, MAX_ENDS, MAX_INVOCATIONS, MAX_MODES, MAX_MODE_INVOCATIONS, MAX_MODULES, MAX_PORTS, MAX_SWITCHES, MAX_TASKS}
pub use Rattle.htl_ecode.proofs.{LayoutLaw.layout_departs_not, LayoutLaw.modes_length, Sizes.place_room, Words.Spells, Words.greatest}
pub use Rattle.htl_ecode.specs.declared.fault.EFault.{EFault}
pub use Rattle.htl_form.proofs.Words.{IsDistinct, eqb_flips, get_or_mapped}
pub use Rattle.htl_load.proofs.{Inheriting.inherited, Refusals.not_formed, Refusals.one_unfit}
pub use Rattle.htl_load.proofs.Words.{AreAlike, AreInRange, AskTheSame, Formed, Formula, Fun, IsAccepted, IsFirstBroken, IsFirstUnfit, IsFormed, IsInRange, IsSpelled, IsSpellingFault, Leg, Tables, arith, count_at, count_before, departure, fun_of, function_count, kept_12, legs, list_to, one_first_broken, path_jobs, paths, spells_or_departs, starts, subst, unnumbered}
pub use Rattle.htl_load.specs.declared.fault.ObjectFault.{ObjectFault}
pub use Rattle.htl_model.proofs.{FrameRules.frames_kept, Sources.formula, SelectionLaws.count_places}
pub use Rattle.htl_model.proofs.Words.{Arg, Binary, IsModuleInRange, Number, Unary, are_different, are_different_owned, are_different_pairs, length-set, switch_function}
pub use Rattle.htl_model.specs.{Lists.first_some, declared.form_fault.FormFault.FormFault, declared.frame.Place.Place, declared.frame.Round.Round, declared.function.Function.Function, declared.parts.Comm.Comm, declared.parts.End.End}
pub use Rattle.htl_model.specs.{declared.parts.Inv.Inv, declared.parts.Mode.Mode, declared.parts.Module.Module, declared.parts.Port.Port, declared.parts.Switch.Switch, declared.parts.Task.Task}
pub use Rattle.htl_object.proofs.{FunctionPlaces.task_there, PhaseLaws.layout_phased}
pub use Rattle.htl_object.proofs.Words.{AreApart, IsCommInRange, IsFunInRange, IsFunctionCode, IsNonDecreasing, IsPortInRange, IsSpan, [], and_first, ap, apart_names, apart_owned, apart_pairs, are_different_numbers, begin_place, bytes_eq, bytes_eq-Decides, count_by, decide_place, different, different_owned, different_pairs, enter_places, get_list_to, is_within, layout, length, mode_place, nodes, radices}
pub use Rattle.htl_object.specs.declared.object.Object.{Object}
pub use Rattle.htl_patch.specs.{Answering.IsHandedBackBy, Answering.IsPatchStop, Answering.IsPatched, Answering.IsPatchedAs, Answering.PatchIsRefusedFor, Counterparts.counterpart, Counterparts.all_counterparts, declared.order.Frame.Frame}
pub use Rattle.htl_patch.specs.{Firsts.first_function, Firsts.firsts_of, Levels.AreFewNumbers, Levels.sizes_of, Levels.module_mode_tables, Object.CanPatch, Object.patched_object, declared.fault.PatchFault.PatchFault}
pub use Rattle.htl_patch.specs.Joining.{IsFirstDifference, Joins, exceeded, first, first_limit, first_unmatched, first_twice, replacement_by, replacement_of, inv_module, is_kept_name, is_matched, is_named, is_unmatched, is_unmatched_parent, is_transferred, level, levels, mode_named, module_name, sizes, twice_at, widest}
pub use Rattle.htl_patch.specs.{Owners.inv_owners, Owners.is_owner, Owners.mode_owners, Owners.owned_by, Owners.port_owners, Owners.switch_owners, Owners.task_owners, Stack.coming, Stack.coming_from, Stack.frame, Stack.child_frames}
pub use Rattle.htl_patch.specs.{Patched.below, Patched.is_donors, Patched.is_under, Patched.children, Patched.mode_children, Patched.new_numbers, Patched.order, Patched.patched, Patched.refines, declared.fault.PatchStop.PatchStop}
pub use Rattle.htl_patch.specs.Placed.{ArePlaces, ArePlacesOf, HasPlace, HasPlaces, placed, placed_end, placed_inv, placed_mode, placed_module, placed_port, placed_switch, placed_task}
pub use Rattle.htl_patch.specs.Renumbered.{Numbering, function_of_switch, functions_of, inv_at, mode_at, module_at, new_end, new_inv, new_mode, new_module, new_port, new_switch, new_task, numbering, place_among, port_at, port_of_mode, ports_of, renumbered, switch_at, switch_of_mode, switches_of, task_at, task_of_module, tasks_of}
pub use Rattle.htl_patch.specs.Stops.{AreMatched, IsAcceptedWith, IsEarlyFault, IsFaultBy, IsReplacementFault, IsHandedBack, IsMisfit, IsPatchFault, IsTablesFault, IsTablesStop, misfit_of, object_with}
pub use Rattle.htl_patch.specs.Combined.{Replacement, belongs_to_mode, invoked_name, invs_named, donor_end, donor_inv, donor_mode, donor_module, donor_parent, donor_port, donor_switch, donor_task, replacement, invokes_named, output_count, output_functions, refined_mode, switch_functions, combined}
pub use Rattle.htl_patch.specs.declared.numbers.NewNumbers.{NewNumbers}
pub use Rattle.htl_refine.proofs.{Positions.rootless, SelectedLaws.at_number}
pub use Rattle.htl_refine.proofs.Words.{All, IsEndInRange, IsInvInRange, IsModeInRange, IsModeThat, IsSwitchInRange, IsTaskInRange, Itself, KeepsLimits, ParentFault, ParentWrong, Parents, absent_job, abstract_jobs, all_at, and_from, and_none, call, cases_less_more, choices, choices_from, feeds, feeds_at, first_refinement_fault, flat_map, frame_of, from_map, get_back, get_front, get_mapped, get_or_from_slice_get, hyper, int_one, inv_of_mode, invs_of, is_fed_by, is_port, is_read_from, is_root, job_in, known_by, le-ltb, legs_of, length-list_to, length-map, list_any, lt-ltb, mask, mod-lt, mode, mode_in, mode_module, mode_of_module, mode_period, modes_of, modes_some, module_named, nat_tests, ne_eqb, next_of, node_of, nodes_of, not-true, numbered, of_bool, or_right, parent_mode, parent_of, path_places, placed_job, placed_jobs, places_from, places_in, places_of, plain, positions, reentered, refined, refinement_rules, release, root_mode, root_modules, root_periods, rounds, rounds_at, rounds_of, same_Some, selection_count, slice_get, slice_get-get_or, slice_get_past, slice_get_within, starts_below, switch, take_front, task, task_worst, unit_period, unit_start, window_end}
pub use Rattle.htl_walk.proofs.Words.{List, comm_period, flat_map-append, least_or, multiple_of, offsets}
pub use Rattle.htl_walk.specs.declared.job.Job.{Job}
pub use Rattle.std.proofs.{lemmas.List.reverse-append, lemmas.List.reverse-reverse, lemmas.Map.Made.IsDistinct-from_AllPairs}
