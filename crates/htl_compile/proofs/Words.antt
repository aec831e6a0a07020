-- The words that several proofs cite, of this crate and of those below it, passed on from one place. Declares nothing.
pub use Rattle.htl_base.specs.{declared.Ty.Ty, declared.Ty.TheVariants.Bool as BoolTy, declared.Ty.TheVariants.Int as IntTy, declared.operator.BinOp.BinOp, declared.operator.BinOp.TheVariants.Lt, declared.operator.BinOp.TheVariants.Mul}
pub use Rattle.htl_bulk.proofs.{Generated.generated, TreeParts.map_further, TypeTests.IsExpressionOf}
pub use Rattle.htl_compile.specs.Building.{HasBackFault, IsBackFault, IsCompileFault, IsCompiledTo, IsFirstOverload, IsObjectOf, unbuilt_of, unplanned_of}
pub use Rattle.htl_compile.specs.{Built.AreSchedulable, Built.CanBuild, Built.built, Built.node_schedule, Built.object_for, Built.object_of, Built.schedules, Built.through, declared.building.BackFault.BackFault}
pub use Rattle.htl_compile.specs.Coded.{AreSourceTables, AreTyped, CanCode, IsTyped, IsTypedAt, TypedBetween, code_at, code_by, code_of, coded, codes}
pub use Rattle.htl_compile.specs.{FunctionFaults.IsFaultAt, FunctionFaults.IsFaultOf, FunctionFaults.IsFirstFault, TokenBounds.AreFunctionsBelow, TokenBounds.AreOperatorsBelow, TokenBounds.IsFunctionBelow}
pub use Rattle.htl_compile.specs.Laws.{BackOnlyMemory, BuiltIsAccepted, BulkHasTables, CompileOnlyMemory, FrontOnlyMemory, NoneForOverloaded, OneBackFault, OneCompileFault, OneFrontFault, OneTables, SourceTablesFit}
pub use Rattle.htl_compile.specs.{OnPlatform.HasBackFaultOn, OnPlatform.HasPlatformFault, OnPlatform.IsCompiledOn, OnPlatform.IsNoPlatform, OnPlatform.IsOn, OnPlatform.IsWithFault, OnPlatform.built_on, declared.source.FrontFault.FrontFault}
pub use Rattle.htl_compile.specs.Sources.{BeginsAt, BeginsOrEndsAt, IsFront, IsFrontFault, IsFunctionFaultOf, IsNameFaultOf, IsRead, IsSourceFault, IsTablesOf, Reads}
pub use Rattle.htl_compile.specs.{declared.compiling.CompileFault.CompileFault, declared.compiling_on.WithFault.WithFault, declared.source_fault.SourceFault.SourceFault}
pub use Rattle.htl_ecode.proofs.{LayoutLaw.layout_departs_not, LayoutLaw.modes_length, Sizes.place_room, SpellingLaws.spells_or_departs, Words.Spells}
pub use Rattle.htl_ecode.specs.declared.ecode.ECode.{ECode}
pub use Rattle.htl_edf.proofs.{Cutting.from_more, Cutting.from_none, Cutting.path_refusal, Kept.one_report, NodeCode.depth_same, NodeLists.nodes_accepted, NodeLists.one_list_of_node, PathOrder.ready}
pub use Rattle.htl_edf.proofs.Words.{AreFeasible, AreNodeLists, AreReady, ExplainsNodes, NoOverload, Reported, Slice, cases_Bool, edf, instrs_of, longer, nodes_within, part, path_places_framed, paths_framed, slices_from, start_at, start_end_at, tightened}
pub use Rattle.htl_edf.specs.{Code.dispatches_of as slice_instrs, declared.plan.PlanFault.PlanFault, declared.plan.PlanFault.TheVariants.Memory as PlanMemory, declared.plan.PlanFault.TheVariants.Overload}
pub use Rattle.htl_form.proofs.SearchLaws.{kept_12}
pub use Rattle.htl_func.proofs.{Causes.ill_typed-typed, Causes.no_function, CodeMeans.IsCompiled-postfix, CodeMeans.code_means}
pub use Rattle.htl_func.specs.{Compiled.IsCompiled, Compiled.IsFunction, Expressions.at_fault, Expressions.first_ill, Expressions.ill_typed, Expressions.or_else, Expressions.unless_type, declared.compiler.FnFault.FnFault}
pub use Rattle.htl_model.proofs.{FrameRules.frames_kept, PlaceLaws.count_function_types, SameMeaning.same_runs, SameRanges.in_range, SameRanges.limits_same, SameRules.first_same, SameRules.formed_same}
pub use Rattle.htl_model.proofs.Words.{Arg, Binary, Choose, MeanTheSame, Number, SameRuns, Term, Unary, pos}
pub use Rattle.htl_model.specs.{FunctionTypes.FitPlaces, FunctionTypes.IsFunctionOf, Functions.held, Functions.postfix, Functions.term_of, Functions.type_choose, Functions.type_of, Functions.type_one, Functions.type_two, Tables.fun}
pub use Rattle.htl_model.specs.{declared.form_fault.FormFault.FormFault, declared.frame.Place.Place, declared.function.Code.Code, declared.function.Function.Function, declared.parts.Comm.Comm, declared.parts.Inv.Inv}
pub use Rattle.htl_model.specs.{declared.parts.Module.Module, declared.parts.Parts.Parts, declared.parts.Switch.Switch, declared.parts.Task.Task}
pub use Rattle.htl_names.proofs.{InRange.names-in-range, KeepsLimits.names-keep-limits, Members.Each, Members.each_append, Members.each_at, Members.each_flat_map, Members.each_flat_map_at, Members.each_weaker, OneFault.one_name_fault}
pub use Rattle.htl_names.proofs.{SmallFunctions.functions_small, TreeBounds.bounded_tree}
pub use Rattle.htl_names.proofs.Words.{AreNamesRight, AreSmall, Choice, Expr, FunctionType, Infix, Initial, IsFirstNameFault, IsSmallFunction, Judged, Limits, MeetsBounds, NameBroken, NameRule, ParentName, ParentUse, Prefix, ProgramTree, RepeatedName, UnknownName, WrongKind, comm_entry, comm_kinds, comm_use, end_kinds, end_use, entries, entries_from, flat_map_at, input_use, invoke_entry, invoke_kinds, invoke_parent, invoke_uses, kinds, map_at, mode_at, mode_entries, mode_kinds, mode_parents, mode_uses, modes_at, module_at, module_entries, module_kinds, module_parents, module_uses, modules_at, output_uses, outputs_uses, param_entry, params_of, parents, port_entry, program_entries, program_kinds, program_parents, program_use, program_uses, subst, switch_type, switch_uses, switches_at, tables_of_tree, task_entries, task_kind, task_types, task_uses, tasks_at, token_of, tree_of, uses}
pub use Rattle.htl_names.specs.{declared.fault.NameFault.NameFault, declared.key.Entry.Entry, declared.key.Use.Use, declared.place.ModeAt.ModeAt, declared.place.ModuleAt.ModuleAt}
pub use Rattle.htl_object.proofs.FunctionPlaces.{at_end, concrete_count, function_at, output_at, outputs_count, place_behind_task, switch_type_at, tasks_of}
pub use Rattle.htl_object.proofs.PhaseLaws.{layout_phased}
pub use Rattle.htl_object.proofs.Words.{Compiled, Formula, Fun, IsFunInRange, IsFunctionCode, IsInRange, IsObject, IsShort, IsSpan, ap, begin_place, choices_some, count_at, count_before, decide_place, enter_places, fun_of, function_count, function_types, get_list_to, layout, length, map, mod-mul-add, mode_place, mul-add-lt, mul_assoc, nodes, object_bytes, output_type, radices, refl, rounds_have, slice_get_cases, sym, tables_of, ℤ}
pub use Rattle.htl_object.specs.{Accepted.IsAccepted, declared.object.Object.Object}
pub use Rattle.htl_parse.proofs.{Bounded.tree-bounded, Stopping.misfit-unique, Whole.one_tree-law}
pub use Rattle.htl_parse.proofs.Words.{Abstract, Concrete, IsFirstLong, IsLong, IsMisfit, Placed, PlainMode, PlainModule, PlainOut, PlainOuts, PlainProgram, PlainSwitch, PlainTask, Put, Spell, SpellsClause, SpellsComm, SpellsConst, SpellsEach, SpellsEnd, SpellsInvoke, SpellsList, SpellsMode, SpellsModule, SpellsMore, SpellsOut, SpellsParam, SpellsPort, SpellsProgram, SpellsSource, SpellsSwitch, SpellsTask, SpellsType, a_module, absent, abstract_task, another, bool, comm_end, comma, communicator, concrete, empty, first-unique, int, invoke, items, mode, names_of, negative, no_more, no_other, out, param, port, port_end, positive, present, program, sensor, source, switch, tokens_numbered}
pub use Rattle.htl_platform.proofs.{SpanLaws.spans, Words.document_in, Words.platform_of, Words.platform_or, Words.tasks_with, Words.with_worst, Words.worst_of, WorstRanges.timed_in_range}
pub use Rattle.htl_platform.specs.{Answers.IsPlatform, Faults.fault_in, Platforms.fault_or, Platforms.platform_in, declared.fault.PlatformFault.PlatformFault, declared.fault.PlatformStop.PlatformStop, declared.platform.Platform.Platform}
pub use Rattle.htl_refine.proofs.OneFault.{formed, one_first_broken}
pub use Rattle.htl_refine.proofs.Words.{AreInRange, Formed, IsFirstBroken, KeepsLimits, Tables, absent_job, arith, begins, cases_less_same, cases_lt, choices, choices_from, choices_starts, div-lt_iff_lt-mul, div-mul-add, flat_map, frame_limit, frame_of, invs_of, is_fed_by, is_root, job_in, kept_apart, legs, legs_follow, length-list_to, length-map, limits_kept, list_to, map-append, mask, modes_of, mul_comm, next_of, node, node_of, nodes_of, path_jobs, path_places, paths, placed_job, placed_jobs, positions, release, root_mode, root_modules, root_periods, rounds, rounds_at, selection_count, site_of, slice_get-get_or, slice_get_within, some_root, starts, starts_below, task_worst, unit_period, ways, window_end, within_front}
pub use Rattle.htl_text.proofs.{FirstFault.Faults-unique, FirstFault.Tokens-sound, OneCut.Tokens-unique, OneCut.span-some, Spellable.tokens-spellable}
pub use Rattle.htl_text.proofs.Words.{Cuts, Faults, TokenList, Tokens, decimal, out_params, zip}
pub use Rattle.htl_text.specs.{Spans.Tokens as IsTokens, declared.lexer.LexFault.LexFault, declared.token.Token.Token, declared.token.Word.Word, declared.tree.CommNode.CommNode, declared.tree.ConstNode.ConstNode, declared.tree.Id.Id}
pub use Rattle.htl_text.specs.{declared.tree.EndNode.EndNode, declared.tree.InvokeNode.InvokeNode, declared.tree.ParamNode.ParamNode}
pub use Rattle.htl_walk.proofs.{CodeWalk.list_read, Words.Offsets, Words.multiple_of, Words.product_parts, Words.release_same, Words.window_end_same, Words.with_functions}
pub use Rattle.htl_walk.specs.{declared.job.Job.Job, declared.schedule.SInstr.SInstr, declared.schedule.SInstr.TheVariants.Dispatch, declared.schedule.SInstr.TheVariants.End, declared.schedule.Schedule.Schedule}
pub use Rattle.std.proofs.lemmas.Nat.{div-add-mod'}
