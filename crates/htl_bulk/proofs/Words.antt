-- The words that several proofs cite, of this crate and of those below it, passed on from one place. Declares nothing.
pub use Rattle.htl_base.proofs.Numbers.{cases_below}
pub use Rattle.htl_base.specs.{Names.is_identifier, Names.is_name, Names.is_reserved, declared.Ty.Ty}
pub use Rattle.htl_bulk.specs.BulkTree.{bulk_bytes, bulk_comm, bulk_mode, bulk_module, bulk_sensor, bulk_tree, comm_named, copied, copying_invoke, digits, int_named, named, number, scaled_sum, scaling_invoke}
pub use Rattle.htl_edf.proofs.Refusal.{inside_tells}
pub use Rattle.htl_edf.specs.{Lists.tightened, Sums.sum_below, Windows.NoOverload, Windows.inside}
pub use Rattle.htl_form.proofs.{Judging.judges, SiteLaws.rule_none}
pub use Rattle.htl_form.specs.{Rules.law_of, Rules.rule_number, Search.form_fault_of, Tests.tests, declared.rule.Rule.Rule}
pub use Rattle.htl_func.specs.Compiled.{IsFunction}
pub use Rattle.htl_model.proofs.FirstLaws.{none_at}
pub use Rattle.htl_model.specs.{Broken.BreaksAt, Broken.Broken, Broken.Formed, Broken.KeptTo, Broken.breach, First.first_from, Frames.paths, FunctionTypes.FunctionType, FunctionTypes.function_types, Functions.held, Functions.type_of}
pub use Rattle.htl_model.specs.FormRules.{AbstractPorts, ConcreteWriters, Divides, Ends, FrameLimits, Itself, ModulePeriod, Offsets, Part, PortCycles, PortWriters, Sensors, Site, Test, Windows, WorstCases}
pub use Rattle.htl_model.specs.{Lists.list_to, PortOrder.Leads, PortOrder.direct, PortOrder.feeds, PortOrder.feeds_at, PortOrder.through, Ranges.AreInRange, Tables.Compiled, Tables.Formula, Tables.Fun, Tables.Tables, declared.parts.Inv.Inv}
pub use Rattle.htl_model.specs.{declared.form_fault.FormFault.FormFault, declared.parts.Mode.Mode}
pub use Rattle.htl_names.proofs.{InRange.names-in-range, TreeBounds.bounded_tree}
pub use Rattle.htl_names.specs.{Entries.entries, Flat.comm_item, Flat.symbols_of, Flat.tables_of_tree, Keys.look_up, Kinds.is_kind, Kinds.kinds, Kinds.token_of, Kinds.wrong_token, Limits.counts, Limits.limits, Programs.refined_count}
pub use Rattle.htl_names.specs.{NameRules.AreNamesRight, NameRules.Limits, NameRules.ParentName, NameRules.ProgramTree, NameRules.RepeatedName, NameRules.UnknownName, NameRules.WrongKind, Parents.ParentUse, Parents.parents}
pub use Rattle.htl_names.specs.{Uses.unknown_by, Uses.unknown_token, Uses.uses, declared.key.Entry.Entry, declared.key.Key.Key, declared.key.Space.Space}
pub use Rattle.htl_parse.proofs.{Bounded.tree-bounded, Reparsing.source-again, Whole.one_tree-law}
pub use Rattle.htl_parse.specs.{Answers.Spell, Runs.AreShort, Runs.IsStatementRun, Runs.ends_run}
pub use Rattle.htl_parse.specs.Bare.{AreAlike, bare_clause, bare_comm, bare_const, bare_end, bare_expr, bare_invoke, bare_mode, bare_module, bare_out, bare_outs, bare_param, bare_program, bare_switch, bare_task}
pub use Rattle.htl_refine.proofs.{OneFault.formed, SearchLaws.kept_all}
pub use Rattle.htl_refine.specs.{Rules.refinement_rules, Tests.first_refinement_fault}
pub use Rattle.htl_text.proofs.{OneCut.Tokens-unique, Parts.in_expr, Parts.is_expr, Reprinted.printed-tokens, Writing.printed_bytes-cons, Writing.printed_bytes-nil}
pub use Rattle.htl_text.specs.{Expressions.Choice, Expressions.Expr, Expressions.Flag, Expressions.Infix, Expressions.Number, Expressions.Prefix, Expressions.Variable, Placed.tokens_numbered, Postfix.nodes_of, PrintedTokens.source_tokens}
pub use Rattle.htl_text.specs.{Nodes.Abstract, Nodes.Concrete, Nodes.PlainMode, Nodes.PlainModule, Nodes.PlainOut, Nodes.PlainOuts, Nodes.PlainProgram, Nodes.PlainSwitch, Nodes.PlainTask, Nodes.module_of, Nodes.switch_of, Spans.Tokens}
pub use Rattle.htl_text.specs.{PrintedBytes.printed_bytes, PrintedBytes.separator, PrintedBytes.sign_text, PrintedBytes.token_bytes, PrintedBytes.token_text, PrintedBytes.word_text, Spellable.AreSpellable, Spellable.IsSpellable}
pub use Rattle.htl_text.specs.{TokenLists.TokenList, declared.expression.Node.Node, declared.token.Sign.Sign, declared.token.Token.Token, declared.token.Word.Word, declared.tree.CommNode.CommNode, declared.tree.ConstNode.ConstNode}
pub use Rattle.htl_text.specs.{declared.tree.EndNode.EndNode, declared.tree.Id.Id, declared.tree.InvokeNode.InvokeNode, declared.tree.Num.Num, declared.tree.ParamNode.ParamNode}
pub use Rattle.htl_walk.specs.PathJobs.{path_jobs}
pub use Rattle.std.proofs.{lemmas.Bool.and_parts, lemmas.Bool.cases_lt, lemmas.Bool.Decides.nat_tests, lemmas.Fmt.decimal_digit, lemmas.Fmt.decimal_step, lemmas.Fmt.length-decimal-le, lemmas.Int.ints, lemmas.List.map-append}
pub use Rattle.std.proofs.lemmas.Option.{slice_get_within}
pub use Rattle.std.specs.{Fmt.decimal, List.list_all, Prelude.MatchOption, Prelude.codes, Prelude.int_le, Prelude.pos, Prelude.ℤ}
