-- The words that several proofs cite, of this crate and of those below it, passed on from one place. Declares nothing.
pub use Rattle.htl_base.proofs.{Firsts.first-unique, Words.All-cons, Words.All-map, Words.All-nil, Words.IfOk, Words.drop_all, Words.err_from_is_err_and, Words.length, Words.length-map}
pub use Rattle.htl_base.specs.{declared.Ty.Ty, declared.operator.BinOp.BinOp, declared.operator.UnOp.UnOp}
pub use Rattle.htl_parse.specs.{Answers.Begins, Answers.IsMisfit, Answers.IsParsed, Answers.IsTree, Answers.Spell, Answers.SpellNone, Answers.TellsLong, Answers.TellsSyntax, Answers.TellsTree, Codes.sign_code, Codes.word_code}
pub use Rattle.htl_parse.specs.Bare.{AreAlike, bare_clause, bare_comm, bare_const, bare_end, bare_expr, bare_id, bare_invoke, bare_mode, bare_module, bare_num, bare_out, bare_outs, bare_param, bare_program, bare_switch, bare_task}
pub use Rattle.htl_parse.specs.{Cursors.NextIs, Cursors.Passes, Cursors.PassesBinary, Cursors.PassesOperator, Cursors.Puts, Cursors.behind, Cursors.next_kind, Laws.IsParsedAgain, Laws.IsPrintable, Repeats.CanList, Repeats.CanRepeat}
pub use Rattle.htl_parse.specs.{Levels.level_by, Levels.level_of, Levels.limit_behind, Levels.operator_at, Runs.AreShort, Runs.IsFirstLong, Runs.IsLong, Runs.IsStatementRun, Runs.TellsEnd, Runs.ends_run, declared.stop.Stop.Stop}
pub use Rattle.htl_parse.specs.Reading.{Read, Reader, after_sign, after_word, clause_at, clause_by, const_at, left_of, name_at, number_at, place_at, type_at}
pub use Rattle.htl_parse.specs.ReadingExpressions.{and_by, atom_by, bracketed, chain, chosen, compare_by, compared, expr_at, further, grown, or_by, product_by, read_expr, sum_by, tail, unary_by}
pub use Rattle.htl_parse.specs.ReadingLists.{again_at, closed_at, closing_at, each_at, items_at, list_at, more_at, repeated_at}
pub use Rattle.htl_parse.specs.ReadingStatements.{begins_comm, begins_invoke, begins_mode, begins_module, begins_port, begins_program, begins_switch, begins_task, comm_at, end_at, invoke_at, mode_at, module_at, out_at, param_at, port_at, program_at, source_at, switch_at, task_at}
pub use Rattle.htl_parse.specs.declared.parser.ParseFault.{ParseFault}
pub use Rattle.htl_text.proofs.{AtPlaces.drop-at, Parts.in_expr, Parts.is_expr, Reprinted.printed-tokens, Sizes.length-within, Sizes.size-few}
pub use Rattle.htl_text.proofs.Words.{Abstract, AreSpellable, Concrete, FirstIs, PlainMode, PlainModule, PlainOut, PlainProgram, PlainSwitch, PlainTask, Spelling, after_commas, each, in_brackets, invoke_size, kind_of, length-append, length-drop, map, map-append, mode_of, mode_size, mode_tokens, module_of, module_size, module_tokens, names_of, nat_lt, nat_tests, nodes_of, option_map, out_of, out_tokens, port_tokens, printed_bytes, program_of, program_size, program_tokens, slice_get, source_tokens, sum_by-cons, switch_of, switch_size, switch_tokens, take-append-drop, task_of, task_size, task_tokens, tree_nodes, tree_size}
pub use Rattle.htl_text.specs.Bounds.{HasLiterals, IsBounded, IsBoundedComm, IsBoundedConst, IsBoundedEnd, IsBoundedExpr, IsBoundedInvoke, IsBoundedMode, IsBoundedModule, IsBoundedProgram, IsBoundedSwitch, IsBoundedTask}
pub use Rattle.htl_text.specs.{Expressions.Choice, Expressions.Expr, Expressions.Flag, Expressions.Infix, Expressions.Number, Expressions.Prefix, Expressions.Variable, Nodes.PlainOuts, Nodes.tree_of, declared.expression.Node.Node}
pub use Rattle.htl_text.specs.Grammar.{And, Atom, Compare, Level, Or, Product, Spells, Sum, Unary, add, and, and_of, atom, brackets, choice, cmp, compare, compare_of, conj, false_word as false_atom, multiply, name, number, or, or_of, prefix, prefix_of, prod, product_of, sum, sum_of, true_word as true_atom, unary}
pub use Rattle.htl_text.specs.{Placed.Placed, Placed.Put, Placed.tokens_numbered, declared.token.Kind.Kind, declared.token.Sign.Sign, declared.token.Token.Token, declared.token.Word.Word, declared.tree.CommNode.CommNode}
pub use Rattle.htl_text.specs.PrintedTokens.{clause_tokens, comm_tokens, const_tokens, end_tokens, expr_tokens, infix_sign, invoke_tokens, param_tokens, prefix_sign, type_tokens}
pub use Rattle.htl_text.specs.Statements.{SpellsClause, SpellsComm, SpellsConst, SpellsEach, SpellsEnd, SpellsInvoke, SpellsList, SpellsMode, SpellsModule, SpellsMore, SpellsOut, SpellsParam, SpellsPort, SpellsProgram, SpellsSource, SpellsSwitch, SpellsTask, SpellsType, a_module, absent, abstract_task, another, bool, comm_end, comma, communicator, concrete, empty, false_word, false_word as false_const, int, invoke, items, mode, negative, no_more, no_other, out, param, port, port_end, positive, present, program, sensor, source, switch, true_word, true_word as true_const}
pub use Rattle.htl_text.specs.{declared.tree.ConstNode.ConstNode, declared.tree.EndNode.EndNode, declared.tree.Id.Id, declared.tree.InvokeNode.InvokeNode, declared.tree.Num.Num, declared.tree.ParamNode.ParamNode, declared.tree.Tree.Tree}
