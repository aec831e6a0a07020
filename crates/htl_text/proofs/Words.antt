-- The words that several proofs cite, of this crate and of those below it, passed on from one place. Declares nothing.
pub use Rattle.htl_base.proofs.Numbers.{cases_le}
pub use Rattle.htl_base.proofs.Words.{Decides-eqb, IfOk-weaker, Option, Some, and_parts, append_known, arith, bytes_eq, bytes_eq-Decides, codes, decimal, drop-append_seam, flat_map, get_or, length-append, length-drop, length-flat_map, list_all, list_any, map, map-append, nat_lt, nat_tests, not-true, or_cases, range_with_len, rules, slice_get, slice_get-map, slice_get_within, slice_index, sum_by, sum_by-append, sum_by-cons, sum_by-le-sum_by, take, take-append-drop, take-append_seam, take-length, take-suc, zip}
pub use Rattle.htl_base.specs.Names.{is_identifier, is_letter, is_name, is_reserved, is_word_byte}
pub use Rattle.htl_text.specs.{Answers.AreAll, Answers.IsLexed, Answers.TellsFault, Answers.TellsTokens, Entries.IsKept, Entries.kind_at, Entries.offsets_of, Entries.spelled, Entries.text_in, Entries.token_in, Entries.tokens_in}
pub use Rattle.htl_text.specs.Bounds.{HasFewItems, invoke_size, invokes_of, mode_size, modes_of, module_size, modules_of, names_of, out_params, out_values, program_size, switch_size, switches_of, task_size, tasks_of, tree_nodes, tree_size}
pub use Rattle.htl_text.specs.{Kinds.FirstIs, Kinds.kind_of, Postfix.IsExpr, Postfix.back, Postfix.expr_in, Postfix.expr_in-nodes_of, Postfix.front, Postfix.names_in, Postfix.nodes_of, Spellable.AreSpellable, Spellable.IsSpellable}
pub use Rattle.htl_text.specs.Nodes.{Abstract, Concrete, PlainMode, PlainModule, PlainOut, PlainProgram, PlainSwitch, PlainTask, mode_of, module_of, out_of, program_of, switch_of, task_of}
pub use Rattle.htl_text.specs.PrintedBytes.{Adds, Writes, printed_bytes, separator, sign_text, token_bytes, token_text, word_text}
pub use Rattle.htl_text.specs.PrintedTokens.{Spelling, after_commas, each, in_brackets, mode_tokens, module_tokens, number_tokens, out_tokens, port_tokens, program_tokens, source_tokens, switch_tokens, task_tokens}
pub use Rattle.htl_text.specs.{Scanning.IsFront, Scanning.IsFrontSign, Scanning.name_len, Scanning.number_len, Scanning.sign_len, Scanning.skip, Scanning.token_len, TokenLists.AreHeld, TokenLists.TokenList, declared.entry.Entry.Entry}
pub use Rattle.htl_text.specs.{Spans.Cuts, Spans.Faults, Spans.Gap, Spans.IsCut, Spans.IsFault, Spans.IsSpan, Spans.Item, Spans.Tokens, Spans.begin, Spans.blank, Spans.feed, Spans.inside, Spans.is_blank, Spans.none, declared.tree.Id.Id}
pub use Rattle.htl_text.specs.{Texts.is_numeral, Texts.is_token, Texts.look_up, Texts.number_of, Texts.or_else, Texts.sign_of, Texts.signs, Texts.token_of, Texts.word_of, Texts.words, declared.expression.Node.Node, declared.token.Kind.Kind}
pub use Rattle.htl_text.specs.{declared.lexer.LexFault.LexFault, declared.scan.Front.Front, declared.token.Sign.Sign as ASign, declared.token.Token.Token, declared.token.Word.Word as AWord, declared.tree.CommNode.CommNode}
pub use Rattle.htl_text.specs.{declared.token.Token.TheVariants.Ident, declared.token.Token.TheVariants.Number, declared.token.Token.TheVariants.Sign, declared.token.Token.TheVariants.Word, declared.tree.EndNode.EndNode}
pub use Rattle.htl_text.specs.{declared.tree.InvokeNode.InvokeNode, declared.tree.Num.Num, declared.tree.ParamNode.ParamNode}
pub use Rattle.std.proofs.{lemmas.Fmt.decimal_is_IsNumeral, lemmas.Int.Digits.digits_value_more, lemmas.List.Folds.length-prefix_len, lemmas.List.FromFn.get_or-map-range_with_len, lemmas.Str.digit_value_digit}
pub use Rattle.std.proofs.{lemmas.List.Sums.prefix_len-drop_yes, lemmas.List.Sums.prefix_len-le-length, lemmas.Slice.Zip.firsts-zip, lemmas.Slice.Zip.length-zip, lemmas.Slice.Zip.seconds-zip}
pub use Rattle.std.proofs.lemmas.Str.Parse.{IsNumeralModel, digit_at, digits_value-take-le, digits_value_short, numerals_by_value}
pub use Rattle.std.specs.{Char.is_ascii_digit, List.prefix_len, Option.option_map, Prelude.find, Str.Parse.digits_value}
