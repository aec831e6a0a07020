-- The words that several proofs cite, of this crate and of those below it, passed on from one place. Declares nothing.
pub use Rattle.htl_base.proofs.Words.{All-map, AllPass-from_list_all, Result, codes, false≢true, is_eq, is_eq-slice_cmp, list_all, list_any-append, nat_cmp, same_Some, slice_cmp, slice_index, take}
pub use Rattle.htl_base.specs.Names.{is_identifier, is_letter, is_name, is_reserved, is_word_byte}
pub use Rattle.htl_model.proofs.Sources.{mode, module_named}
pub use Rattle.htl_model.proofs.Words.{AreInRange, IsEndInRange, IsInvInRange, IsModeThat, IsModuleInRange, Tables, and_parts, are_different_owned, bytes_eq, bytes_eq-Decides, count_at, count_before, is_within, list_any, mode_module, nat_tests, none-some, parent_of}
pub use Rattle.htl_model.specs.{Ranges.IsSpan, Ranges.IsTaskInRange, Tables.tables_of, declared.parts.End.End, declared.parts.Inv.Inv, declared.parts.Module.Module, declared.parts.Task.Task}
pub use Rattle.htl_platform.specs.{Applied.tasks_with, Applied.with_worst, Faults.bad_key, Faults.bad_shape, Faults.first_failing, Faults.missing_name, Faults.or_then, Keys.Holds, Keys.has_key, Keys.keys_of}
pub use Rattle.htl_platform.specs.Entries.{Entry, entries_of, is_declared, is_platform_name, is_top_entry, is_whole_entry, is_worst, key_of, members_or, number_or, worst_of}
pub use Rattle.htl_platform.specs.{Platforms.document_in, Platforms.has_name, Platforms.platform_of, Platforms.platform_or, Platforms.worst_in, declared.fault.PlatformFault.PlatformFault, declared.platform.Platform.Platform}
pub use Rattle.indexmap.specs.IndexSet.{insert_key}
pub use Rattle.std.proofs.{lemmas.Str.IsAscii-append, lemmas.Str.IsUtf8-from_ascii, lemmas.Str.IsUtf8-from_is_utf8, lemmas.Str.is_utf8-from_IsUtf8, lemmas.Str.Ascii.IsAscii-cons, lemmas.Str.Ascii.IsAscii-from_all}
pub use Rattle.std.specs.{Ordering.match_ordering, Prelude.IsUtf8, Prelude.option_and_then, Str.IsAscii, Str.is_utf8, declared.alloc.Global.Global}
pub use Rattle.toml.proofs.Views.{Entry as Held}
pub use Rattle.toml.specs.{Data.Data, Data.Members, Data.as_integer, Data.as_table, Data.get_member, Data.integer, Data.member, Data.no_members, Data.string, Data.table, Parse.parse_document, View.members_view, View.table_view, View.view}
