-- The words that several proofs cite, of this crate and of those below it, passed on from one place. Declares nothing.
pub use Rattle.std.proofs.Common.{All, Bool, Bor, Err, IfErr, IfOk, IfSome, IsOk, IsSome, List, MatchOption, MatchResult, None, Ok, OnOk, Option, Result, Some, Vec, [], add-one, ap, append-nil, append_assoc, ap₂, arith, codes, cond, drop, drop-cons, eqb, false, get_or, get_or-set_other, get_or-set_same, inl, inr, is_none, is_some, leb, length, length-take-le, ltb, map, max, min, nat_lt, neg_ℤ, negsuc, not, of_z, option_map, pos, refl, replicate, rules, set, slice_get, slice_set, string_bytes, subst, suc, sym, take, to_z, true, w64, zero, ℕ, ℤ, ⊎_elim}
pub use Rattle.std.proofs.{Math.Bool.or-false, Math.Seq.drop-append_seam, Math.Seq.take-append_seam, Math.Seq.take-length, Math.Seq.take-suc, lemmas.Bool.Decides.Decides-eqb, lemmas.Bool.Decides.nat_tests, lemmas.Cmp.nat_eq_equiv}
pub use Rattle.std.proofs.Math.Nat.{add-mul-div_left, add-mul-mod_self_left, div-add-mod, div-div-eq-div-mul, div-eq_of_lt, div-le_self, div-lt_iff_lt-mul, div-one, dvd-mul_left, mod-eq_of_lt, mod-lt, mod_self, mul-add-div_right, mul-div-le, mul-div_cancel_left, mul-le-mul_left, mul-le-mul_right, mul-mod_right, mul_assoc, mul_comm, pos_of_dvd_of_pos}
pub use Rattle.std.proofs.lemmas.Bool.{and_from, and_parts, and_right, both_ways, cases_Bool, cases_eq, cases_lt, eq-eqb, eqb-false, eqb-true, false_from_ne_true, false≢true, le-leb, le-ltb, leb-false, leb-true, lt-leb, lt-ltb, ltb-false, ltb-true, ne_eqb, not-false, not-true, or_cases, or_left, or_parts, or_right, true≢false}
pub use Rattle.std.proofs.{lemmas.Grind.flat_map-append, lemmas.Grind.same_number_lists, lemmas.Int.to_z-of_z, lemmas.Iterator.Adapters.position_from-zero, lemmas.List.Concat.flat_map-cons, lemmas.List.Concat.length-flat_map}
pub use Rattle.std.proofs.lemmas.List.{drop-set-lt, drop_all, drop_more, ext_get_or, get_or-map, get_or-take, get_or_default, get_or_past, length-append, length-drop, length-map, length-replicate, length-set, length-take, map-append, map_more, nil_from_length, take-append-drop, take_all, take_more, take_more_set}
pub use Rattle.std.proofs.lemmas.List.Elements.{All-append, All-cons, All-from_get_or, All-get_or, All-head, All-map, All-nil, All-tail, filter-append}
pub use Rattle.std.proofs.{lemmas.List.Folds.Any-from_list_any, lemmas.List.Folds.flat_map-map, lemmas.List.Folds.list_any-append, lemmas.List.Folds.list_any_more, lemmas.List.Quantifiers.position-Some, lemmas.Map.Text.is_eq-slice_cmp}
pub use Rattle.std.proofs.{lemmas.List.Sorted.IsNonDecreasingBy-from_sort, lemmas.List.Splits.length-slice_split, lemmas.List.Splits.slice_split_first, lemmas.Map.Steps.length-le_from_distinct_below, lemmas.Nat.Gcd.dvd_trans}
pub use Rattle.std.proofs.lemmas.List.Sums.{AllPass-from_list_all, count_by-le-length, position_or_len_is, sum_by-append, sum_by-cons, sum_by-le, sum_by-le-sum_by}
pub use Rattle.std.proofs.lemmas.Map.Keys.{IsDistinct-IsPermutation, IsDistinct-cons, IsDistinct-from_apart, IsStrictlyIncreasing-from_distinct, any_passes_from_place, below_from_sorted, sorted_from_strictly_increasing}
pub use Rattle.std.proofs.{lemmas.Map.Views.Contains-from_any, lemmas.Map.Views.list_any-from_Contains, lemmas.Nat.div-mul-add, lemmas.Nat.mod-mul-add, lemmas.Nat.mul-add-lt}
pub use Rattle.std.proofs.lemmas.Nat.Bits.{bit_at-lt, bit_at-suc, bit_at-trailing_zeros, bit_at-zero, bit_at_lowest}
pub use Rattle.std.proofs.lemmas.Option.{get_or_from_slice_get, none-some, same_Some, slice_get-get_or, slice_get-map, slice_get_cases, slice_get_past, slice_get_read, slice_get_within}
pub use Rattle.std.proofs.{lemmas.Result.IfOk-weaker, lemmas.Result.err_from_is_err_and, lemmas.Result.on_ok_weaker, lemmas.Slice.Eq.bytes_eq-Decides, lemmas.Slice.Eq.slice_eq-Decides}
pub use Rattle.std.specs.{Bool.Decides, Cmp.Lexicographic.slice_cmp, Fmt.decimal, Fmt.digits, Fmt.signed_decimal, Int.IsGcd, Int.bit_at, Int.trailing_zeros, Int.w128, Int.Bits.bit_and, Int.Bits.bit_or, Ordering.is_eq, Ordering.nat_cmp}
pub use Rattle.std.specs.{Io.KnownBytes.IsAtEnd, Io.KnownBytes.append_known, Io.KnownBytes.prepend_known, List.Sorted.IsNonDecreasing, List.Sorted.IsPermutation, List.Sorted.IsSorted, Prelude.nat_le, Prelude.slice_index, Prelude.unwrap_or}
pub use Rattle.std.specs.List.{AllByRecursion, IsDistinct, count_by, filter, flat_map, list_all, list_any, position_from, position_or_len, range_with_len, slice_split, sum_by, zip}
pub use Rattle.std.specs.{Str.bytes_eq, declared.alloc.Global.Global}
