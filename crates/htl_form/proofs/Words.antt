-- The words that several proofs cite, of this crate and of those below it, passed on from one place. Declares nothing.
pub use Rattle.htl_base.proofs.{Firsts.first-unique, Numbers.cases_below_next, Numbers.cases_le, Places.all_at, Places.from_take, Places.get_or_mapped, Places.into_take, Places.item_at}
pub use Rattle.htl_base.proofs.Tests.{eqb_apart, eqb_flips, eqb_less, eqb_some, same_truth}
pub use Rattle.htl_base.proofs.Words.{IsDistinct-IsPermutation, IsNonDecreasingBy-from_sort, IsPermutation, IsSorted, IsStrictlyIncreasing-from_distinct, any_passes_from_place, arith, below_from_sorted, bit_and, count_by, count_by-le-length, false, get_or_past, list_any-append, nat_cmp, not-false, option_map, or_parts, refl, rules, slice_get_read, sorted_from_strictly_increasing, sum_by-cons, sum_by-le, take}
pub use Rattle.htl_base.specs.{declared.Ty.Ty, declared.Ty.TheVariants.Bool as BoolTy, declared.Ty.TheVariants.Int as IntTy}
pub use Rattle.htl_form.specs.{AbstractWriters.MarksPorts, AbstractWriters.is_abstractly_written, AbstractWriters.writes_abstractly, CommonMultiples.FramesAreLeast, CommonMultiples.IsLcm, CommonMultiples.IsLcmOf, Tests.tests}
pub use Rattle.htl_form.specs.Apart.{AreApart, AreNear, AreTaken, IsApart, end_keys, instance_of, inv_keys, is_comm, is_taken, is_taken_end, key, keys_from, keys_in, takes}
pub use Rattle.htl_form.specs.{Cycles.is_on_cycle, Cycles.precedes_itself, FrameFaults.frame_fault, FrameFaults.is_first_of, Owners.AreNoted, Owners.AreOwners, Owners.KeepOwners, Owners.has_module, Owners.has_other, Owners.is_shared_end}
pub use Rattle.htl_form.specs.EndFaults.{abstract_read_fault, count_fault, read_offset_fault, sensor_fault, type_fault, unless_equal, unless_same, write_offset_fault}
pub use Rattle.htl_form.specs.{PeriodFaults.divides, PeriodFaults.divides_fault, PeriodFaults.end_divides_fault, PeriodFaults.module_period_fault, PeriodFaults.unless_asked, Rules.all_rules, Rules.law_of, Rules.rule_number}
pub use Rattle.htl_form.specs.{PortFaults.first_port_writer, PortFaults.is_below, PortFaults.port_writer, PortFaults.rewritten_fault, PortFaults.unwritten_fault, PortFaults.writers_before, Search.first_form_fault, Search.form_fault_of}
pub use Rattle.htl_form.specs.{Rows.AreMarked, Rows.AreSteps, Rows.AreWriters, Rows.IsRangeOf, Rows.follows, Rows.through_all, Rows.through_one, Rows.widened, WindowFaults.window_fault, WindowFaults.worst_case_fault}
pub use Rattle.htl_form.specs.WriterFaults.{first_writer, hits, outputs_before, rivals, stand_together, told_writer, writer_before, writer_fault}
pub use Rattle.htl_form.specs.{declared.owners.Owner.Owner, declared.rule.Rule.Rule}
pub use Rattle.htl_model.proofs.{BitLaws.has_bit_or, BitLaws.no_bits, Divisors.greatest_divisor, FrameBuild.roots_some, FrameRules.first_own, FrameRules.limit_among, NumbersBelow.length_numbers, SelectionLaws.places_below, Stays.module_is}
pub use Rattle.htl_model.proofs.{FirstLaws.IsFirstAt, FirstLaws.first_hit, FirstLaws.first_miss, FirstLaws.found_at, FirstLaws.none_at, FirstLaws.nothing_from, FirstLaws.or_else_none, FirstLaws.or_else_some, StartLaws.first_start}
pub use Rattle.htl_model.proofs.{PortChains.cycles_listed, PortChains.feeds_within, PortChains.leads_from, PortChains.leads_within, PortTableLaws.one_writer, PortTableLaws.row_by_reads, TestLaws.and_true}
pub use Rattle.htl_model.proofs.Sources.{call, int_one, mode, module_named, plain, sensor, switch, task}
pub use Rattle.htl_model.proofs.Words.{AbstractRead, AllByRecursion, AreInRange, AreOnCycles, AreSameWrite, Breach, BreaksAt, Broken, Contains-from_any, EndNotDivided, FormRule, Formed, Found, FrameExceeds, InCycle, Input, IsDistinct, IsDistinct-cons, IsDistinct-from_apart, IsEndInRange, IsFirstBroken, IsInvInRange, IsStartOf, Itself, KeptTo, Leads, ModeBreaks, OnPath, Output, Part, PartBreaks, Precedes, ReadLate, Rewritten, SecondWriter, SensorWritten, Site, Tables, Test, Tests, TypeDiffers, Unwritten, WindowEmpty, WriteOutside, WritesBefore, above, and_parts, at_inv, at_read, at_switch, bit_at, bit_at-lt, bit_or, breach, cases_Bool, cases_below, cases_less_same, cases_lt, cell, comm_period, common_multiple, count_below, direct, dvd-mul_left, dvd_trans, eq-eqb, eqb-true, false_from_ne_true, feeds, feeds_at, first_from, first_mode, frame_limit, gcd_in, get_or-set_other, get_or-set_same, get_or_from_slice_get, has_bit, in_mode, input_types, inv_in_mode, is_concrete, is_from, is_port, is_root, is_within, itself, leads_below, length-map, list_any, list_any-from_Contains, list_any_more, mode_module, mode_of_module, mode_period, modes_of, mul_assoc, mul_comm, multiple_of, nat_eq_equiv, nat_tests, none-some, not-true, numbers_below, or_cases, or_else, or_left, or_right, output_types, parent_of, places_from, pos_of_dvd_of_pos, release, root_modules, site_of, slice_get, slice_get-get_or, slice_get_within, some_place, task_worst, through, told, true_not_false, unit_period, window_end, writes_to, le_of_dvd}
pub use Rattle.htl_model.specs.{EndRules.CountsDiffer, EndRules.IsAbstractlyWritten, EndRules.WorstLong, EndRules.end_type, EndRules.is_sensor, EndRules.type_number, Found.unless, Search.at_mode, declared.form_fault.FormFault.FormFault}
pub use Rattle.htl_model.specs.{FormRules.ComesBefore, FormRules.InvBefore, FormRules.PartBefore, FormRules.SiteBefore, FormRules.number_of, PeriodRules.NotDivided, PeriodRules.PeriodDiffers, PeriodRules.asked_period}
pub use Rattle.htl_model.specs.{PortWriters.OutputBefore, PortWriters.WritesPort, PortWriters.port_uses, PortWriters.port_writers, PortWriters.writers_in, SecondWriters.StandTogether, SecondWriters.parent_mode, declared.parts.Comm.Comm}
pub use Rattle.htl_model.specs.{declared.parts.End.End, declared.parts.Inv.Inv, declared.parts.Mode.Mode, declared.parts.Module.Module, declared.parts.Port.Port, declared.parts.Switch.Switch, declared.parts.Task.Task}
pub use Rattle.std.proofs.Math.Nat.{div-mul_cancel, dvd-mul_right_of_dvd, dvd-sub, dvd_of_mul-dvd-mul_right, mod-eq-sub-mul-div, mul-dvd-mul_left, mul-dvd-mul_right, mul-sub, mul_right_comm}
pub use Rattle.std.proofs.{lemmas.Bool.lt-ltb as below, lemmas.List.get_or-replicate, lemmas.List.Sorted.IsPermutation-sym, lemmas.List.Sums.count_by_more_yes, lemmas.List.Sums.sum_by-take-le, lemmas.List.Sums.sum_by_more_le}
pub use Rattle.std.proofs.{lemmas.Map.Keys.IsDistinct-head, lemmas.Map.Keys.IsDistinct-tail, lemmas.Map.Made.length-from_same_keys, lemmas.Nat.one_shl, lemmas.Nat.pow_pos, lemmas.Nat.Bits.and_pow, lemmas.Nat.Gcd.dvd_refl}
pub use Rattle.std.specs.{Cmp.Derive.both_true, Int.Bits.or_zero_r, List.Sorted.IsStrictlyIncreasing}
