-- The words that several proofs cite, of this crate and of those below it, passed on from one place. Declares nothing.
pub use Rattle.htl_base.proofs.{Tests.eqb_less, Words.All-cons, Words.All-head, Words.All-nil, Words.All-tail, Words.and_from}
pub use Rattle.htl_ecode.specs.Chains.{AtAnchor, ModeJump, Exactly, SwitchJump, EndOfRound, NextBlock, Requirement, all_do, asks_for, asks_of, begin_chain, block_chain, block_end, call_of, calls, calls_of, children, decide_chain, enter_calls, enter_chain, is_child, release_of, releases, test_of, tests_of, turn, waits_for}
pub use Rattle.htl_ecode.specs.{Conditions.KeepsOffsets, Generation.IsLater, Generation.IsModeCode, Generation.end_size, Generation.trigger, Laws.HasBlocks, ModeInvs.AreInvsOf, Paths.Done, Paths.run_done, Phases.number_of}
pub use Rattle.htl_ecode.specs.Departure.{Block, address_in, begin_fault, block_at, block_begun, block_faults, blocks, blocks_from, decide_fault, decided, departure, departure_before, either, enter_fault, entered, fault_of, first_target, branch_on, mode_fault, phase_fault}
pub use Rattle.htl_ecode.specs.{Instructions.Digits, Instructions.delay_in, Instructions.digits_of, Instructions.same_instr, Instructions.target_in, Spelling.HasPath, Spelling.Spells, Spelling.SpellsMode, declared.ecode.ECode.ECode}
pub use Rattle.htl_ecode.specs.{Jumps.Resolved, Jumps.arrive, Jumps.arrive_on, Jumps.arrives, Jumps.bind, Jumps.fault, Jumps.jump_to, Jumps.resolve, Jumps.resolve_on, Jumps.resolved, Jumps.behind_jump, declared.fault.EFault.EFault}
pub use Rattle.htl_ecode.specs.Layout.{begin_code, begin_place, blocks_code, decide_code, decide_place, enter_places, first_block, laid, layout, mode_code, mode_place, phase_code, reads_place, writes_place}
pub use Rattle.htl_ecode.specs.Offsets.{OffsetsFit, counted_in, counts, ends_in, holds, least_from, lesser, next_offset, offsets_in, phase_offsets, places_at, sooner}
pub use Rattle.htl_ecode.specs.Steps.{Met, Reached, Step, delayed, leaving, met_at, met_by, pass, passed_by, reach, reach_instr, reached, read, required, steps_of, target_of}
pub use Rattle.htl_ecode.specs.declared.fault.EKind.TheVariants.{Action, Branch, Delay, Endless, Target}
pub use Rattle.htl_ecode.specs.{declared.instr.EInstr.EInstr, declared.instr.EInstr.TheVariants.Fork, declared.mode_invs.ModeInvs.ModeInvs}
pub use Rattle.htl_model.proofs.{Listed.get_list_to, Sources.alternating, Sources.doubling, Sources.ports, Sources.preempted, Sources.reentered, Sources.refined, Sources.tanks}
pub use Rattle.htl_model.proofs.Words.{AreInRange, Formed, Input, IsInvInRange, IsModeInRange, IsStartOf, Offsets, Output, Tables, and_parts, cases_below, comm_period, eq-eqb, eqb-true, get_or_from_slice_get, greatest, is_concrete, length-append, list_to, mode_module, mode_period, nat_tests, offsets, or_cases, or_right, parent_of, places_from, release, slice_get, slice_get_within, up_to}
pub use Rattle.htl_model.specs.{Lists.joined, Lists.numbered, Tables.tables_of, declared.event.Event.Event, declared.event.Event.TheVariants.At, declared.event.Event.TheVariants.End as Ends, declared.event.Event.TheVariants.Sense}
pub use Rattle.htl_model.specs.{declared.parts.End.End, declared.parts.Inv.Inv, declared.parts.Mode.Mode, declared.parts.Parts.Parts, declared.parts.Switch.Switch}
pub use Rattle.std.proofs.Math.ListN.{length-map}
