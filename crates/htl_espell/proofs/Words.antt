-- The words that several proofs cite, of this crate and of those below it, passed on from one place. Declares nothing.
pub use Rattle.htl_base.proofs.Words.{or_parts, refl}
pub use Rattle.htl_ecode.proofs.{AllModes.mode_below, AllModes.start_more, Fitting.offsets_fit, Least.count_all, Least.count_from, Reading.bind_ok, Reading.resolve_is, Spelled.has_wait, Spelled.waits}
pub use Rattle.htl_ecode.proofs.ModeInvLaws.{IsOfMode, calls_of_mode, found_from_start, invs_are, is_within, nothing_later, releases_of_mode}
pub use Rattle.htl_ecode.proofs.{Phases.IsOffset, Phases.left_falls, Phases.left_from, Phases.left_next, Phases.next_after, Phases.next_is_offset, SpellingLaws.departs_not_spells, SpellingLaws.spelled_departs_not}
pub use Rattle.htl_ecode.proofs.Words.{AtAnchor, ModeJump, Block, Exactly, IsLater, IsStartOf, Resolved, Met, OffsetsFit, Reached, Spells, Step, Tables, SwitchJump, EndOfRound, NextBlock, Requirement, all_do, arrive, arrive_on, arrives, asks_of, begin_chain, begin_fault, bind, block_begun, block_chain, block_end, block_faults, blocks_from, call_of, calls, calls_of, children, counts, decide_chain, decide_fault, decided, departure, departure_before, either, ends_in, enter_chain, enter_fault, entered, eq-eqb, eqb-true, fault, fault_of, first_target, holds, is_child, joined, jump_to, resolve, resolve_on, resolved, branch_on, met_by, mode_fault, mode_period, next_offset, numbered, phase_fault, phase_offsets, places_at, places_from, reach, reach_instr, reached, read, release_of, releases, slice_get, slice_get_within, behind_jump, steps_of, target_of, test_of, tests_of, turn, waits_for}
pub use Rattle.htl_ecode.specs.{Offsets.meets, declared.ecode.ECode.ECode, declared.fault.EFault.EFault, declared.fault.EKind.TheVariants.Branch, declared.fault.EKind.TheVariants.Endless, declared.fault.EKind.TheVariants.Target}
pub use Rattle.htl_ecode.specs.{declared.instr.EInstr.EInstr, declared.instr.EInstr.TheVariants.CallWrite, declared.instr.EInstr.TheVariants.Jump, Phases.number_of}
pub use Rattle.htl_espell.specs.Checks.{begin_read, block_of, block_read, decide_read, ends_met, ends_of, enter_read, next_met, next_of, phase_departure, place_of, waited}
pub use Rattle.htl_espell.specs.{Parts.call_wants, Parts.child_wants, Parts.end_wants, Parts.release_wants, JumpChains.AreJumpChains, JumpChains.jump_at, JumpChains.no_chain, JumpChains.after_jumps, declared.chains.JumpChain.JumpChain}
pub use Rattle.htl_model.proofs.Words.{cases_at_most, ne_eqb, slice_get-get_or}
pub use Rattle.htl_model.specs.{declared.parts.End.End, declared.parts.Inv.Inv, declared.parts.Module.Module}
