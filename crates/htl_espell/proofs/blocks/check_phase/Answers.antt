use Rattle.std.proofs.Common.{◌≡◌, Err, Ok, List, rules, refl, ap, sym, ◌∙◌, suc, add-one}
use Rattle.htl_espell.proofs.{Words.number_of, Words.EInstr, Words.next_offset, Words.fault_of, Words.block_read, Whole.block_fault, Whole.block_target}
use Rattle.htl_espell.proofs.PhaseBlocks.{checking_starts, checking_more, checking_departs, checking_falls, next_not_before}
use Rattle.htl_espell.proofs.blocks.check_phase.Goals as goal

pub loop-block-init : goal.loop-block-init
loop-block-init c =
    record {
      same = refl;
      checks = checking_starts c.args.t.now c.args.code.now c.args.run.mode (number_of c.args.phase) c.next_offset.result c.args.first c.block_of-block.result c.next_offset.ensures c.block_of-block.ensures;
    }

pub check_block-requires-clause-later : goal.check_block-requires-clause-later
check_block-requires-clause-later c = next_not_before c.args.t.now c.args.run.mode (number_of c.args.phase) c.in-Some.offset c.next_offset-next.result c.requires.offsets c.next_offset-next.ensures

pub loop-block-smaller : goal.loop-block-smaller
loop-block-smaller c =
    checking_falls c.args.t.now c.args.code.now c.args.run.mode (number_of c.args.phase) c.in-Some.offset c.in-Some.at _ c.loop-block.block c.loop-block.invariant.checks c.in-Some.is c.next_offset-next.result c.in_ok-target.target
    c.block_of-block-in-Some.result c.next_offset-next.ensures c.block_of-block-in-Some.ensures

pub loop-block-preserved : goal.loop-block-preserved
loop-block-preserved c =
    let code = c.args.code.now in
    let next : c.next_offset-next.result ≡ next_offset c.args.t.now c.args.run.mode (number_of c.args.phase) (suc c.in-Some.offset) = c.next_offset-next.ensures ∙ ap (next_offset c.args.t.now c.args.run.mode (number_of c.args.phase)) (add-one c.in-Some.offset) in
    let read : Ok c.in_ok-target.target ≡ block_read code c.args.t.now c.args.run.mode (number_of c.args.phase) c.in-Some.offset c.next_offset-next.result c.in-Some.at =
    c.in_ok-target.ensures.read ∙ ap (λ (z : List EInstr). block_read z c.args.t.now c.args.run.mode (number_of c.args.phase) c.in-Some.offset c.next_offset-next.result c.in-Some.at) c.loop-block.invariant.same in
    record {
      same = c.in_ok-target.ensures.same ∙ c.loop-block.invariant.same;
      checks = checking_more c.args.t.now code c.args.run.mode (number_of c.args.phase) c.in-Some.offset c.in-Some.at _ c.loop-block.block c.loop-block.invariant.checks c.in-Some.is c.next_offset-next.result c.in_ok-target.target
          c.block_of-block-in-Some.result c.next_offset-next.ensures
          (sym (block_fault code c.args.t.now c.args.run.mode (number_of c.args.phase) c.in-Some.offset c.in-Some.at c.next_offset-next.result next) ∙ ap (λ r. fault_of r) (sym read))
          (block_target code c.args.t.now c.args.run.mode (number_of c.args.phase) c.in-Some.offset c.in-Some.at c.next_offset-next.result c.in_ok-target.target next (sym read)) c.block_of-block-in-Some.ensures;
    }

pub returns-in_err-target-clause-fault : goal.returns-in_err-target-clause-fault
returns-in_err-target-clause-fault c =
    let code = c.args.code.now in
    let departs : c.from_residual.result ≡ Err c.in_err-target.field-0.0 = search rules in
    let next : c.next_offset-next.result ≡ next_offset c.args.t.now c.args.run.mode (number_of c.args.phase) (suc c.in-Some.offset) = c.next_offset-next.ensures ∙ ap (next_offset c.args.t.now c.args.run.mode (number_of c.args.phase)) (add-one c.in-Some.offset) in
    let read : Err c.in_err-target.field-0.0 ≡ block_read code c.args.t.now c.args.run.mode (number_of c.args.phase) c.in-Some.offset c.next_offset-next.result c.in-Some.at =
    c.in_err-target.ensures.read ∙ ap (λ (z : List EInstr). block_read z c.args.t.now c.args.run.mode (number_of c.args.phase) c.in-Some.offset c.next_offset-next.result c.in-Some.at) c.loop-block.invariant.same in
    ap fault_of departs
    ∙ checking_departs c.args.t.now code c.args.run.mode (number_of c.args.phase) c.in-Some.offset c.in-Some.at _ c.loop-block.block c.loop-block.invariant.checks c.in-Some.is c.in_err-target.field-0.0
    (sym (block_fault code c.args.t.now c.args.run.mode (number_of c.args.phase) c.in-Some.offset c.in-Some.at c.next_offset-next.result next) ∙ ap (λ r. fault_of r) (sym read))
