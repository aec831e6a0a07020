use Rattle.std.proofs.Common.{◌≡◌, ◌∙◌, Err, ap, rules}
use Rattle.htl_espell.proofs.{Words.fault_of, Words.mode_fault, Words.offsets_fit, Words.mode_below, Words.start_more, ModeFaults.modes_more, ModeFaults.mode_departs}
use Rattle.htl_espell.proofs.spelling.check_modes.Goals as goal

pub check_mode-requires-clause-offsets : goal.check_mode-requires-clause-offsets
check_mode-requires-clause-offsets c = offsets_fit c.args.t.now c.parts.ensures.ranges c.requires.form

pub returns-in_err-check_mode : goal.returns-in_err-check_mode
returns-in_err-check_mode c =
    let departs : c.from_residual.result ≡ Err c.in_err-check_mode.field-0.0 = search rules in
    ap fault_of departs
    ∙ mode_departs c.args.t.now c.args.code.now c.in_err-check_mode.field-0.0 c.loop-m.m (mode_below c.args.t.now c.parts.result.now c.as_slice-modes.result.now c.loop-m.m c.parts.ensures.value c.as_slice-modes.ensures c.loop-m-test.true)
    c.loop-m.invariant.kept (c.in_err-check_mode.ensures.fault ∙ ap (mode_fault c.args.t.now c.args.code.now) c.mode_invs-run.ensures.mode)

pub loop-m-preserved : goal.loop-m-preserved
loop-m-preserved c =
    record {
      kept = modes_more c.args.t.now c.args.code.now c.loop-m.m c.loop-m.invariant.kept (c.in_ok-check_mode.ensures.fault ∙ ap (mode_fault c.args.t.now c.args.code.now) c.mode_invs-run.ensures.mode);
      same = c.in_ok-check_mode.ensures.same ∙ c.loop-m.invariant.same;
      start = start_more c.args.t.now c.mode_invs-run.result c.loop-m.m c.mode_invs-run.ensures.mode c.mode_invs-run.ensures.all;
    }
