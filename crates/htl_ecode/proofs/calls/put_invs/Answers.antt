use Rattle.std.proofs.Common.{ap, ◌++◌}
use Rattle.htl_ecode.specs.{Chains.calls_of, Phases.number_of}
use Rattle.htl_ecode.proofs.ModeInvLaws.{invs_are, found_from_start, all_put, calls_of_mode}
use Rattle.htl_ecode.proofs.calls.put_invs.Goals as goal

pub loop-k-init : goal.loop-k-init
loop-k-init c =
    let are = invs_are c.args.t.now c.parts.result.now c.as_slice-invs.result.now c.parts.ensures.value c.as_slice-invs.ensures in
    ap (λ zs. c.args.instrs.now.items ++ zs)
    (found_from_start c.args.t.now c.as_slice-invs.result.now c.args.run.mode c.args.run.start (calls_of c.args.t.now c.args.run.mode (number_of c.args.phase) c.args.offset) are (calls_of_mode c.args.t.now c.args.run.mode (number_of c.args.phase) c.args.offset) c.requires.first)

pub returns : goal.returns
returns c =
    let are = invs_are c.args.t.now c.parts.result.now c.as_slice-invs.result.now c.parts.ensures.value c.as_slice-invs.ensures in
    all_put c.args.t.now c.as_slice-invs.result.now c.args.run.mode c.args.run.end c.loop-k.k (calls_of c.args.t.now c.args.run.mode (number_of c.args.phase) c.args.offset) c.loop-k.instrs.items _ are (calls_of_mode c.args.t.now c.args.run.mode (number_of c.args.phase) c.args.offset) c.requires.behind
    c.loop-k-test.false c.loop-k.invariant
