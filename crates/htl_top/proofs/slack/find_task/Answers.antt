use Rattle.std.proofs.Common.{◌≤◌, length, sym, ap, ◌∙◌, arith}
use Rattle.htl_model.specs.Tables.{Tables}
use Rattle.htl_top.proofs.Slacking.{NoneBelow-all}
use Rattle.htl_top.proofs.slack.find_task.Goals as goal

pub returns : goal.returns
returns c =
    let t = c.args.t.now in
    let same = c.as_slice-k-end.ensures ∙ sym (ap (λ (u : Tables). u.tasks) c.parts.ensures.value) in
    let all : length t.tasks ≤ c.loop-k.k = omega (arith, c.loop-k-test.false, ap length same) in
    NoneBelow-all t c.args.owner.now c.args.name.now c.loop-k.k all c.loop-k.invariant
