use Rattle.std.proofs.Common.{arith, rules, Err, List, ◌≡◌, ◌∙◌, ap}
use Rattle.htl_espell.proofs.{Words.EInstr, Words.test_of, Words.next_of, Chaining.item_read, Chaining.item_departs}
use Rattle.htl_espell.proofs.endings.need_tests.Goals as goal

pub loop-k-preserved : goal.loop-k-preserved
loop-k-preserved c =
    let requirements = test_of c.args.rounds.now.begin c.args.rounds.now.enters.now c.args.rounds.now.mode in
    let k = c.loop-k.k in
    record {
      same = c.in_ok-place.ensures.same ∙ c.loop-k.invariant.same;
      read = item_read requirements c.args.code.now k c.as_slice-switches.result.now c.index-switches-k.result c.loop-k.place (omega arith) c.index-switches-k.is _ _
          (c.in_ok-place.ensures.next ∙ ap (λ (z : List EInstr). next_of z c.loop-k.place (requirements (k, c.index-switches-k.result))) c.loop-k.invariant.same) c.loop-k.invariant.read;
    }

pub returns-in_err-place-clause-next : goal.returns-in_err-place-clause-next
returns-in_err-place-clause-next c =
    let requirements = test_of c.args.rounds.now.begin c.args.rounds.now.enters.now c.args.rounds.now.mode in
    let k = c.loop-k.k in
    let departs : c.from_residual.result ≡ Err c.in_err-place.field-0.0 = search rules in
    departs
    ∙ item_departs requirements c.args.code.now k c.as_slice-switches.result.now c.index-switches-k.result c.loop-k.place (omega arith) c.index-switches-k.is _ _
    (c.in_err-place.ensures.next ∙ ap (λ (z : List EInstr). next_of z c.loop-k.place (requirements (k, c.index-switches-k.result))) c.loop-k.invariant.same) c.loop-k.invariant.read
