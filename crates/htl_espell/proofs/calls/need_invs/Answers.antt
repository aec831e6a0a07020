use Rattle.std.proofs.Common.{rules, refl, Err, List, ◌≡◌, ◌∙◌, ap}
use Rattle.htl_espell.proofs.Words.{number_of, EInstr, call_wants, next_of, invs_are, is_within}
use Rattle.htl_espell.proofs.Chaining.{item_read, item_departs, read_from_start, all_read, calls_wanted_of_mode}
use Rattle.htl_espell.proofs.calls.need_invs.Goals as goal

pub loop-k-preserved : goal.loop-k-preserved
loop-k-preserved c =
    let requirements = call_wants c.args.block.now.t.now c.args.block.now.run.mode (number_of c.args.block.now.phase) c.args.block.now.offset in
    let k = c.loop-k.k in
    let are = invs_are c.args.block.now.t.now c.parts.result.now c.as_slice-invs.result.now c.parts.ensures.value c.as_slice-invs.ensures in
    record {
      same = c.in_ok-place.ensures.same ∙ c.loop-k.invariant.same;
      read = item_read requirements c.args.code.now k c.as_slice-invs.result.now c.index-invs-k.result c.loop-k.place (is_within c.args.block.now.t.now c.as_slice-invs.result.now _ c.args.block.now.run.end k are c.requires.invs.behind c.loop-k-test.true) c.index-invs-k.is _ _
          (c.in_ok-place.ensures.read ∙ ap (λ (z : List EInstr). next_of z c.loop-k.place (requirements (k, c.index-invs-k.result))) c.loop-k.invariant.same) c.loop-k.invariant.read;
    }

pub returns-in_err-place-clause-read : goal.returns-in_err-place-clause-read
returns-in_err-place-clause-read c =
    let requirements = call_wants c.args.block.now.t.now c.args.block.now.run.mode (number_of c.args.block.now.phase) c.args.block.now.offset in
    let k = c.loop-k.k in
    let are = invs_are c.args.block.now.t.now c.parts.result.now c.as_slice-invs.result.now c.parts.ensures.value c.as_slice-invs.ensures in
    let departs : c.from_residual.result ≡ Err c.in_err-place.field-0.0 = search rules in
    departs
    ∙ item_departs requirements c.args.code.now k c.as_slice-invs.result.now c.index-invs-k.result c.loop-k.place (is_within c.args.block.now.t.now c.as_slice-invs.result.now _ c.args.block.now.run.end k are c.requires.invs.behind c.loop-k-test.true) c.index-invs-k.is _ _
    (c.in_err-place.ensures.read ∙ ap (λ (z : List EInstr). next_of z c.loop-k.place (requirements (k, c.index-invs-k.result))) c.loop-k.invariant.same) c.loop-k.invariant.read

pub loop-k-init : goal.loop-k-init
loop-k-init c =
    let block = c.args.block.now in
    let are = invs_are block.t.now c.parts.result.now c.as_slice-invs.result.now c.parts.ensures.value c.as_slice-invs.ensures in
    record {
      same = refl;
      read = read_from_start c.args.code.now c.args.at block.t.now c.as_slice-invs.result.now block.run.mode block.run.start (call_wants block.t.now block.run.mode (number_of block.phase) block.offset) are (calls_wanted_of_mode block.t.now block.run.mode (number_of block.phase) block.offset) c.requires.invs.first;
    }

pub returns-clause-read : goal.returns-clause-read
returns-clause-read c =
    let block = c.args.block.now in
    let are = invs_are block.t.now c.parts.result.now c.as_slice-invs.result.now c.parts.ensures.value c.as_slice-invs.ensures in
    all_read c.args.code.now c.loop-k.place block.t.now c.as_slice-invs.result.now block.run.mode block.run.end c.loop-k.k (call_wants block.t.now block.run.mode (number_of block.phase) block.offset) _ are (calls_wanted_of_mode block.t.now block.run.mode (number_of block.phase) block.offset) c.requires.invs.behind
    c.loop-k-test.false c.loop-k.invariant.read
