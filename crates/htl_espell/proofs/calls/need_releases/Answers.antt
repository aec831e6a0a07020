use Rattle.htl_espell.proofs.{Words.refl, Words.invs_are, Words.release_wants, Chaining.read_from_start, Chaining.all_read, Chaining.releases_wanted_of_mode}
use Rattle.htl_espell.proofs.calls.need_releases.Goals as goal

pub loop-k-init : goal.loop-k-init
loop-k-init c =
    let block = c.args.block.now in
    let are = invs_are block.t.now c.parts.result.now c.as_slice-invs.result.now c.parts.ensures.value c.as_slice-invs.ensures in
    record {
      same = refl;
      read = read_from_start c.args.code.now c.args.at block.t.now c.as_slice-invs.result.now block.run.mode block.run.start (release_wants block.t.now block.run.mode block.offset) are (releases_wanted_of_mode block.t.now block.run.mode block.offset) c.requires.invs.first;
    }

pub returns-clause-read : goal.returns-clause-read
returns-clause-read c =
    let block = c.args.block.now in
    let are = invs_are block.t.now c.parts.result.now c.as_slice-invs.result.now c.parts.ensures.value c.as_slice-invs.ensures in
    all_read c.args.code.now c.loop-k.place block.t.now c.as_slice-invs.result.now block.run.mode block.run.end c.loop-k.k (release_wants block.t.now block.run.mode block.offset) _ are (releases_wanted_of_mode block.t.now block.run.mode block.offset) c.requires.invs.behind
    c.loop-k-test.false c.loop-k.invariant.read
