use Rattle.std.proofs.Common.{◌≡◌, ◌∙◌, arith, rules, get_or, to_z, of_z, w64}
use Rattle.htl_edf.proofs.{Words.length-set, Words.Tight, Words.no_window, Turning.releases_more}
use Rattle.htl_edf.proofs.in_order.fill_releases.Goals as goal

pub loop-k-preserved : goal.loop-k-preserved
loop-k-preserved c =
    let js = c.args.jobs.now in
    let k = c.loop-k.k in
    let q = c.in-Some.q in
    let w : Tight = record { release = to_z w64 (of_z w64 c.released-release.result); end = to_z w64 (of_z w64 (get_or c.loop-k.out q no_window).end) } in
    let is : to_z w64 (of_z w64 c.released-release.result) ≡ c.released-release.result = search rules in
    record {
      same = length-set c.loop-k.out q w ∙ c.loop-k.invariant.same;
      have = releases_more js c.loop-k.out c.loop-k.turns.waiting c.take.new.self.waiting k q w c.loop-k.invariant.have (omega (arith, c.in-Some.ensures.within, c.loop-k.invariant.same))
          (λ p e. c.in-Some.ensures.free p (c.requires.predecessors p q c.in-Some.ensures.within ∙ e)) c.in-Some.ensures.taken (is ∙ c.released-release.ensures);
    }
