use Rattle.std.proofs.Common.{◌≡◌, ◌∙◌, ◌<◌, arith, rules, get_or, to_z, of_z, w64, length}
use Rattle.htl_edf.proofs.{Words.length-set, Words.Tight, Words.no_window, Turning.ends_more, Turning.releases_kept}
use Rattle.htl_edf.proofs.in_order.fill_ends.Goals as goal

pub loop-k-preserved : goal.loop-k-preserved
loop-k-preserved c =
    let js = c.args.jobs.now in
    let k = c.loop-k.k in
    let p = c.in-Some.p in
    let w : Tight = record { release = to_z w64 (of_z w64 (get_or c.loop-k.out p no_window).release); end = to_z w64 (of_z w64 c.ended-end.result) } in
    let is : to_z w64 (of_z w64 c.ended-end.result) ≡ c.ended-end.result = search rules in
    let stays : to_z w64 (of_z w64 (get_or c.loop-k.out p no_window).release) ≡ (get_or c.loop-k.out p no_window).release = search rules in
    let room : p < length c.loop-k.out = omega (arith, c.in-Some.ensures.within, c.loop-k.invariant.same) in
    record {
      same = length-set c.loop-k.out p w ∙ c.loop-k.invariant.same;
      kept = λ q. releases_kept c.loop-k.out p q w room stays ∙ c.loop-k.invariant.kept q;
      have = ends_more js c.loop-k.out c.loop-k.turns.waiting c.take.new.self.waiting k p w c.loop-k.invariant.have room
          (λ q below e. c.in-Some.ensures.free q (c.requires.successors p q c.in-Some.ensures.within below ∙ e)) c.in-Some.ensures.taken (is ∙ c.ended-end.ensures);
    }
