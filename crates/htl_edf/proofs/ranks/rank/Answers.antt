use Rattle.std.proofs.Common.{arith, ◌∙◌, length}
use Rattle.htl_edf.proofs.{Words.ints, Words.number_of, Words.end_time, Words.release_time, Bounds.end_at-small, Ranking.sorted_in_order}
use Rattle.htl_edf.proofs.ranks.rank.Goals as goal

pub fill_releases-requires-clause-ends : goal.fill_releases-requires-clause-ends
fill_releases-requires-clause-ends c =
    let js = c.args.jobs.now in
    let sorted = c.sort_unstable.ensures in
    sorted_in_order (length js) (end_time js) c.fill_ends.new.items c.sort_unstable.new.self c.requires.jobs.few (c.fill_ends.auto.items ∙ c.requires.ends_same) c.fill_ends.ensures sorted.permutation sorted.len sorted.sorted

pub returns : goal.returns
returns c =
    let js = c.args.jobs.now in
    let n = length js in
    let ends = c.sort_unstable.ensures in
    let releases = c.sort_unstable-2.ensures in
    let by_end = c.sort_unstable.new.self in
    record {
      few = c.requires.jobs.few;
      small = λ q l. omega (arith, ints, end_at-small js c.requires.jobs n q l, c.requires.jobs.few);
      ends = sorted_in_order n (end_time js) c.fill_ends.new.items by_end c.requires.jobs.few (c.fill_ends.auto.items ∙ c.requires.ends_same) c.fill_ends.ensures ends.permutation ends.len ends.sorted;
      releases =
          sorted_in_order n (λ rank. release_time js (number_of by_end rank)) c.fill_releases.new.items c.sort_unstable-2.new.self c.requires.jobs.few
          (c.fill_releases.auto.items ∙ c.requires.releases_same) c.fill_releases.ensures releases.permutation releases.len releases.sorted;
    }
