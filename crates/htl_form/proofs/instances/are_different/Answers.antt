use Rattle.htl_form.proofs.ApartLaws.{distinct_once_sorted, rising_once_sorted}
use Rattle.htl_form.proofs.instances.are_different.Goals as goal

pub returns : goal.returns
returns c =
    let old = c.args.keys.now in
    let new = c.sort_unstable.new.self in
    let moved = c.sort_unstable.ensures.permutation in (
      λ rising. distinct_once_sorted old new moved (c.is_rising.ensures.0 rising),
      λ once. c.is_rising.ensures.1 (rising_once_sorted old new moved c.sort_unstable.ensures.sorted once),
    )
