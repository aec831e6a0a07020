use Rattle.std.proofs.Common.{◌≤◌, All, sym, subst}
use Rattle.htl_model.specs.Frames.{unit_period}
use Rattle.htl_audit.proofs.Rounds.{periods_within}
use Rattle.htl_audit.proofs.starts.next_start.Goals as goal

pub next_of-requires-clause-periods : goal.next_of-requires-clause-periods
next_of-requires-clause-periods c =
    subst (λ us. All (λ u. (1 ≤ unit_period c.args.t.now u) × (unit_period c.args.t.now u ≤ 1000000)) us) (sym c.fill_roots-count.ensures.roots) (periods_within c.args.t.now c.keeps_ranges.ensures.ranges)
