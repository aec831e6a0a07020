-- What stands in the way of a greater worst case.
use Rattle.std.specs.Prelude.{◌≡◌, ℕ, suc, ◌<◌, pos, Option, Some, None}
use Rattle.htl_model.specs.{Frames.paths, Tables.Tables}
use Rattle.htl_walk.specs.PathJobs.{path_jobs}
use Rattle.htl_edf.specs.{Windows.NoOverload, Windows.Reported, Lists.tightened, Greatest.with_worst}
use Rattle.htl_slack.specs.declared.report.Above.{Above}

-- no path is overloaded
abbrev pub NoneOverloaded : Tables → Type 0
NoneOverloaded t = (path : ℕ) → path < paths t → NoOverload (tightened (path_jobs t path))

-- the first path that is overloaded, with the interval that is reported for its jobs
pub record IsFirstOverload (t : Tables) (a : Above) : Type 0 where
  pub path : a.selection < paths t
  pub first : (k : ℕ) → k < a.selection → NoOverload (tightened (path_jobs t k))
  pub interval : Reported (tightened (path_jobs t a.selection)) a.from (pos a.to) a.demand

-- nothing is told where the worst case g is the limit; below the limit it is what one tick more overloads
abbrev pub StandsAbove : Tables → ℕ → ℕ → ℕ → Option Above → Type 0
StandsAbove t task limit g None = g ≡ limit
StandsAbove t task limit g (Some a) = (g < limit) × IsFirstOverload (with_worst t task (suc g)) a

-- ---- as the search goes

-- no try above the limit is known to overload, or the first path that the worst case `high` overloads is
abbrev pub IsKnown : Tables → ℕ → ℕ → ℕ → Option Above → Type 0
IsKnown t task limit high None = high ≡ suc limit
IsKnown t task limit high (Some a) = (high < suc limit) × IsFirstOverload (with_worst t task high) a
