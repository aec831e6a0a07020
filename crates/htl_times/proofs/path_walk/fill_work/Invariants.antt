use Rattle.std.proofs.Common.{◌≡◌, ℕ, ◌<◌, length, get_or, slice_get, Some}
use Rattle.htl_times.proofs.Words.{Job}
use Rattle.htl_times.specs.Noting.{work_of}
use Rattle.htl_times.proofs.path_walk.fill_work.Given as goal

abbrev pub invariant-loop-k : goal.invariant-loop-k
invariant-loop-k l = record {
  filled : (q : ℕ) (j : Job) → q < l.k → slice_get l.jobs q ≡ Some j → get_or l.left q 0 ≡ work_of j;
  same : length l.left ≡ length l.jobs;
}
