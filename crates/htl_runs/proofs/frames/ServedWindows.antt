-- Who is served has a window behind its release.
use Rattle.htl_runs.proofs.Words.{ℕ, List, ap, arith, slice_get_within, Job, Left, IsServedSoFar, HaveWindows, job_is}

pub windows_of : (jobs : List Job) (ls : List Left) (frame n : ℕ) → IsServedSoFar jobs ls frame n → HaveWindows jobs
windows_of jobs ls frame n run p j at here = grind (arith, slice_get_within, job_is)
