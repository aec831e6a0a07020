use Rattle.std.proofs.Common.{◌≡◌, ◌++◌, length, map, take, drop}
use Rattle.htl_times.specs.BareJobs.{bare_job}
use Rattle.htl_times.proofs.bare_jobs.fill_bare.Given as goal

abbrev pub invariant-loop-p : goal.invariant-loop-p
invariant-loop-p l = record {
  front : take l.p l.out ++ map (bare_job l.t) (drop l.p l.places) ≡ map (bare_job l.t) l.places;
  size : length l.out ≡ 128;
}
