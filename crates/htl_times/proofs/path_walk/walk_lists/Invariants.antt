use Rattle.std.proofs.Common.{◌≡◌, length}
use Rattle.htl_times.proofs.Words.{reached, instrs_of}
use Rattle.htl_times.specs.Noting.{AreFinishesTo}
use Rattle.htl_times.proofs.path_walk.walk_lists.Given as goal

abbrev pub invariant-loop-j : goal.invariant-loop-j
invariant-loop-j l = record {
  left : l.left ≡ (reached l.p.t.now (instrs_of l.p.lists.now) l.p.path l.j).left;
  finishes : AreFinishesTo l.p.t.now (instrs_of l.p.lists.now) l.p.path l.j l.finish;
  same : length l.finish ≡ length l.fn.finish;
  work : length l.left ≡ length l.jobs;
}
