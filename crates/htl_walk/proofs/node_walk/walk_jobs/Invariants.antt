use Rattle.std.proofs.Common.{◌≡◌, length}
use Rattle.htl_walk.specs.NodeWalks.{AreCleanTo, AreSaved, reached, instrs_of}
use Rattle.htl_walk.proofs.node_walk.walk_jobs.Given as goal

abbrev pub invariant-loop-j : goal.invariant-loop-j
invariant-loop-j l = record {
  clean : AreCleanTo l.p.t.now (instrs_of l.p.lists.now) l.p.path l.j;
  saved : AreSaved l.p.t.now (instrs_of l.p.lists.now) l.p.path l.j l.states;
  left : l.left ≡ (reached l.p.t.now (instrs_of l.p.lists.now) l.p.path l.j).left;
  finish : length l.finish ≡ length l.at.jobs.now;
  room : length l.states ≡ 32;
}
