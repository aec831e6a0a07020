use Rattle.std.proofs.Common.{◌≡◌, ◌≤◌, ◌*◌, length, drop}
use Rattle.htl_plan.proofs.{Words.lists_of, Words.instrs_of, Words.legs, Words.end_to_end, Words.walk_path, Words.walks_from, Words.worst_cases, ToldRecords.IsTold}
use Rattle.htl_plan.proofs.plan_lists.follow_lists.Given as goal

abbrev pub invariant-loop-j : goal.invariant-loop-j
invariant-loop-j g l =
    let ss = lists_of l.l.tables (instrs_of l.l.schedules) l.path in
    let gs = legs l.l.tables l.path in
    record {
      told :
          IsTold l.l.tables l.jobs (end_to_end (walk_path l.jobs (worst_cases l.jobs) ss gs)) (end_to_end (walks_from l.jobs (drop l.j ss) (drop l.j gs) (record { time = 0; left = l.left }))) l.count l.finished
          (g.W.Sink.written l.initial.out) (g.W.Sink.written l.out) (g.W.Sink.faults l.initial.out) (g.W.Sink.faults l.out);
      same : length l.left ≡ length l.jobs;
      few : l.count ≤ l.j * 4294967295;
    }
