use Rattle.std.proofs.Common.{◌≡◌, ◌+◌, ◌∙◌, refl, sym, subst, arith, add-one}
use Rattle.htl_times.proofs.{Words.paths, Words.instrs_of, Best.busy_more, Best.none_busy, Best.nothing_seen}
use Rattle.htl_times.specs.Noting.{AreBestBefore, BusyBefore, IsBest, greater_of}
use Rattle.htl_times.proofs.rows.note_paths.Goals as goal

pub loop-path-init : goal.loop-path-init
loop-path-init c = record { best = nothing_seen c.args.t.now (instrs_of c.args.lists.now) c.args.rows.now c.requires.empty; busiest = none_busy c.args.t.now; same = refl }

pub loop-path-preserved : goal.loop-path-preserved
loop-path-preserved c =
    let t = c.args.t.now in
    let path = c.loop-path.path in
    let old = c.loop-path.busiest in
    let more = busy_more t path c.note_path-busy.result old c.note_path-busy.ensures.busy c.loop-path.invariant.busiest in
    record {
      best = c.note_path-busy.ensures.best;
      busiest = subst (λ o. IsBest (BusyBefore t (path + 1)) o) (sym c.greater-busiest.ensures) (subst (λ n. IsBest (BusyBefore t n) (greater_of old c.note_path-busy.result path)) (sym (add-one path)) more);
      same = c.note_path-busy.ensures.len ∙ c.loop-path.invariant.same;
    }

pub returns-clause-best : goal.returns-clause-best
returns-clause-best c =
    let end : c.loop-path.path ≡ paths c.args.t.now = omega (arith, c.loop-path-test.false, c.loop-path.auto.path-end, c.survey-f.ensures.paths) in
    subst (λ n. AreBestBefore c.args.t.now (instrs_of c.args.lists.now) n c.loop-path.rows) end c.loop-path.invariant.best

pub returns-clause-busiest : goal.returns-clause-busiest
returns-clause-busiest c =
    let end : c.loop-path.path ≡ paths c.args.t.now = omega (arith, c.loop-path-test.false, c.loop-path.auto.path-end, c.survey-f.ensures.paths) in
    subst (λ n. IsBest (BusyBefore c.args.t.now n) c.loop-path.busiest) end c.loop-path.invariant.busiest
