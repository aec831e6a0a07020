use Rattle.std.proofs.Common.{◌<◌, ℕ, pos, arith, sym, subst, inl, inr}
use Rattle.htl_base.proofs.Numbers.{cases_below_next}
use Rattle.htl_edf.proofs.{Words.paths, Words.path_jobs, Words.instrs_of, Words.ExplainsNodes, Words.HasPart, Words.IsReport, Words.NoOverload, Words.Reported, Words.tightened, NodeLists.nodes_accepted, NodeLists.nodes_refused}
use Rattle.htl_edf.proofs.NodeCode.{shared_parts, all_parts}
use Rattle.htl_edf.proofs.nodes.plan_nodes.Goals.{then-number-eq0, else-number-eq0}
use Rattle.htl_edf.proofs.nodes.plan_nodes.Goals as goal

pub plan_path-requires-clause-planned : goal.plan_path-requires-clause-planned
plan_path-requires-clause-planned c =
    let t = c.args.t.now in
    let path = c.loop-number.number in
    let h : path < paths t = omega (arith, c.loop-number-test.true, c.survey-f.ensures.paths) in
    record {
      parts = elim c.if-number-eq0.branch [
        | then-number-eq0 w ↦ λ i l. absurd (omega (arith, l, w.first-is))
        | else-number-eq0 w ↦
            subst (λ (d : ℕ). (i : ℕ) → i < d → HasPart t (instrs_of c.loop-number.v.items) path i) (sym w.first-is)
            (shared_parts t c.requires.ready (instrs_of c.loop-number.v.items) path w.fork-first.result (omega (arith, w.if-number-eq0.false)) h w.fork-first.ensures.within w.fork-first.ensures.shared c.loop-number.invariant.parts)
      ];
      before = c.loop-number.invariant.parts;
      count = c.loop-number.invariant.count;
    }

pub loop-number-preserved : goal.loop-number-preserved
loop-number-preserved c =
    let t = c.args.t.now in
    let n = c.loop-number.number in
    let lists = instrs_of c.plan_path.new.v.items in
    let p = c.in-Ok-None.ensures.planned in
    record {
      parts = λ q i l h. elim (cases_below_next q n l) [
        | inl b ↦ p.before q i b h
        | inr e ↦ subst (λ (k : ℕ). HasPart t lists k i) (sym e) (p.parts i h)
      ];
      count = p.count;
      fits = λ k l. elim (cases_below_next k n l) [
        | inl b ↦ c.loop-number.invariant.fits k b
        | inr e ↦ subst (λ (m : ℕ). NoOverload (tightened (path_jobs t m))) (sym e) (subst (IsReport (tightened (path_jobs t n))) c.in-Ok-None.field-0-is c.in-Ok-None.ensures.overload)
      ];
    }

pub returns-in-Ok-Some-clause-fault : goal.returns-in-Ok-Some-clause-fault
returns-in-Ok-Some-clause-fault c =
    let t = c.args.t.now in
    let n = c.loop-number.number in
    let i = c.in-Ok-Some.interval in
    let h : n < paths t = omega (arith, c.loop-number-test.true, c.survey-f.ensures.paths) in
    let r : Reported (tightened (path_jobs t n)) i.from (pos i.to) i.demand = subst (IsReport (tightened (path_jobs t n))) c.in-Ok-Some.field-0-is c.in-Ok-Some.ensures.overload in
    subst (ExplainsNodes t) (sym c.overloaded.ensures) (h, c.loop-number.invariant.fits, r, λ lists f. nodes_refused t n i.from (pos i.to) i.demand c.requires.ready h r.over lists f)

pub returns-clause-accepted : goal.returns-clause-accepted
returns-clause-accepted c =
    let t = c.args.t.now in
    let all : (n : ℕ) → n < paths t → n < c.loop-number.number = λ n l. omega (arith, l, c.loop-number-test.false, c.survey-f.ensures.paths) in
    nodes_accepted t (instrs_of c.loop-number.v.items) c.requires.ready (λ n l. c.loop-number.invariant.fits n (all n l))
    (all_parts t (instrs_of c.loop-number.v.items) c.loop-number.number (omega (arith, c.loop-number-test.false, c.survey-f.ensures.paths)) c.loop-number.invariant.parts)
