use Rattle.std.proofs.Common.{◌≡◌, ℕ, List, Some, take, ap, sym, subst, ◌∙◌}
use Rattle.htl_plan.proofs.{Words.Puts, Words.KeptApart, Words.hyper, Words.Tables, Words.frame_jobs, Words.path_of, PlanFrame.keeps_apart, PlanFrame.path_count, PlanFrame.path_inside, PlanFrame.plan_is}
use Rattle.htl_edge.specs.declared.Failed.{Failed}
use Rattle.htl_plan.proofs.plan.write_plan.Goals as goal

pub staying_jobs-count-requires-clause-kept : goal.staying_jobs-count-requires-clause-kept
staying_jobs-count-requires-clause-kept g c =
    subst (λ (t : Tables). KeptApart t 16) (sym c.tables-t.ensures.value) (keeps_apart c.args.l.now 16 c.tables-t.ensures.accepted)

pub write_frame-requires-clause-path : goal.write_frame-requires-clause-path
write_frame-requires-clause-path g c =
    let t = c.args.l.now.tables in
    let modes = c.args.s.now.modes in
    let value = c.tables-t.ensures.value in
    let some : hyper t ≡ Some c.in-Some.end = ap hyper (sym value) ∙ sym c.hyper.ensures ∙ c.in-Some.is in
    path_inside t modes c.requires c.in-Some.end c.staying_path-path.result some (c.staying_path-path.ensures ∙ ap (λ (u : Tables). path_of u (λ a. modes)) value)

pub write_frame-requires-clause-jobs : goal.write_frame-requires-clause-jobs
write_frame-requires-clause-jobs g c =
    let t = c.args.l.now.tables in
    let modes = c.args.s.now.modes in
    let value = c.tables-t.ensures.value in
    path_count t modes c.requires c.staying_path-path.result (take c.staying_jobs-count.result c.staying_jobs-count.new.out) (c.staying_path-path.ensures ∙ ap (λ (u : Tables). path_of u (λ a. modes)) value)
    (c.staying_jobs-count.ensures.jobs ∙ ap (λ (u : Tables). frame_jobs u (λ a. modes)) value)

pub returns : goal.returns
returns g c =
    let t = c.args.l.now.tables in
    let modes = c.args.s.now.modes in
    let value = c.tables-t.ensures.value in
    let some : hyper t ≡ Some c.in-Some.end = ap hyper (sym value) ∙ sym c.hyper.ensures ∙ c.in-Some.is in
    let text =
    plan_is t modes c.requires c.args.l.now.schedules c.in-Some.end c.staying_path-path.result (take c.staying_jobs-count.result c.staying_jobs-count.new.out) some
    (c.staying_path-path.ensures ∙ ap (λ (u : Tables). path_of u (λ a. modes)) value) (c.staying_jobs-count.ensures.jobs ∙ ap (λ (u : Tables). frame_jobs u (λ a. modes)) value) in
    subst
    (λ (bs : List ℕ).
    Puts {T = Unit {0}} {E = Failed} (g.W.Sink.written c.args.out.now) (g.W.Sink.written c.write_frame.new.out) (g.W.Sink.faults c.args.out.now) (g.W.Sink.faults c.write_frame.new.out) bs c.write_frame.result)
    text c.write_frame.ensures
