use Rattle.std.proofs.Common.{◌<◌, ◌++◌, arith, ap, sym, subst, ◌∙◌, List, ℕ, length}
use Rattle.htl_plan.proofs.Words.{SInstr, IsKnown, Point, next_point, left_by, finished_by, left_text, slice_text, done_text, nothing_put}
use Rattle.htl_plan.proofs.PlanWalk.{dispatch_finished, dispatch_text, Puts-same, Puts-same_cut}
use Rattle.htl_plan.proofs.plan_walk.step.Goals as goal

pub returns-in-Idle-clause-put : goal.returns-in-Idle-clause-put
returns-in-Idle-clause-put g c =
    let x : Point = record { time = c.args.time; left = c.args.left.now } in
    let text : SInstr → List ℕ = λ i. left_text c.args.t.now c.args.jobs.now (left_by c.args.jobs.now i x (next_point c.args.jobs.now i x)) in
    nothing_put _ _ (text c.args.instr) _ (ap text c.in-Idle.is)

pub returns-in-End-clause-put : goal.returns-in-End-clause-put
returns-in-End-clause-put g c =
    let x : Point = record { time = c.args.time; left = c.args.left.now } in
    let text : SInstr → List ℕ = λ i. left_text c.args.t.now c.args.jobs.now (left_by c.args.jobs.now i x (next_point c.args.jobs.now i x)) in
    nothing_put _ _ (text c.args.instr) _ (ap text c.in-End.is)

pub returns-in-Ok-clause-next : goal.returns-in-Ok-clause-next
returns-in-Ok-clause-next g c =
    let x : Point = record { time = c.args.time; left = c.args.left.now } in
    c.run_position-done.ensures.next ∙ ap (λ (i : SInstr). next_point c.args.jobs.now i x) (sym c.in-Dispatch.is)

pub returns-in-Ok-clause-finished : goal.returns-in-Ok-clause-finished
returns-in-Ok-clause-finished g c =
    let x : Point = record { time = c.args.time; left = c.args.left.now } in
    let done = c.run_position-done in
    let known : c.in-Dispatch.position < length c.args.jobs.now = subst (λ (i : SInstr). IsKnown (length c.args.jobs.now) i) c.in-Dispatch.is c.requires.known in
    let below : c.in-Dispatch.position < length c.args.left.now = omega (arith, known, c.requires.same) in
    dispatch_finished c.args.jobs.now c.in-Dispatch.position c.in-Dispatch.until c.args.time c.args.left.now done.new.left done.result.time done.result.slice done.result.finished
    below done.ensures.next done.ensures.slice done.ensures.finished
    ∙ ap (λ (i : SInstr). finished_by i x (next_point c.args.jobs.now i x)) (sym c.in-Dispatch.is)

pub returns-in-Ok-clause-put : goal.returns-in-Ok-clause-put
returns-in-Ok-clause-put g c =
    let x : Point = record { time = c.args.time; left = c.args.left.now } in
    let done = c.run_position-done in
    let known : c.in-Dispatch.position < length c.args.jobs.now = subst (λ (i : SInstr). IsKnown (length c.args.jobs.now) i) c.in-Dispatch.is c.requires.known in
    let below : c.in-Dispatch.position < length c.args.left.now = omega (arith, known, c.requires.same) in
    let text : SInstr → List ℕ = λ i. left_text c.args.t.now c.args.jobs.now (left_by c.args.jobs.now i x (next_point c.args.jobs.now i x)) in
    Puts-same _ _ _ _ _ (text c.args.instr) _ _
    (ap (λ (n : ℕ). slice_text c.args.t.now n done.result.slice ++ done_text c.args.t.now n done.result.time done.result.finished) c.inv_at.ensures
    ∙ dispatch_text c.args.jobs.now c.in-Dispatch.position c.in-Dispatch.until c.args.time c.args.left.now done.new.left done.result.time done.result.slice done.result.finished
    below done.ensures.next done.ensures.slice done.ensures.finished c.args.t.now
    ∙ ap text (sym c.in-Dispatch.is)) c.in-Ok.ensures

pub returns-in-Err-clause-put : goal.returns-in-Err-clause-put
returns-in-Err-clause-put g c =
    let x : Point = record { time = c.args.time; left = c.args.left.now } in
    let done = c.run_position-done in
    let known : c.in-Dispatch.position < length c.args.jobs.now = subst (λ (i : SInstr). IsKnown (length c.args.jobs.now) i) c.in-Dispatch.is c.requires.known in
    let below : c.in-Dispatch.position < length c.args.left.now = omega (arith, known, c.requires.same) in
    let text : SInstr → List ℕ = λ i. left_text c.args.t.now c.args.jobs.now (left_by c.args.jobs.now i x (next_point c.args.jobs.now i x)) in
    Puts-same_cut _ _ _ _ _ (text c.args.instr) _ _
    (ap (λ (n : ℕ). slice_text c.args.t.now n done.result.slice ++ done_text c.args.t.now n done.result.time done.result.finished) c.inv_at.ensures
    ∙ dispatch_text c.args.jobs.now c.in-Dispatch.position c.in-Dispatch.until c.args.time c.args.left.now done.new.left done.result.time done.result.slice done.result.finished
    below done.ensures.next done.ensures.slice done.ensures.finished c.args.t.now
    ∙ ap text (sym c.in-Dispatch.is)) c.in-Err.ensures
