use Rattle.std.proofs.Common.{◌∙◌, ◌+◌, length, get_or, is_some, sym, ap, arith}
use Rattle.htl_audit.proofs.{Words.Slice, Words.Kept, Words.judged_to, Words.drop, Steps.judged_stopped, Steps.judged_late, Steps.judged_next, Steps.judged_roster, Steps.judged_place}
use Rattle.htl_audit.proofs.ledger.Ledger.judge_to.Goals as goal
use Rattle.htl_audit.proofs.ledger.Ledger.judge_to.Goals.{then-is_some-via-then-is_some, then-is_some-via-else-is_some+then-now-log}

pub returns-then-is_some : goal.returns-then-is_some
returns-then-is_some c =
    elim c.then-is_some.branch [
      | then-is_some-via-then-is_some w ↦
          sym (judged_stopped c.args.t.now c.args.now (drop c.loop-n.n c.args.log.now) c.loop-n.self (sym (ap (λ (z : Kept). is_some z.fault) c.self-in-loop-n.view_is) ∙ sym w.if-is_some.ensures))
          ∙ c.loop-n.invariant.0
      | then-is_some-via-else-is_some+then-now-log w ↦
          sym (judged_late c.args.t.now c.args.now c.loop-n.n _ c.args.log.now c.loop-n.self c.loop-n-test.true w.if-now-log.true) ∙ c.loop-n.invariant.0
    ]

pub loop-n-preserved : goal.loop-n-preserved
loop-n-preserved c =
    let x : Slice = get_or c.args.log.now c.loop-n.n (record { from = 0; to = 0; inv = 0 }) in
    let step = judged_next c.args.t.now c.args.now c.loop-n.n _ c.args.log.now c.loop-n.self c.loop-n-test.true (sym (ap (λ (z : Kept). is_some z.fault) c.self-in-loop-n.view_is) ∙ sym c.if-is_some.ensures) c.if-now-log.false in (
      ap (judged_to c.args.t.now c.args.now (drop (c.loop-n.n + 1) c.args.log.now)) c.judge.ensures ∙ sym step ∙ c.loop-n.invariant.0,
      omega (arith, ap (λ (z : Kept). z.place) c.judge.ensures, judged_place c.args.t.now c.args.now x c.loop-n.self, c.loop-n.invariant.1),
      ap (λ (z : Kept). length z.roster.stands) c.judge.ensures ∙ ap (λ z. length z.stands) (judged_roster c.args.t.now c.args.now x c.loop-n.self) ∙ c.loop-n.invariant.2,
    )
