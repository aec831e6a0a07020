use Rattle.std.proofs.Common.{◌≡◌, Bool, true, false, List, get_or, inl, inr, ap, sym, ◌∙◌, arith}
use Rattle.htl_audit.specs.Keeping.{Kept}
use Rattle.htl_audit.proofs.Dues.{next_more}
use Rattle.htl_audit.proofs.ledger.Ledger.next_due.Goals.{then-stands-n+then-now-end, then-stands-n+else-now-end, else-stands-n}
use Rattle.htl_audit.proofs.ledger.Ledger.next_due.Goals as goal

pub loop-n-preserved : goal.loop-n-preserved
loop-n-preserved c =
    let k : Kept = c.args.self.now in
    let t = c.args.t.now in
    let stands : c.as_slice-stands.result.now ≡ k.roster.stands = c.as_slice-stands.ensures ∙ ap (λ (z : Kept). z.roster.stands) c.self.view_is in
    elim c.if-stands-n.branch [
      | then-stands-n+then-now-end w ↦
          next_more t c.args.now c.loop-n.due c.if-stands-n.due c.loop-n.n k.roster (omega (arith, w.due-is, w.min-due.ensures)) (λ e. inr (omega (arith, w.due-is, w.min-due.ensures, w.window_end-end.ensures))) c.loop-n.invariant
      | then-stands-n+else-now-end w ↦
          next_more t c.args.now c.loop-n.due c.if-stands-n.due c.loop-n.n k.roster (omega (arith, w.due-is)) (λ e. inl (omega (arith, w.window_end-end.ensures, w.if-now-end.false, c.ranges.now.fits))) c.loop-n.invariant
      | else-stands-n w ↦
          next_more t c.args.now c.loop-n.due c.if-stands-n.due c.loop-n.n k.roster (omega (arith, w.due-is))
          (λ e. absurd (let z : false ≡ true = sym w.if-stands-n.false ∙ ap (λ (bs : List Bool). get_or bs c.loop-n.n false) stands ∙ e in let y : ⊥ = cc in y)) c.loop-n.invariant
    ]
