use Rattle.std.proofs.Common.{◌%◌, eqb, sym, ap, ◌∙◌}
use Rattle.htl_model.proofs.FrameSteps.{multiple_here, least_here}
use Rattle.htl_model.proofs.starts.next_round.Goals as goal

pub returns-clause-here : goal.returns-clause-here
returns-clause-here c = λ l.
    let p = c.unit_period-period.result in
    let e = least_here c.min.result _ c.args.bound c.min.ensures l in
    ap (λ n. eqb (c.min.result % n) 0) (sym c.unit_period-period.ensures) ∙ ap (λ n. eqb (n % p) 0) e ∙ multiple_here p _
