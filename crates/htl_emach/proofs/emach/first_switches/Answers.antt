use Rattle.std.proofs.Common.{All, IfSome, sym, subst, ◌∙◌}
use Rattle.htl_emach.specs.Tournaments.{IsSoon}
use Rattle.htl_emach.proofs.FirstDue.{all_soon}
use Rattle.htl_emach.proofs.emach.first_switches.Goals as goal

pub filled-requires-clause-soon : goal.filled-requires-clause-soon
filled-requires-clause-soon c =
    subst (All (λ o. IfSome o IsSoon)) (sym (c.as_slice.ensures.value ∙ c.in_ok-triggers.ensures)) (all_soon c.args.code.now c.args.t.now.modules)
