use Rattle.std.proofs.Common.{◌≡◌, ◌-◌, length}
use Rattle.htl_model.specs.Chosen.{chosen, chosen_in}
use Rattle.htl_model.proofs.choice.chosen_by.Given as goal

abbrev pub invariant-loop : goal.invariant-loop
invariant-loop l = chosen_in (length l.t.modules - l.counter) l.t l.modes l.at ≡ chosen l.t l.modes l.inv
