use Rattle.std.proofs.Common.{◌≡◌, ◌-◌, ◌^◌, ◌≤◌, length, min, drop}
use Rattle.htl_model.proofs.Words.{modes_below, choices_from}
use Rattle.htl_model.proofs.selections.choices.Given as goal

abbrev pub invariant-loop-k : goal.invariant-loop-k
invariant-loop-k l =
    record {
      from : l.from ≤ l.k;
      within : l.k ≤ length l.modules;
      end : l.end ≡ modes_below l.t.modes l.k;
      choices : l.n ≡ min (choices_from l.t l.k (drop l.k l.modules)) (2 ^ 64 - 1);
    }

abbrev pub decreases-loop-k : goal.decreases-loop-k
decreases-loop-k l = l.k
