use Rattle.std.proofs.Common.{◌≡◌, ◌/◌, ◌≤◌, length, drop}
use Rattle.htl_model.proofs.{Words.modes_below, Words.choices_from, RootModeLaws.AreRootModesFrom}
use Rattle.htl_model.proofs.selections.root_modes.Given as goal

abbrev pub invariant-loop-k : goal.invariant-loop-k
invariant-loop-k l =
    record {
      within : l.k ≤ length l.modules;
      end : l.end ≡ modes_below l.t.modes l.k;
      few : l.end ≤ length l.t.modes;
      digits : l.digits ≡ l.selection / choices_from l.t l.k (drop l.k l.modules);
      entries : AreRootModesFrom l.t l.selection l.k l.entries;
      size : length l.entries ≡ 64;
    }

abbrev pub decreases-loop-k : goal.decreases-loop-k
decreases-loop-k l = l.k
