use Rattle.std.proofs.Common.{◌≡◌, ◌≤◌, ◌<◌, ℕ, true, map, drop}
use Rattle.htl_model.specs.Frames.{begins, unit_period}
use Rattle.htl_model.proofs.starts.next_begin.Given as goal

abbrev pub invariant-loop-k : goal.invariant-loop-k
invariant-loop-k l = record {
  later : l.after < l.next;
  within : l.next ≤ l.bound;
  none : (x : ℕ) → l.after < x → x < l.next → begins (map (unit_period l.t) l.roots) x ≡ begins (map (unit_period l.t) (drop l.k l.roots)) x;
  here : l.next < l.bound → begins (map (unit_period l.t) l.roots) l.next ≡ true;
}
