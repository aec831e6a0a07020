use Rattle.std.proofs.Common.{◌≡◌, ◌++◌, map, drop}
use Rattle.htl_ecode.proofs.Words.{places_from, Fork, is_child, children}
use Rattle.htl_ecode.proofs.modes.put_children.Given as goal

abbrev pub invariant-loop-k : goal.invariant-loop-k
invariant-loop-k l =
    l.instrs.items ++ map (λ k. Fork k) (places_from (is_child l.mode) l.k (drop l.k l.modules)) ≡ l.fn.instrs.items ++ map (λ k. Fork k) (children l.t l.mode)
