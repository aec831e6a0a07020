use Rattle.std.proofs.Common.{◌≡◌, ◌+◌, ◌*◌, ◌-◌, ◌++◌, ℕ, map, drop, flat_map}
use Rattle.htl_names.proofs.Words.{list_to, mode_of, tree_of, PlainMode, flat_map_at, nth_module, mode_children, below}
use Rattle.htl_names.proofs.order.+below.Given as goal

abbrev pub decreases-put_module : goal.decreases-put_module
decreases-put_module l = l.steps * 2

abbrev pub decreases-put_program : goal.decreases-put_program
decreases-put_program l = l.steps * 2 + 1

abbrev pub invariant-put_program-loop-u : goal.invariant-put_program-loop-u
invariant-put_program-loop-u l =
    l.into.items ≡ l.initial.into.items ++ flat_map (below l.steps l.symbols (tree_of l.tree)) (list_to (nth_module l.program l.parent) l.u)

abbrev pub invariant-put_module-loop-k : goal.invariant-put_module-loop-k
invariant-put_module-loop-k l =
    let under = λ (m : ℕ) (x : PlainMode). flat_map (below (l.steps - 1) l.symbols (tree_of l.tree)) (mode_children l.symbols (tree_of l.tree) l.«module».program l.«module».«module» m x) in
    l.into.items ++ flat_map_at under l.k (map mode_of (drop l.k l.modes)) ≡ l.initial.into.items ++ flat_map_at under 0 (map mode_of l.modes)
