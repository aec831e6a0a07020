use Rattle.std.proofs.Common.{◌≡◌, ℕ, map, take}
use Rattle.htl_patch.proofs.Words.{new_numbers, task_at, new_task, combined}
use Rattle.htl_patch.proofs.unit_items.new_tasks.Given as goal

abbrev pub invariant-loop-k : goal.invariant-loop-k
invariant-loop-k l =
    let g = l.g in
    l.found.items ≡ map (λ (x : ℕ). new_task (new_numbers g) (task_at (combined g) x)) (take l.k l.keys)
