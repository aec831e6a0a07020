use Rattle.std.proofs.Common.{◌≡◌, ◌<◌, ◌≤◌, List, map, sym, subst, rules, All}
use Rattle.htl_names.proofs.Words.{length-map, PlainMode, PlainTask, mode_of, task_of, tree_of, size_of, modes_at, tasks_at, get_or-map}
use Rattle.htl_names.proofs.tables.put_module.Goals as goal

all_of : {X Y : Type 0} (P : Y → Type 0) (f : X → Y) (xs : List X) (ys : List Y) → ys ≡ map f xs → All P ys → All (λ x. P (f x)) xs
all_of P f xs ys same all =
    λ k d below. subst P (get_or-map f xs k d) (subst (All P) same all k (f d) (subst (λ n. k < n) (sym (length-map xs f)) below))

pub put_modes-requires-clause-periods : goal.put_modes-requires-clause-periods
put_modes-requires-clause-periods c =
    let at = c.args.at in
    let there : modes_at (tree_of c.args.source.now.tree.now) at.program at.«module» ≡ map mode_of c.as_slice.result.now = search rules in
    all_of (λ (x : PlainMode). size_of x.period.x ≤ 1000000) mode_of _ _ there (c.args.source.now.narrow.mode_periods at.program at.«module»)

pub put_tasks-requires-clause-worsts : goal.put_tasks-requires-clause-worsts
put_tasks-requires-clause-worsts c =
    let at = c.args.at in
    let there : tasks_at (tree_of c.args.source.now.tree.now) at.program at.«module» ≡ map task_of c.as_slice-2.result.now = search rules in
    all_of (λ (t : PlainTask). size_of t.worst.x ≤ 1000000) task_of _ _ there (c.args.source.now.narrow.worsts at.program at.«module»)
