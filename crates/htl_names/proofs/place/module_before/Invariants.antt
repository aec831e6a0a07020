use Rattle.std.proofs.Common.{◌≡◌, ◌+◌, Option, None, Some, drop, slice_get}
use Rattle.htl_names.proofs.Words.{tree_of, is_module, module_number, modes_before, tasks_before, refined_mode, place_in, ModeAt}
use Rattle.htl_names.proofs.place.module_before.Given as goal

abbrev pub invariant-loop-k : goal.invariant-loop-k
invariant-loop-k l =
    let rest = drop l.k l.modules in
    let place = place_in (is_module l.program l.«module») rest in
    record {
      number : l.k + place ≡ module_number l.source.layout.now l.program l.«module»;
      later : elim (slice_get rest place) as (λ _. Option ModeAt) [ Some s ↦ s.parent | None ↦ None ] ≡ refined_mode l.source.layout.now l.program l.«module»;
      modes : l.before.modes ≡ modes_before l.source.layout.now (tree_of l.source.tree.now) l.k;
      tasks : l.before.tasks ≡ tasks_before l.source.layout.now (tree_of l.source.tree.now) l.k;
      refined : l.before.refined ≡ None;
    }
