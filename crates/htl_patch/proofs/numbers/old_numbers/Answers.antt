use Rattle.std.proofs.Common.{◌<◌, ℕ, List, length, All, subst, sym, ◌∙◌}
use Rattle.htl_patch.specs.Combined.{combined}
use Rattle.htl_patch.proofs.{Replacing.CanReplace, NumberLaws.modes_within, NumberLaws.order_within}
use Rattle.htl_patch.proofs.numbers.old_numbers.Goals as goal

pub modes_in-requires : goal.modes_in-requires
modes_in-requires c =
    let g = c.args.g.now in
    let can : CanReplace g = record { host = c.keeps_ranges.ensures.host; donor = c.keeps_ranges.ensures.donor; into = c.requires.patched_mode; from = c.requires.replacing_mode } in
    subst (λ (xs : List ℕ). All (λ x. x < length (combined g).modules) xs) (sym (c.as_slice.ensures.value ∙ c.in_ok-units.ensures)) (order_within g can)

pub ports_in-requires : goal.ports_in-requires
ports_in-requires c =
    let g = c.args.g.now in
    subst (λ (xs : List ℕ). All (λ x. x < length (combined g).modes) xs) (sym (c.as_slice-2.ensures.value ∙ c.in_ok-modes.ensures)) (modes_within (combined g) c.as_slice.result.now)

pub tasks_in-requires : goal.tasks_in-requires
tasks_in-requires c =
    let g = c.args.g.now in
    let can : CanReplace g = record { host = c.keeps_ranges.ensures.host; donor = c.keeps_ranges.ensures.donor; into = c.requires.patched_mode; from = c.requires.replacing_mode } in
    subst (λ (xs : List ℕ). All (λ x. x < length (combined g).modules) xs) (sym (c.as_slice-3.ensures.value ∙ c.in_ok-units.ensures)) (order_within g can)

pub invs_in-requires : goal.invs_in-requires
invs_in-requires c =
    let g = c.args.g.now in
    subst (λ (xs : List ℕ). All (λ x. x < length (combined g).modes) xs) (sym (c.as_slice-4.ensures.value ∙ c.in_ok-modes.ensures)) (modes_within (combined g) c.as_slice.result.now)

pub switches_in-requires : goal.switches_in-requires
switches_in-requires c =
    let g = c.args.g.now in
    subst (λ (xs : List ℕ). All (λ x. x < length (combined g).modes) xs) (sym (c.as_slice-5.ensures.value ∙ c.in_ok-modes.ensures)) (modes_within (combined g) c.as_slice.result.now)
