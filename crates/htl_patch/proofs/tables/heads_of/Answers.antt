use Rattle.std.proofs.Common.{◌<◌, ℕ, List, length, map, All, ap, subst, sym, ◌∙◌}
use Rattle.htl_patch.proofs.{Words.order, Words.new_numbers, Words.Numbering, Words.mode_at, Words.module_at, Words.new_mode, Words.new_module, Words.combined, Replacing.CanReplace, NumberLaws.order_within, NumberLaws.modes_within}
use Rattle.htl_patch.proofs.tables.heads_of.Goals as goal

pub new_modules-requires-clause-within : goal.new_modules-requires-clause-within
new_modules-requires-clause-within c =
    let g = c.args.g.now in
    let can : CanReplace g = record { host = c.keeps_ranges.ensures.host; donor = c.keeps_ranges.ensures.donor; into = c.requires.patched_mode; from = c.requires.replacing_mode } in
    subst (λ (xs : List ℕ). All (λ x. x < length (combined g).modules) xs) (sym (c.as_slice.ensures.value ∙ ap (λ (z : Numbering). z.modules) (c.n.view_is ∙ c.requires.numbers))) (order_within g can)

pub new_modes-requires-clause-within : goal.new_modes-requires-clause-within
new_modes-requires-clause-within c =
    let g = c.args.g.now in
    subst (λ (xs : List ℕ). All (λ x. x < length (combined g).modes) xs) (sym (c.as_slice-2.ensures.value ∙ ap (λ (z : Numbering). z.modes) (c.n.view_is ∙ c.requires.numbers))) (modes_within (combined g) (order g))

pub returns-clause-modules : goal.returns-clause-modules
returns-clause-modules c =
    let g = c.args.g.now in
    c.in_ok-modules.ensures ∙ ap (map (λ (x : ℕ). new_module (new_numbers g) (module_at (combined g) x))) (c.as_slice.ensures.value ∙ ap (λ (z : Numbering). z.modules) (c.n.view_is ∙ c.requires.numbers))

pub returns-clause-modes : goal.returns-clause-modes
returns-clause-modes c =
    let g = c.args.g.now in
    c.in_ok-modes.ensures ∙ ap (map (λ (x : ℕ). new_mode (new_numbers g) (mode_at (combined g) x))) (c.as_slice-2.ensures.value ∙ ap (λ (z : Numbering). z.modes) (c.n.view_is ∙ c.requires.numbers))
