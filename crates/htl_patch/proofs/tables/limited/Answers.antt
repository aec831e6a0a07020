use Rattle.std.proofs.Common.{◌≡◌, ap, subst, sym, ◌∙◌}
use Rattle.htl_patch.proofs.{Words.exceeded, Words.first_limit, Words.sizes_of, Words.AreFewNumbers, Words.patched, Words.Numbering, Assembling.joined, Assembling.limited, Replacing.CanReplace}
use Rattle.htl_patch.proofs.{LimitLaws.few_numbers, LimitLaws.limit_is, LimitLaws.levels_combined, Parents.have_parents, Parents.patched_in_range}
use Rattle.htl_patch.proofs.tables.limited.Goals as goal
use Rattle.htl_patch.proofs.tables.limited.Goals.{After-keeps_ranges, After-levels-count}

can_replace : (c : After-keeps_ranges) → CanReplace c.args.g.now
can_replace c = record { host = c.keeps_ranges.ensures.host; donor = c.keeps_ranges.ensures.donor; into = c.requires.patched_mode; from = c.requires.replacing_mode }

-- the first of the sizes above its limit is the first limit that the patched tables exceed
limit : (c : After-levels-count) → exceeded 2 (sizes_of c.args.n.now c.levels-count.result) ≡ first_limit (patched c.args.g.now)
limit c =
    let g = c.args.g.now in
    let can : CanReplace g = record { host = c.keeps_ranges.ensures.host; donor = c.keeps_ranges.ensures.donor; into = c.requires.patched_mode; from = c.requires.replacing_mode } in
    let count = c.levels-count.result in
    let deep = levels_combined (patched g) c.as_slice.result.now c.as_slice-2.result.now count (c.as_slice.ensures.value ∙ c.in_ok-heads.ensures.modules) (c.as_slice-2.ensures.value ∙ c.in_ok-heads.ensures.modes) c.levels-count.ensures.value in
    ap (λ (z : Numbering). exceeded 2 (sizes_of z count)) c.requires.numbers ∙ limit_is g can c.requires.matched.comms count deep

pub first_limit-requires : goal.first_limit-requires
first_limit-requires c =
    let g = c.args.g.now in
    subst AreFewNumbers (sym c.requires.numbers) (few_numbers g (can_replace (goal.at.first_limit-requires c).After-keeps_ranges))

pub returns-in-Some : goal.returns-in-Some
returns-in-Some c =
    let g = c.args.g.now in
    limited g c.in-Some.which c.in-Some.count c.requires.matched (sym (limit (goal.at.returns-in-Some c).After-levels-count) ∙ sym c.in-Some.ensures)

pub assembled-requires-clause-ranges : goal.assembled-requires-clause-ranges
assembled-requires-clause-ranges c =
    let g = c.args.g.now in
    let at = goal.at.assembled-requires-clause-ranges c in
    let can = can_replace at.After-keeps_ranges in
    patched_in_range g can (joined g c.requires.matched (sym (limit at.After-levels-count) ∙ sym c.in_default.ensures)) (have_parents g.host can.host c.requires.formed)

pub returns : goal.returns
returns c =
    let g = c.args.g.now in
    (c.in_ok-tables.ensures, joined g c.requires.matched (sym (limit (goal.at.returns c).After-levels-count) ∙ sym c.in_default.ensures))
