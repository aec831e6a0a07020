use Rattle.std.proofs.Common.{◌≡◌, ◌∙◌, ℕ, arith, ap, sym, get_or, fold, List}
use Rattle.htl_names.proofs.{Words.zero-add, Words.PlainProgram, Words.tree_of, Words.symbols_of, Words.counts, Words.most_positions, Words.modules_at, Words.capped, Words.selected, Words.placed, Refinements.table-levels}
use Rattle.htl_names.proofs.LimitLaws.{selected_all, placed_all}
use Rattle.htl_names.proofs.limits.count_and_limit.Goals as goal

-- the count of this limit
abbrev count : List PlainProgram → ℕ → ℕ
count ps k = capped (get_or (counts (symbols_of ps) ps) k 0)

pub returns-in-8-clause-count : goal.returns-in-8-clause-count
returns-in-8-clause-count c =
    let ps = tree_of c.args.tree.now in
    ap capped (c.levels.ensures ∙ table-levels ps c.args.refined.now c.requires.refined) ∙ sym (ap (count ps) c.in-8.is)

pub returns-in-9-clause-count : goal.returns-in-9-clause-count
returns-in-9-clause-count c =
    let ps = tree_of c.args.tree.now in
    ap capped (c.selections.ensures ∙ ap selected c.modules_at.ensures) ∙ selected_all (modules_at ps 0) ∙ sym (ap (count ps) c.in-9.is)

pub returns-in_default-clause-count : goal.returns-in_default-clause-count
returns-in_default-clause-count c =
    let ps = tree_of c.args.tree.now in
    let last : c.args.limit ≡ 10 = omega arith in
    ap capped (c.positions.ensures ∙ ap (fold placed 0) c.modules_at-in_default.ensures) ∙ placed_all 0 (modules_at ps 0)
    ∙ ap capped (zero-add (most_positions ps)) ∙ sym (ap (count ps) last)
