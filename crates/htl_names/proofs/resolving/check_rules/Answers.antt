use Rattle.std.proofs.Common.{◌∙◌, sym, ap, subst, map, ℕ, List, arith, length, MatchOption}
use Rattle.htl_names.proofs.Words.{tree_of, Key, first_some, unmatched_token, symbols_of, AreRefinedModes, UnknownName, WrongKind, ProgramTree, ParentName, Limits, program_refinements, Rows, parent_use_of, KeptBelow, IsRefusal}
use Rattle.htl_names.proofs.{RuleLaws.uses_searched, RuleLaws.kinds_searched, RuleLaws.parents_searched, RuleLaws.tried, RuleLaws.all_right, Walking.length-map_at}
use Rattle.htl_names.specs.declared.fault.NameFault.TheVariants as fault
use Rattle.htl_names.proofs.resolving.check_rules.Goals as goal
use Rattle.htl_names.proofs.resolving.check_rules.Goals.{After-first_unknown, After-copied, In_ok-misplaced, After-first_unmatched, After-first_exceeded}

-- ---- rule after rule: one that is broken is told, and one that is kept is one more

uses : (c : After-first_unknown) → MatchOption c.first_unknown.result (KeptBelow (tree_of c.args.tree.now) 3) (λ t. IsRefusal (tree_of c.args.tree.now) (fault.Unknown t))
uses c =
    let rows = ap (λ (r : Rows). r.uses) (c.rows.view_is ∙ c.requires.rows) in
    tried (tree_of c.args.tree.now) UnknownName (λ t. fault.Unknown t) c.first_unknown.result c.requires.kept (uses_searched (tree_of c.args.tree.now) c.first_unknown.result cc)

kinds : (c : After-copied) → KeptBelow (tree_of c.args.tree.now) 3 → MatchOption c.copied.result (KeptBelow (tree_of c.args.tree.now) 4) (λ t. IsRefusal (tree_of c.args.tree.now) (fault.Kind t))
kinds c kept =
    let rows = ap (λ (r : Rows). r.wrong) (c.rows.view_is ∙ c.requires.rows) in
    tried (tree_of c.args.tree.now) WrongKind (λ t. fault.Kind t) c.copied.result kept (kinds_searched (tree_of c.args.tree.now) c.copied.result cc)

programs : (c : In_ok-misplaced) → KeptBelow (tree_of c.args.tree.now) 4 → MatchOption c.in_ok-misplaced.misplaced (KeptBelow (tree_of c.args.tree.now) 5) (λ p. IsRefusal (tree_of c.args.tree.now) (fault.NotATree p))
programs c kept =
    tried (tree_of c.args.tree.now) ProgramTree (λ p. fault.NotATree p) c.in_ok-misplaced.misplaced kept
    (c.in_ok-misplaced.ensures (tree_of c.args.tree.now) c.in_ok-graph.ensures.rows c.in_ok-graph.ensures.refined)

parents : (c : After-first_unmatched) → KeptBelow (tree_of c.args.tree.now) 5 → MatchOption c.first_unmatched.result (KeptBelow (tree_of c.args.tree.now) 6) (λ t. IsRefusal (tree_of c.args.tree.now) (fault.Unknown t))
parents c kept =
    let ps = tree_of c.args.tree.now in
    let refined = subst (AreRefinedModes ps) (sym c.as_slice-table.ensures.value) c.in_ok-graph.ensures.refined in
    let rows = ap (map parent_use_of) c.as_slice-3.ensures.value ∙ ap (λ (r : Rows). r.parents) (c.rows.view_is ∙ c.requires.rows) in
    tried ps ParentName (λ t. fault.Unknown t) c.first_unmatched.result kept
    (parents_searched ps c.as_slice-table.result.now c.first_unmatched.result refined (c.first_unmatched.ensures
    ∙ ap (λ (s : List (Key × ℕ)). first_some (unmatched_token s c.as_slice-table.result.now) (map parent_use_of c.as_slice-3.result.now)) c.requires.symbols
    ∙ ap (first_some (unmatched_token (symbols_of ps) c.as_slice-table.result.now)) rows))

limits : (c : After-first_exceeded) → KeptBelow (tree_of c.args.tree.now) 6 → MatchOption c.first_exceeded.result (KeptBelow (tree_of c.args.tree.now) 7) (λ f. IsRefusal (tree_of c.args.tree.now) f)
limits c kept = tried (tree_of c.args.tree.now) Limits (λ f. f) c.first_exceeded.result kept c.first_exceeded.ensures

pub first_misplaced-requires : goal.first_misplaced-requires
first_misplaced-requires c =
    let size = ap length c.in_ok-graph.ensures.rows ∙ length-map_at (program_refinements (symbols_of (tree_of c.args.tree.now))) 0 (tree_of c.args.tree.now) in
    record { few = omega (arith, c.in_ok-graph.ensures.refined.len, c.requires.bounds.programs); even = omega (arith, size, c.in_ok-graph.ensures.refined.len) }

-- ---- the answers

pub returns-in-Some : goal.returns-in-Some
returns-in-Some c = rw c.in-Some.is at (uses (goal.at.returns-in-Some c).After-first_unknown)

pub returns-in-Some-copied : goal.returns-in-Some-copied
returns-in-Some-copied c =
    let at = goal.at.returns-in-Some-copied c in
    let two = rw c.in_default.is at (uses at.After-first_unknown) in
    rw c.in-Some-copied.is at (kinds at.After-copied two)

pub returns-in-Some-misplaced : goal.returns-in-Some-misplaced
returns-in-Some-misplaced c =
    let at = goal.at.returns-in-Some-misplaced c in
    let two = rw c.in_default.is at (uses at.After-first_unknown) in
    let three = rw c.in_default-copied.is at (kinds at.After-copied two) in
    rw c.in-Some-misplaced.is at (programs at.In_ok-misplaced three)

pub returns-in-Some-first_unmatched : goal.returns-in-Some-first_unmatched
returns-in-Some-first_unmatched c =
    let at = goal.at.returns-in-Some-first_unmatched c in
    let two = rw c.in_default.is at (uses at.After-first_unknown) in
    let three = rw c.in_default-copied.is at (kinds at.After-copied two) in
    let four = rw c.in_default-misplaced.is at (programs at.In_ok-misplaced three) in
    rw c.in-Some-first_unmatched.is at (parents at.After-first_unmatched four)

pub returns-in-Some-first_exceeded : goal.returns-in-Some-first_exceeded
returns-in-Some-first_exceeded c =
    let at = goal.at.returns-in-Some-first_exceeded c in
    let two = rw c.in_default.is at (uses at.After-first_unknown) in
    let three = rw c.in_default-copied.is at (kinds at.After-copied two) in
    let four = rw c.in_default-misplaced.is at (programs at.In_ok-misplaced three) in
    let five = rw c.in_default-first_unmatched.is at (parents at.After-first_unmatched four) in
    rw c.in-Some-first_exceeded.is at (limits at.After-first_exceeded five)

pub returns : goal.returns
returns c =
    let at = goal.at.returns c in
    let two = rw c.in_default.is at (uses at.After-first_unknown) in
    let three = rw c.in_default-copied.is at (kinds at.After-copied two) in
    let four = rw c.in_default-misplaced.is at (programs at.In_ok-misplaced three) in
    let five = rw c.in_default-first_unmatched.is at (parents at.After-first_unmatched four) in
    all_right (tree_of c.args.tree.now) (rw c.in_default-first_exceeded.is at (limits at.After-first_exceeded five))
