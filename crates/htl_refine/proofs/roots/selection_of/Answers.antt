use Rattle.std.proofs.Common.{sym, ◌∙◌, subst, arith}
use Rattle.htl_refine.specs.ConcreteJobs.{IsOfSelection}
use Rattle.htl_refine.proofs.{FirstRound.choice_is, RootSelection.below_count, RootSelection.is_of_selection}
use Rattle.htl_refine.proofs.roots.selection_of.Goals as goal

pub begun_choice-requires : goal.begun_choice-requires
begun_choice-requires c =
    let t = c.args.t.now in
    let m = c.args.s.now.modes in
    record { few = omega (arith, choice_is t m, below_count t m c.keeps_ranges.ensures.ranges c.requires.selection c.requires.some, c.requires.limits.selections) }

pub returns-clause-value : goal.returns-clause-value
returns-clause-value c = c.begun_choice.ensures ∙ choice_is c.args.t.now c.args.s.now.modes

pub returns-clause-below : goal.returns-clause-below
returns-clause-below c =
    let t = c.args.t.now in
    let m = c.args.s.now.modes in
    omega (arith, c.begun_choice.ensures, choice_is t m, below_count t m c.keeps_ranges.ensures.ranges c.requires.selection c.requires.some)

pub returns-clause-roots : goal.returns-clause-roots
returns-clause-roots c =
    let t = c.args.t.now in
    let m = c.args.s.now.modes in
    subst (λ n. IsOfSelection t n m) (sym (c.begun_choice.ensures ∙ choice_is t m)) (is_of_selection t m c.requires.selection)
