-- The rules that are tested, in the order of their numbers.
use Rattle.std.specs.Prelude.{List, [], ◌∷◌, ℕ, Bool, true, false}
use Rattle.htl_model.specs.FormRules.{FormRule, number_of}
use Rattle.htl_model.specs.FormRules as law
use Rattle.htl_refine.specs.declared.rule.Rule.{Rule}
use Rattle.htl_refine.specs.declared.rule.Rule.TheVariants as R

abbrev pub refinement_law_of : Rule → FormRule
refinement_law_of R.AbstractPlaces = law.AbstractPlaces
refinement_law_of R.Parents = law.Parents
refinement_law_of R.SharedParents = law.SharedParents
refinement_law_of R.Inheritance = law.Inheritance

abbrev pub refinement_rule_number : Rule → ℕ
refinement_rule_number r = number_of (refinement_law_of r)

abbrev pub refinement_rules : List Rule
refinement_rules = R.AbstractPlaces ∷ R.Parents ∷ R.SharedParents ∷ R.Inheritance ∷ []

-- whether the rule speaks of inputs
abbrev pub judges_refined_inputs : Rule → Bool
judges_refined_inputs R.Inheritance = true
judges_refined_inputs _ = false
