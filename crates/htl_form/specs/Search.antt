-- The first fault of the rules.
use Rattle.std.specs.Prelude.{ℕ, List, Option}
use Rattle.htl_model.specs.{declared.form_fault.FormFault.FormFault, Tables.Tables}
use Rattle.htl_model.specs.Search as search
use Rattle.htl_form.specs.{Rules.rule_number, Tests.tests, declared.rule.Rule.Rule}

abbrev pub form_fault_of : Tables → ℕ → Rule → Option FormFault
form_fault_of = search.of_rule tests rule_number

-- the first fault of the rules, in their order
abbrev pub first_form_fault : Tables → List Rule → Option FormFault
first_form_fault = search.first_fault tests rule_number
