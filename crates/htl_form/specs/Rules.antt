-- The rules that are tested, in the order of their numbers.
use Rattle.std.specs.Prelude.{List, [], ◌∷◌, ℕ, Bool, true, false}
use Rattle.htl_model.specs.FormRules.{FormRule, number_of}
use Rattle.htl_model.specs.FormRules as law
use Rattle.htl_form.specs.declared.rule.Rule.{Rule}
use Rattle.htl_form.specs.declared.rule.Rule.TheVariants as R

abbrev pub law_of : Rule → FormRule
law_of R.ModulePeriod = law.ModulePeriod
law_of R.FrameLimits = law.FrameLimits
law_of R.Divides = law.Divides
law_of R.Offsets = law.Offsets
law_of R.Ends = law.Ends
law_of R.Windows = law.Windows
law_of R.WorstCases = law.WorstCases
law_of R.PortWriters = law.PortWriters
law_of R.PortCycles = law.PortCycles
law_of R.AbstractPorts = law.AbstractPorts
law_of R.Sensors = law.Sensors
law_of R.ConcreteWriters = law.ConcreteWriters

abbrev pub rule_number : Rule → ℕ
rule_number r = number_of (law_of r)

abbrev pub all_rules : List Rule
all_rules =
    R.ModulePeriod ∷ R.FrameLimits ∷ R.Divides ∷ R.Offsets ∷ R.Ends ∷ R.Windows ∷ R.WorstCases ∷ R.PortWriters ∷ R.PortCycles
    ∷ R.AbstractPorts ∷ R.Sensors ∷ R.ConcreteWriters ∷ []

-- whether the rule speaks of inputs; of outputs; of what switches read
abbrev pub judges_inputs : Rule → Bool
judges_inputs R.Divides = true
judges_inputs R.Offsets = true
judges_inputs R.Ends = true
judges_inputs R.PortWriters = true
judges_inputs R.AbstractPorts = true
judges_inputs _ = false

abbrev pub judges_outputs : Rule → Bool
judges_outputs R.Divides = true
judges_outputs R.Offsets = true
judges_outputs R.Ends = true
judges_outputs R.PortWriters = true
judges_outputs R.Sensors = true
judges_outputs R.ConcreteWriters = true
judges_outputs _ = false

abbrev pub judges_switches : Rule → Bool
judges_switches R.Divides = true
judges_switches _ = false
