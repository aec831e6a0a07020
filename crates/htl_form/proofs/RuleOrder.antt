-- The rules that are tested are those with numbers up to 12, in order.
use Rattle.std.proofs.Common.{◌≡◌, ℕ, zero, suc, ◌≤◌, Some, None, Option, refl, ap, arith}
use Rattle.htl_form.proofs.Words.{slice_get, FormRule, number_of, law_of, rule_number, all_rules, Rule}
use Rattle.htl_model.specs.FormRules as law
use Rattle.htl_form.specs.declared.rule.Rule.TheVariants as R

-- each rule up to 12 has its place
pub place_of : (l : FormRule) → number_of l ≤ 12 → (p : ℕ) × (r : Rule) × (suc p ≡ number_of l) × (slice_get all_rules p ≡ Some r) × (law_of r ≡ l)
place_of law.ModulePeriod few = (0, R.ModulePeriod, refl, refl, refl)
place_of law.FrameLimits few = (1, R.FrameLimits, refl, refl, refl)
place_of law.Divides few = (2, R.Divides, refl, refl, refl)
place_of law.Offsets few = (3, R.Offsets, refl, refl, refl)
place_of law.Ends few = (4, R.Ends, refl, refl, refl)
place_of law.Windows few = (5, R.Windows, refl, refl, refl)
place_of law.WorstCases few = (6, R.WorstCases, refl, refl, refl)
place_of law.PortWriters few = (7, R.PortWriters, refl, refl, refl)
place_of law.PortCycles few = (8, R.PortCycles, refl, refl, refl)
place_of law.AbstractPorts few = (9, R.AbstractPorts, refl, refl, refl)
place_of law.Sensors few = (10, R.Sensors, refl, refl, refl)
place_of law.ConcreteWriters few = (11, R.ConcreteWriters, refl, refl, refl)
place_of _ few = absurd (omega arith)

-- the number of the rule at a place
pub number_at : (p : ℕ) (r : Rule) → slice_get all_rules p ≡ Some r → (suc p ≡ rule_number r) × (suc p ≤ 12)
number_at zero r e = (let is : R.ModulePeriod ≡ r = cc in (ap rule_number is, omega arith))
number_at (suc zero) r e = (let is : R.FrameLimits ≡ r = cc in (ap rule_number is, omega arith))
number_at (suc (suc zero)) r e = (let is : R.Divides ≡ r = cc in (ap rule_number is, omega arith))
number_at (suc (suc (suc zero))) r e = (let is : R.Offsets ≡ r = cc in (ap rule_number is, omega arith))
number_at (suc (suc (suc (suc zero)))) r e = (let is : R.Ends ≡ r = cc in (ap rule_number is, omega arith))
number_at (suc (suc (suc (suc (suc zero))))) r e = (let is : R.Windows ≡ r = cc in (ap rule_number is, omega arith))
number_at (suc (suc (suc (suc (suc (suc zero)))))) r e = (let is : R.WorstCases ≡ r = cc in (ap rule_number is, omega arith))
number_at (suc (suc (suc (suc (suc (suc (suc zero))))))) r e = (let is : R.PortWriters ≡ r = cc in (ap rule_number is, omega arith))
number_at (suc (suc (suc (suc (suc (suc (suc (suc zero)))))))) r e = (let is : R.PortCycles ≡ r = cc in (ap rule_number is, omega arith))
number_at (suc (suc (suc (suc (suc (suc (suc (suc (suc zero))))))))) r e = (let is : R.AbstractPorts ≡ r = cc in (ap rule_number is, omega arith))
number_at (suc (suc (suc (suc (suc (suc (suc (suc (suc (suc zero)))))))))) r e = (let is : R.Sensors ≡ r = cc in (ap rule_number is, omega arith))
number_at (suc (suc (suc (suc (suc (suc (suc (suc (suc (suc (suc zero))))))))))) r e = (let is : R.ConcreteWriters ≡ r = cc in (ap rule_number is, omega arith))
number_at (suc (suc (suc (suc (suc (suc (suc (suc (suc (suc (suc (suc p)))))))))))) r e = absurd (let no : ◌≡◌ {A = Option Rule} None (Some r) = e in cc)
