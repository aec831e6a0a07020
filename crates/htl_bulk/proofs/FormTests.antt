-- The form rules of tables whose ports lead forward, by the tests of the rules.
use Rattle.std.proofs.Common.{arith, ◌≡◌, ◌<◌, ◌&&◌, not, leb, ℕ, Bool, true, List, [], ◌∷◌, length, refl, Option, Some, None, slice_get}
use Rattle.htl_bulk.proofs.Words.{AbstractPorts, AreInRange, BreaksAt, Broken, ConcreteWriters, Divides, Ends, FrameLimits, Inv, Itself, KeptTo, Leads, Mode, ModulePeriod, Offsets, Part, PortCycles, PortWriters, Rule, Sensors, Site, Tables, Test, Windows, WorstCases, breach, direct, feeds, feeds_at, first_from, form_fault_of, judges, law_of, nat_tests, none_at, rule_none, rule_number, slice_get_within, tests, through}
use Rattle.htl_bulk.proofs.Numbers.{passes, passed}
use Rattle.htl_form.specs.declared.rule.Rule.TheVariants as R

-- ---- ports that lead forward

-- no invocation feeds itself or one before it
abbrev pub feeds_back : Tables → ℕ → Bool
feeds_back t n = passes (λ a. passes (λ b. not (leb b a && feeds t a b)) n) n

known : (o p : Option Inv) → feeds_at o p ≡ true → (x : Inv) × (y : Inv) × (o ≡ Some x) × (p ≡ Some y)
known (Some x) (Some y) h = (x, y, refl, refl)
known _ _ h = absurd (let z : ⊥ = cc in z)

module _ (t : Tables) (ahead : feeds_back t (length t.invs) ≡ true) where
  forward : (a b : ℕ) → feeds t a b ≡ true → a < b
  forward a b f =
      let both = known (slice_get t.invs a) (slice_get t.invs b) f in
      let row = passed _ (length t.invs) a ahead (slice_get_within t.invs a both.0 both.2) in
      let cell = passed (λ b. not (leb b a && feeds t a b)) (length t.invs) b row (slice_get_within t.invs b both.1 both.3) in
      grind (arith, nat_tests)

  rising : (a b : ℕ) → Leads (feeds t) a b → a < b
  rising a b (direct x y h) = forward a b h
  rising a b (through x c y h k) = let p = rising a c h in let q = rising c b k in omega (arith, p, q)

  no_cycle : (m : ℕ) (x : Mode) (k : Option ℕ) (p : Part) (h d : ℕ) → BreaksAt t (breach t PortCycles) m x k p h d → ⊥
  no_cycle m x None (Test l j) h d y = y.5
  no_cycle m x None _ h d y = y
  no_cycle m x (Some k) Itself h d y = let less = rising k k y.3.0 in omega (arith, less)
  no_cycle m x (Some k) (Test l j) h d y = y.3
  no_cycle m x (Some k) _ h d y = y.3.2

-- ---- the rules

abbrev pub tried : List Rule
tried =
    R.ModulePeriod ∷ R.FrameLimits ∷ R.Divides ∷ R.Offsets ∷ R.Ends ∷ R.Windows ∷ R.WorstCases ∷ R.PortWriters ∷ R.AbstractPorts ∷ R.Sensors ∷ R.ConcreteWriters ∷ []

module _ (t : Tables) (range : AreInRange t) (none : first_from (form_fault_of t) 0 tried ≡ None) (ahead : feeds_back t (length t.invs) ≡ true) where
  rule_kept : (p : ℕ) (r : Rule) → slice_get tried p ≡ Some r → (s : Site) (h d : ℕ) → Broken t (law_of r) s h d → ⊥
  rule_kept p r at = rule_none t (tests t r) (law_of r) (judges t range r) (rule_number r) (none_at (form_fault_of t) tried none p r at)

  pub kept_to_12 : KeptTo t 12
  kept_to_12 ModulePeriod s h d few y = rule_kept 0 R.ModulePeriod refl s h d y
  kept_to_12 FrameLimits s h d few y = rule_kept 1 R.FrameLimits refl s h d y
  kept_to_12 Divides s h d few y = rule_kept 2 R.Divides refl s h d y
  kept_to_12 Offsets s h d few y = rule_kept 3 R.Offsets refl s h d y
  kept_to_12 Ends s h d few y = rule_kept 4 R.Ends refl s h d y
  kept_to_12 Windows s h d few y = rule_kept 5 R.Windows refl s h d y
  kept_to_12 WorstCases s h d few y = rule_kept 6 R.WorstCases refl s h d y
  kept_to_12 PortWriters s h d few y = rule_kept 7 R.PortWriters refl s h d y
  kept_to_12 PortCycles s h d few y = no_cycle t ahead s.mode y.0 s.inv s.part h d y.2
  kept_to_12 AbstractPorts s h d few y = rule_kept 8 R.AbstractPorts refl s h d y
  kept_to_12 Sensors s h d few y = rule_kept 9 R.Sensors refl s h d y
  kept_to_12 ConcreteWriters s h d few y = rule_kept 10 R.ConcreteWriters refl s h d y
  kept_to_12 _ s h d few y = omega (arith, few)
