-- The search answers the first broken rule.
use Rattle.std.proofs.Common.{◌≡◌, ℕ, ◌+◌, ◌≤◌, ◌<◌, ◌⊎◌, Some, None, sym, ◌∙◌, ap, subst, arith, inl, inr}
use Rattle.htl_refine.proofs.Words.{slice_get, FormFault, Tables, AreInRange, FormRule, number_of, Site, ComesBefore, Broken, KeptTo, site_of, IsFirstBroken, breach, finds_nothing, none_at, found_at, IsFirstAt, Judges, rule_none, rule_first, IsFirstOfRule, refinement_law_of, refinement_rule_number, refinement_rules, tests, refinement_fault_of, first_refinement_fault, Rule}
use Rattle.htl_refine.specs.declared.rule.Rule.TheVariants as R
use Rattle.htl_refine.proofs.{RefiningLaws.place_is, RefiningLaws.parent_is, RefiningLaws.shared_is, RefiningLaws.exceeds_is, RefiningLaws.order_is, RuleOrder.place_of, RuleOrder.number_at}

-- ---- each rule's tests find exactly what breaks it

pub judges : (t : Tables) → AreInRange t → KeptTo t 12 → (r : Rule) → Judges t (tests t r) (breach t (refinement_law_of r))
judges t range kept R.AbstractPlaces = grind (arith, finds_nothing, place_is)
judges t range kept R.Parents = grind (arith, finds_nothing, parent_is)
judges t range kept R.SharedParents = grind (arith, finds_nothing, shared_is)
judges t range kept R.Inheritance =
    record {
      mode = λ m x at. finds_nothing;
      inv = λ k i at. exceeds_is t i;
      input = λ k i j e at read. order_is t 12 i e range kept (omega arith);
      output = λ k i j e at out. finds_nothing;
      test = λ m c. finds_nothing;
    }

-- ---- the first

-- a rule at whose place nothing is found
kept_at : (t : Tables) → AreInRange t → KeptTo t 12 → (law : FormRule)
    → ((p : ℕ) (r : Rule) → p + 13 ≡ number_of law → slice_get refinement_rules p ≡ Some r → refinement_fault_of t p r ≡ None)
    → (s : Site) (h d : ℕ) → Broken t law s h d → ⊥
kept_at t range kept law none s h d y = elim (order (number_of law)) [
  | inl few ↦ kept law s h d few y
  | inr more ↦
      let q = place_of law more in
      rule_none t (tests t q.1) (refinement_law_of q.1) (judges t range kept q.1) (refinement_rule_number q.1) (none q.0 q.1 q.2 q.3) s h d (subst (λ (l : FormRule). Broken t l s h d) (sym q.4) y)
]
  where
    order : (n : ℕ) → (n ≤ 12) ⊎ (12 < n)
    order n = grind arith

pub kept_all : (t : Tables) → AreInRange t → KeptTo t 12 → first_refinement_fault t refinement_rules ≡ None → KeptTo t 16
kept_all t range kept none = λ law s h d few y. kept_at t range kept law (λ p r is at. none_at (refinement_fault_of t) refinement_rules none p r at) s h d y

-- nothing is broken before the first of a rule, where rules before it find nothing
least_of_all : (t : Tables) → AreInRange t → KeptTo t 12 → (f : FormFault) (g : IsFirstAt (refinement_fault_of t) refinement_rules f) (first : IsFirstOfRule t (refinement_law_of g.item) (refinement_rule_number g.item) f)
    → (law : FormRule) (s : Site) (h d : ℕ) → ComesBefore law s (refinement_law_of g.item) (site_of f first.part) → Broken t law s h d → ⊥
least_of_all t range kept f g first law s h d (inl less) y =
    let number = number_at g.place g.item g.at in
    kept_at t range kept law (λ p r is at. g.before p r (omega (arith, number.0)) at) s h d y
least_of_all t range kept f g first law s h d (inr same) y =
    let number = number_at g.place g.item g.at in
    let q = place_of law (omega (arith, number.0)) in
    let item : Some q.1 ≡ Some g.item = sym q.3 ∙ ap (slice_get refinement_rules) (omega (arith, q.2, number.0)) ∙ g.at in
    let rule : q.1 ≡ g.item = cc in
    first.least s h d same.1 (subst (λ (l : FormRule). Broken t l s h d) (sym q.4 ∙ ap refinement_law_of rule) y)

pub first : (t : Tables) → AreInRange t → KeptTo t 12 → (f : FormFault) → first_refinement_fault t refinement_rules ≡ Some f → (13 ≤ f.rule) × (f.rule ≤ 16) × IsFirstBroken t f
first t range kept f e =
    let g = found_at (refinement_fault_of t) refinement_rules f e in
    let number = number_at g.place g.item g.at in
    let one = rule_first t (tests t g.item) (refinement_law_of g.item) (judges t range kept g.item) (refinement_rule_number g.item) f g.gives in (
      omega (arith, one.rule, number.0, number.1),
      omega (arith, one.rule, number.0, number.1),
      record { law = refinement_law_of g.item; part = one.part; rule = one.rule; «module» = one.«module»; broken = one.broken; first = least_of_all t range kept f g one },
    )
