-- The search answers the first broken rule.
use Rattle.std.proofs.Common.{◌≡◌, ℕ, suc, ◌≤◌, Some, None, sym, ◌∙◌, ap, subst, arith, inl, inr}
use Rattle.htl_form.proofs.Words.{slice_get, FormFault, Tables, AreInRange, FormRule, number_of, Site, ComesBefore, Broken, Formed, KeptTo, site_of, IsFirstBroken, law_of, rule_number, all_rules, tests, form_fault_of, first_form_fault, Rule, none_at, found_at, IsFirstAt}
use Rattle.htl_form.proofs.{Judging.judges, RuleOrder.place_of, RuleOrder.number_at, SiteLaws.rule_none, SiteLaws.rule_first, SiteLaws.IsFirstOfRule}

-- a rule with a number up to 12, at whose place nothing is found
kept_at : (t : Tables) → AreInRange t → (law : FormRule) → number_of law ≤ 12
    → ((p : ℕ) (r : Rule) → suc p ≡ number_of law → slice_get all_rules p ≡ Some r → form_fault_of t p r ≡ None)
    → (s : Site) (h d : ℕ) → Broken t law s h d → ⊥
kept_at t range law few none s h d y =
    let q = place_of law few in
    rule_none t (tests t q.1) (law_of q.1) (judges t range q.1) (rule_number q.1) (none q.0 q.1 q.2 q.3) s h d (subst (λ (l : FormRule). Broken t l s h d) (sym q.4) y)

pub kept : (t : Tables) → AreInRange t → first_form_fault t all_rules ≡ None → KeptTo t 12
kept t range none = λ law s h d few y. kept_at t range law few (λ p r is at. none_at (form_fault_of t) all_rules none p r at) s h d y

-- tables that keep all rules keep those up to 12
pub kept_12 : (t : Tables) → Formed t → KeptTo t 12
kept_12 t formed = λ r s have need small broken. formed r s have need broken

-- nothing is broken before the first of a rule, where rules before it find nothing
least_of_all : (t : Tables) → AreInRange t → (f : FormFault) (g : IsFirstAt (form_fault_of t) all_rules f) (first : IsFirstOfRule t (law_of g.item) (rule_number g.item) f)
    → (law : FormRule) (s : Site) (h d : ℕ) → ComesBefore law s (law_of g.item) (site_of f first.part) → Broken t law s h d → ⊥
least_of_all t range f g first law s h d (inl less) y =
    let number = number_at g.place g.item g.at in
    let most : number_of law ≤ 12 = omega (arith, number.0, number.1) in
    kept_at t range law most (λ p r is at. g.before p r (omega (arith, number.0)) at) s h d y
least_of_all t range f g first law s h d (inr same) y =
    let number = number_at g.place g.item g.at in
    let q = place_of law (omega (arith, number.0, number.1)) in
    let place : q.0 ≡ g.place = omega (arith, q.2, number.0) in
    let item : Some q.1 ≡ Some g.item = sym q.3 ∙ ap (slice_get all_rules) place ∙ g.at in
    let rule : q.1 ≡ g.item = cc in
    first.least s h d same.1 (subst (λ (l : FormRule). Broken t l s h d) (sym q.4 ∙ ap law_of rule) y)

pub first : (t : Tables) → AreInRange t → (f : FormFault) → first_form_fault t all_rules ≡ Some f → (f.rule ≤ 12) × IsFirstBroken t f
first t range f e =
    let g = found_at (form_fault_of t) all_rules f e in
    let number = number_at g.place g.item g.at in
    let one = rule_first t (tests t g.item) (law_of g.item) (judges t range g.item) (rule_number g.item) f g.gives in (
      omega (arith, one.rule, number.0, number.1),
      record { law = law_of g.item; part = one.part; rule = one.rule; «module» = one.«module»; broken = one.broken; first = least_of_all t range f g one },
    )
