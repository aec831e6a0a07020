-- Tables in range have one first fault at most, and keeping the rules up to 16 is keeping all.
use Rattle.std.proofs.Common.{◌≡◌, ℕ, ◌≤◌, ◌<◌, ◌⊎◌, inl, inr, Option, Some, Result, Ok, Err, OnOk, sym, ◌∙◌, ap, subst, arith}
use Rattle.htl_refine.proofs.Words.{slice_get, FormFault, Mode, Tables, mode_module, AreInRange, FormRule, number_of, Site, ComesBefore, breach, BreaksAt, Broken, site_of, IsFirstBroken, KeptTo, Formed, SameSite, order, one_at, same_fault, broken_there, one_form_fault, refinement_law_of, refinement_rules, tests}
use Rattle.htl_model.specs.FormRules as law
use Rattle.htl_refine.proofs.{RuleOrder.place_of, SearchLaws.judges}

last_number : (r : FormRule) → number_of r ≤ 16
last_number law.ModulePeriod = omega arith
last_number _ = omega arith

pub formed : (t : Tables) → KeptTo t 16 → Formed t
formed t kept = λ r s h n b. kept r s h n (last_number r) b

pub kept_all : (t : Tables) → Formed t → KeptTo t 16
kept_all t formed = λ r s h n few b. formed r s h n b

-- ---- one fault

one_law : (l m : FormRule) → number_of l ≡ number_of m → 12 < number_of m → l ≡ m
one_law l m e some = grind (arith, place_of)

-- at one place the two numbers are one
one_broken : (t : Tables) → AreInRange t → KeptTo t 12 → (l : FormRule) → 12 < number_of l → (s : Site) (h n a c : ℕ) → Broken t l s h n → Broken t l s a c → (h ≡ a) × (n ≡ c)
one_broken t range kept l some s h n a c y z =
    let r = place_of l some in
    let both : ◌≡◌ {A = Option Mode} (Some z.0) (Some y.0) = sym z.1 ∙ y.1 in
    let same : z.0 ≡ y.0 = cc in
    let here : BreaksAt t (breach t l) s.mode y.0 s.inv s.part a c = subst (λ (x : Mode). BreaksAt t (breach t l) s.mode x s.inv s.part a c) same z.2 in
    one_at t (tests t r.1) (breach t (refinement_law_of r.1)) (judges t range kept r.1) s.mode y.0 y.1 s.inv s.part h n a c
    (subst (λ (m : FormRule). BreaksAt t (breach t m) s.mode y.0 s.inv s.part h n) (sym r.4) y.2)
    (subst (λ (m : FormRule). BreaksAt t (breach t m) s.mode y.0 s.inv s.part a c) (sym r.4) here)

pub one_refine_fault : (t : Tables) → AreInRange t → KeptTo t 12 → (f g : FormFault) → IsFirstBroken t f → IsFirstBroken t g → f ≡ g
one_refine_fault t range kept f g p q = by (order p.law q.law (site_of f p.part) (site_of g q.part))
  where
    late : (n : ℕ) → (n ≤ 12) ⊎ (12 < n)
    late n = grind arith

    above : 12 < number_of q.law
    above = elim (late (number_of q.law)) [ inl few ↦ absurd (kept q.law (site_of g q.part) g.have g.need few q.broken) | inr more ↦ more ]

    by : ComesBefore p.law (site_of f p.part) q.law (site_of g q.part) ⊎ ((number_of p.law ≡ number_of q.law) × SameSite (site_of f p.part) (site_of g q.part))
        ⊎ ComesBefore q.law (site_of g q.part) p.law (site_of f p.part) → f ≡ g
    by (inl before) = absurd (q.first p.law (site_of f p.part) f.have f.need before p.broken)
    by (inr (inr after)) = absurd (p.first q.law (site_of g q.part) g.have g.need after q.broken)
    by (inr (inl same)) =
        let numbers = one_broken t range kept q.law above (site_of g q.part) f.have f.need g.have g.need
        (broken_there t (site_of f p.part) (site_of g q.part) p.law q.law f.have f.need same.1 (one_law p.law q.law same.0 above) p.broken) q.broken in
        same_fault f g (p.rule ∙ same.0 ∙ sym q.rule) (p.«module» ∙ ap (mode_module t) same.1.mode ∙ sym q.«module») same.1.mode same.1.inv numbers.0 numbers.1

-- ---- all rules

-- tables that keep the rules up to the last keep all
pub formed_after : {E : Type 0} (t : Tables) (r : Result (Unit {0}) E) → OnOk r (KeptTo t 16) → OnOk r (Formed t)
formed_after t (Ok x) kept = formed t kept
formed_after t (Err e) h = h

twelve : (n : ℕ) → (n ≤ 12) ⊎ (12 < n)
twelve n = grind arith

-- tables in range have one first form rule that is broken
pub one_first_broken : (t : Tables) → AreInRange t → (f g : FormFault) → IsFirstBroken t f → IsFirstBroken t g → f ≡ g
one_first_broken t range f g p q = by (twelve f.rule) (twelve g.rule)
  where
    -- where no rule up to 12 is broken before the first fault, the tables keep them
    kept : (h : FormFault) → IsFirstBroken t h → 12 < h.rule → KeptTo t 12
    kept h b late = λ r s have need few broken. b.first r s have need (inl (omega (arith, few, late, b.rule))) broken

    early : (h e : FormFault) → IsFirstBroken t h → IsFirstBroken t e → 12 < h.rule → e.rule ≤ 12 → ⊥
    early h e b x late few = kept h b late x.law (site_of e x.part) e.have e.need (omega (arith, few, x.rule)) x.broken

    by : (f.rule ≤ 12) ⊎ (12 < f.rule) → (g.rule ≤ 12) ⊎ (12 < g.rule) → f ≡ g
    by (inl low) (inl less) = one_form_fault t range f g low less p q
    by (inl low) (inr more) = absurd (early g f q p more low)
    by (inr high) (inl less) = absurd (early f g p q high less)
    by (inr high) (inr more) = one_refine_fault t range (kept f p high) f g p q
