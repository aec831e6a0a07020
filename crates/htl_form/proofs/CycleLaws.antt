-- The test for cycles of ports finds what the rule says.
use Rattle.std.proofs.Common.{◌≡◌, ◌<◌, ◌≤◌, ℕ, zero, suc, Bool, true, not, ◌&&◌, ◌||◌, eqb, List, length, Some, refl, sym, ◌∙◌, ap, arith}
use Rattle.htl_form.proofs.Words.{slice_get, list_any, nat_eq_equiv, length-from_same_keys, list_any-from_Contains, Contains-from_any, length_numbers, leads_from, leads_within, feeds_within, cycles_listed, Inv, numbers_below, leads_below, feeds, Precedes, AreOnCycles, InCycle, AreInRange, Tables, same_truth, eqb-true, not-false}
use Rattle.htl_form.proofs.Finding.{Finds, finds_unless}
use Rattle.htl_form.specs.Cycles.{precedes_itself, is_on_cycle, cycle_count, cycle_fault}

-- ---- what leads to what

-- steps that same_truth below n lead alike
pub leads_same : (f g : ℕ → ℕ → Bool) (n : ℕ) → ((a b : ℕ) → a < n → b < n → f a b ≡ g a b) → (k a b : ℕ) → k ≤ n → a < n → b < n → leads_below f k a b ≡ leads_below g k a b
leads_same f g n same zero a b within p q = same a b p q
leads_same f g n same (suc k) a b within p q =
    ap (λ x. x || (leads_below f k a k && leads_below f k k b)) (leads_same f g n same k a b (omega arith) p q)
    ∙ ap (λ x. leads_below g k a b || (x && leads_below f k k b)) (leads_same f g n same k a k (omega arith) p (omega arith))
    ∙ ap (λ x. leads_below g k a b || (leads_below g k a k && x)) (leads_same f g n same k k b (omega arith) (omega arith) q)

-- ---- an invocation that precedes itself

pub precedes_true : (t : Tables) (k : ℕ) → precedes_itself t k ≡ true → Precedes t k k
unfolding precedes_itself
precedes_true t k h = leads_from (feeds t) (length t.invs) k k h

pub true_precedes : (t : Tables) (k : ℕ) → Precedes t k k → precedes_itself t k ≡ true
unfolding precedes_itself
true_precedes t k h = leads_within (feeds t) (length t.invs) (feeds_within t) k k h

-- ---- the rule

listed : (t : Tables) (m : ℕ) → AreOnCycles t m (numbers_below (is_on_cycle t m) (length t.invs))
listed t m = cycles_listed t m (precedes_itself t) (precedes_true t) (true_precedes t)

-- two such lists are equally long
equally_long : (t : Tables) (m : ℕ) (xs ys : List ℕ) → AreOnCycles t m xs → AreOnCycles t m ys → length xs ≡ length ys
equally_long t m xs ys a b = length-from_same_keys nat_eq_equiv xs ys a.once b.once (λ q. same_truth (list_any (eqb q) xs) (list_any (eqb q) ys) (to xs ys a b q) (to ys xs b a q))
  where
    to : (xs ys : List ℕ) → AreOnCycles t m xs → AreOnCycles t m ys → (q : ℕ) → list_any (eqb q) xs ≡ true → list_any (eqb q) ys ≡ true
    to xs ys a b q h = list_any-from_Contains nat_eq_equiv q ys (b.all q (a.only q (Contains-from_any eqb-true q xs h)))

pub cycle_is : (t : Tables) (k : ℕ) (i : Inv) → AreInRange t → slice_get t.invs k ≡ Some i → Finds (cycle_fault t k i) (InCycle t k i)
cycle_is t k i r at =
    let ks : List ℕ = numbers_below (is_on_cycle t i.mode) (length t.invs) in
    let count : length ks ≡ cycle_count t i.mode = length_numbers (is_on_cycle t i.mode) (length t.invs) in
    finds_unless (not (precedes_itself t k)) (cycle_count t i.mode) 0 (InCycle t k i)
    (λ off. (precedes_true t k (not-false (precedes_itself t k) off), refl, ks, listed t i.mode, sym count))
    (λ h m p. (ap not (true_precedes t k p.0), p.4 ∙ equally_long t i.mode p.2 ks p.3 (listed t i.mode) ∙ count, p.1))
