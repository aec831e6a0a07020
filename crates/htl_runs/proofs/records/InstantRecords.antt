-- The records of an instant are one piece of the walk that stands then; and the numbers of the rounds before it.
use Rattle.std.proofs.Common.{◌≡◌, ◌≤◌, ◌<◌, ℕ, suc, ◌+◌, ◌-◌, ◌*◌, ◌/◌, Bool, true, false, cond, eqb, ltb, List, [], ◌∷◌, ◌++◌, take, drop, map, Option, Some, None, refl, sym, ◌∙◌, ap, ap₂, arith}
use Rattle.htl_runs.proofs.Words.{filter, add-mul-div_left, ltb-true, ltb-false, eqb-true, eqb-false, numbered, up_to, as_told, told, told_from, shifted, rounds_before, count_left_before, Rises, up_to_none, option_map}
use Rattle.htl_walk.specs.Walk as walks
use Rattle.htl_smach.specs.declared.left.Left.{Left}
use Rattle.htl_smach.specs.Rounds as rounds

slice_is : (start : ℕ) (o : Option (ℕ × ℕ)) → rounds.slice_shifted start o ≡ option_map (λ (s : ℕ × ℕ). (start + s.0, start + s.1)) o
slice_is start None = refl
slice_is start (Some s) = refl

told_is : (start k : ℕ) (l : walks.Left) → told start k l ≡ as_told (k, shifted start l)
told_is start k l = grind (arith, slice_is)

-- ---- the records of a walk that are left at one instant

-- of a walk from `start`, counted from k on
abbrev pub left_then : ℕ → ℕ → ℕ → List walks.Left → List (ℕ × walks.Left)
left_then start now k ls = filter (λ (l : ℕ × walks.Left). eqb l.1.at now) (numbered k (map (shifted start) ls))

pub none_before : (d a : ℕ) (ls : List walks.Left) → Rises a ls → d ≤ a → count_left_before d ls ≡ 0
none_before d a [] r h = refl
none_before d a (l ∷ ls) r h = grind (arith, ltb-true)

pub piece : (start now d k a : ℕ) (ls : List walks.Left) → now ≡ start + d → Rises a ls
    → map as_told (left_then start now k ls) ≡ take (count_left_before (suc d) ls - count_left_before d ls) (drop (count_left_before d ls) (told_from start k ls))
piece start now d k a [] is rises = refl
piece start now d k a (l ∷ ls) is rises =
    by (ltb l.at d) (ltb l.at (suc d)) (eqb (start + l.at) now) refl refl refl (piece start now d (suc k) l.at ls is rises.1)
  where
    behind : (c : ℕ) → c ≤ l.at → count_left_before c ls ≡ 0
    behind c h = none_before c l.at ls rises.1 h

    by : (before upto now_is : Bool) → ltb l.at d ≡ before → ltb l.at (suc d) ≡ upto → eqb (start + l.at) now ≡ now_is
        → map as_told (left_then start now (suc k) ls) ≡ take (count_left_before (suc d) ls - count_left_before d ls) (drop (count_left_before d ls) (told_from start (suc k) ls))
        → map as_told (cond now_is ((k, shifted start l) ∷ left_then start now (suc k) ls) (left_then start now (suc k) ls))
        ≡ take (cond upto (suc (count_left_before (suc d) ls)) 0 - cond before (suc (count_left_before d ls)) 0) (drop (cond before (suc (count_left_before d ls)) 0) (told start k l ∷ told_from start (suc k) ls))
    by true false now_is e f g next = absurd (omega (arith, ltb-true l.at d e, ltb-false l.at (suc d) f))
    by true true true e f g next = absurd (omega (arith, ltb-true l.at d e, eqb-true (start + l.at) now g, is))
    by true true false e f g next = grind arith
    by false true true e f g next =
        let here = next ∙ ap (λ c. take (count_left_before (suc d) ls - c) (drop c (told_from start (suc k) ls))) (behind d (ltb-false l.at d e)) in
        ap₂ (λ (x : Left) (xs : List Left). x ∷ xs) (sym (told_is start k l)) (here ∙ ap (λ n. take n (told_from start (suc k) ls)) (less (count_left_before (suc d) ls)))
        ∙ ap (λ n. take n (told start k l ∷ told_from start (suc k) ls)) (sym (less (suc (count_left_before (suc d) ls))))
      where
        less : (n : ℕ) → n - 0 ≡ n
        less n = omega arith
    by false true false e f g next = absurd (eqb-false (start + l.at) now g (omega (arith, ltb-false l.at d e, ltb-true l.at (suc d) f, is)))
    by false false true e f g next = absurd (omega (arith, ltb-false l.at (suc d) f, eqb-true (start + l.at) now g, is))
    by false false false e f g next = grind (arith, ltb-false, behind)

-- ---- the rounds before an instant

-- where only the last gives something
pub up_to_last : {A : Type 0} (f : ℕ → List A) (m : ℕ) → ((k : ℕ) → k < m → f k ≡ []) → up_to f (suc m) ≡ f m
up_to_last f m h = ap (λ xs. xs ++ f m) (up_to_none f m h)

-- before the instant behind n, those that began up to n
pub rounds_are : (period n : ℕ) → 0 < period → rounds_before period (suc n) ≡ suc (n / period)
rounds_are period n some = grind (arith, add-mul-div_left)

pub none_at_first : (period : ℕ) → 0 < period → rounds_before period 0 ≡ 0
none_at_first period some = grind arith
