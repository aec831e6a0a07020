-- What the records of a walk give that are left at an instant: summed over the instants before one, it is what those before it give.
use Rattle.std.proofs.Common.{◌≡◌, ◌≤◌, ℕ, zero, suc, ◌+◌, Bool, true, false, cond, eqb, ltb, List, [], ◌∷◌, ◌++◌, slice_get, Some, refl, sym, ap, ap₂, ◌∙◌, arith, append_assoc}
use Rattle.htl_runs.proofs.Words.{eqb-true, eqb-false, ltb-true, ltb-false, le-ltb, joined, up_to, Left, Rises}

-- ---- what items give

pub nothing : {X : Type 0} (b : Bool) → cond {A = List X} b [] [] ≡ []
nothing true = refl
nothing false = refl

pub joined_each : {A X : Type 0} (f g : A → List X) (xs : List A) → ((i : ℕ) (x : A) → slice_get xs i ≡ Some x → f x ≡ g x) → joined f xs ≡ joined g xs
joined_each f g [] each = refl
joined_each {A} {X} f g (x ∷ xs) each = ap₂ (λ (ys zs : List X). ys ++ zs) (each 0 x refl) (joined_each f g xs (λ i y at. each (suc i) y at))

pub joined_none : {A X : Type 0} (f : A → List X) (xs : List A) → ((i : ℕ) (x : A) → slice_get xs i ≡ Some x → f x ≡ []) → joined f xs ≡ []
joined_none f [] none = refl
joined_none {A} {X} f (x ∷ xs) none = ap₂ (λ (ys zs : List X). ys ++ zs) (none 0 x refl) (joined_none f xs (λ i y at. none (suc i) y at))

-- ---- by the instants at which records are left, in a walk that begins at s

abbrev pub at_now : {X : Type 0} → (Left → List X) → ℕ → ℕ → Left → List X
at_now g s now l = cond (eqb (s + l.at) now) (g l) []

abbrev pub before_now : {X : Type 0} → (Left → List X) → ℕ → ℕ → Left → List X
before_now g s now l = cond (ltb (s + l.at) now) (g l) []

module _ {X : Type 0} (g : Left → List X) (s : ℕ) where
  none_yet : (now a : ℕ) (ls : List Left) → Rises a ls → now ≤ s + a → joined (before_now g s now) ls ≡ []
  none_yet now a [] r late = refl
  none_yet now a (l ∷ ls) r late = grind (arith, le-ltb, none_yet now l.at ls r.1 (omega (arith, r.0)))

  one_more : (now a : ℕ) (ls : List Left) → Rises a ls → joined (before_now g s now) ls ++ joined (at_now g s now) ls ≡ joined (before_now g s (suc now)) ls
  one_more now a [] r = refl
  one_more now a (l ∷ ls) r = by (ltb (s + l.at) now) (eqb (s + l.at) now) (ltb (s + l.at) (suc now)) refl refl refl (one_more now l.at ls r.1) (λ late. none_yet now l.at ls r.1 late)
    where
      old : List X
      old = joined (before_now g s now) ls

      here : List X
      here = joined (at_now g s now) ls

      new : List X
      new = joined (before_now g s (suc now)) ls

      by : (b c d : Bool) → ltb (s + l.at) now ≡ b → eqb (s + l.at) now ≡ c → ltb (s + l.at) (suc now) ≡ d → old ++ here ≡ new → (now ≤ s + l.at → old ≡ [])
          → (cond b (g l) [] ++ old) ++ (cond c (g l) [] ++ here) ≡ cond d (g l) [] ++ new
      by true true d e f h next none = absurd (omega (arith, ltb-true (s + l.at) now e, eqb-true (s + l.at) now f))
      by true false true e f h next none = append_assoc (g l) old here ∙ ap (λ (xs : List X). g l ++ xs) next
      by true false false e f h next none = absurd (omega (arith, ltb-true (s + l.at) now e, ltb-false (s + l.at) (suc now) h))
      by false true true e f h next none =
          let nothing : old ≡ [] = none (ltb-false (s + l.at) now e) in
          ap (λ (xs : List X). xs ++ (g l ++ here)) nothing ∙ ap (λ (xs : List X). g l ++ xs) (ap (λ (xs : List X). xs ++ here) (sym nothing) ∙ next)
      by false true false e f h next none = absurd (omega (arith, eqb-true (s + l.at) now f, ltb-false (s + l.at) (suc now) h))
      by false false true e f h next none = absurd (eqb-false (s + l.at) now f (omega (arith, ltb-false (s + l.at) now e, ltb-true (s + l.at) (suc now) h)))
      by false false false e f h next none = next

  pub in_order : (a : ℕ) (ls : List Left) → Rises a ls → (n : ℕ) → up_to (λ now. joined (at_now g s now) ls) n ≡ joined (before_now g s n) ls
  in_order a ls r zero = sym (none_yet 0 a ls r (omega arith))
  in_order a ls r (suc n) = ap (λ (xs : List X). xs ++ joined (at_now g s n) ls) (in_order a ls r n) ∙ one_more n a ls r
