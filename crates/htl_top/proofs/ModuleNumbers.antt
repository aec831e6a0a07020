-- The number of modules that a word asks for: it is the first whose decimal digits the word is.
use Rattle.std.proofs.Common.{arith, ◌≡◌, ◌<◌, ◌≤◌, ◌⊎◌, ℕ, zero, suc, Bool, true, cond, List, Option, None, Some, sym, ap, ◌∙◌, subst, inl, inr}
use Rattle.htl_top.proofs.Vocabulary.{decimal, bytes_eq}
use Rattle.htl_top.specs.Words.{decimal_to, modules_in}

module _ (word : List ℕ) where
  here : (n : ℕ) → decimal_to n word ≡ None → bytes_eq word (decimal (suc n)) ≡ true → decimal_to (suc n) word ≡ Some (suc n)
  here n none same =
      ap (λ (o : Option ℕ). elim o [ Some k ↦ Some k | None ↦ cond (bytes_eq word (decimal (suc n))) (Some (suc n)) None ]) none
      ∙ ap (λ (b : Bool). cond b (Some (suc n)) None) same

  up_or_here : (n m : ℕ) → n ≤ suc m → (n ≤ m) ⊎ (n ≡ suc m)
  up_or_here n m h = grind arith

  stays : (m n k : ℕ) → n ≤ m → decimal_to n word ≡ Some k → decimal_to m word ≡ Some k
  stays zero n k h is = ap (λ (j : ℕ). decimal_to j word) (let z : 0 ≡ n = omega (arith, h) in z) ∙ is
  stays (suc m) n k h is = elim (up_or_here n m h) [
    | inl le ↦ ap (λ (o : Option ℕ). elim o [ Some j ↦ Some j | None ↦ cond (bytes_eq word (decimal (suc m))) (Some (suc m)) None ]) (stays m n k le is)
    | inr e ↦ ap (λ (j : ℕ). decimal_to j word) (sym e) ∙ is
  ]

  pub found : (n j : ℕ) → j ≡ suc n → n < 64 → decimal_to n word ≡ None → bytes_eq word (decimal j) ≡ true → modules_in word ≡ Some j
  unfolding modules_in
  found n j e few none same =
      subst (λ (i : ℕ). decimal_to 64 word ≡ Some i) (sym e)
      (stays 64 (suc n) (suc n) (omega (arith, few)) (here n none (subst (λ (i : ℕ). bytes_eq word (decimal i) ≡ true) e same)))

  pub none_found : (n : ℕ) → n ≡ 64 → decimal_to n word ≡ None → modules_in word ≡ None
  unfolding modules_in
  none_found n e none = ap (λ (i : ℕ). decimal_to i word) (sym e) ∙ none
