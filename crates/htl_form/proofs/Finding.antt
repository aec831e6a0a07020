-- A test finds exactly what a relation says.
use Rattle.std.proofs.Common.{◌≡◌, ℕ, Bool, true, false, Some, None, refl, subst}
use Rattle.htl_model.specs.Found.{Found, unless}

-- what is found is what the relation holds of
pub record Finds (o : Found) (P : ℕ → ℕ → Type 0) : Type 0 where
  pub says : (h n : ℕ) → o ≡ Some (h, n) → P h n
  pub finds : (h n : ℕ) → P h n → o ≡ Some (h, n)

pub finds_nothing : Finds None (λ _ _. ⊥)
finds_nothing = record { says = λ h n e. (let no : None ≡ Some (h, n) = e in cc); finds = λ h n p. absurd p }

-- a test that finds x and y where it is false
pub finds_unless : (b : Bool) (x y : ℕ) (P : ℕ → ℕ → Type 0) → (b ≡ false → P x y) → ((h n : ℕ) → P h n → (b ≡ false) × (h ≡ x) × (n ≡ y)) → Finds (unless b x y) P
finds_unless true x y P made taken =
    record { says = λ h n e. absurd (let no : None ≡ Some (h, n) = e in cc); finds = λ h n p. absurd (let no : true ≡ false = (taken h n p).0 in cc) }
finds_unless false x y P made taken =
    record {
      says = λ h n e. (let pair : (x, y) ≡ (h, n) = cc in subst (λ (q : ℕ × ℕ). P q.0 q.1) pair (made refl));
      finds = λ h n p. (let a = (taken h n p).1 in let b = (taken h n p).2 in cc);
    }
