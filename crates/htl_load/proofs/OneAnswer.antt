-- What loading answers of bytes is one answer.
use Rattle.std.proofs.Common.{◌≡◌, ◌⊎◌, ℕ, List, Option, Some, Ok, Err, refl, sym, ◌∙◌, subst, inl, inr}
use Rattle.htl_load.proofs.Refusals.{accepted_is_not_refused, one_fault}
use Rattle.htl_load.proofs.Words.{IsAccepted, IsRefused, HasBytes, RefusesObject, RefusesBytes, ObjectFault, fault_of, first_bad, whole_at, object_in, object_or, IsInRange, Read, Lists, Malformed, Object}
use Rattle.htl_load.specs.declared.fault.ObjectFault.TheVariants as fault

-- the bytes have a bad field, and this tells it
record TellsBadField (bytes : List ℕ) (f : ObjectFault) : Type 0 where
  malformed : Malformed
  is : f ≡ fault.Malformed malformed
  bad : first_bad bytes ≡ Some malformed

refusal : (bytes : List ℕ) (f : ObjectFault) → RefusesBytes bytes f → TellsBadField bytes f ⊎ RefusesObject bytes f
refusal bytes (fault.Malformed m) h = inl (record { malformed = m; is = refl; bad = h })
refusal bytes _ h = inr h

pub not_both : (bytes : List ℕ) (r : Read Lists) (o : Object) (m : Malformed) → object_or bytes r ≡ Ok o → fault_of bytes r ≡ Some m → ⊥
not_both bytes (Ok x) o m p q = cc
not_both bytes (Err bad) o m p q = cc

pub one_bad_field : (b : Option Malformed) (m n : Malformed) → b ≡ Some m → b ≡ Some n → m ≡ n
one_bad_field b m n p q = let both : ◌≡◌ {A = Option Malformed} (Some m) (Some n) = sym p ∙ q in cc

-- bytes with a bad field are refused for it alone
pub bad_field_told : (bytes : List ℕ) (m : Malformed) → first_bad bytes ≡ Some m → ((p : Object) → HasBytes bytes p → ⊥) → (f : ObjectFault) → RefusesBytes bytes f → f ≡ fault.Malformed m
bad_field_told bytes m bad none f h = elim (refusal bytes f h) [
  | inl b ↦ subst (λ (n : Malformed). f ≡ fault.Malformed n) (one_bad_field (first_bad bytes) b.malformed m b.bad bad) b.is
  | inr r ↦ absurd (none r.object r.has)
]

module _ (bytes : List ℕ) (o : Object) (says : object_in bytes ≡ Ok o) (one : (p : Object) → HasBytes bytes p → o ≡ p) where
  -- bytes of an object are refused for a fault of that object alone
  refused_object : (f : ObjectFault) → RefusesBytes bytes f → IsRefused o f
  refused_object f h = elim (refusal bytes f h) [
    | inl b ↦ absurd (not_both bytes (whole_at bytes) o b.malformed says b.bad)
    | inr r ↦ subst (λ (p : Object). IsRefused p f) (sym (one r.object r.has)) r.refused
  ]

  pub accepted_bytes : IsAccepted o → (f : ObjectFault) → RefusesBytes bytes f → ⊥
  accepted_bytes accepted f h = accepted_is_not_refused o f accepted (refused_object f h)

  pub fault_told : IsInRange o → (g : ObjectFault) → IsRefused o g → (f : ObjectFault) → RefusesBytes bytes f → f ≡ g
  fault_told range g refused f h = one_fault o f g range (refused_object f h) refused
