-- The tests of the rules on periods find exactly what the words say.
use Rattle.std.proofs.Common.{◌≡◌, ◌≢◌, ℕ, ◌%◌, ◌⊎◌, false, eqb, Option, Some, None, refl, sym, ap, subst, arith}
use Rattle.htl_form.proofs.Words.{nat_tests, Mode, Inv, End, Tables, mode_period, comm_period, asked_period, PeriodDiffers, NotDivided, EndNotDivided, unless, unless_asked, module_period_fault, divides, divides_fault, end_divides_fault, eqb_apart}
use Rattle.htl_model.specs.declared.parts.End.TheVariants as E
use Rattle.htl_form.proofs.Finding.{Finds, finds_nothing, finds_unless}

-- two numbers that differ
pub finds_equal : (x y : ℕ) → Finds (unless (eqb x y) x y) (λ h n. (h ≡ x) × (n ≡ y) × (h ≢ n))
finds_equal x y =
    finds_unless (eqb x y) x y (λ h n. (h ≡ x) × (n ≡ y) × (h ≢ n)) (λ off. (refl, refl, eqb_apart x y off)) (λ h m p. (same x y h m p.0 p.1 p.2, p.0, p.1))
  where
    same : (x y h m : ℕ) → h ≡ x → m ≡ y → h ≢ m → eqb x y ≡ false
    same x y h m a b c = grind (arith, nat_tests)

pub inner : (x h : ℕ) → Some x ≡ Some h → h ≡ x
inner x h e = cc

pub finds_asked : (x : ℕ) (o : Option ℕ) → Finds (unless_asked x o) (λ h n. (h ≡ x) × (o ≡ Some n) × (h ≢ n))
finds_asked x (Some y) =
    let f = finds_equal x y in
    record {
      says = λ h n e. (let p = f.says h n e in (p.0, ap (λ (z : ℕ). Some z) (sym p.1), p.2));
      finds = λ h n p. f.finds h n (p.0, inner y n p.1, p.2);
    }
finds_asked x None =
    record { says = λ h n e. absurd (let no : None ≡ Some (h, n) = e in cc); finds = λ h n p. absurd (let no : None ≡ Some n = p.1 in cc) }

pub module_period_is : (t : Tables) (x : Mode) → Finds (module_period_fault t x) (PeriodDiffers t x)
module_period_is t x = finds_asked x.period (asked_period t x.«module»)

pub divides_is : (t : Tables) (m c : ℕ) → Finds (divides_fault t m c) (NotDivided t m c)
divides_is t m c =
    finds_unless (divides (comm_period t c) (mode_period t m)) (comm_period t c) (mode_period t m) (NotDivided t m c)
    (λ off. (refl, refl, left (comm_period t c) (mode_period t m) off)) (λ h n p. (back (comm_period t c) (mode_period t m) h n p.0 p.1 p.2, p.0, p.1))
  where
    left : (p w : ℕ) → divides p w ≡ false → (p ≡ 0) ⊎ (w % p ≢ 0)
    left p w e = grind (arith, nat_tests)

    back : (p w h m : ℕ) → h ≡ p → m ≡ w → (h ≡ 0) ⊎ (m % h ≢ 0) → divides p w ≡ false
    back p w h m a b c = let d : (p ≡ 0) ⊎ (w % p ≢ 0) = subst (λ (x : ℕ). (x ≡ 0) ⊎ (w % x ≢ 0)) a (subst (λ (y : ℕ). (h ≡ 0) ⊎ (y % h ≢ 0)) b c) in grind (arith, nat_tests)

pub end_divides_is : (t : Tables) (i : Inv) (e : End) → Finds (end_divides_fault t i e) (EndNotDivided t i e)
end_divides_is t i (E.Comm c n) = divides_is t i.mode c
end_divides_is t i (E.Port p) = finds_nothing
