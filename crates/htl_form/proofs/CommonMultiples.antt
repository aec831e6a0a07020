-- The multiple that is the length of a frame is the least one that all periods divide.
use Rattle.std.proofs.Common.{◌≡◌, ◌<◌, ℕ, zero, suc, ◌-◌, ◌*◌, ◌/◌, ◌%◌, List, [], ◌∷◌, length, map, get_or, Option, Some, None, sym, ◌∙◌, ap, subst, arith}
use Rattle.std.specs.Int.{IsGcd, ◌∣◌}
use Rattle.htl_form.proofs.Words.{AllByRecursion, dvd_refl, dvd_trans, mul_comm, mul_assoc, mul_right_comm, mul-sub, dvd-sub, dvd-mul_left, dvd-mul_right_of_dvd, mul-dvd-mul_left, mul-dvd-mul_right, dvd_of_mul-dvd-mul_right, pos_of_dvd_of_pos, div-mul_cancel, mod-eq-sub-mul-div, greatest_divisor, roots_some, gcd_in, common_multiple, multiple_of, unit_period, root_modules, IsLcm, IsLcmOf, FramesAreLeast}

-- what divides two multiples divides that of the remainder
rest : (a b x d : ℕ) → d ∣ x * a → d ∣ x * b → d ∣ x * (a % b)
rest a b x d p q =
    subst (λ n. d ∣ n) (ap (λ n. x * a - n) (mul_assoc x b (a / b)) ∙ sym (mul-sub x a (b * (a / b))) ∙ ap (λ n. x * n) (sym (mod-eq-sub-mul-div a b))) (dvd-sub d p (dvd-mul_right_of_dvd d q (a / b)))

-- and that of the greatest common divisor
times : (n a b x d : ℕ) → b < n → d ∣ x * a → d ∣ x * b → d ∣ x * gcd_in n a b
times zero a b x d h p q = absurd (omega arith)
times (suc n) a zero x d h p q = p
times (suc n) a (suc b) x d h p q =
    let less : a % suc b < suc b = omega arith in
    times n (suc b) (a % suc b) x d (omega (arith, less, h)) q (rest a (suc b) x d p q)

-- The common multiple of two numbers, of which the second isn't 0, is the least.
pub common_multiple_is : (a b : ℕ) → 0 < b → IsLcm a b (common_multiple a b)
common_multiple_is a b some =
    let g = gcd_in (suc b) a b in
    let is : IsGcd a b g = greatest_divisor a b in
    let whole : a / g * g ≡ a = div-mul_cancel g is.0 in
    (subst (λ n. n ∣ a / g * b) whole (mul-dvd-mul_left g (a / g) is.1), dvd-mul_left b (a / g), λ m p q. least m p q (pos_of_dvd_of_pos is.1 some) whole)
  where
    least : (m : ℕ) → a ∣ m → b ∣ m → 0 < gcd_in (suc b) a b → a / gcd_in (suc b) a b * gcd_in (suc b) a b ≡ a → common_multiple a b ∣ m
    least m p q pos whole =
        dvd_of_mul-dvd-mul_right (common_multiple a b) pos
        (subst (λ n. n ∣ m * gcd_in (suc b) a b) (ap (λ n. n * b) (sym whole) ∙ mul_right_comm (a / gcd_in (suc b) a b) (gcd_in (suc b) a b) b)
        (times (suc b) a b m (a * b) (omega arith) (subst (λ n. a * b ∣ n) (mul_comm a m) (mul-dvd-mul_left b a q)) (mul-dvd-mul_right a p b)))

-- The multiple of a number and of those of a list, of which none is 0, is the least: all divide it, and it divides whatever all
-- divide. With the periods of the root modules it is the length of a frame.
pub multiple_is : (a : ℕ) (bs : List ℕ) → AllByRecursion (λ b. 0 < b) bs → IsLcmOf a bs (multiple_of a bs)
multiple_is a [] some = record { first = dvd_refl a; each = tt; least = λ m p all. p }
multiple_is a (b ∷ bs) some =
    let two = common_multiple_is a b some.0 in
    let more = multiple_is (common_multiple a b) bs some.1 in
    record { first = dvd_trans a two.0 more.first; each = (dvd_trans b two.1 more.first, more.each); least = λ m p all. more.least m (two.2 m p all.0) all.1 }

-- none of the periods of root modules is 0
some_periods : (f : ℕ → ℕ) (us : List ℕ) → ((j : ℕ) → j < length us → 0 < f (get_or us j 0)) → AllByRecursion (λ b. 0 < b) (map f us)
some_periods f [] h = tt
some_periods f (u ∷ us) h = (h 0 (omega arith), some_periods f us (λ j l. h (suc j) (omega (arith, l))))

pub frames_are_least : FramesAreLeast
frames_are_least t p ps range is =
    let some : AllByRecursion (λ b. 0 < b) (p ∷ ps) = subst (AllByRecursion (λ b. 0 < b)) is (some_periods (unit_period t) (root_modules t) (roots_some t range)) in
    subst (IsLcmOf p ps) (sym (ap (λ (qs : List ℕ). elim (elim qs as (λ _. Option ℕ) [ [] ↦ None | q ∷ rs ↦ Some (multiple_of q rs) ]) as (λ _. ℕ) [ Some h ↦ h | None ↦ 0 ]) is)) (multiple_is p ps some.1)
