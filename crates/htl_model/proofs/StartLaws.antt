-- The invocations of a mode stand together, and a search for what breaks a rule there looks at them alone.
use Rattle.std.proofs.Common.{◌≡◌, ◌<◌, ◌≤◌, ℕ, zero, suc, ◌+◌, Bool, true, false, cond, eqb, List, [], ◌∷◌, length, get_or, drop, map, Some, None, refl, ◌∙◌, ap, subst, arith}
use Rattle.htl_model.proofs.Words.{nat_tests, get_or-map, length-map, slice_get_within, get_or_from_slice_get, Inv, Switch, first_from, AreInRange, Found, Tests, at_inv, at_read, at_switch, told, inv_in_mode, IsStartOf, Tables, slice_get}
use Rattle.htl_model.proofs.FirstLaws.{nothing_first, nothing_from, nothing_before}

-- the modes of invocations don't fall
pub modes_rise : (t : Tables) (p q : ℕ) (i j : Inv) → AreInRange t → slice_get t.invs p ≡ Some i → slice_get t.invs q ≡ Some j → p ≤ q → i.mode ≤ j.mode
modes_rise t p q i j r at_p at_q le =
    let below_q : q < length t.invs = slice_get_within t.invs q j at_q in
    let below_p : p < length t.invs = slice_get_within t.invs p i at_p in
    let rise : get_or (map (λ (x : Inv). x.mode) t.invs) p 0 ≤ get_or (map (λ (x : Inv). x.mode) t.invs) q 0 = r.invs_by_mode p q 0 le (simp length-map below_q) in
    let is_p : get_or (map (λ (x : Inv). x.mode) t.invs) p 0 ≡ i.mode = get_or-map (λ (x : Inv). x.mode) t.invs p i 0 below_p ∙ ap (λ (x : Inv). x.mode) (get_or_from_slice_get t.invs p i i at_p) in
    let is_q : get_or (map (λ (x : Inv). x.mode) t.invs) q 0 ≡ j.mode = get_or-map (λ (x : Inv). x.mode) t.invs q j 0 below_q ∙ ap (λ (x : Inv). x.mode) (get_or_from_slice_get t.invs q j j at_q) in
    omega arith

-- where an invocation of mode m or a later one stands, all behind it are such
pub rise_above : (t : Tables) (m k : ℕ) (x : Inv) → AreInRange t → slice_get t.invs k ≡ Some x → m ≤ x.mode → (q : ℕ) (i : Inv) → k ≤ q → slice_get t.invs q ≡ Some i → m ≤ i.mode
rise_above t m k x r at h q i le at_q = omega (arith, modes_rise t k q x i r at at_q le)

-- the first mode's invocations begin the list
pub first_start : (t : Tables) → IsStartOf t 0 0
first_start t = record { within = omega arith; below = λ q i less at. absurd (omega arith); above = λ q i le at. omega arith }

other_mode : (f : Tests) (n u m k : ℕ) (i : Inv) → eqb i.mode m ≡ false → inv_in_mode f n u m k i ≡ None
other_mode f n u m k i e = ap (λ b. cond b (told n u m (Some k) (at_inv f k i)) None) e

-- nothing is found before the mode's invocations
pub found_from_start : (t : Tables) (f : Tests) (n u m b : ℕ) → IsStartOf t m b → first_from (inv_in_mode f n u m) b (drop b t.invs) ≡ first_from (inv_in_mode f n u m) 0 t.invs
found_from_start t f n u m b s = grind (arith, nothing_before, other_mode)

-- nor behind them
pub nothing_later : (t : Tables) (f : Tests) (n u m e : ℕ) → IsStartOf t (m + 1) e → first_from (inv_in_mode f n u m) e (drop e t.invs) ≡ None
nothing_later t f n u m e s =
    nothing_from (inv_in_mode f n u m) e (drop e t.invs)
    (λ q i at. other_mode f n u m (e + q) i (let high = s.above (e + q) i (omega arith) (slice_dropped t.invs e q i at) in grind (arith, nat_tests)))
  where
    slice_dropped : (xs : List Inv) (e q : ℕ) (i : Inv) → slice_get (drop e xs) q ≡ Some i → slice_get xs (e + q) ≡ Some i
    slice_dropped xs zero q i at = let zero_add : q ≡ 0 + q = omega arith in subst (λ j. slice_get xs j ≡ Some i) zero_add at
    slice_dropped [] (suc e) q i at = cc
    slice_dropped (x ∷ xs) (suc e) q i at = let step : suc (e + q) ≡ suc e + q = omega arith in subst (λ j. slice_get (x ∷ xs) j ≡ Some i) step (slice_dropped xs e q i at)

-- ---- what isn't judged

left : (b : Bool) (o : Found) → o ≡ None → cond b o None ≡ None
left true o e = e
left false o e = refl

-- tests that find nothing at what switches read find nothing at switches
pub no_switch : (f : Tests) (m : ℕ) (ws : List Switch) → ((c : ℕ) → f.test m c ≡ None) → first_from (at_switch f m) 0 ws ≡ None
no_switch f m ws h = nothing_first (at_switch f m) 0 ws (λ l w. left _ _ (nothing_first (at_read f m) 0 w.reads (λ j c. h c)))
