-- The recursion over the history, read as equations on the instants.
use Rattle.std.proofs.Common.{◌≡◌, ℕ, zero, suc, ◌-◌, ◌≤◌, ◌<◌, cond, ltb, List, ◌∷◌, length, get_or, slice_get, Some, None, ℤ, pos, refl, sym, ap, ◌∙◌, arith, inl, inr}
use Rattle.htl_model.proofs.Words.{lt-ltb, le-ltb, Event, Tables, State, History, history, state, newest, state_after, past, sense, val, cases_at_most}
use mathlib.Core.Path.{fun_ext}
use Rattle.htl_base.proofs.Numbers.{cases_le}

pub length-history : (t : Tables) (f : ℕ → ℕ → ℤ) (n : ℕ) → length (history t f n) ≡ suc n
length-history t f zero = refl
length-history t f (suc n) = ap suc (length-history t f n)

at_place : History → ℕ → ℕ → ℤ
at_place h c k = elim (slice_get h k) [ Some x ↦ get_or x.values c (pos 0) | None ↦ pos 0 ]

past_known : (h : History) (c u : ℕ) → u < length h → past h c u ≡ at_place h c (length h - suc u)
unfolding at_place
past_known h c u p = ap (λ b. cond b (at_place h c (length h - suc u)) (pos 0)) (lt-ltb u (length h) p)

past_older : (x : State) (h : History) (c u : ℕ) → u < length h → past (x ∷ h) c u ≡ past h c u
unfolding at_place
past_older x h c u p = grind (arith, past_known, at_place)

past_newest : (x : State) (h : History) (c u : ℕ) → u ≡ length h → past (x ∷ h) c u ≡ get_or x.values c (pos 0)
unfolding at_place
past_newest x h c u p = grind (arith, past_known, at_place)

-- the history holds the value of each instant so far
pub past_is : (t : Tables) (f : ℕ → ℕ → ℤ) (n c u : ℕ) → u ≤ n → past (history t f n) c u ≡ get_or (newest (history t f u)).values c (pos 0)
past_is t f zero c u p = rw (let e : u ≡ 0 = omega arith in e) refl
past_is t f (suc n) c u p =
    elim (cases_at_most u n p) [
      | inl q ↦ past_older (newest (history t f (suc n))) (history t f n) c u (omega (arith, length-history t f n)) ∙ past_is t f n c u q
      | inr e ↦
          past_newest (newest (history t f (suc n))) (history t f n) c u (e ∙ sym (length-history t f n))
          ∙ ap (λ w. get_or (newest (history t f w)).values c (pos 0)) (sym e)
    ]

past_later : (t : Tables) (f : ℕ → ℕ → ℤ) (n c u : ℕ) → n < u → past (history t f n) c u ≡ pos 0
unfolding at_place
past_later t f n c u p = ap (λ b. cond b (at_place (history t f n) c (length (history t f n) - suc u)) (pos 0)) (le-ltb u (length (history t f n)) (omega (arith, length-history t f n)))

-- what a read before `now` gives: the value then, and 0 where the read isn't before
abbrev pub seen_before : Tables → List Event → ℕ → ℕ → ℕ → ℤ
seen_before t es now c u = cond (ltb u now) (val t es c u) (pos 0)

past_is_val : (t : Tables) (es : List Event) (n c u : ℕ) → past (history t (sense t es) n) c u ≡ seen_before t es (suc n) c u
past_is_val t es n c u = grind (arith, cases_le, past_is, lt-ltb, past_later, le-ltb)

-- the state at each later instant, by that at the instant before and the values read
pub state_step : (t : Tables) (es : List Event) (n : ℕ) →
    state t es (suc n) ≡ state_after t (sense t es) (seen_before t es (suc n)) (state t es n) (suc n)
state_step t es n =
    ap (λ seen. state_after t (sense t es) seen (state t es n) (suc n)) (fun_ext (λ c. fun_ext (λ u. past_is_val t es n c u)))
