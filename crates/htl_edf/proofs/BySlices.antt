-- A list of slices as ticks: the law of refusal on slices alone.
use Rattle.std.proofs.Common.{◌≡◌, ℕ, zero, suc, ◌+◌, ◌-◌, ◌<◌, ◌≤◌, max, min, Bool, true, false, cond, ◌&&◌, ◌||◌, refl, sym, ap, ap₂, le_refl, ◌∙◌, arith, eqb, eqb-true, leb, ltb, leb-true, ltb-true, ⊎_elim, ℤ, List, [], ◌∷◌}
use Rattle.htl_edf.proofs.Words.{both_ways, and_parts, or_cases, nat_tests, sum_below, bit, given, OneATick, Overloaded, Jobs, NoCycle, TicksMeet, tight, Slice, Each, Apart, DoNotOverlap, ticks_of, covers, on_slices, SlicesMeet}
use Rattle.htl_edf.proofs.{Counting.sum_below-same, Counting.sum_below-add, Counting.sum_below-none, Optimal.given-mono, Tightened.refuses}

covers_tells : (s : Slice) (x q : ℕ) → covers s x q ≡ true → (s.position ≡ q) × (s.start ≤ x) × (x < s.end)
covers_tells s x q e = let a = and_parts _ _ e in let b = and_parts _ _ a.1 in (eqb-true _ _ a.0, leb-true _ _ b.0, ltb-true _ _ b.1)

-- what holds of each slice holds of the one that has tick x
at_tick : (P : Slice → Type 0) (ss : List Slice) (x q : ℕ) → Each P ss → on_slices ss x q ≡ true → (s : Slice) × P s × (s.position ≡ q) × (s.start ≤ x) × (x < s.end)
at_tick P [] x q h e = absurd (both_ways _ refl e)
at_tick P (s ∷ ss) x q h e = ⊎_elim
    (λ a. let c = covers_tells s x q a in (s, h.0, c.0, c.1, c.2))
    (λ b. at_tick P ss x q h.1 b)
    (or_cases _ _ e)

-- a slice and the rest share no tick
alone : (s : Slice) (ss : List Slice) (x p q : ℕ) → Each (Apart s) ss → covers s x p ≡ true → on_slices ss x q ≡ true → ⊥
alone s ss x p q h e f =
    let c = covers_tells s x p e in
    let r = at_tick (Apart s) ss x q h f in
    ⊎_elim (λ a. absurd (omega (arith, r.3, c.2))) (λ b. absurd (omega (arith, r.4, c.1))) r.1

pub one_a_tick : (ss : List Slice) → DoNotOverlap ss → OneATick (on_slices ss)
one_a_tick [] h x p q e f = absurd (both_ways _ refl e)
one_a_tick (s ∷ ss) h x p q e f = ⊎_elim
    (λ a. ⊎_elim
    (λ b. sym (covers_tells s x p a).0 ∙ (covers_tells s x q b).0)
    (λ b. absurd (alone s ss x p q h.0 a b))
    (or_cases _ _ f))
    (λ a. ⊎_elim
    (λ b. absurd (alone s ss x q p h.0 b a))
    (λ b. one_a_tick ss h.1 x p q a b)
    (or_cases _ _ f))
    (or_cases _ _ e)

-- the ticks from a on and below b
bit_between : (a b t : ℕ) → bit (leb a t && ltb t b) + (min t b - a) ≡ min (suc t) b - a
bit_between a b t = grind (arith, nat_tests)

count_between : (a b t : ℕ) → sum_below (λ x. bit (leb a x && ltb x b)) t ≡ min t b - a
count_between a b zero = omega arith
count_between a b (suc t) = omega (arith, count_between a b t, bit_between a b t)

bit-or : (s r : Bool) → (s ≡ true → r ≡ true → ⊥) → bit (s || r) ≡ bit s + bit r
bit-or true true h = absurd (h refl refl)
bit-or true false h = omega arith
bit-or false r h = omega arith

count_covers : (s : Slice) (q T : ℕ) → (s.position ≡ q → s.end ≤ T) → sum_below (λ x. bit (covers s x q)) T ≡ cond (eqb s.position q) (s.end - s.start) 0
count_covers s q T h = by (eqb s.position q) refl
  where
    by : (b : Bool) → eqb s.position q ≡ b → sum_below (λ x. bit (b && (leb s.start x && ltb x s.end))) T ≡ cond b (s.end - s.start) 0
    by true e = omega (arith, count_between s.start s.end T, h (eqb-true _ _ e))
    by false e = sum_below-none T

-- where each slice of q ends by T, the ticks of q before T are all of its ticks
given-ticks : (ss : List Slice) (q T : ℕ) → DoNotOverlap ss → Each (λ s. s.position ≡ q → s.end ≤ T) ss → given (on_slices ss) q T ≡ ticks_of ss q
given-ticks [] q T h e = sum_below-none T
given-ticks (s ∷ ss) q T h e =
    sum_below-same (λ x. bit (on_slices (s ∷ ss) x q)) (λ x. bit (covers s x q) + bit (on_slices ss x q)) T (λ x l. bit-or (covers s x q) (on_slices ss x q) (λ a b. alone s ss x q q h.0 a b))
    ∙ (sum_below-add (λ x. bit (covers s x q)) (λ x. bit (on_slices ss x q)) T
    ∙ ap₂ (λ a b. a + b) (count_covers s q T e.0) (given-ticks ss q T h.1 e.1))

-- a time by which each slice has ended
unfoldable pub last_end : List Slice → ℕ
last_end [] = 0
last_end (s ∷ ss) = max s.end (last_end ss)

ends_by : (ss : List Slice) (q T : ℕ) → last_end ss ≤ T → Each (λ s. s.position ≡ q → s.end ≤ T) ss
unfolding last_end
ends_by [] q T h = tt
ends_by (s ∷ ss) q T h = (λ _. omega arith, ends_by ss q T (omega arith))

pub Each-map : (P Q : Slice → Type 0) (ss : List Slice) → ((s : Slice) → P s → Q s) → Each P ss → Each Q ss
Each-map P Q [] f h = tt
Each-map P Q (s ∷ ss) f h = (f s h.0, Each-map P Q ss f h.1)

pub by_slices : (j : Jobs) (ss : List Slice) → SlicesMeet j ss → TicksMeet j (on_slices ss) (last_end ss)
by_slices j ss m = record {
  one = one_a_tick ss m.apart;
  all = λ q l. omega (arith, total q (last_end ss) (le_refl _), m.done q l);
  most = λ q t l. omega (arith, given-mono (on_slices ss) q t (max t (last_end ss)) (omega arith), total q (max t (last_end ss)) (omega arith), m.done q l);
  within = λ x q l e.
      let r = at_tick (λ s. s.position < j.count → (j.release s.position ≤ s.start) × (s.end ≤ j.end s.position)) ss x q m.within e in
      let w = r.1 (omega (arith, r.2)) in
      (omega (arith, w.0, r.3, ap j.release r.2), omega (arith, w.1, r.4, ap j.end r.2));
  after = λ x p q h l b e.
      let r = at_tick (λ s. Each (λ r. r.position < j.count → j.before r.position s.position ≡ true → r.end ≤ s.start) ss) ss x q m.after e in
      let s = r.0 in
      let early = Each-map (λ u. u.position < j.count → j.before u.position s.position ≡ true → u.end ≤ s.start) (λ u. u.position ≡ p → u.end ≤ x) ss
      (λ u f k. omega (arith, r.3, f (omega (arith, k)) (ap₂ j.before k r.2 ∙ b))) r.1 in
      omega (arith, given-ticks ss p x m.apart early, m.done p h);
}
  where
    total : (q T : ℕ) → last_end ss ≤ T → given (on_slices ss) q T ≡ ticks_of ss q
    total q T h = given-ticks ss q T m.apart (ends_by ss q T h)

-- the law of refusal: where an interval is overloaded no list of slices meets
pub no_slices : (j : Jobs) (o : NoCycle j) (a : ℕ) (b : ℤ) (demand : ℕ) → ((q : ℕ) → q < j.count → 0 < j.worst q) → Overloaded (tight j) a b demand → (ss : List Slice) → SlicesMeet j ss → ⊥
no_slices j o a b demand positive over ss m = refuses j o (on_slices ss) (last_end ss) a b demand positive over (by_slices j ss m)

pub Each-zip : (P Q R : Slice → Type 0) (ss : List Slice) → ((s : Slice) → P s → Q s → R s) → Each P ss → Each Q ss → Each R ss
Each-zip P Q R [] f h k = tt
Each-zip P Q R (s ∷ ss) f h k = (f s h.0 k.0, Each-zip P Q R ss f h.1 k.1)
