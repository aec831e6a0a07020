-- The slices of a frame are in order of time, and don't overlap.
use Rattle.std.proofs.Common.{◌≡◌, ℕ, zero, suc, ◌+◌, ◌-◌, ◌≤◌, ◌<◌, Bool, true, false, ltb, List, [], ◌∷◌, ◌++◌, length, get_or, slice_get, Option, Some, None, sym, ap, ◌∙◌, arith, inl, inr}
use Rattle.htl_refine.proofs.Words.{cases_lt, Job, SInstr, Dispatch, Leg, list_point, walks_from, end_to_end, AreInForm, AreChained, Point, Left, job_at, dispatch_begins, slice_between, next_point, walk_from, last_point, slice_of, time_rises, SlicesAreApart, get_back, within_front, same_Some}
use Rattle.htl_refine.proofs.RecordOrder.{not_some, times_within}

-- ---- in one list

-- a slice begins no earlier than the walk, and ends with its record
pub slice_inside : (jobs : List Job) (i : SInstr) (x : Point) (s : ℕ × ℕ) → slice_of jobs i x (next_point jobs i x).time ≡ Some s → (x.time ≤ s.0) × (s.1 ≡ (next_point jobs i x).time)
slice_inside jobs (Dispatch p h) x s e = grind (arith, not_some, same_Some)
slice_inside jobs _ x s e = not_some s e

pub slice_from : (jobs : List Job) (is : List SInstr) (x : Point) (m : ℕ) (b : Left) (u : ℕ × ℕ) → slice_get (walk_from jobs is x) m ≡ Some b → b.slice ≡ Some u → x.time ≤ u.0
slice_from jobs [] x m b u e f = not_some b e
slice_from jobs (i ∷ is) x zero b u e f = (slice_inside jobs i x u (ap (λ (z : Left). z.slice) (same_Some _ _ e) ∙ f)).0
slice_from jobs (i ∷ is) x (suc m) b u e f = let r : (next_point jobs i x).time ≤ u.0 = slice_from jobs is (next_point jobs i x) m b u e f in omega (arith, r, time_rises jobs i x)

pub slices_apart : (jobs : List Job) (is : List SInstr) (x : Point) → SlicesAreApart (walk_from jobs is x)
slices_apart jobs [] x k m a b s u h e f g d = not_some a e
slices_apart jobs (i ∷ is) x k zero a b s u h e f g d = absurd (omega arith)
slices_apart jobs (i ∷ is) x zero (suc m) a b s u h e f g d =
    let later : (next_point jobs i x).time ≤ u.0 = slice_from jobs is (next_point jobs i x) m b u f d in
    omega (arith, (slice_inside jobs i x s (ap (λ (z : Left). z.slice) (same_Some _ _ e) ∙ g)).1)
slices_apart jobs (i ∷ is) x (suc k) (suc m) a b s u h e f g d = slices_apart jobs is (next_point jobs i x) k m a b s u (omega arith) e f g d

-- a slice ends with its record
slice_to : (jobs : List Job) (is : List SInstr) (x : Point) (k : ℕ) (a : Left) (s : ℕ × ℕ) → slice_get (walk_from jobs is x) k ≡ Some a → a.slice ≡ Some s → s.1 ≡ a.at
slice_to jobs [] x k a s e g = not_some a e
slice_to jobs (i ∷ is) x zero a s e g = (slice_inside jobs i x s (ap (λ (z : Left). z.slice) (same_Some _ _ e) ∙ g)).1 ∙ ap (λ (z : Left). z.at) (same_Some _ _ e)
slice_to jobs (i ∷ is) x (suc k) a s e g = slice_to jobs is (next_point jobs i x) k a s e g

-- ---- in all lists

-- the slices of lists that begin at a begin there or later
path_from : (jobs : List Job) (ss : List (List SInstr)) (gs : List Leg) (a h n : ℕ) (x : Point) (m : ℕ) (b : Left) (u : ℕ × ℕ) → AreInForm ss gs → AreChained a h n gs
    → slice_get (end_to_end (walks_from jobs ss gs x)) m ≡ Some b → b.slice ≡ Some u → a ≤ u.0
path_from jobs [] gs a h n x m b u f c e d = not_some b e
path_from jobs (s ∷ ss) [] a h n x m b u f c e d = absurd f
path_from jobs (s ∷ ss) (g ∷ gs) a h n x m b u f c e d = elim (cases_lt m (length (walk_from jobs s (list_point g.from x)))) [
  | inl l ↦ here l
  | inr l ↦ there l (λ q at. path_from jobs ss gs g.to h n (last_point jobs s (list_point g.from x)) q b u f.1 c.3 at d)
]
  where
    here : m < length (walk_from jobs s (list_point g.from x)) → a ≤ u.0
    here l =
        let y = list_point g.from x in
        let ms = end_to_end (walks_from jobs ss gs (last_point jobs s y)) in
        let r : g.from ≤ u.0 = slice_from jobs s y m b u (sym (within_front (walk_from jobs s y) ms m l) ∙ e) d in omega (arith, r, c.0)

    there : length (walk_from jobs s (list_point g.from x)) ≤ m → ((q : ℕ) → slice_get (end_to_end (walks_from jobs ss gs (last_point jobs s (list_point g.from x)))) q ≡ Some b → g.to ≤ u.0) → a ≤ u.0
    there l ih =
        let y = list_point g.from x in
        let ls = walk_from jobs s y in
        let ms = end_to_end (walks_from jobs ss gs (last_point jobs s y)) in
        let q = m - length ls in
        let r : g.to ≤ u.0 = ih q (sym (get_back ls ms q) ∙ ap (slice_get (ls ++ ms)) (omega (arith, l)) ∙ e) in omega (arith, r, c.0, c.1)

pub path_apart : (jobs : List Job) (ss : List (List SInstr)) (gs : List Leg) (a h n : ℕ) (x : Point) → AreInForm ss gs → AreChained a h n gs → SlicesAreApart (end_to_end (walks_from jobs ss gs x))
path_apart jobs [] gs a h n x f c k m p q s u l e g d i = not_some p e
path_apart jobs (t ∷ ss) [] a h n x f c k m p q s u l e g d i = absurd f
path_apart jobs (t ∷ ss) (v ∷ gs) a h n x f c k m p q s u l e g d z =
    elim (cases_lt m (length (walk_from jobs t (list_point v.from x)))) [
      | inl b ↦ both b
      | inr b ↦ elim (cases_lt k (length (walk_from jobs t (list_point v.from x)))) [
        | inl b' ↦ across b' b
        | inr b' ↦ later b' b (λ i j o at to. path_apart jobs ss gs v.to h n (last_point jobs t (list_point v.from x)) f.1 c.3 i j p q s u o at to d z)
      ]
    ]
  where
    both : m < length (walk_from jobs t (list_point v.from x)) → s.1 ≤ u.0
    both b =
        let y = list_point v.from x in
        let ls = walk_from jobs t y in
        let ms = end_to_end (walks_from jobs ss gs (last_point jobs t y)) in
        slices_apart jobs t y k m p q s u l (sym (within_front ls ms k (omega (arith, l, b))) ∙ e) (sym (within_front ls ms m b) ∙ g) d z

    across : k < length (walk_from jobs t (list_point v.from x)) → length (walk_from jobs t (list_point v.from x)) ≤ m → s.1 ≤ u.0
    across b' b =
        let y = list_point v.from x in
        let ls = walk_from jobs t y in
        let ms = end_to_end (walks_from jobs ss gs (last_point jobs t y)) in
        let r = m - length ls in
        let is : length ls + r ≡ m = omega (arith, b) in
        let at : slice_get ls k ≡ Some p = sym (within_front ls ms k b') ∙ e in
        let late : v.to ≤ u.0 = path_from jobs ss gs v.to h n (last_point jobs t y) r q u f.1 c.3 (sym (get_back ls ms r) ∙ ap (slice_get (ls ++ ms)) is ∙ g) z in
        omega (arith, slice_to jobs t y k p s at d, times_within jobs v.known v.to t y f.0 c.1 k p at, late)

    later : length (walk_from jobs t (list_point v.from x)) ≤ k → length (walk_from jobs t (list_point v.from x)) ≤ m
        → ((i j : ℕ) → i < j → slice_get (end_to_end (walks_from jobs ss gs (last_point jobs t (list_point v.from x)))) i ≡ Some p → slice_get (end_to_end (walks_from jobs ss gs (last_point jobs t (list_point v.from x)))) j ≡ Some q → s.1 ≤ u.0)
        → s.1 ≤ u.0
    later b' b ih =
        let y = list_point v.from x in
        let ls = walk_from jobs t y in
        let ms = end_to_end (walks_from jobs ss gs (last_point jobs t y)) in
        let j = k - length ls in
        let r = m - length ls in
        let isj : length ls + j ≡ k = omega (arith, b') in
        let isr : length ls + r ≡ m = omega (arith, b) in
        ih j r (omega (arith, l, isj, isr)) (sym (get_back ls ms j) ∙ ap (slice_get (ls ++ ms)) isj ∙ e) (sym (get_back ls ms r) ∙ ap (slice_get (ls ++ ms)) isr ∙ g)
