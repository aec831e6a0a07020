-- The records of a frame are in order of time, and none comes after it.
use Rattle.std.proofs.Common.{◌≡◌, ℕ, zero, suc, ◌+◌, ◌-◌, ◌≤◌, ◌<◌, Bool, true, false, cond, ltb, List, [], ◌∷◌, ◌++◌, length, get_or, slice_get, Option, Some, None, refl, sym, ap, ◌∙◌, arith, inl, inr}
use Rattle.htl_refine.proofs.Words.{cases_lt, ltb-false, Job, SInstr, Dispatch, Idle, End, Leg, list_point, walks_from, end_to_end, AreInForm, AreChained, Point, Left, job_at, next_point, walk_from, last_point, InForm, time_rises, Rises, count_left_before, past_legs, get_back, within_front, same_Some, dispatch_stays}

-- nothing is not something
pub not_some : {A : Type 0} {P : Type 0} (a : A) → ◌≡◌ {A = Option A} None (Some a) → P
not_some a e = absurd (let z : ⊥ = cc in z)

pub walk_rises : (jobs : List Job) (is : List SInstr) (x : Point) → Rises x.time (walk_from jobs is x)
walk_rises jobs [] x = tt
walk_rises jobs (i ∷ is) x = (time_rises jobs i x, walk_rises jobs is (next_point jobs i x))

rises_later : (a b : ℕ) (ls : List Left) → a ≤ b → Rises b ls → Rises a ls
rises_later a b [] h r = tt
rises_later a b (l ∷ ls) h r = (omega (arith, r.0), r.1)

rises_join : (a b : ℕ) (ls ms : List Left) → a ≤ b → Rises a ls → ((k : ℕ) (l : Left) → slice_get ls k ≡ Some l → l.at ≤ b) → Rises b ms → Rises a (ls ++ ms)
rises_join a b [] ms h r w s = rises_later a b ms h s
rises_join a b (l ∷ ls) ms h r w s = (r.0, rises_join l.at b ls ms (w 0 l refl) r.1 (λ k m e. w (suc k) m e) s)

-- ---- a list ends by its bound

pub times_within : (jobs : List Job) (count period : ℕ) (is : List SInstr) (x : Point) → InForm count period is → x.time ≤ period → (k : ℕ) (l : Left) → slice_get (walk_from jobs is x) k ≡ Some l → l.at ≤ period
times_within jobs count period [] x f h k l e = absurd f
times_within jobs count period (End ∷ []) x f h zero l e = omega (arith, h, ap (λ (z : Left). z.at) (same_Some _ _ e))
times_within jobs count period (End ∷ []) x f h (suc k) l e = absurd (let z : ⊥ = cc in z)
times_within jobs count period (End ∷ j ∷ is) x f h k l e = absurd f.0
times_within jobs count period (Dispatch q until ∷ is) x f h zero l e =
    omega (arith, dispatch_stays x.time (get_or x.left q 0) (job_at jobs q).release until period h f.0.1, ap (λ (z : Left). z.at) (same_Some _ _ e))
times_within jobs count period (Dispatch q until ∷ is) x f h (suc k) l e =
    times_within jobs count period is (next_point jobs (Dispatch q until) x) f.1 (dispatch_stays x.time (get_or x.left q 0) (job_at jobs q).release until period h f.0.1) k l e
times_within jobs count period (Idle until ∷ is) x f h zero l e = omega (arith, h, f.0, ap (λ (z : Left). z.at) (same_Some _ _ e))
times_within jobs count period (Idle until ∷ is) x f h (suc k) l e = times_within jobs count period is (next_point jobs (Idle until) x) f.1 (omega (arith, h, f.0)) k l e

pub path_rises : (jobs : List Job) (ss : List (List SInstr)) (gs : List Leg) (a h n : ℕ) (x : Point) → AreInForm ss gs → AreChained a h n gs → Rises a (end_to_end (walks_from jobs ss gs x))
path_rises jobs [] [] a h n x f c = tt
path_rises jobs (s ∷ ss) (g ∷ gs) a h n x f c =
    let y = list_point g.from x in
    rises_later a g.from (end_to_end (walks_from jobs (s ∷ ss) (g ∷ gs) x)) (omega (arith, c.0))
    (rises_join g.from g.to (walk_from jobs s y) (end_to_end (walks_from jobs ss gs (last_point jobs s y))) c.1 (walk_rises jobs s y)
    (λ k l e. times_within jobs g.known g.to s y f.0 c.1 k l e) (path_rises jobs ss gs g.to h n (last_point jobs s y) f.1 c.3))
path_rises jobs _ _ a h n x f c = absurd f

-- ---- nothing is left after the frame

pub path_within : (jobs : List Job) (ss : List (List SInstr)) (gs : List Leg) (a h n : ℕ) (x : Point) (m : ℕ) (b : Left) → AreInForm ss gs → AreChained a h n gs
    → slice_get (end_to_end (walks_from jobs ss gs x)) m ≡ Some b → b.at ≤ h
path_within jobs [] gs a h n x m b f c e = not_some b e
path_within jobs (s ∷ ss) [] a h n x m b f c e = absurd f
path_within jobs (s ∷ ss) (g ∷ gs) a h n x m b f c e = elim (cases_lt m (length (walk_from jobs s (list_point g.from x)))) [
  | inl l ↦ here l
  | inr l ↦ there l (λ q at. path_within jobs ss gs g.to h n (last_point jobs s (list_point g.from x)) q b f.1 c.3 at)
]
  where
    here : m < length (walk_from jobs s (list_point g.from x)) → b.at ≤ h
    here l = grind (arith, times_within, within_front, past_legs)

    there : length (walk_from jobs s (list_point g.from x)) ≤ m → ((q : ℕ) → slice_get (end_to_end (walks_from jobs ss gs (last_point jobs s (list_point g.from x)))) q ≡ Some b → b.at ≤ h) → b.at ≤ h
    there l ih =
        let y = list_point g.from x in
        let ls = walk_from jobs s y in
        let ms = end_to_end (walks_from jobs ss gs (last_point jobs s y)) in
        let q = m - length ls in
        ih q (sym (get_back ls ms q) ∙ ap (slice_get (ls ++ ms)) (omega (arith, l)) ∙ e)

-- ---- the records before an offset

-- the records from the count on are left then or later
past_count : (a e : ℕ) (ls : List Left) (k : ℕ) (l : Left) → Rises a ls → count_left_before e ls ≤ k → slice_get ls k ≡ Some l → e ≤ l.at
past_count a e [] k l r h g = not_some l g
past_count a e (m ∷ ls) k l r h g = by_test (ltb m.at e) refl k h g (λ j b c. past_count m.at e ls j l r.1 b c)
  where
    least : (a : ℕ) (ms : List Left) (j : ℕ) (l : Left) → Rises a ms → slice_get ms j ≡ Some l → a ≤ l.at
    least a [] j l r e = not_some l e
    least a (m ∷ ms) zero l r e = omega (arith, r.0, ap (λ (z : Left). z.at) (same_Some _ _ e))
    least a (m ∷ ms) (suc j) l r e = omega (arith, r.0, least m.at ms j l r.1 e)

    by_test : (b : Bool) → ltb m.at e ≡ b → (j : ℕ) → cond b (suc (count_left_before e ls)) 0 ≤ j → slice_get (m ∷ ls) j ≡ Some l
        → ((j : ℕ) → count_left_before e ls ≤ j → slice_get ls j ≡ Some l → e ≤ l.at) → e ≤ l.at
    by_test false is j h g ih = omega (arith, ltb-false m.at e is, least m.at (m ∷ ls) j l (omega arith, r.1) g)
    by_test true is zero h g ih = absurd (omega arith)
    by_test true is (suc j) h g ih = ih j (omega arith) g

-- so a record that is left before is counted
pub counted : (a e : ℕ) (ls : List Left) (k : ℕ) (l : Left) → Rises a ls → slice_get ls k ≡ Some l → l.at < e → k < count_left_before e ls
counted a e ls k l r g h = elim (cases_lt k (count_left_before e ls)) [ inl b ↦ b | inr b ↦ absurd (omega (arith, h, past_count a e ls k l r b g)) ]
