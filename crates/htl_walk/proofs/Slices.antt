-- The slices in which a position runs.
use Rattle.std.proofs.Common.{◌≡◌, ◌≢◌, ℕ, zero, suc, ◌≤◌, ◌<◌, max, Bool, true, false, cond, ltb, List, [], ◌∷◌, get_or, slice_get, Some, None, refl, sym, ap, ◌∙◌, subst, arith, inl, inr}
use Rattle.htl_walk.proofs.Words.{eq-eqb, ne_eqb, ltb-true, cases_eq, Job, SInstr, Dispatch, Idle, End, Point, job_at, dispatch_begins, slice_between, slice_onto, AllWithin, next_point, walk_from, finish, slices, DoneBy, same_Some}
use Rattle.htl_walk.proofs.{Steps.left_falls, Steps.time_rises, Finishes.ends, Finishes.finish_now, Finishes.finish_later, Finishes.finish_after}

slice_fits : (from until w to r t : ℕ) (ss : List (ℕ × ℕ)) → (from < until → r ≤ from) → to ≤ t → AllWithin r t ss → AllWithin r t (slice_onto (slice_between from until w to) ss)
slice_fits from until zero to r t ss a b h = h
slice_fits from until (suc w) to r t ss a b h = grind (arith, ltb-true)

no_slices : (jobs : List Job) (is : List SInstr) (x : Point) (p : ℕ) → get_or x.left p 0 ≡ 0 → slices (walk_from jobs is x) p ≡ []
no_slices jobs [] x p e = refl
no_slices jobs (Dispatch r h ∷ is) x p e =
    let y = next_point jobs (Dispatch r h) x in
    let rest : slices (walk_from jobs is y) p ≡ [] = no_slices jobs is y p (omega (arith, left_falls jobs (Dispatch r h) x p)) in
    let from = dispatch_begins x.time (job_at jobs r).release h in
    elim (cases_eq r p) [
      | inl q ↦
          let none : slice_between from h (get_or x.left r 0) y.time ≡ None =
          ap (λ w. slice_between from h w y.time) (ap (λ z. get_or x.left z 0) q ∙ e) in
          ap (λ b. cond b (slice_onto (slice_between from h (get_or x.left r 0) y.time) (slices (walk_from jobs is y) p)) (slices (walk_from jobs is y) p)) (eq-eqb r p q)
          ∙ ap (λ o. slice_onto o (slices (walk_from jobs is y) p)) none ∙ rest
      | inr n ↦
          ap (λ b. cond b (slice_onto (slice_between from h (get_or x.left r 0) y.time) (slices (walk_from jobs is y) p)) (slices (walk_from jobs is y) p)) (ne_eqb r p n) ∙ rest
    ]
no_slices jobs (Idle h ∷ is) x p e = no_slices jobs is (next_point jobs (Idle h) x) p e
no_slices jobs (End ∷ is) x p e = no_slices jobs is x p e

-- the first part of a fact on what a dispatch adds to the slices of p
slices_dispatch : (jobs : List Job) (r h : ℕ) (is : List SInstr) (x : Point) (p : ℕ) → r ≡ p →
    slices (walk_from jobs (Dispatch r h ∷ is) x) p
    ≡ slice_onto (slice_between (dispatch_begins x.time (job_at jobs r).release h) h (get_or x.left r 0) (next_point jobs (Dispatch r h) x).time) (slices (walk_from jobs is (next_point jobs (Dispatch r h) x)) p)
slices_dispatch jobs r h is x p q = grind (arith, eq-eqb)

pub slices_other : (jobs : List Job) (r h : ℕ) (is : List SInstr) (x : Point) (p : ℕ) → r ≢ p →
    slices (walk_from jobs (Dispatch r h ∷ is) x) p ≡ slices (walk_from jobs is (next_point jobs (Dispatch r h) x)) p
slices_other jobs r h is x p q = grind (arith, ne_eqb)

begins_released : (now r h : ℕ) → dispatch_begins now r h < h → r ≤ dispatch_begins now r h
begins_released now r h e = omega arith

-- what is done by t has its slices from the release to t
pub slices_within : (jobs : List Job) (is : List SInstr) (x : Point) (p t : ℕ) → DoneBy (walk_from jobs is x) p t → AllWithin (job_at jobs p).release t (slices (walk_from jobs is x) p)
slices_within jobs [] x p t d = tt
slices_within jobs (i ∷ is) x p t d =
    let y = next_point jobs i x in
    elim (ends (get_or x.left p 0) (get_or y.left p 0)) [
      | inl q ↦
          let s : y.time ≡ d.0 = same_Some _ _ (sym (finish_now jobs i is x p q.0 q.1) ∙ d.1) in
          onto i refl (omega (arith, d.2)) (rw (no_slices jobs is y p q.1) tt)
      | inr c ↦
          let e : finish (walk_from jobs is y) p ≡ Some d.0 = sym (finish_later jobs i is x p c) ∙ d.1 in
          let s : y.time ≤ d.0 = finish_after jobs is y p d.0 e in
          onto i refl (omega (arith, d.2)) (slices_within jobs is y p t (d.0, e, d.2))
    ]
  where
    onto : (k : SInstr) → k ≡ i → (next_point jobs k x).time ≤ t → AllWithin (job_at jobs p).release t (slices (walk_from jobs is (next_point jobs k x)) p) → AllWithin (job_at jobs p).release t (slices (walk_from jobs (k ∷ is) x) p)
    onto (Dispatch r h) e b s = grind (arith, cases_eq, slices_dispatch, slice_fits, begins_released, slices_other)
    onto (Idle h) e b s = s
    onto End e b s = s

-- no slice begins before the walk does
head_onto : (from until w to : ℕ) (ss : List (ℕ × ℕ)) (s : ℕ × ℕ) (a : ℕ) → a ≤ from → (slice_get ss 0 ≡ Some s → a ≤ s.0) → slice_get (slice_onto (slice_between from until w to) ss) 0 ≡ Some s → a ≤ s.0
head_onto from until zero to ss s a h k e = k e
head_onto from until (suc w) to ss s a h k e = grind (arith, same_Some)

pub slices_start : (jobs : List Job) (is : List SInstr) (x : Point) (p : ℕ) (s : ℕ × ℕ) → slice_get (slices (walk_from jobs is x) p) 0 ≡ Some s → x.time ≤ s.0
slices_start jobs [] x p s e = cc
slices_start jobs (Dispatch r h ∷ is) x p s e =
    let y = next_point jobs (Dispatch r h) x in
    let t : x.time ≤ y.time = time_rises jobs (Dispatch r h) x in
    elim (cases_eq r p) [
      | inl q ↦
          head_onto (dispatch_begins x.time (job_at jobs r).release h) h (get_or x.left r 0) y.time (slices (walk_from jobs is y) p) s x.time (omega arith)
          (λ k. let u : y.time ≤ s.0 = slices_start jobs is y p s k in omega arith)
          (sym (ap (λ l. slice_get l 0) (slices_dispatch jobs r h is x p q)) ∙ e)
      | inr n ↦ let u : y.time ≤ s.0 = slices_start jobs is y p s (sym (ap (λ l. slice_get l 0) (slices_other jobs r h is x p n)) ∙ e) in omega arith
    ]
slices_start jobs (Idle h ∷ is) x p s e = grind (arith, slices_start jobs is (next_point jobs (Idle h) x) p s e)
slices_start jobs (End ∷ is) x p s e = slices_start jobs is x p s e
