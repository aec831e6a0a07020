-- The slices of a job that finishes add up to its work.
use Rattle.std.proofs.Common.{◌≡◌, ◌≢◌, ℕ, zero, suc, ◌+◌, ◌≤◌, ◌<◌, ◌⊎◌, Bool, true, false, cond, eqb, ltb, List, [], ◌∷◌, get_or, Some, None, refl, sym, ap, ◌∙◌, arith, inl, inr}
use Rattle.htl_refine.proofs.Words.{eq-eqb, ne_eqb, ltb-true, ltb-false, cases_eq, Job, SInstr, Dispatch, Idle, End, Point, job_at, dispatch_begins, time_after, work_after, slice_between, slice_onto, next_point, walk_from, last_point, finish, slices, no_finish, left_other, left_same, spent}
use Rattle.htl_refine.proofs.RecordOrder.{not_some}

-- what one dispatch does of the work
one_spent : (now w r until : ℕ) (ss : List (ℕ × ℕ)) → spent (slice_onto (slice_between (dispatch_begins now r until) until w (time_after now w r until)) ss) + work_after now w r until ≡ spent ss + w
one_spent now zero r until ss = omega arith
one_spent now (suc w) r until ss = grind (arith, ltb-true, ltb-false)

adds_up : (jobs : List Job) (is : List SInstr) (x : Point) (p : ℕ) → spent (slices (walk_from jobs is x) p) + get_or (last_point jobs is x).left p 0 ≡ get_or x.left p 0
adds_up jobs [] x p = omega arith
adds_up jobs (Idle h ∷ is) x p = adds_up jobs is (next_point jobs (Idle h) x) p
adds_up jobs (End ∷ is) x p = adds_up jobs is x p
adds_up jobs (Dispatch q h ∷ is) x p = by_position (cases_eq q p) (adds_up jobs is (next_point jobs (Dispatch q h) x) p)
  where
    y : Point
    y = next_point jobs (Dispatch q h) x

    w : ℕ
    w = get_or x.left q 0

    r : ℕ
    r = (job_at jobs q).release

    by_position : (q ≡ p) ⊎ (q ≢ p) → spent (slices (walk_from jobs is y) p) + get_or (last_point jobs is y).left p 0 ≡ get_or y.left p 0
        → spent (cond (eqb q p) (slice_onto (slice_between (dispatch_begins x.time r h) h w y.time) (slices (walk_from jobs is y) p)) (slices (walk_from jobs is y) p)) + get_or (last_point jobs is y).left p 0 ≡ get_or x.left p 0
    by_position (inl e) ih =
        let here : get_or y.left p 0 ≡ work_after x.time w r h = ap (λ z. get_or y.left z 0) (sym e) ∙ left_same x.left q x.time r h in
        let cut : spent (cond (eqb q p) (slice_onto (slice_between (dispatch_begins x.time r h) h w y.time) (slices (walk_from jobs is y) p)) (slices (walk_from jobs is y) p))
        ≡ spent (slice_onto (slice_between (dispatch_begins x.time r h) h w (time_after x.time w r h)) (slices (walk_from jobs is y) p)) =
        ap (λ b. spent (cond b (slice_onto (slice_between (dispatch_begins x.time r h) h w y.time) (slices (walk_from jobs is y) p)) (slices (walk_from jobs is y) p))) (eq-eqb q p e) in
        omega (arith, ih, here, ap (λ z. get_or x.left z 0) (sym e), cut, one_spent x.time w r h (slices (walk_from jobs is y) p))
    by_position (inr n) ih =
        let cut : spent (cond (eqb q p) (slice_onto (slice_between (dispatch_begins x.time r h) h w y.time) (slices (walk_from jobs is y) p)) (slices (walk_from jobs is y) p)) ≡ spent (slices (walk_from jobs is y) p) =
        ap (λ b. spent (cond b (slice_onto (slice_between (dispatch_begins x.time r h) h w y.time) (slices (walk_from jobs is y) p)) (slices (walk_from jobs is y) p))) (ne_eqb q p n) in
        omega (arith, ih, left_other x.left q p (work_after x.time w r h) n, cut)

-- who finishes did all its work
pub spent_is : (jobs : List Job) (is : List SInstr) (x : Point) (p f : ℕ) → finish (walk_from jobs is x) p ≡ Some f → spent (slices (walk_from jobs is x) p) ≡ get_or x.left p 0
spent_is jobs is x p f e = grind (arith, adds_up, not_some, no_finish)
