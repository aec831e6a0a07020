-- A list that goes on with further positions.
use Rattle.std.proofs.Common.{◌≡◌, ℕ, ◌+◌, ◌-◌, ◌≤◌, ◌<◌, Bool, true, false, eqb, List, ◌++◌, length, get_or, take, replicate, refl, sym, ap, ap₂, ◌∙◌, arith, inl, inr}
use Rattle.htl_smach.proofs.Words.{cases_lt, Job, SInstr, Point, job_at, last_point, work, left_falls_to, job_there, work_some, Pending, Round, state_by, state_of, added, Stands, IsEven, CanBegin, StandsAdded}
use Rattle.htl_smach.proofs.{Joined.job_left, Joined.job_right, Joined.get_left, Joined.get_right, Joined.both_parts, RoundRecords.IsPending, RoundRecords.pending_is, RoundRecords.is_pending}

-- the positions so far are in the states in which they were
pub state_added : (r : Round) (at : ℕ) (jobs : List Job) (lengths : List ℕ) → IsEven r → (p : ℕ) → p < length r.jobs → state_of (added r at jobs lengths) p ≡ state_of r p
state_added r at jobs lengths even p below =
    ap (λ (j : Job). state_by j.present (eqb (get_or (r.point.left ++ work jobs lengths) p 0) 0) (get_or (r.released ++ replicate (length jobs) false) p false)) (job_left r.jobs jobs p below)
    ∙ ap₂ (λ (n : ℕ) (b : Bool). state_by (job_at r.jobs p).present (eqb n 0) b)
    (get_left r.point.left (work jobs lengths) p 0 (omega (arith, even.left)))
    (get_left r.released (replicate (length jobs) false) p false (omega (arith, even.released)))

module _ (r : Round) (s : List SInstr) (at : ℕ) (jobs : List Job) (lengths : List ℕ) (st : Stands r s) (even : IsEven r) (can : CanBegin r (at - r.start) jobs lengths) where
  work_added : (p : ℕ) → 0 < get_or (r.point.left ++ work jobs lengths) p 0 → (job_at (r.jobs ++ jobs) p).present ≡ true
  work_added p some = elim (cases_lt p (length r.jobs)) [
    | inl l ↦
        let here : get_or (r.point.left ++ work jobs lengths) p 0 ≡ get_or r.point.left p 0 = get_left r.point.left (work jobs lengths) p 0 (omega (arith, even.left)) in
        let e : get_or r.point.left p 0 ≡ get_or (last_point r.jobs (take r.place s) r.first).left p 0 = ap (λ (z : Point). get_or z.left p 0) st.point in
        ap (λ (j : Job). j.present) (job_left r.jobs jobs p l) ∙ st.work p (omega (arith, e, left_falls_to r.jobs (take r.place s) r.first p))
    | inr l ↦
        let q = p - length r.jobs in
        let is : length r.jobs + q ≡ p = omega arith in
        let isw : length r.point.left + q ≡ p = omega (arith, even.left) in
        let here : get_or (r.point.left ++ work jobs lengths) p 0 ≡ get_or (work jobs lengths) q 0 = ap (λ k. get_or (r.point.left ++ work jobs lengths) k 0) (sym isw) ∙ get_right r.point.left (work jobs lengths) q 0 in
        ap (λ k. (job_at (r.jobs ++ jobs) k).present) (sym is) ∙ ap (λ (j : Job). j.present) (job_right r.jobs jobs q) ∙ work_some jobs lengths q (omega arith)
  ]

  pending_added : (p : ℕ) → state_of (added r at jobs lengths) p ≡ Pending → at - r.start ≤ (job_at (r.jobs ++ jobs) p).release
  pending_added p e =
      let now : IsPending (added r at jobs lengths) p = pending_is (added r at jobs lengths) p e in
      elim (cases_lt p (length r.jobs)) [
        | inl l ↦
            let j : job_at (r.jobs ++ jobs) p ≡ job_at r.jobs p = job_left r.jobs jobs p l in
            let was : IsPending r p = record {
              present = sym (ap (λ (k : Job). k.present) j) ∙ now.present;
              left = sym (ap (λ n. eqb n 0) (get_left r.point.left (work jobs lengths) p 0 (omega (arith, even.left)))) ∙ now.left;
              told = sym (get_left r.released (replicate (length jobs) false) p false (omega (arith, even.released))) ∙ now.told;
            } in
            omega (arith, can.told p (is_pending r p was), ap (λ (k : Job). k.release) j)
        | inr l ↦
            let q = p - length r.jobs in
            let j : job_at (r.jobs ++ jobs) p ≡ job_at jobs q = ap (job_at (r.jobs ++ jobs)) (sym (omega arith)) ∙ job_right r.jobs jobs q in
            let here : (job_at jobs q).present ≡ true = sym (ap (λ (k : Job). k.present) j) ∙ now.present in
            omega (arith, can.later q (job_at jobs q) (job_there jobs q here) here, ap (λ (k : Job). k.release) j)
      ]

pub stands_added : StandsAdded
stands_added r s at jobs lengths t st even can = record {
  point = refl;
  work = work_added r s at jobs lengths st even can;
  lengths = both_parts (λ n j. 1 ≤ n) r.jobs jobs r.lengths lengths even.lengths st.lengths can.least;
  worst = both_parts (λ n j. n ≤ j.worst) r.jobs jobs r.lengths lengths even.lengths st.worst can.most;
  pending = pending_added r s at jobs lengths st even can;
}
