-- A walk that is ahead of another: earlier, and with no more work left.
use Rattle.std.proofs.Common.{ℕ, ◌≤◌, ◌<◌, List, [], ◌∷◌, get_or, subst, arith, inl, inr}
use Rattle.htl_walk.proofs.Words.{Job, SInstr, Dispatch, Idle, End, Point, job_at, work_after, next_point, last_point, cases_eq}
use Rattle.htl_walk.proofs.Steps.{work_below_running, time_below, left_same, left_other, left_falls}

pub record Ahead (js ks : List Job) (x y : Point) : Type 0 where
  pub time : x.time ≤ y.time
  pub left : (q : ℕ) → get_or x.left q 0 ≤ get_or y.left q 0
  pub release : (q : ℕ) → 0 < get_or x.left q 0 → (job_at js q).release ≤ (job_at ks q).release

ahead_left : (js ks : List Job) (i : SInstr) (x y : Point) → Ahead js ks x y → (q : ℕ) → get_or (next_point js i x).left q 0 ≤ get_or (next_point ks i y).left q 0
ahead_left js ks (Dispatch p h) x y a q =
    elim (cases_eq p q) [
      | inl e ↦
          subst (λ z. get_or (next_point js (Dispatch p h) x).left z 0 ≤ get_or (next_point ks (Dispatch p h) y).left z 0) e
          (rw (left_same x.left p x.time (job_at js p).release h, left_same y.left p y.time (job_at ks p).release h)
          (work_below_running x.time y.time (get_or x.left p 0) (get_or y.left p 0) (job_at js p).release (job_at ks p).release h a.time (a.left p) (a.release p)))
      | inr n ↦
          omega (
            arith,
            left_other x.left p q (work_after x.time (get_or x.left p 0) (job_at js p).release h) n,
            left_other y.left p q (work_after y.time (get_or y.left p 0) (job_at ks p).release h) n,
            a.left q,
          )
    ]
ahead_left js ks _ x y a q = a.left q

ahead_time : (js ks : List Job) (i : SInstr) (x y : Point) → Ahead js ks x y → (next_point js i x).time ≤ (next_point ks i y).time
ahead_time js ks (Dispatch p h) x y a =
    time_below x.time y.time (get_or x.left p 0) (get_or y.left p 0) (job_at js p).release (job_at ks p).release h a.time (a.left p) (a.release p)
ahead_time js ks (Idle h) x y a = omega (arith, a.time)
ahead_time js ks End x y a = a.time

pub ahead_next : (js ks : List Job) (i : SInstr) (x y : Point) → Ahead js ks x y → Ahead js ks (next_point js i x) (next_point ks i y)
ahead_next js ks i x y a =
    record {
      time = ahead_time js ks i x y a;
      left = ahead_left js ks i x y a;
      release = λ q h. a.release q (omega (arith, left_falls js i x q));
    }

-- it stays ahead
pub ahead_last : (js ks : List Job) (is : List SInstr) (x y : Point) → Ahead js ks x y → Ahead js ks (last_point js is x) (last_point ks is y)
ahead_last js ks [] x y a = a
ahead_last js ks (i ∷ is) x y a = ahead_last js ks is (next_point js i x) (next_point ks i y) (ahead_next js ks i x y a)
