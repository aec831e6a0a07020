-- Records before t do not depend on the lengths of jobs that are released at t or later.
use Rattle.std.proofs.Common.{◌≡◌, ◌≢◌, ℕ, zero, suc, ◌≤◌, ◌<◌, max, true, false, cond, ltb, List, [], ◌∷◌, get_or, None, refl, sym, ap, ap₂, ◌∙◌, subst, arith, ◌⊎◌, inl, inr}
use Rattle.htl_walk.proofs.Words.{le-ltb, cases_eq, cases_lt, Job, SInstr, Dispatch, Idle, End, Point, job_at, dispatch_begins, time_after, work_after, next_point, left_by, walk_from, work, first_point, earlier, HaveLengths, AgreeBefore, UnreleasedLengths}
use Rattle.htl_walk.proofs.{Work.job_there, Work.work_present, Work.present_or_idle, Steps.left_same, Steps.left_other, Steps.left_falls, Steps.time_rises}
use Rattle.htl_walk.proofs.Waiting.{told_same, waited, told_waits, time_waits, work_waits}

-- the same for what is released before t, and for what isn't no more than whether anything is left
pub record Alike (jobs : List Job) (t : ℕ) (x y : Point) : Type 0 where
  pub time : x.time ≡ y.time
  pub released : (q : ℕ) → (job_at jobs q).release < t → get_or x.left q 0 ≡ get_or y.left q 0
  pub unreleased : (q : ℕ) → t ≤ (job_at jobs q).release → ((get_or x.left q 0 ≡ 0) × (get_or y.left q 0 ≡ 0)) ⊎ ((0 < get_or x.left q 0) × (0 < get_or y.left q 0))

late : (jobs : List Job) (is : List SInstr) (x : Point) (t : ℕ) → t ≤ x.time → earlier t (walk_from jobs is x) ≡ []
late jobs [] x t h = refl
late jobs (i ∷ is) x t h =
    let y = next_point jobs i x in
    let r : x.time ≤ y.time = time_rises jobs i x in
    let rest : earlier t (walk_from jobs is y) ≡ [] = late jobs is y t (omega arith) in
    ap (λ b. cond b (left_by jobs i x y ∷ earlier t (walk_from jobs is y)) (earlier t (walk_from jobs is y))) (le-ltb y.time t (omega arith)) ∙ rest

-- a step from alike points: the records are the same and the points stay alike, or both are late
record Same (jobs : List Job) (t : ℕ) (i : SInstr) (x y : Point) : Type 0 where
  told : left_by jobs i x (next_point jobs i x) ≡ left_by jobs i y (next_point jobs i y)
  alike : Alike jobs t (next_point jobs i x) (next_point jobs i y)

record Late (t : ℕ) (x y : Point) : Type 0 where
  one : t ≤ x.time
  two : t ≤ y.time

is_late : (now w r h t : ℕ) → t ≤ r → dispatch_begins now r h < h → 0 < w → t ≤ time_after now w r h
is_late now zero r h t a b c = absurd (omega arith)
is_late now (suc w) r h t a b c = omega arith

-- ---- a dispatch from alike points

module _ (jobs : List Job) (t p h : ℕ) (x y : Point) (a : Alike jobs t x y) where
  same_left : get_or x.left p 0 ≡ get_or y.left p 0 →
      get_or (next_point jobs (Dispatch p h) x).left p 0 ≡ get_or (next_point jobs (Dispatch p h) y).left p 0
  same_left e =
      left_same x.left p x.time (job_at jobs p).release h
      ∙ ap₂ (λ n w. work_after n w (job_at jobs p).release h) a.time e
      ∙ sym (left_same y.left p y.time (job_at jobs p).release h)

  other_x : (q : ℕ) → p ≢ q → get_or (next_point jobs (Dispatch p h) x).left q 0 ≡ get_or x.left q 0
  other_x q n = left_other x.left p q (work_after x.time (get_or x.left p 0) (job_at jobs p).release h) n

  other_y : (q : ℕ) → p ≢ q → get_or (next_point jobs (Dispatch p h) y).left q 0 ≡ get_or y.left q 0
  other_y q n = left_other y.left p q (work_after y.time (get_or y.left p 0) (job_at jobs p).release h) n

  Rest : ℕ → ℕ → Type 0
  Rest v w = ((v ≡ 0) × (w ≡ 0)) ⊎ ((0 < v) × (0 < w))

  -- alike again, where p is alike again
  alike_again : time_after x.time (get_or x.left p 0) (job_at jobs p).release h ≡ time_after y.time (get_or y.left p 0) (job_at jobs p).release h →
      ((job_at jobs p).release < t → get_or (next_point jobs (Dispatch p h) x).left p 0 ≡ get_or (next_point jobs (Dispatch p h) y).left p 0) →
      (t ≤ (job_at jobs p).release → Rest (get_or (next_point jobs (Dispatch p h) x).left p 0) (get_or (next_point jobs (Dispatch p h) y).left p 0)) →
      Alike jobs t (next_point jobs (Dispatch p h) x) (next_point jobs (Dispatch p h) y)
  unfolding Rest
  alike_again e f g =
      record {
        time = e;
        released = λ q k.
            elim (cases_eq p q) [
              | inl z ↦ subst (λ m. get_or (next_point jobs (Dispatch p h) x).left m 0 ≡ get_or (next_point jobs (Dispatch p h) y).left m 0) z (f (subst (λ m. (job_at jobs m).release < t) (sym z) k))
              | inr n ↦ other_x q n ∙ a.released q k ∙ sym (other_y q n)
            ];
        unreleased = λ q k.
            elim (cases_eq p q) [
              | inl z ↦ subst (λ m. Rest (get_or (next_point jobs (Dispatch p h) x).left m 0) (get_or (next_point jobs (Dispatch p h) y).left m 0)) z (g (subst (λ m. t ≤ (job_at jobs m).release) (sym z) k))
              | inr n ↦ subst (λ m. Rest m (get_or (next_point jobs (Dispatch p h) y).left q 0)) (sym (other_x q n)) (subst (λ m. Rest (get_or x.left q 0) m) (sym (other_y q n)) (a.unreleased q k))
            ];
      }

  same_work : get_or x.left p 0 ≡ get_or y.left p 0 → (t ≤ (job_at jobs p).release → get_or x.left p 0 ≡ 0) → Same jobs t (Dispatch p h) x y
  unfolding Rest
  same_work e z =
      record {
        told = told_same p (job_at jobs p).release h x.time y.time (get_or x.left p 0) (get_or y.left p 0) _ _ a.time e (same_left e);
        alike = alike_again (ap₂ (λ n w. time_after n w (job_at jobs p).release h) a.time e) (λ _. same_left e)
            (λ k.
            let v : get_or (next_point jobs (Dispatch p h) x).left p 0 ≡ 0 = omega (arith, left_falls jobs (Dispatch p h) x p, z k) in
            inl (v, sym (same_left e) ∙ v));
      }

  waits : t ≤ (job_at jobs p).release → h ≤ dispatch_begins x.time (job_at jobs p).release h → 0 < get_or x.left p 0 → 0 < get_or y.left p 0 → Same jobs t (Dispatch p h) x y
  unfolding Rest
  waits k u v w =
      let u' : h ≤ dispatch_begins y.time (job_at jobs p).release h = omega (arith, a.time) in
      let vx : get_or (next_point jobs (Dispatch p h) x).left p 0 ≡ get_or x.left p 0 =
      left_same x.left p x.time (job_at jobs p).release h ∙ work_waits x.time (get_or x.left p 0) (job_at jobs p).release h u in
      let vy : get_or (next_point jobs (Dispatch p h) y).left p 0 ≡ get_or y.left p 0 =
      left_same y.left p y.time (job_at jobs p).release h ∙ work_waits y.time (get_or y.left p 0) (job_at jobs p).release h u' in
      record {
        told =
            told_waits p (job_at jobs p).release h x.time (get_or x.left p 0) _ v (omega arith) u
            ∙ ap (λ n. waited p (dispatch_begins n (job_at jobs p).release h)) a.time
            ∙ sym (told_waits p (job_at jobs p).release h y.time (get_or y.left p 0) _ w (omega arith) u');
        alike = alike_again
            (time_waits x.time (get_or x.left p 0) (job_at jobs p).release h u v ∙ ap (λ n. dispatch_begins n (job_at jobs p).release h) a.time ∙ sym (time_waits y.time (get_or y.left p 0) (job_at jobs p).release h u' w))
            (λ m. absurd (omega arith)) (λ m. inr (omega arith, omega arith));
      }

step : (jobs : List Job) (t : ℕ) (i : SInstr) (x y : Point) → Alike jobs t x y → Same jobs t i x y ⊎ Late t (next_point jobs i x) (next_point jobs i y)
step jobs t (Idle h) x y a =
    inl (record { told = ap (λ n. record { at = max n h; position = None; slice = None; finished = false }) a.time; alike = record { time = ap (λ n. max n h) a.time; released = a.released; unreleased = a.unreleased } })
step jobs t End x y a =
    inl (record { told = ap (λ n. record { at = n; position = None; slice = None; finished = false }) a.time; alike = a })
step jobs t (Dispatch p h) x y a =
    elim (cases_lt (job_at jobs p).release t) [
      | inl q ↦ inl (same_work jobs t p h x y a (a.released p q) (λ k. absurd (omega arith)))
      | inr q ↦
          elim (a.unreleased p q) [
            | inl z ↦ inl (same_work jobs t p h x y a (z.0 ∙ sym z.1) (λ _. z.0))
            | inr z ↦
                elim (cases_lt (dispatch_begins x.time (job_at jobs p).release h) h) [
                  | inl u ↦ inr (record { one = is_late x.time (get_or x.left p 0) (job_at jobs p).release h t q u z.0; two = is_late y.time (get_or y.left p 0) (job_at jobs p).release h t q (omega (arith, a.time)) z.1 })
                  | inr u ↦ inl (waits jobs t p h x y a q u z.0 z.1)
                ]
          ]
    ]

pub alike_walks : (jobs : List Job) (t : ℕ) (is : List SInstr) (x y : Point) → Alike jobs t x y → earlier t (walk_from jobs is x) ≡ earlier t (walk_from jobs is y)
alike_walks jobs t [] x y a = refl
alike_walks jobs t (i ∷ is) x y a =
    elim (step jobs t i x y a) [
      | inl s ↦
          ap₂ (λ l rest. cond (ltb l.at t) (l ∷ rest) rest) s.told (alike_walks jobs t is (next_point jobs i x) (next_point jobs i y) s.alike)
      | inr l ↦ gone i is x l.one ∙ sym (gone i is y l.two)
    ]
  where
    gone : (k : SInstr) (ks : List SInstr) (z : Point) → t ≤ (next_point jobs k z).time → earlier t (walk_from jobs (k ∷ ks) z) ≡ []
    gone k ks z h =
        ap (λ b. cond b (left_by jobs k z (next_point jobs k z) ∷ earlier t (walk_from jobs ks (next_point jobs k z))) (earlier t (walk_from jobs ks (next_point jobs k z)))) (le-ltb (next_point jobs k z).time t h)
        ∙ late jobs ks (next_point jobs k z) t h

module _ (jobs : List Job) (ns ms : List ℕ) (t : ℕ) (some_ns : HaveLengths jobs ns) (some_ms : HaveLengths jobs ms) (agree : AgreeBefore t jobs ns ms) where
  present_work : (ls : List ℕ) (q : ℕ) → (job_at jobs q).present ≡ true → get_or (work jobs ls) q 0 ≡ get_or ls q 0
  present_work ls q e = work_present jobs ls q (job_at jobs q) (job_there jobs q e) e

  same_released : (q : ℕ) → (job_at jobs q).release < t → get_or (work jobs ns) q 0 ≡ get_or (work jobs ms) q 0
  same_released q h = grind (arith, present_or_idle, present_work, job_there)

  both_some : (q : ℕ) → ((get_or (work jobs ns) q 0 ≡ 0) × (get_or (work jobs ms) q 0 ≡ 0)) ⊎ ((0 < get_or (work jobs ns) q 0) × (0 < get_or (work jobs ms) q 0))
  both_some q = grind (arith, present_work, job_there, present_or_idle)

  alike_first : Alike jobs t (first_point jobs ns) (first_point jobs ms)
  alike_first = record { time = refl; released = same_released; unreleased = λ q _. both_some q }

-- the law of lengths that aren't released yet
pub unreleased_lengths : UnreleasedLengths
unreleased_lengths jobs ns ms s t a b agree = alike_walks jobs t s (first_point jobs ns) (first_point jobs ms) (alike_first jobs ns ms t a b agree)
