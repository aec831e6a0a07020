-- The worst-case walk, followed instruction by instruction.
use Rattle.std.proofs.Common.{◌≡◌, ℕ, zero, suc, ◌≤◌, ◌<◌, List, [], ◌∷◌, length, get_or, slice_get, Some, refl, sym, ap, ◌∙◌, subst, arith, inl, inr}
use Rattle.htl_walk.proofs.Words.{All, slice_get-get_or, same_Some, ext_get_or, Job, Miss, SInstr, Dispatch, Idle, End, Point, job_at, next_point, walk, work, work_after, first_point, finish, InForm, ScheduleIsAccepted, worst_cases, worst_point, IsCleanBefore, IsFirstMiss, IsKnown, IsInTime, IsFollowed, IsMissAt, HasWork, each_at, cases_eq, cases_lt}
use Rattle.htl_walk.specs.declared.miss.Miss.TheVariants as miss
use Rattle.htl_walk.proofs.{Steps.left_other, Work.work_present, Work.worst_at, Acceptance.point_step, Acceptance.finish_at, Acceptance.accepted, ListMiss.clean_to, ListMiss.clean_of, ListMiss.before_to, ListMiss.late_miss_to}
use Rattle.htl_walk.proofs.Walked as walked
use Rattle.htl_walk.proofs.{Walked.IsWalked, Walked.walked_more, CodeWalk.work_length}

-- the walk was followed up to instruction k, to this point and these finish offsets
pub record IsFollowedTo (jobs : List Job) (s : List SInstr) (k : ℕ) (x : Point) (finishes : List ℕ) : Type 0 where
  pub point : x ≡ worst_point jobs s k
  pub clean : IsCleanBefore jobs s k
  pub done : (p : ℕ) → p < length jobs → get_or x.left p 0 ≡ 0 → finish (walk jobs (worst_cases jobs) s) p ≡ Some (get_or finishes p 0)
  pub in_time : (p : ℕ) → p < length jobs → get_or x.left p 0 ≡ 0 → get_or finishes p 0 ≤ (job_at jobs p).end

pub work_at : (jobs : List Job) → All HasWork jobs → (p : ℕ) → p < length jobs → 0 < get_or (work jobs (worst_cases jobs)) p 0
work_at jobs all p h =
    let at : slice_get jobs p ≡ Some (get_or jobs p (job_at jobs p)) = slice_get-get_or jobs p (job_at jobs p) h in
    let j = get_or jobs p (job_at jobs p) in
    let w : HasWork j = each_at HasWork jobs all p j at in
    omega (arith, work_present jobs (worst_cases jobs) p j at w.present, worst_at jobs p j at, w.worst)

pub followed_none : (jobs : List Job) (s : List SInstr) (finishes : List ℕ) → All HasWork jobs → IsFollowedTo jobs s 0 (first_point jobs (worst_cases jobs)) finishes
followed_none jobs s finishes all =
    record {
      point = refl;
      clean = record { early = λ m p q h e. absurd (omega arith); late = λ m p f h e. absurd (omega arith) };
      done = λ p h e. absurd (omega (arith, work_at jobs all p h));
      in_time = λ p h e. absurd (omega (arith, work_at jobs all p h));
    }

module _ (jobs : List Job) (s : List SInstr) (k : ℕ) (i : SInstr) (at : slice_get s k ≡ Some i) where
  as_walked : (x : Point) (fs : List ℕ) → IsFollowedTo jobs s k x fs → IsWalked jobs s (first_point jobs (worst_cases jobs)) k x
  as_walked x fs f = record { point = f.point; clean = clean_of jobs s k f.clean }

  point_more : (x y : Point) → x ≡ worst_point jobs s k → y ≡ next_point jobs i x → y ≡ worst_point jobs s (suc k)
  point_more x y e f = f ∙ ap (next_point jobs i) e ∙ sym (point_step jobs s k (first_point jobs (worst_cases jobs)) i at)

  clean_more : (x y : Point) (fs gs : List ℕ) → IsFollowedTo jobs s k x fs → IsFollowed jobs i x y fs gs → IsCleanBefore jobs s (suc k)
  clean_more x y fs gs f d = clean_to jobs s (suc k) (walked_more jobs s (first_point jobs (worst_cases jobs)) k i at x y fs gs (as_walked x fs f) d).clean

  finished_now : (x y : Point) → x ≡ worst_point jobs s k → y ≡ worst_point jobs s (suc k) → (p : ℕ) → 0 < get_or x.left p 0 → get_or y.left p 0 ≡ 0
      → finish (walk jobs (worst_cases jobs) s) p ≡ Some y.time
  finished_now x y e f p some none = grind (arith, finish_at)

  pub followed_more : (x y : Point) (fs gs : List ℕ) → IsFollowedTo jobs s k x fs → IsFollowed jobs i x y fs gs → IsFollowedTo jobs s (suc k) y gs
  followed_more x y fs gs f d =
      let after : y ≡ worst_point jobs s (suc k) = point_more x y f.point d.next in
      record {
        point = after;
        clean = clean_more x y fs gs f d;
        done = λ p h none. elim (cases_lt 0 (get_or x.left p 0)) [
          | inl some ↦ finished_now x y f.point after p some none ∙ ap Some (sym (d.finishes.finished p h some none))
          | inr idle ↦ let z : get_or x.left p 0 ≡ 0 = omega arith in f.done p h z ∙ ap Some (sym (d.finishes.others p (inl z)))
        ];
        in_time = λ p h none. elim (cases_lt 0 (get_or x.left p 0)) [
          | inl some ↦
              omega (arith, d.finishes.finished p h some none, finished_in_time i d.in_time d.next p some none)
          | inr idle ↦ let z : get_or x.left p 0 ≡ 0 = omega arith in omega (arith, f.in_time p h z, d.finishes.others p (inl z))
        ];
      }
    where
      finished_in_time : (i : SInstr) → IsInTime jobs i x y → y ≡ next_point jobs i x → (p : ℕ) → 0 < get_or x.left p 0 → get_or y.left p 0 ≡ 0 → y.time ≤ (job_at jobs p).end
      finished_in_time (Dispatch r until) time e p some none =
          elim (cases_eq r p) [
            | inl same ↦
                subst (λ n. y.time ≤ (job_at jobs n).end) same (time (subst (λ n. 0 < get_or x.left n 0) (sym same) some) (subst (λ n. get_or y.left n 0 ≡ 0) (sym same) none))
            | inr other ↦
                let kept : get_or y.left p 0 ≡ get_or x.left p 0 = ap (λ z. get_or z.left p 0) e ∙ left_other x.left r p (work_after x.time (get_or x.left r 0) (job_at jobs r).release until) other in
                absurd (omega arith)
          ]
      finished_in_time (Idle until) time e p some none = let kept : get_or y.left p 0 ≡ get_or x.left p 0 = ap (λ z. get_or z.left p 0) e in absurd (omega arith)
      finished_in_time End time e p some none = let kept : get_or y.left p 0 ≡ get_or x.left p 0 = ap (λ z. get_or z.left p 0) e in absurd (omega arith)

  -- the miss of instruction k, where nothing went wrong before it, is the first
  pub missed_here : (period : ℕ) (x : Point) (fs : List ℕ) (m : Miss) → InForm (length jobs) period s → IsFollowedTo jobs s k x fs → IsMissAt jobs i k x m → IsFirstMiss jobs period s m
  missed_here period x fs (miss.Before p q place) form f d = grind (arith, before_to, as_walked)
  missed_here period x fs (miss.Late p g window_end) form f d =
      late_miss_to jobs s period p g window_end (walked.missed_here jobs s (first_point jobs (worst_cases jobs)) k i at (length jobs) period x (miss.Late p g window_end) form (as_walked x fs f) d)
  missed_here period x fs _ form f d = absurd d

-- work that is left at the end
pub unfinished : (jobs : List Job) (period : ℕ) (s : List SInstr) (x : Point) (fs : List ℕ) (p left : ℕ) → InForm (length jobs) period s → IsFollowedTo jobs s (length s) x fs
    → left ≡ get_or x.left p 0 → 0 < get_or x.left p 0 → ((q : ℕ) → q < p → get_or x.left q 0 ≡ 0) → IsFirstMiss jobs period s (miss.Unfinished p left)
unfinished jobs period s x fs p left form f is some lowest = (
  form,
  record {
    clean = f.clean;
    is = subst (λ z. left ≡ get_or z.left p 0) f.point is;
    some = omega arith;
    lowest = λ q h. subst (λ z. get_or z.left q 0 ≡ 0) f.point (lowest q h);
  },
)

-- the walk was followed to its end and nothing is left
pub followed_all : (jobs : List Job) (period : ℕ) (s : List SInstr) (x : Point) (fs : List ℕ) → All HasWork jobs → InForm (length jobs) period s → IsFollowedTo jobs s (length s) x fs
    → ((q : ℕ) → get_or x.left q 0 ≡ 0) → ScheduleIsAccepted jobs period s
followed_all jobs period s x fs all form f none =
    accepted jobs period s all form f.clean (λ p h. (get_or fs p 0, f.done p h (none p), f.in_time p h (none p)))

pub known_at : (count period : ℕ) (s : List SInstr) (k : ℕ) (i : SInstr) → InForm count period s → slice_get s k ≡ Some i → IsKnown count i
known_at count period [] k i f e = cc
known_at count period (End ∷ []) (suc k) i f e = cc
known_at count period (End ∷ j ∷ is) k i f e = absurd f.0
known_at count period (Dispatch p until ∷ is) zero i f e = subst (IsKnown count) (same_Some _ _ e) f.0.0
known_at count period (Dispatch p until ∷ is) (suc k) i f e = known_at count period is k i f.1 e
known_at count period (Idle until ∷ is) (suc k) i f e = known_at count period is k i f.1 e
known_at count period _ zero i f e = subst (IsKnown count) (same_Some _ _ e) tt

pub worst_filled : (jobs : List Job) (left : List ℕ) → All HasWork jobs → length left ≡ length jobs → ((q : ℕ) → q < length jobs → get_or left q 0 ≡ get_or (worst_cases jobs) q 0)
    → left ≡ work jobs (worst_cases jobs)
worst_filled jobs left all same each =
    ext_get_or 0 left (work jobs (worst_cases jobs)) (same ∙ sym (work_length jobs (worst_cases jobs)))
    (λ q h.
    let below : q < length jobs = omega arith in
    let at : slice_get jobs q ≡ Some (get_or jobs q (job_at jobs q)) = slice_get-get_or jobs q (job_at jobs q) below in
    let w : HasWork (get_or jobs q (job_at jobs q)) = each_at HasWork jobs all q (get_or jobs q (job_at jobs q)) at in
    each q below ∙ sym (work_present jobs (worst_cases jobs) q (get_or jobs q (job_at jobs q)) at w.present))
