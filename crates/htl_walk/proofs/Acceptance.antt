-- What the first miss has to do with being accepted.
use Rattle.std.proofs.Common.{◌≡◌, ℕ, zero, suc, ◌-◌, ◌≤◌, ◌<◌, true, List, [], ◌∷◌, length, get_or, slice_get, take, Option, Some, None, refl, sym, ap, ◌∙◌, subst, arith, ◌⊎◌, inl, inr, add-one}
use Rattle.htl_walk.proofs.Words.{All, slice_get_within, slice_get_past, same_Some, take_all, Job, Miss, SInstr, Dispatch, Idle, End, precedes, Point, job_at, next_point, last_point, walk_from, walk, work, first_point, finish, DoneBy, InOrder, AreDone, InForm, ScheduleIsAccepted, worst_cases, DepartsBy, DepartsAt, IsFirstDeparture, worst_point, IsCleanBefore, IsFirstMiss, HasWork, each_at, cases_lt}
use Rattle.htl_walk.specs.declared.miss.Miss.TheVariants as miss
use Rattle.htl_walk.proofs.{Steps.left_falls, Finishes.finish_now, Finishes.finish_later, Work.job_there, Work.work_present, Work.work_some, Work.worst_at, Predecessors.meets_by_finishes}

-- ---- the form

module _ (count period : ℕ) where
  -- a place behind the first one departs where it does in the rest
  departs_shifted : (i : SInstr) (is : List SInstr) (k : ℕ) → k < length is → DepartsAt count period is k → DepartsAt count period (i ∷ is) (suc k)
  departs_shifted i is k h d = grind arith

  departs_back : (i : SInstr) (is : List SInstr) (k : ℕ) → 0 < length is → DepartsAt count period (i ∷ is) (suc k) → DepartsAt count period is k
  departs_back i is k h d = grind arith

  form_some : (s : List SInstr) → InForm count period s → 0 < length s
  form_some [] f = absurd f
  form_some (i ∷ is) f = omega arith

  -- a list in form departs nowhere
  pub departs_nowhere : (s : List SInstr) (k : ℕ) → InForm count period s → DepartsAt count period s k → ⊥
  departs_nowhere [] k f d = f
  departs_nowhere (End ∷ []) zero f d = omega arith
  departs_nowhere (End ∷ []) (suc k) f d = let first : suc k - 1 ≡ 0 = omega (arith, d.0) in d.1 (ap (slice_get (End ∷ [])) first)
  departs_nowhere (Dispatch p until ∷ is) zero f d = elim d [ inl a ↦ omega (arith, f.0.0) | inr a ↦ omega (arith, f.0.1) ]
  departs_nowhere (Idle until ∷ is) zero f d = omega (arith, f.0)
  departs_nowhere (End ∷ j ∷ is) k f d = absurd f.0
  departs_nowhere (Dispatch p until ∷ is) (suc k) f d = departs_nowhere is k f.1 (departs_back (Dispatch p until) is k (form_some is f.1) d)
  departs_nowhere (Idle until ∷ is) (suc k) f d = departs_nowhere is k f.1 (departs_back (Idle until) is k (form_some is f.1) d)

  is_step_dispatch : (p until : ℕ) → ((count ≤ p) ⊎ (period < until) → ⊥) → (p < count) × (until ≤ period)
  is_step_dispatch p until n = grind (arith, cases_lt)

  is_step_idle : (until : ℕ) → (period < until → ⊥) → until ≤ period
  is_step_idle until n = elim (cases_lt period until) [ inl a ↦ absurd (n a) | inr a ↦ a ]

  ends_shifted : (i j : SInstr) (is : List SInstr) → slice_get (i ∷ j ∷ is) (length (i ∷ j ∷ is) - 1) ≡ Some End → slice_get (j ∷ is) (length (j ∷ is) - 1) ≡ Some End
  ends_shifted i j is e = let back : length (i ∷ j ∷ is) - 1 ≡ suc (length (j ∷ is) - 1) = omega arith in sym (ap (slice_get (i ∷ j ∷ is)) back) ∙ e

  -- what departs nowhere and ends in `End` is in form
  pub in_form : (s : List SInstr) → ((k : ℕ) → k < length s → DepartsAt count period s k → ⊥) → slice_get s (length s - 1) ≡ Some End → InForm count period s
  in_form (End ∷ []) n e = tt
  in_form (End ∷ j ∷ is) n e = absurd (n 0 (omega arith) (omega arith))
  in_form (Dispatch p until ∷ j ∷ is) n e =
      (is_step_dispatch p until (n 0 (omega arith)), in_form (j ∷ is) (λ k h d. n (suc k) (omega arith) (departs_shifted (Dispatch p until) (j ∷ is) k h d)) (ends_shifted (Dispatch p until) j is e))
  in_form (Idle until ∷ j ∷ is) n e =
      (is_step_idle until (n 0 (omega arith)), in_form (j ∷ is) (λ k h d. n (suc k) (omega arith) (departs_shifted (Idle until) (j ∷ is) k h d)) (ends_shifted (Idle until) j is e))
  in_form _ n e = cc

-- a list without departures that doesn't end in `End` departs at its length
pub departs_at_length : (count period : ℕ) (s : List SInstr) → ((k : ℕ) → k < length s → DepartsAt count period s k → ⊥)
    → (slice_get s (length s - 1) ≡ Some End → ⊥) → IsFirstDeparture count period s (length s)
departs_at_length count period s none open_end = grind (arith, slice_get_past)

-- ---- the walk from a point

-- one instruction more
pub point_step : (jobs : List Job) (s : List SInstr) (k : ℕ) (x : Point) (i : SInstr) → slice_get s k ≡ Some i
    → last_point jobs (take (suc k) s) x ≡ next_point jobs i (last_point jobs (take k s) x)
point_step jobs [] k x i e = cc
point_step jobs (j ∷ is) zero x i e = ap (λ i. next_point jobs i x) (same_Some _ _ e)
point_step jobs (j ∷ is) (suc k) x i e = point_step jobs is k (next_point jobs j x) i e

-- the work left falls along the walk
pub left_falls_to : (jobs : List Job) (s : List SInstr) (x : Point) (q : ℕ) → get_or (last_point jobs s x).left q 0 ≤ get_or x.left q 0
left_falls_to jobs [] x q = omega arith
left_falls_to jobs (i ∷ is) x q = grind (arith, left_falls, left_falls_to jobs is (next_point jobs i x) q)

-- where the predecessors are done at each dispatch, the list is in order
pub in_order : (jobs : List Job) (s : List SInstr) (x : Point)
    → ((k p until q : ℕ) → slice_get s k ≡ Some (Dispatch p until) → precedes q (job_at jobs p) ≡ true → get_or (last_point jobs (take k s) x).left q 0 ≡ 0) → InOrder jobs s x
in_order jobs [] x n = tt
in_order jobs (Dispatch p until ∷ is) x n =
    (λ q e. n 0 p until q refl e, in_order jobs is (next_point jobs (Dispatch p until) x) (λ k r until' q e. n (suc k) r until' q e))
in_order jobs (Idle until ∷ is) x n = in_order jobs is (next_point jobs (Idle until) x) (λ k p until' q e. n (suc k) p until' q e)
in_order jobs (End ∷ is) x n = in_order jobs is (next_point jobs End x) (λ k p until' q e. n (suc k) p until' q e)

pub done_in_order : (jobs : List Job) (s : List SInstr) (x : Point) (k p until : ℕ) → InOrder jobs s x → slice_get s k ≡ Some (Dispatch p until) → AreDone jobs (job_at jobs p) (last_point jobs (take k s) x)
done_in_order jobs (Dispatch r h ∷ is) x zero p until o e = grind arith
done_in_order jobs (Dispatch r h ∷ is) x (suc k) p until o e = done_in_order jobs is (next_point jobs (Dispatch r h) x) k p until o.1 e
done_in_order jobs (Idle h ∷ is) x (suc k) p until o e = done_in_order jobs is (next_point jobs (Idle h) x) k p until o e
done_in_order jobs (End ∷ is) x (suc k) p until o e = done_in_order jobs is (next_point jobs End x) k p until o e
done_in_order jobs _ x _ p until o e = cc

-- the instruction that does the last work of a position tells when it finishes
pub finish_at : (jobs : List Job) (s : List SInstr) (x : Point) (k p : ℕ) (i : SInstr) → slice_get s k ≡ Some i
    → 0 < get_or (last_point jobs (take k s) x).left p 0 → get_or (last_point jobs (take (suc k) s) x).left p 0 ≡ 0
    → finish (walk_from jobs s x) p ≡ Some (last_point jobs (take (suc k) s) x).time
finish_at jobs [] x k p i at some none = cc
finish_at jobs (j ∷ is) x zero p i at some none = finish_now jobs j is x p some none
finish_at jobs (j ∷ is) x (suc k) p i at some none = grind (arith, left_falls_to, finish_later, finish_at jobs is (next_point jobs j x) k p i at some none)

-- where work is left at the end, the position doesn't finish
pub no_finish : (jobs : List Job) (s : List SInstr) (x : Point) (p : ℕ) → 0 < get_or (last_point jobs s x).left p 0 → finish (walk_from jobs s x) p ≡ None
no_finish jobs [] x p some = refl
no_finish jobs (i ∷ is) x p some = grind (arith, left_falls_to, finish_later, no_finish jobs is (next_point jobs i x) p some)

-- ---- accepted, or a first miss

-- a schedule with a first miss is not accepted
pub refused : (jobs : List Job) (period : ℕ) (s : List SInstr) (m : Miss) → IsFirstMiss jobs period s m → ScheduleIsAccepted jobs period s → ⊥
refused jobs period s (miss.Order k) f a = departs_nowhere (length jobs) period s k a.form f.here
refused jobs period s (miss.Before p q k) f a = grind (arith, done_in_order)
refused jobs period s (miss.Late p f w) h a =
    let x = first_point jobs (worst_cases jobs) in
    let late = h.1.here in
    let k = h.1.place in
    let fall : get_or (worst_point jobs s k).left p 0 ≤ get_or x.left p 0 = left_falls_to jobs (take k s) x p in
    let here : (job_at jobs p).present ≡ true = work_some jobs (worst_cases jobs) p (omega (arith, late.left)) in
    let met = a.meets p (job_at jobs p) (job_there jobs p here) here in
    let told : finish (walk jobs (worst_cases jobs) s) p ≡ Some (last_point jobs (take (suc k) s) x).time =
    finish_at jobs s x k p _ late.dispatches.1 late.left (subst (λ n. get_or (worst_point jobs s n).left p 0 ≡ 0) (add-one k) late.done) in
    let same : met.finishes.0 ≡ (last_point jobs (take (suc k) s) x).time = same_Some _ _ (sym met.finishes.1 ∙ told) in
    let at : f ≡ (last_point jobs (take (suc k) s) x).time = subst (λ n. f ≡ (worst_point jobs s n).time) (add-one k) late.at in
    omega (arith, met.finishes.2, late.late)
refused jobs period s (miss.Unfinished p left) h a = grind (arith, take_all, left_falls_to, work_some, job_there, no_finish)

-- a schedule that is walked to its end without a miss is accepted
pub accepted : (jobs : List Job) (period : ℕ) (s : List SInstr) → All HasWork jobs → InForm (length jobs) period s → IsCleanBefore jobs s (length s)
    → ((p : ℕ) → p < length jobs → DoneBy (walk jobs (worst_cases jobs) s) p (job_at jobs p).end) → ScheduleIsAccepted jobs period s
accepted jobs period s all form clean done =
    let x = first_point jobs (worst_cases jobs) in
    let order : InOrder jobs s x =
    in_order jobs s x (λ k p until q at e. elim (cases_lt 0 (get_or (last_point jobs (take k s) x).left q 0)) [
      | inl h ↦ absurd (clean.early k p q (slice_get_within s k (Dispatch p until) at) (record { dispatches = (until, at); waits = e; left = h }))
      | inr h ↦ omega arith
    ]) in
    record {
      form = form;
      order = order;
      meets = meets_by_finishes jobs (worst_cases jobs) s order
          (λ p here.
          let there : slice_get jobs p ≡ Some (job_at jobs p) = job_there jobs p here in
          let e : get_or (work jobs (worst_cases jobs)) p 0 ≡ get_or (worst_cases jobs) p 0 = work_present jobs (worst_cases jobs) p (job_at jobs p) there here in
          omega (arith, e, worst_at jobs p (job_at jobs p) there, (each_at HasWork jobs all p (job_at jobs p) there).worst))
          (λ p here. done p (slice_get_within jobs p (job_at jobs p) (job_there jobs p here)));
    }
