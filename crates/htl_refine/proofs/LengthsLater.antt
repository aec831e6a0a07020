-- Other lengths of jobs that aren't released yet change nothing of what is left of the lists that have begun.
use Rattle.std.proofs.Common.{◌≡◌, ◌≢◌, ℕ, zero, suc, ◌≤◌, ◌<◌, ◌⊎◌, max, true, List, [], ◌∷◌, length, get_or, refl, sym, ap, ap₂, ◌∙◌, arith, inl, inr}
use Rattle.htl_refine.proofs.Words.{Job, SInstr, Dispatch, Idle, End, AgreeBefore, Leg, list_point, AreInForm, AreChained, path_point, HaveLengths, Point, job_at, time_after, work_after, next_point, last_point, first_point, work, earlier, stays, left_same, left_other, Alike, alike_walks, job_there, work_present, present_or_idle, Frame, LengthsLater, no_leg, list_start, cases_eq, cases_lt, time_rises_to}
use Rattle.htl_refine.proofs.{ListCounts.chain_to, ListWalks.list_is}

-- ---- one dispatch of a job that isn't released

-- what ends before t has waited, and no more
pub waits : (now w r until t : ℕ) → t ≤ r → 0 < w → time_after now w r until < t → until < t
waits now zero r until t late some early = absurd (omega (arith, some))
waits now (suc w) r until t late some early = omega (arith, late, early)

pub waited : (now w r until t : ℕ) → t ≤ r → 0 < w → until < t → (time_after now w r until ≡ max now until) × (work_after now w r until ≡ w)
waited now zero r until t late some early = absurd (omega (arith, some))
waited now (suc w) r until t late some early = (omega (arith, late, early), omega (arith, late, early))

pub nothing : (now w r until : ℕ) → w ≡ 0 → (time_after now w r until ≡ now) × (work_after now w r until ≡ 0)
nothing now zero r until e = (refl, omega arith)
nothing now (suc w) r until e = absurd (omega (arith, e))

-- ---- instructions that end before t keep points alike

module _ (jobs : List Job) (t p until : ℕ) (x y : Point) (a : Alike jobs t x y) where
  -- the work of the position that is dispatched, and of the others
  here_x : (q : ℕ) → p ≡ q → get_or (next_point jobs (Dispatch p until) x).left q 0 ≡ work_after x.time (get_or x.left p 0) (job_at jobs p).release until
  here_x q e = ap (λ z. get_or (next_point jobs (Dispatch p until) x).left z 0) (sym e) ∙ left_same x.left p x.time (job_at jobs p).release until

  here_y : (q : ℕ) → p ≡ q → get_or (next_point jobs (Dispatch p until) y).left q 0 ≡ work_after y.time (get_or y.left p 0) (job_at jobs p).release until
  here_y q e = ap (λ z. get_or (next_point jobs (Dispatch p until) y).left z 0) (sym e) ∙ left_same y.left p y.time (job_at jobs p).release until

  else_x : (q : ℕ) → p ≢ q → get_or (next_point jobs (Dispatch p until) x).left q 0 ≡ get_or x.left q 0
  else_x q n = left_other x.left p q (work_after x.time (get_or x.left p 0) (job_at jobs p).release until) n

  else_y : (q : ℕ) → p ≢ q → get_or (next_point jobs (Dispatch p until) y).left q 0 ≡ get_or y.left q 0
  else_y q n = left_other y.left p q (work_after y.time (get_or y.left p 0) (job_at jobs p).release until) n

  -- a job that is released: the same is done
  released_alike : (job_at jobs p).release < t → Alike jobs t (next_point jobs (Dispatch p until) x) (next_point jobs (Dispatch p until) y)
  released_alike soon = grind (arith, cases_eq, here_x, here_y, else_x, else_y)

  -- a job that isn't: nothing is done
  kept_alike : t ≤ (job_at jobs p).release → (next_point jobs (Dispatch p until) x).time ≡ (next_point jobs (Dispatch p until) y).time
      → work_after x.time (get_or x.left p 0) (job_at jobs p).release until ≡ get_or x.left p 0 → work_after y.time (get_or y.left p 0) (job_at jobs p).release until ≡ get_or y.left p 0
      → Alike jobs t (next_point jobs (Dispatch p until) x) (next_point jobs (Dispatch p until) y)
  kept_alike late time one two = grind (arith, cases_eq, here_x, else_x, here_y, else_y)

  dispatch_alike : (next_point jobs (Dispatch p until) x).time < t → Alike jobs t (next_point jobs (Dispatch p until) x) (next_point jobs (Dispatch p until) y)
  dispatch_alike early = grind (arith, cases_lt, released_alike, nothing, kept_alike, waits, waited)

step_alike : (jobs : List Job) (t : ℕ) (i : SInstr) (x y : Point) → Alike jobs t x y → (next_point jobs i x).time < t → Alike jobs t (next_point jobs i x) (next_point jobs i y)
step_alike jobs t (Dispatch p until) x y a early = dispatch_alike jobs t p until x y a early
step_alike jobs t (Idle until) x y a early = record { time = ap (λ n. max n until) a.time; released = a.released; unreleased = a.unreleased }
step_alike jobs t End x y a early = a

pub list_alike : (jobs : List Job) (t : ℕ) (is : List SInstr) (x y : Point) → Alike jobs t x y → (last_point jobs is x).time < t → Alike jobs t (last_point jobs is x) (last_point jobs is y)
list_alike jobs t [] x y a early = a
list_alike jobs t (i ∷ is) x y a early =
    let soon : (next_point jobs i x).time < t = omega (arith, time_rises_to jobs is (next_point jobs i x), early) in
    list_alike jobs t is (next_point jobs i x) (next_point jobs i y) (step_alike jobs t i x y a soon) early

-- ---- the lists

pub begun_alike : (jobs : List Job) (t b : ℕ) (x y : Point) → Alike jobs t x y → Alike jobs t (list_point b x) (list_point b y)
begun_alike jobs t b x y a = record { time = refl; released = a.released; unreleased = a.unreleased }

pub path_alike : (jobs : List Job) (t : ℕ) (ss : List (List SInstr)) (gs : List Leg) (a h n j : ℕ) (x y : Point) → AreInForm ss gs → AreChained a h n gs → j < length gs → (get_or gs j no_leg).from < t
    → Alike jobs t x y → Alike jobs t (path_point jobs ss gs j 0 x) (path_point jobs ss gs j 0 y)
path_alike jobs t [] [] a h n j x y f c l e k = absurd (omega arith)
path_alike jobs t (s ∷ ss) (g ∷ gs) a h n zero x y f c l e k = begun_alike jobs t g.from x y k
path_alike jobs t (s ∷ ss) (g ∷ gs) a h n (suc j) x y f c l e k =
    let v = list_point g.from x in
    let w = list_point g.from y in
    let ends : (last_point jobs s v).time ≤ g.to = stays jobs g.known g.to s v f.0 c.1 in
    path_alike jobs t ss gs g.to h n j (last_point jobs s v) (last_point jobs s w) f.1 c.3 (omega arith) e
    (list_alike jobs t s v w (begun_alike jobs t g.from x y k) (omega (arith, ends, chain_to g.to h n j gs c.3 (omega arith), e)))
path_alike jobs t _ _ a h n j x y f c l e k = absurd f

-- ---- the lengths at first

module _ (jobs : List Job) (ns ms : List ℕ) (t : ℕ) (some_ns : HaveLengths jobs ns) (some_ms : HaveLengths jobs ms) (agree : AgreeBefore t jobs ns ms) where
  present_work : (ls : List ℕ) (q : ℕ) → (job_at jobs q).present ≡ true → get_or (work jobs ls) q 0 ≡ get_or ls q 0
  present_work ls q e = work_present jobs ls q (job_at jobs q) (job_there jobs q e) e

  -- who isn't present has nothing, whatever the lengths
  either_way : (q : ℕ) → ((job_at jobs q).present ≡ true) ⊎ ((get_or (work jobs ns) q 0 ≡ 0) × (get_or (work jobs ms) q 0 ≡ 0))
  either_way q = grind (arith, present_or_idle)

  pub first_alike : Alike jobs t (first_point jobs ns) (first_point jobs ms)
  first_alike = grind (arith, either_way, present_work, job_there)

pub lengths_later : LengthsLater
lengths_later f ms h t i forms chain l early some_ns some_ms agree =
    let g : Frame = record f { lengths = ms } in
    ap (earlier t) (list_is f i forms l)
    ∙ alike_walks f.jobs t (get_or f.lists i []) (list_start f i) (list_start g i)
    (path_alike f.jobs t f.lists f.legs 0 h (length f.jobs) i (first_point f.jobs f.lengths) (first_point f.jobs ms) forms chain l early (first_alike f.jobs f.lengths ms t some_ns some_ms agree))
    ∙ sym (ap (earlier t) (list_is g i forms l))
