-- A path asks for no more ticks than its frame has: what is done takes time.
use Rattle.std.proofs.Common.{◌≡◌, ℕ, zero, suc, ◌+◌, ◌≤◌, ◌<◌, ◌⊎◌, inl, inr, true, cond, List, [], ◌∷◌, length, drop, set, get_or, slice_get, sum, Some, refl, sym, ap, ◌∙◌, arith}
use Rattle.std.specs.List.{All, fold}
use Rattle.std.proofs.{Math.ListN.drop_of_length-le, lemmas.List.get_or_past, lemmas.List.set_past}
use Rattle.htl_walk.proofs.Acceptance.{left_falls_to, no_finish}
use Rattle.htl_times.proofs.Words.{frame_of, Job, SInstr, Dispatch, Idle, End, lists_of, path_jobs, legs, Leg, AreChained, IsPathAccepted, HasWork, Point, job_at, time_after, work_after, next_point, last_point, first_point, worst_cases, work, form_joined, joined, show_joined, stays, legs_follow, each_at, job_there, work_some, path_work, not_some}
use Rattle.htl_times.proofs.Halfway.{drop_here}
use Rattle.htl_times.specs.Laws.{UtilisationAtMostOne}

-- ---- sums

fold_from : (a : ℕ) (xs : List ℕ) → fold (λ s x. s + x) a xs ≡ a + sum xs
fold_from a [] = omega arith
fold_from a (x ∷ xs) = omega (arith, fold_from (a + x) xs, fold_from (0 + x) xs)

pub sum_front : (x : ℕ) (xs : List ℕ) → sum (x ∷ xs) ≡ x + sum xs
sum_front x xs = omega (arith, fold_from (0 + x) xs)

sum_set : (xs : List ℕ) (p v : ℕ) → p < length xs → sum (set xs p v) + get_or xs p 0 ≡ sum xs + v
sum_set [] p v l = absurd (omega arith)
sum_set (x ∷ xs) zero v l = omega (arith, sum_front x xs, sum_front v xs)
sum_set (x ∷ xs) (suc p) v l = omega (arith, sum_front x xs, sum_front x (set xs p v), sum_set xs p v (omega (arith, l)))

sum_none : (xs : List ℕ) → ((p : ℕ) → get_or xs p 0 ≡ 0) → sum xs ≡ 0
sum_none [] h = refl
sum_none (x ∷ xs) h = omega (arith, sum_front x xs, h 0, sum_none xs (λ p. h (suc p)))

-- ---- what is done takes time

worked : (now w r h : ℕ) → now + w ≤ time_after now w r h + work_after now w r h
worked now zero r h = omega arith
worked now (suc w) r h = omega arith

step_works : (jobs : List Job) (i : SInstr) (x : Point) → x.time + sum x.left ≤ (next_point jobs i x).time + sum (next_point jobs i x).left
step_works jobs (Dispatch p h) x = elim (sides p (length x.left)) [
  | inl l ↦
      let w = get_or x.left p 0 in
      let r = (job_at jobs p).release in
      omega (arith, worked x.time w r h, sum_set x.left p (work_after x.time w r h) l)
  | inr l ↦
      let w = get_or x.left p 0 in
      let r = (job_at jobs p).release in
      omega (arith, worked x.time w r h, get_or_past x.left p 0 l, ap (λ (ys : List ℕ). sum ys) (set_past x.left p (work_after x.time w r h) l))
]
  where
    sides : (a b : ℕ) → (a < b) ⊎ (b ≤ a)
    sides a b = grind arith
step_works jobs (Idle h) x = omega arith
step_works jobs End x = omega arith

walk_works : (jobs : List Job) (is : List SInstr) (x : Point) → x.time + sum x.left ≤ (last_point jobs is x).time + sum (last_point jobs is x).left
walk_works jobs [] x = omega arith
walk_works jobs (i ∷ is) x = omega (arith, step_works jobs i x, walk_works jobs is (next_point jobs i x))

-- ---- who finishes has no work left

-- ---- a path

whole_work : (js : List Job) → ((p : ℕ) (j : Job) → slice_get js p ≡ Some j → j.present ≡ true) → work js (worst_cases js) ≡ worst_cases js
whole_work [] h = refl
whole_work (j ∷ js) h = ap (λ b. cond b j.worst 0 ∷ work js (worst_cases js)) (h 0 j refl) ∙ ap (λ ns. j.worst ∷ ns) (whole_work js (λ p k at. h (suc p) k at))

load_fits : (js : List Job) (ss : List (List SInstr)) (gs : List Leg) (h : ℕ) → All HasWork js → AreChained 0 h (length js) gs → IsPathAccepted js gs ss → sum (worst_cases js) ≤ h
load_fits js ss gs h all chain accepted =
    let x = first_point js (worst_cases js) in
    let is = joined ss gs in
    let z = last_point js is x in
    let end : z.time ≤ h = stays js (length js) h is x (form_joined ss gs 0 h (length js) accepted.forms chain) (omega arith) in
    let all_work : sum x.left ≡ sum (worst_cases js) = ap (λ (ns : List ℕ). sum ns) (whole_work js (λ p j at. (each_at HasWork js all p j at).present)) in
    let none : sum z.left ≡ 0 = sum_none z.left done in
    omega (arith, walk_works js is x, end, all_work, none)
  where
    done : (p : ℕ) → get_or (last_point js (joined ss gs) (first_point js (worst_cases js))).left p 0 ≡ 0
    done p = by (get_or (last_point js (joined ss gs) (first_point js (worst_cases js))).left p 0) refl
      where
        by : (w : ℕ) → get_or (last_point js (joined ss gs) (first_point js (worst_cases js))).left p 0 ≡ w → w ≡ 0
        by zero e = refl
        by (suc w) e =
            let x = first_point js (worst_cases js) in
            let some : 0 < get_or (last_point js (joined ss gs) x).left p 0 = omega (arith, e) in
            let here = work_some js (worst_cases js) p (omega (arith, some, left_falls_to js (joined ss gs) x p)) in
            let met = accepted.meets p (job_at js p) (job_there js p here) here in
            let shown = show_joined js ss gs 0 h (length js) x p accepted.forms chain (omega arith) in
            not_some met.finishes.0 (sym (no_finish js (joined ss gs) x p some) ∙ sym shown.finish ∙ met.finishes.1)

pub utilisation_at_most_one : UtilisationAtMostOne
utilisation_at_most_one t lists es path run below =
    load_fits (path_jobs t path) (lists_of t lists path) (legs t path) (frame_of t) (path_work t path run.range) (legs_follow t path run.modules run.ticks) (run.accepted path below)

-- ---- as the code adds them

pub load_more : (jobs : List Job) (k n whole : ℕ) (j : Job) → slice_get jobs k ≡ Some j → n + sum (worst_cases (drop k jobs)) ≡ whole → n + j.worst + sum (worst_cases (drop (suc k) jobs)) ≡ whole
load_more jobs k n whole j at e =
    omega (arith, e, ap (λ (js : List Job). sum (worst_cases js)) (drop_here jobs k j at), sum_front j.worst (worst_cases (drop (suc k) jobs)))

pub load_all : (jobs : List Job) (k n whole : ℕ) → length jobs ≤ k → n + sum (worst_cases (drop k jobs)) ≡ whole → n ≡ whole
load_all jobs k n whole past e = omega (arith, e, ap (λ (js : List Job). sum (worst_cases js)) (drop_of_length-le jobs past), sum_none [] (λ p. refl))
