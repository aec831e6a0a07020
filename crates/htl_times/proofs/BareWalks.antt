-- A walk looks at releases and worst cases alone.
use Rattle.std.proofs.Common.{◌≡◌, ◌<◌, ℕ, zero, suc, set, subst, cond, List, [], ◌∷◌, length, map, get_or, slice_get, Option, Some, None, refl, sym, ap, ◌∙◌, arith}
use Rattle.std.specs.List.{All}
use Rattle.std.proofs.lemmas.List.{get_or-map, length-map}
use Rattle.htl_times.proofs.Words.{Inv, Place, Tables, Job, SInstr, Dispatch, End, Idle, absent_job, job_in, placed, placed_job, placed_jobs, HasTimes, IsWellFormed, Point, Left, job_at, next_point, left_by, walk_from, last_point, work, worst_cases, time_after, slice_between, dispatch_begins, finishes_by, work_after}
use Rattle.htl_times.specs.BareJobs.{bare, bare_job, HasTimesAlone, IsShort}

pub bare_worst : (js : List Job) → worst_cases (map bare js) ≡ worst_cases js
bare_worst [] = refl
bare_worst (j ∷ js) = ap (λ ns. j.worst ∷ ns) (bare_worst js)

pub bare_work : (js : List Job) (ns : List ℕ) → work (map bare js) ns ≡ work js ns
bare_work [] ns = refl
bare_work (j ∷ js) [] = ap (λ ws. 0 ∷ ws) (bare_work js [])
bare_work (j ∷ js) (n ∷ ns) = ap (λ ws. cond j.present n 0 ∷ ws) (bare_work js ns)

pub bare_start : (js : List Job) → work (map bare js) (worst_cases (map bare js)) ≡ work js (worst_cases js)
bare_start js = ap (work (map bare js)) (bare_worst js) ∙ bare_work js (worst_cases js)

bare_release : (js : List Job) (p : ℕ) → (job_at (map bare js) p).release ≡ (job_at js p).release
bare_release [] p = refl
bare_release (j ∷ js) zero = refl
bare_release (j ∷ js) (suc p) = bare_release js p

-- what an instruction does, and what is told of it
bare_next : (js : List Job) (i : SInstr) (x : Point) → next_point (map bare js) i x ≡ next_point js i x
bare_next js (Dispatch p until) x = ap (λ r. point (time_after x.time (get_or x.left p 0) r until) (set x.left p (work_after x.time (get_or x.left p 0) r until))) (bare_release js p)
  where
    point : ℕ → List ℕ → Point
    point a l = record { time = a; left = l }
bare_next js (Idle until) x = refl
bare_next js End x = refl

bare_told : (js : List Job) (i : SInstr) (x y : Point) → left_by (map bare js) i x y ≡ left_by js i x y
bare_told js (Dispatch p until) x y = ap (λ r. told (slice_between (dispatch_begins x.time r until) until (get_or x.left p 0) y.time)) (bare_release js p)
  where
    told : Option (ℕ × ℕ) → Left
    told slice = record { at = y.time; position = Some p; slice = slice; finished = finishes_by (get_or x.left p 0) (get_or y.left p 0) }
bare_told js (Idle until) x y = refl
bare_told js End x y = refl

pub bare_walk : (js : List Job) (is : List SInstr) (x : Point) → walk_from (map bare js) is x ≡ walk_from js is x
bare_walk js [] x = refl
bare_walk js (i ∷ is) x =
    let y = next_point js i x in
    ap (λ z. left_by (map bare js) i x z ∷ walk_from (map bare js) is z) (bare_next js i x) ∙ ap (λ l. l ∷ walk_from (map bare js) is y) (bare_told js i x y) ∙ ap (λ ls. left_by js i x y ∷ ls) (bare_walk js is y)

pub bare_last : (js : List Job) (is : List SInstr) (x : Point) → last_point (map bare js) is x ≡ last_point js is x
bare_last js [] x = refl
bare_last js (i ∷ is) x = ap (last_point (map bare js) is) (bare_next js i x) ∙ bare_last js is (next_point js i x)

-- ---- the jobs of positions

-- but for its predecessors a job doesn't depend on the other positions
bare_placed : (t : Tables) (xs : List Place) (x : Place) → bare (placed_job t [] x) ≡ bare (placed_job t xs x)
bare_placed t xs x = by x.inv
  where
    inner : (k : ℕ) (o : Option Inv) → bare (job_in t [] x.at k o) ≡ bare (job_in t xs x.at k o)
    inner k None = refl
    inner k (Some i) = refl

    by : (o : Option ℕ) → bare (placed t [] x.at o) ≡ bare (placed t xs x.at o)
    by None = refl
    by (Some k) = inner k (slice_get t.invs k)

pub bare_jobs : (t : Tables) (xs : List Place) → map (bare_job t) xs ≡ map bare (placed_jobs t xs)
bare_jobs t xs = go xs
  where
    go : (ys : List Place) → map (bare_job t) ys ≡ map bare (map (placed_job t xs) ys)
    go [] = refl
    go (y ∷ ys) = ap (λ j. j ∷ map (bare_job t) ys) (bare_placed t xs y) ∙ ap (λ js. bare (placed_job t xs y) ∷ js) (go ys)

-- nor do its times
pub times_alone : (t : Tables) (xs : List Place) → All HasTimes (placed_jobs t xs) → All (HasTimesAlone t) xs
times_alone t xs times k d below =
    let x = get_or xs k d in
    by x.at x.inv (subst HasTimes (get_or-map (placed_job t xs) xs k d (placed_job t xs d) below) (times k (placed_job t xs d) (omega (arith, below, length-map xs (placed_job t xs)))))
  where
    inner : (at k : ℕ) (o : Option Inv) → HasTimes (job_in t xs at k o) → HasTimes (job_in t [] at k o)
    inner at k None h = h
    inner at k (Some i) h = h

    by : (at : ℕ) (o : Option ℕ) → HasTimes (placed t xs at o) → HasTimes (placed t [] at o)
    by at None h = h
    by at (Some k) h = inner at k (slice_get t.invs k) h

-- worst cases stay short
pub bare_short : (js : List Job) → All IsWellFormed js → All IsShort (map bare js)
bare_short js good k d below =
    let within : k < length js = omega (arith, below, length-map js bare) in
    subst IsShort (sym (get_or-map bare js k absent_job d within)) (good k absent_job within).most
