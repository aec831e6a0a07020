-- The worst case of a task decides nothing of a path but the worst cases of its jobs.
use Rattle.std.proofs.Common.{◌≡◌, ℕ, zero, suc, ◌+◌, ◌*◌, ◌<◌, ◌≤◌, Bool, ◌&&◌, eqb, refl, sym, ap, ◌∙◌, subst, arith, ⊎_elim, List, [], ◌∷◌, length, get_or, slice_get, map, Option, Some, None}
use mathlib.Core.Path.{fun_ext}
use Rattle.htl_edf.proofs.Words.{cases_lt, Inv, Task, Place, Tables, comm_period, mode_period, offsets, greatest, least_or, rounds, paths, path_places, rounds_framed, paths_framed, path_places_framed, absent_job, is_fed_by, mask, job_in, placed, placed_job, placed_jobs, path_jobs, IsLonger, AreLonger, worst_in, with_worst, FewerFit, GreatestByOneMore, OneGreatest}
use Rattle.htl_model.specs.declared.parts.End.{End}
use Rattle.htl_model.specs.declared.parts.End.TheVariants as E
use Rattle.htl_edf.proofs.MoreWork.{shorter_fit}

-- ---- the worst case at a place

abbrev pub worst_at : List Task → ℕ → ℕ
worst_at ts k = elim (slice_get ts k) [ Some x ↦ x.worst | None ↦ 0 ]

worst_in-le : (w v : ℕ) → w ≤ v → (ts : List Task) (k i : ℕ) → worst_at (worst_in w k ts) i ≤ worst_at (worst_in v k ts) i
worst_in-le w v h [] k i = omega arith
worst_in-le w v h (x ∷ xs) zero zero = h
worst_in-le w v h (x ∷ xs) (suc k) (suc i) = worst_in-le w v h xs k i
worst_in-le w v h (x ∷ xs) _ _ = omega arith

abbrev pub with_tasks : Tables → List Task → Tables
with_tasks t ts = record t { tasks = ts }

-- ---- other tasks, the same places

module _ (t : Tables) (xs ys : List Task) where
  pub rounds_same : rounds (with_tasks t xs) ≡ rounds (with_tasks t ys)
  rounds_same = rounds_framed (with_tasks t xs) ∙ sym (rounds_framed (with_tasks t ys))

  pub paths_same : paths (with_tasks t xs) ≡ paths (with_tasks t ys)
  paths_same = paths_framed (with_tasks t xs) ∙ sym (paths_framed (with_tasks t ys))

  pub path_places_same : (path : ℕ) → path_places (with_tasks t xs) path ≡ path_places (with_tasks t ys) path
  path_places_same path = path_places_framed (with_tasks t xs) path ∙ sym (path_places_framed (with_tasks t ys) path)

  -- ---- and the same jobs but for their worst cases

  pub offsets_same : (ends : List End) → offsets (with_tasks t xs) ends ≡ offsets (with_tasks t ys) ends
  offsets_same [] = refl
  offsets_same (E.Port p ∷ ends) = offsets_same ends
  offsets_same (E.Comm c n ∷ ends) = ap (λ (os : List ℕ). n * comm_period t c ∷ os) (offsets_same ends)

  pub fed_same : (k : ℕ) (o : Option ℕ) → is_fed_by (with_tasks t xs) k o ≡ is_fed_by (with_tasks t ys) k o
  fed_same k None = refl
  fed_same k (Some n) = refl

  module _ (less : (i : ℕ) → worst_at xs i ≤ worst_at ys i) where
    same_longer : IsLonger absent_job absent_job
    same_longer = record { release = refl; end = refl; preds = refl; worst = omega arith }

    in_longer : (all : List Place) (a k : ℕ) (o : Option Inv) → IsLonger (job_in (with_tasks t xs) all a k o) (job_in (with_tasks t ys) all a k o)
    in_longer all a k None = same_longer
    in_longer all a k (Some i) = record {
      release = ap (λ (os : List ℕ). a + greatest 0 os) (offsets_same i.reads);
      end = ap (λ (os : List ℕ). a + least_or (mode_period t i.mode) os) (offsets_same i.writes);
      preds = ap (λ (f : Option ℕ → Bool). mask (map (λ (y : Place). eqb y.at a && f y.inv) all)) (fun_ext (fed_same k));
      worst = less i.task;
    }

    placed_longer : (all : List Place) (a : ℕ) (o : Option ℕ) → IsLonger (placed (with_tasks t xs) all a o) (placed (with_tasks t ys) all a o)
    placed_longer all a None = same_longer
    placed_longer all a (Some k) = in_longer all a k (slice_get t.invs k)

    each_longer : (all ps : List Place) (q : ℕ) → IsLonger (get_or (map (placed_job (with_tasks t xs) all) ps) q absent_job) (get_or (map (placed_job (with_tasks t ys) all) ps) q absent_job)
    each_longer all [] q = same_longer
    each_longer all (p ∷ ps) zero = placed_longer all p.at p.inv
    each_longer all (p ∷ ps) (suc q) = each_longer all ps q

    map_count : (all ps : List Place) → length (map (placed_job (with_tasks t xs) all) ps) ≡ length (map (placed_job (with_tasks t ys) all) ps)
    map_count all [] = refl
    map_count all (p ∷ ps) = ap suc (map_count all ps)

    pub longer_paths : (path : ℕ) → AreLonger (path_jobs (with_tasks t xs) path) (path_jobs (with_tasks t ys) path)
    longer_paths path =
        let here : (ps : List Place) → AreLonger (placed_jobs (with_tasks t xs) ps) (placed_jobs (with_tasks t ys) ps) = λ ps. record { count = map_count ps ps; each = λ q l. each_longer ps ps q } in
        subst (λ (ps : List Place). AreLonger (path_jobs (with_tasks t xs) path) (placed_jobs (with_tasks t ys) ps)) (path_places_same path) (here (path_places (with_tasks t xs) path))

pub fewer_fit : FewerFit
fewer_fit t task w v h fits path l =
    shorter_fit (path_jobs (with_worst t task w) path) (path_jobs (with_worst t task v) path)
    (longer_paths t (worst_in w task t.tasks) (worst_in v task t.tasks) (worst_in-le w v h t.tasks task) path)
    (fits path (omega (arith, l, paths_same t (worst_in w task t.tasks) (worst_in v task t.tasks))))

pub greatest_by_one_more : GreatestByOneMore
greatest_by_one_more t task limit g l fits more =
    record {
      within = l;
      fits = fits;
      last = λ w k f. ⊎_elim
          (λ (b : g < w). absurd (more (omega arith) (fewer_fit t task (suc g) w (omega arith) f)))
          (λ (b : w ≤ g). b)
          (cases_lt g w);
    }

pub one_greatest : OneGreatest
one_greatest t task limit g h a b = omega (arith, a.last h b.within b.fits, b.last g a.within a.fits)
