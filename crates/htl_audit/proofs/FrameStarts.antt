-- The jobs of the rounds that begin at an instant are those of its frame, from that start on.
use Rattle.std.proofs.Common.{◌≡◌, ◌<◌, ℕ, zero, suc, ◌+◌, ◌*◌, ◌/◌, ◌%◌, ◌||◌, Bool, true, false, ◌&&◌, cond, eqb, List, [], ◌∷◌, ◌++◌, length, get_or, map, take, drop, replicate, slice_get, Option, Some, None, refl, sym, ap, ap₂, ◌∙◌, subst, arith}
use Rattle.std.specs.Prelude.{◌^◌}
use Rattle.htl_model.specs.Frames.{places_of}
use Rattle.htl_walk.specs.{Jobs.job_among, PathJobs.placed_jobs, Walk.work}
use Rattle.htl_refine.specs.{BegunJobs.nowhere, BegunJobs.new_jobs, DerivedPaths.start_places, DerivedPaths.standing_place, ListPlans.leg_at}
use Rattle.htl_audit.specs.FrameStarts.{known_before, part_of, job_behind, IsAtStart, AuditedJobsAreTheFrames}
use Rattle.htl_audit.proofs.Words.{filter, flat_map, div-add-mod, mod-lt, mul_assoc, add-mul-mod_self_left, two-pow-succ, take-map, drop-map, eq-eqb, and_none, get_or_from_slice_get, slice_get-get_or, slice_get_within, Event, Place, Inv, chosen, entry, root_modules, invs_of, unit_period, root_periods, frame_of, starts, starts_below, begins, release, window_end, task_worst, frame_divided, Tables, Job, SInstr, is_fed_by, mask, job_of, job_in, placed_job, running_invs, took, lengths_of, modes_at, frame_modes, frame_places, frame_jobs, frame_at, leg_from, leg_knows, first_jobs, next_jobs, below_start, BeginningJobs, beginning, jobs_from, round_of, starts_before, mapped, mapped_at, mul-mod_right, starts_rise, starts_order, rises_next}
use Rattle.htl_audit.proofs.Growing.{start_is}

-- ---- periods divide frames

later_by : (f a h p : ℕ) → h % p ≡ 0 → f % h ≡ 0 → (f + a) % p ≡ a % p
later_by f a h p e g =
    let frame : p * (h / p) ≡ h = omega (arith, div-add-mod h p, e) in
    let start : h * (f / h) ≡ f = omega (arith, div-add-mod f h, g) in
    let whole : p * (h / p * (f / h)) ≡ f = sym (mul_assoc p (h / p) (f / h)) ∙ ap (λ z. z * (f / h)) frame ∙ start in
    ap (λ n. n % p) (let z : f + a ≡ a + p * (h / p * (f / h)) = omega (arith, whole) in z) ∙ add-mul-mod_self_left a p (h / p * (f / h))

-- rounds of these modules begin at s where they begin at a
abbrev BeginAlike : Tables → ℕ → ℕ → List ℕ → Type 0
BeginAlike t s a us = (k : ℕ) → k < length us → eqb (s % unit_period t (get_or us k 0)) 0 ≡ eqb (a % unit_period t (get_or us k 0)) 0

alike : (t : Tables) (f a : ℕ) → f % frame_of t ≡ 0 → BeginAlike t (f + a) a (root_modules t)
alike t f a whole k l = ap (λ n. eqb n 0) (later_by f a (frame_of t) (unit_period t (get_or (root_modules t) k 0)) (frame_divided t k l) whole)

begins_alike : (t : Tables) (s a : ℕ) (us : List ℕ) → BeginAlike t s a us → begins (map (unit_period t) us) s ≡ begins (map (unit_period t) us) a
begins_alike t s a [] h = refl
begins_alike t s a (u ∷ us) h = ap₂ (λ b c. b || c) (h 0 (omega arith)) (begins_alike t s a us (λ k l. h (suc k) (omega (arith, l))))

-- ---- the jobs that begin at an offset

module _ (t : Tables) (m : List (Option ℕ)) (a n : ℕ) where
  abbrev at_start : List (Option ℕ) → List Place
  at_start os = map (λ o. record { inv = o; at = a }) os

  join : (ks ls : List ℕ) → places_of a ks ++ places_of a ls ≡ places_of a (ks ++ ls)
  join [] ls = refl
  join (k ∷ ks) ls = ap (λ (xs : List Place). record { inv = Some k; at = a } ∷ xs) (join ks ls)

  positions_are : (s : ℕ) (us : List ℕ) → BeginAlike t s a us → start_places t m a us ≡ places_of a (flat_map (running_invs t m) (filter (λ u. eqb (s % unit_period t u) 0) us))
  positions_are s [] h = refl
  positions_are s (u ∷ us) h =
      by (filter (λ v. eqb (s % unit_period t v) 0) us) (eqb (s % unit_period t u) 0) (eqb (a % unit_period t u) 0) (h 0 (omega arith)) (positions_are s us (λ k l. h (suc k) (omega (arith, l))))
    where
      here : (o : Option ℕ) → elim o as (λ _. List Place) [ Some k ↦ places_of a (invs_of t k) | None ↦ [] ] ≡ places_of a (elim o as (λ _. List ℕ) [ Some k ↦ invs_of t k | None ↦ [] ])
      here None = refl
      here (Some k) = refl

      by : (rest : List ℕ) (b c : Bool) → b ≡ c → start_places t m a us ≡ places_of a (flat_map (running_invs t m) rest)
          → elim (cond c (entry m u) None) as (λ _. List Place) [ Some k ↦ places_of a (invs_of t k) | None ↦ [] ] ++ start_places t m a us ≡ places_of a (flat_map (running_invs t m) (cond b (u ∷ rest) rest))
      by rest true true e later = ap₂ (λ xs ys. xs ++ ys) (here (entry m u)) later ∙ join (running_invs t m u) (flat_map (running_invs t m) rest)
      by rest false false e later = later
      by rest true false e later = cc
      by rest false true e later = cc

  standing_are : (ks : List ℕ) → map (standing_place t m) (places_of a ks) ≡ at_start (map (chosen t m) ks)
  standing_are [] = refl
  standing_are (k ∷ ks) = ap (λ (xs : List Place). record { inv = chosen t m k; at = a } ∷ xs) (standing_are ks)

  fed_alike : (k i : ℕ) (os : List (Option ℕ)) → map (λ (y : Place). eqb y.at a && is_fed_by t k y.inv) (replicate i nowhere ++ at_start os) ≡ replicate i false ++ map (is_fed_by t k) os
  fed_alike k zero [] = refl
  fed_alike k zero (o ∷ os) = ap₂ (λ b bs. (b && is_fed_by t k o) ∷ bs) (eq-eqb a a refl) (fed_alike k zero os)
  fed_alike k (suc i) os = ap₂ (λ b bs. b ∷ bs) (and_none (eqb 0 a)) (fed_alike k i os)

  mask_behind : (i : ℕ) (bs : List Bool) → mask (replicate i false ++ bs) ≡ mask bs * 2 ^ i
  mask_behind zero bs = omega arith
  mask_behind (suc i) bs = ap (λ k. 0 + 2 * k) (mask_behind i bs) ∙ twice (mask bs) (2 ^ i) ∙ ap (λ k. mask bs * k) (sym (two-pow-succ i))
    where
      twice : (x y : ℕ) → 0 + 2 * (x * y) ≡ x * (y + y)
      twice x y = grind arith

  job_is : (os : List (Option ℕ)) (o : Option ℕ) → placed_job t (replicate n nowhere ++ at_start os) (record { inv = o; at = a }) ≡ job_behind a n (job_of t os o)
  job_is os None = refl
  job_is os (Some k) = by (slice_get t.invs k)
    where
      by : (o : Option Inv) → job_in t (replicate n nowhere ++ at_start os) a k o ≡ job_behind a n (job_among t os k o)
      by None = refl
      by (Some i) =
          ap (λ (z : ℕ). let j : Job = record { present = true; inv = k; release = a + release t i; end = a + window_end t i; worst = task_worst t i.task; preds = z } in j)
          (ap mask (fed_alike k n os) ∙ mask_behind n (map (is_fed_by t k) os))

  jobs_are : (all os : List (Option ℕ)) → map (placed_job t (replicate n nowhere ++ at_start all)) (at_start os) ≡ map (job_behind a n) (map (job_of t all) os)
  jobs_are all [] = refl
  jobs_are all (o ∷ os) = ap₂ (λ (j : Job) (js : List Job). j ∷ js) (job_is all o) (jobs_are all os)

  drop_them : (i : ℕ) (f : Place → Job) (xs : List Place) → drop i (map f (replicate i nowhere ++ xs)) ≡ map f xs
  drop_them zero f xs = refl
  drop_them (suc i) f xs = drop_them i f xs

  new_are : (s : ℕ) → BeginAlike t s a (root_modules t) → new_jobs t m a n ≡ map (job_behind a n) (jobs_from t m (beginning t s))
  new_are s h =
      let os = map (chosen t m) (flat_map (running_invs t m) (beginning t s)) in
      ap (λ xs. drop n (placed_jobs t (replicate n nowhere ++ xs)))
      (ap (map (standing_place t m)) (positions_are s (root_modules t) h) ∙ standing_are (flat_map (running_invs t m) (beginning t s)))
      ∙ drop_them n (placed_job t (replicate n nowhere ++ at_start os)) (at_start os) ∙ jobs_are os os

-- ---- how long they take

module _ (t : Tables) (es : List Event) (f : ℕ) where
  abbrev takes : ℕ → Job → ℕ
  takes s j = cond j.present (took t es j.inv (s + j.release)) 0

  work_is : (s : ℕ) (js : List Job) → work js (lengths_of t es s js) ≡ map (takes s) js
  work_is s [] = refl
  work_is s (j ∷ js) = ap (λ (ns : List ℕ). cond j.present (took t es j.inv (s + j.release)) 0 ∷ ns) (work_is s js)

  takes_behind : (a n : ℕ) (j : Job) → takes f (job_behind a n j) ≡ takes (f + a) j
  takes_behind a n j = by j.present refl
    where
      by : (b : Bool) → j.present ≡ b → takes f (cond b (record j { release = a + j.release; end = a + j.end; preds = j.preds * 2 ^ n }) j) ≡ cond b (took t es j.inv (f + a + j.release)) 0
      by true e = ap (λ c. cond c (took t es j.inv (f + (a + j.release))) 0) e ∙ ap (took t es j.inv) (let z : f + (a + j.release) ≡ f + a + j.release = omega arith in z)
      by false e = ap (λ c. cond c (took t es j.inv (f + j.release)) 0) e

  all_take : (a n : ℕ) (js : List Job) → map (takes f) (map (job_behind a n) js) ≡ map (takes (f + a)) js
  all_take a n [] = refl
  all_take a n (j ∷ js) = ap₂ (λ (k : ℕ) (ks : List ℕ). k ∷ ks) (takes_behind a n j) (all_take a n js)

-- ---- start by start

module _ (t : Tables) (lists : List (List SInstr)) (es : List Event) where
  at_start_of : (f j : ℕ) → f % frame_of t ≡ 0 → j < length (starts t) → IsAtStart (frame_at t lists es f) f j (round_of t es (f + get_or (starts t) j 0))
  at_start_of f j whole less =
      let p = frame_at t lists es f in
      let modes = frame_modes t es f in
      let a = get_or (starts t) j 0 in
      let jobs = jobs_from t (modes_at t es (f + a)) (beginning t (f + a)) in
      let from : (leg_at p j).from ≡ a = leg_from (frame_of t) (frame_places t modes) (starts t) j less in
      let cut : part_of p j p.jobs ≡ map (job_behind (leg_at p j).from (known_before p j)) jobs =
      new_at j less ∙ new_are t (modes a) a (known_before p j) (f + a) (alike t f a whole) ∙ ap (λ z. map (job_behind z (known_before p j)) jobs) (sym from) in
      record {
        start = ap (λ z. f + z) (sym from);
        jobs = cut;
        lengths =
            ap (part_of p j) (work_is t es f f p.jobs) ∙ ap (drop (known_before p j)) (take-map (takes t es f f) (leg_at p j).known p.jobs)
            ∙ drop-map (takes t es f f) (known_before p j) (take (leg_at p j).known p.jobs) ∙ ap (map (takes t es f f)) cut
            ∙ ap (λ z. map (takes t es f f) (map (job_behind z (known_before p j)) jobs)) from
            ∙ all_take t es f a (known_before p j) jobs ∙ sym (work_is t es f (f + a) jobs);
      }
    where
      new_at : (j : ℕ) → j < length (starts t)
          → (let p = frame_at t lists es f in let a = get_or (starts t) j 0 in part_of p j p.jobs ≡ new_jobs t (frame_modes t es f a) a (known_before p j))
      new_at zero less =
          let xs = frame_places t (frame_modes t es f) in
          ap (λ z. take z (frame_jobs t (frame_modes t es f))) (leg_knows (frame_of t) xs (starts t) 0 less) ∙ first_jobs t (frame_modes t es f) less
      new_at (suc j) less =
          let modes = frame_modes t es f in
          let xs = frame_places t modes in
          let a = get_or (starts t) (suc j) 0 in
          let knew = leg_knows (frame_of t) xs (starts t) j (omega (arith, less)) in
          ap₂ (λ n c. drop n (take c (frame_jobs t modes))) knew (leg_knows (frame_of t) xs (starts t) (suc j) less) ∙ next_jobs t modes j less ∙ ap (new_jobs t (modes a) a) (sym knew)

rising : (ps : List ℕ) (n i k x y : ℕ) → i < k → slice_get (starts_below ps n) i ≡ Some x → slice_get (starts_below ps n) k ≡ Some y → x < y
rising ps n i zero x y less e g = absurd (omega (arith, less))
rising ps n i (suc k) x y less e g =
    let xs = starts_below ps n in
    let within : suc k < length (starts_below ps n) = slice_get_within xs (suc k) y g in
    let before = starts_order ps n xs i k (starts_rise ps n) (omega (arith, less)) (omega (arith, within)) in
    let next = rises_next ps n xs k (starts_rise ps n) within in
    omega (arith, before, next, get_or_from_slice_get xs i x 0 e, get_or_from_slice_get xs (suc k) y 0 g)

pub audited_jobs : AuditedJobsAreTheFrames
audited_jobs t lists es now some =
    record {
      each = λ i r e.
          let x = mapped (round_of t es) (starts_before t now) i r e in
          let h = frame_of t in
          let f = h * (x.0 / h) in
          let a = x.0 % h in
          let whole : f % h ≡ 0 = mul-mod_right h (x.0 / h) in
          let begun : begins (root_periods t) a ≡ true = sym (begins_alike t (f + a) a (root_modules t) (alike t f a whole)) ∙ ap (begins (root_periods t)) (div-add-mod x.0 h) ∙ (start_is (root_periods t) now i x.0 x.1).1 in
          let j = below_start (root_periods t) h a (mod-lt x.0 some) begun in
          let less : j.0 < length (starts t) = slice_get_within (starts t) j.0 a j.1 in
          let same : round_of t es (f + get_or (starts t) j.0 0) ≡ r = ap (λ z. round_of t es (f + z)) (get_or_from_slice_get (starts t) j.0 a 0 j.1) ∙ ap (round_of t es) (div-add-mod x.0 h) ∙ x.2 in
          (f, j.0, whole, less, subst (IsAtStart (frame_at t lists es f) f j.0) same (at_start_of t lists es f j.0 whole less));
      all = λ f j whole less early.
          let a = get_or (starts t) j 0 in
          let begun : begins (root_periods t) (f + a) ≡ true = begins_alike t (f + a) a (root_modules t) (alike t f a whole) ∙ (start_is (root_periods t) (frame_of t) j a (slice_get-get_or (starts t) j 0 less)).1 in
          let i = below_start (root_periods t) now (f + a) early begun in
          (i.0, round_of t es (f + a), mapped_at (round_of t es) (starts_before t now) i.0 (f + a) i.1, at_start_of t lists es f j whole less);
      order = λ i k r q less e g.
          let x = mapped (round_of t es) (starts_before t now) i r e in
          let y = mapped (round_of t es) (starts_before t now) k q g in
          omega (arith, rising (root_periods t) now i k x.0 y.0 less x.1 y.1, ap (λ (z : BeginningJobs). z.start) x.2, ap (λ (z : BeginningJobs). z.start) y.2);
    }
