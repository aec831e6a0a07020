-- No d line of a run is later than the latest finish.
use Rattle.std.proofs.Common.{◌≡◌, ◌≤◌, ◌<◌, ◌⊎◌, inl, inr, ℕ, zero, suc, ◌+◌, ◌-◌, ◌*◌, ◌/◌, Bool, true, false, cond, ◌&&◌, eqb, ltb, leb, List, [], ◌∷◌, ◌++◌, length, map, slice_get, Option, Some, None, option_map, refl, sym, ap, ap₂, ◌∙◌, subst, arith}
use Rattle.std.proofs.Math.Nat.{div-mul-le_self, lt-div-mul-add}
use Rattle.htl_runs.proofs.Words.{not_some, same_Some, eqb-true, eq-eqb, lt-ltb, le-leb, ltb-true, leb-true, and_parts, Event, hyper, frame_of, joined, up_to, up_to_none, root_modules, unit_period, multiple_of, Tables, SInstr, Left, first_point, path_rises, frame_at, walk_of, IsFeasibleRun, frames_are_served, every_job_in_time, RunLine, closed_slice_line, job_lines_at, job_lines_to, DoneLine, done_time, is_in, inv_at, inv_period, schedules_of}
use Rattle.htl_runs.proofs.{jobs.FrameLines.owed, jobs.FrameLines.of_run, jobs.JobTimes.working, jobs.OneRecord.out_of, lines.Joined.joined-append, lines.RecordTimes.nothing, lines.RecordTimes.joined_none, lines.RecordTimes.before_now}
use Rattle.htl_times.proofs.AcceptedRuns.{accepted_is_feasible}
use Rattle.htl_times.specs.{Response.IsLatest, Roots.root_of, declared.greatest.Greatest.Greatest}
use Rattle.htl_told.specs.Laws.{ToldNoLater, round_begin}
use Rattle.htl_told.proofs.RecordsNoLater.{left_no_later}

-- an item of which nothing is given, where nothing is given of all
none_of : {A X : Type 0} (h : A → List X) (xs : List A) (k : ℕ) (x : A) → joined h xs ≡ [] → slice_get xs k ≡ Some x → h x ≡ []
none_of h [] k x e at = not_some x at
none_of {A} {X} h (y ∷ xs) zero x e at = ap h (sym (same_Some _ _ at)) ∙ front (h y) (joined h xs) e
  where
    front : (us vs : List X) → us ++ vs ≡ [] → us ≡ []
    front [] vs f = refl
    front (u ∷ us) vs f = absurd (let z : ⊥ = cc in z)
none_of {A} {X} h (y ∷ xs) (suc k) x e at = none_of h xs k x (back (h y) (joined h xs) e) at
  where
    back : (us vs : List X) → us ++ vs ≡ [] → vs ≡ []
    back [] vs f = f
    back (u ∷ us) vs f = absurd (let z : ⊥ = cc in z)

module _ (t : Tables) (lists : List (List SInstr)) (es : List Event) (run : IsFeasibleRun t lists es) (now inv root : ℕ) (g : Greatest) (some : 0 < now) (is_root : root_of t inv ≡ Some root)
    (latest : IsLatest t lists root g) (late : round_begin (inv_period t inv) now + g.ticks < now) where
  -- what a line gives that is a d line of the invocation, about the instant
  abbrev gives : RunLine → List ℕ
  gives = done_time inv (now - 1) now

  abbrev k : ℕ
  k = (now - 1) / frame_of t

  -- a record of the frame gives none
  none_left : (m : ℕ) (l : Left) → slice_get (walk_of (frame_at t lists es (k * frame_of t))) m ≡ Some l → owed gives (frame_at t lists es (k * frame_of t)).jobs (k * frame_of t) l ≡ []
  none_left m l at =
      joined-append gives (closed_slice_line of (option_map (λ (u : ℕ × ℕ). (f + u.0, f + u.1)) l.slice)) (cond l.finished (DoneLine (f + l.at) of ∷ []) [])
      ∙ ap₂ (λ (xs ys : List ℕ). xs ++ ys) (no_slice l.slice) (no_done l.finished refl)
    where
      f : ℕ
      f = k * frame_of t

      of : ℕ
      of = inv_at (frame_at t lists es f).jobs l.position

      no_slice : (o : Option (ℕ × ℕ)) → joined gives (closed_slice_line of (option_map (λ (u : ℕ × ℕ). (f + u.0, f + u.1)) o)) ≡ []
      no_slice None = refl
      no_slice (Some u) = refl

      other : (b : Bool) → l.finished ≡ true → is_in inv (now - 1) now of (f + l.at) ≡ b → cond {A = List ℕ} b ((f + l.at) ∷ []) [] ++ [] ≡ []
      other false done e = refl
      other true done e =
          let parts = and_parts (eqb of inv) (ltb (now - 1) (f + l.at) && leb (f + l.at) now) e in
          let times = and_parts (ltb (now - 1) (f + l.at)) (leb (f + l.at) now) parts.1 in
          let same : f + l.at ≡ now = omega (arith, some, ltb-true (now - 1) (f + l.at) times.0, leb-true (f + l.at) now times.1) in
          let by_then = left_no_later t lists es run k m inv root l g at done (eqb-true of inv parts.0) is_root latest in
          let at_now : now ≤ round_begin (inv_period t inv) now + g.ticks = subst (λ z. z ≤ round_begin (inv_period t inv) z + g.ticks) same by_then in
          absurd (omega (arith, at_now, late))

      no_done : (b : Bool) → l.finished ≡ b → joined gives (cond b (DoneLine (f + l.at) of ∷ []) []) ≡ []
      no_done false e = refl
      no_done true e = other (is_in inv (now - 1) now of (f + l.at)) e refl

  -- so no line of the run
  none_told : (end : ℕ) → hyper t ≡ Some (frame_of t) → joined gives (job_lines_to t lists es end) ≡ []
  none_told end long =
      let f = k * frame_of t in
      let p = frame_at t lists es f in
      let s = frames_are_served t lists es f run in
      ap (λ (o : Option ℕ). joined gives (up_to (job_lines_at t lists es o) (suc end))) long
      ∙ of_run gives t lists es (now - 1) now (λ from to c out. refl) (λ at c out. out_of inv c (ltb (now - 1) at && leb at now) (at ∷ []) out) (frame_of t) k run.ticks
      (div-mul-le_self (now - 1) (frame_of t)) (let z : now - 1 < k * frame_of t + frame_of t = lt-div-mul-add run.ticks in omega (arith, z))
      (λ m i l is does. let w = working t lists es run m i l is does in (omega (arith, w.released), (every_job_in_time t lists es end run).inside m i l is, w.ends))
      (path_rises p.jobs p.lists p.legs 0 (frame_of t) (length p.jobs) (first_point p.jobs p.lengths) s.forms s.chain) (suc end)
      ∙ joined_none (before_now (owed gives p.jobs f) f (suc end)) (walk_of p) (λ m l at. ap (λ (xs : List ℕ). cond (ltb (f + l.at) (suc end)) xs []) (none_left m l at) ∙ nothing (ltb (f + l.at) (suc end)))

  pub not_told : (end n : ℕ) → hyper t ≡ Some (frame_of t) → slice_get (job_lines_to t lists es end) n ≡ Some (DoneLine now inv) → ⊥
  not_told end n long at =
      let none : gives (DoneLine now inv) ≡ [] = none_of gives (job_lines_to t lists es end) n (DoneLine now inv) (none_told end long) at in
      let counts : is_in inv (now - 1) now inv now ≡ true =
      ap₂ (λ (a b : Bool). a && b) (eq-eqb inv inv refl) (ap₂ (λ (a b : Bool). a && b) (lt-ltb (now - 1) now (omega (arith, some))) (le-leb now now (omega arith))) in
      let z : now ∷ [] ≡ [] = ap (λ (b : Bool). cond b (now ∷ []) []) (sym counts) ∙ none in
      cc

-- ---- of an accepted object

-- where there is a line there is a root module
frames : (t : Tables) (lists : List (List SInstr)) (es : List Event) (end k : ℕ) (line : RunLine) → slice_get (job_lines_to t lists es end) k ≡ Some line → (0 < length (root_modules t)) × (hyper t ≡ Some (frame_of t))
frames t lists es end k line at = (by_roots (root_modules t) refl, by (hyper t) refl)
  where
    nothing_told : hyper t ≡ None → ⊥
    nothing_told e =
        not_some line (ap (λ (xs : List RunLine). slice_get xs k) (sym (ap (λ (o : Option ℕ). up_to (job_lines_at t lists es o) (suc end)) e ∙ up_to_none (λ n. []) (suc end) (λ n few. refl))) ∙ at)

    by_roots : (us : List ℕ) → root_modules t ≡ us → 0 < length us
    by_roots [] e = absurd (nothing_told (ap (λ (us : List ℕ). elim (map (unit_period t) us) as (λ _. Option ℕ) [ [] ↦ None | p ∷ ps ↦ Some (multiple_of p ps) ]) e))
    by_roots (u ∷ us) e = omega arith

    by : (o : Option ℕ) → hyper t ≡ o → hyper t ≡ Some (frame_of t)
    by None e = absurd (nothing_told e)
    by (Some h) e = e ∙ ap (λ (o : Option ℕ). Some (elim o as (λ _. ℕ) [ Some z ↦ z | None ↦ 0 ])) (sym e)

pub told_no_later : ToldNoLater
told_no_later o es end k zero inv root l accepted within at is_root latest = omega arith
told_no_later o es end k (suc n) inv root l accepted within at is_root latest =
    let t = o.tables in
    let lists = schedules_of o in
    let there = frames t lists es end k (DoneLine (suc n) inv) at in
    let run : IsFeasibleRun t lists es = accepted_is_feasible o es accepted within there.0 in
    elim (late_or (round_begin (inv_period t inv) (suc n) + l.ticks)) [
      | inl h ↦ h
      | inr late ↦ absurd (not_told t lists es run (suc n) inv root l (omega arith) is_root latest late end k there.1 at)
    ]
  where
    late_or : (bound : ℕ) → (suc n ≤ bound) ⊎ (bound < suc n)
    late_or bound = grind arith
