-- The jobs of a frame are those of the rounds that begin in it, and each frame of a run is sound.
use Rattle.std.proofs.Common.{◌≡◌, ◌≤◌, ◌<◌, ℕ, zero, suc, ◌+◌, ◌-◌, ◌*◌, ◌/◌, ◌%◌, max, Bool, true, false, ◌&&◌, eqb, List, [], ◌∷◌, cond, length, get_or, map, take, slice_get, Option, Some, None, option_map, refl, sym, ap, ap₂, ◌∙◌, subst, arith}
use Rattle.htl_audit.proofs.Words.{div-add-mod, mul-mod_right, eq-eqb, and_from, get_or_from_slice_get, slice_get_within, none-some, same_Some, Event, Place, FrameRound, Inv, Stay, frame_of, root_periods, unit_period, starts, rounds, rounds_at, rounds_of, known_by, no_place, state, stay_of, feeds, root_modules, Tables, mode_module, mode_period, release, window_end, frame_divided, Job, SInstr, is_fed_by, precedes, job_in, placed_job, end_to_end, walks_from, first_point, walk_from, met_same, form_joined, mask_bit, get_mapped, derived_place, place, standing_places, AreOrdered, frame_modes, frame_places, frame_jobs, frame_at, took, lengths_of, IsServing, IsFeasibleRun, front_there, mapped, of_flat, own_starts, placed_present, places_ordered, times_within, run_of, frames_are_served, AreJobsSoFar, frame_start, begun_by, AreFrames, now_of, InvStands, entry_is, there_front, feasible_runs, HaveRounds, round_of, job_length, and_none}
use Rattle.htl_walk.proofs.Joining.{joined, show_joined}
use Rattle.htl_audit.proofs.{Beginning.multiples, FrameSlices.frame_plan, Growing.start_is, Growing.length_is, OnePosition.one_position, OwnSoFar.start_of, OwnSoFar.same_round, OwnSoFar.IsRun, OwnTicks.IsSound, Rounds.first_rules}
use Rattle.htl_audit.proofs.{RoundJobs.fresh, RoundJobs.precedes_is, StandingJobs.stands_job}

-- the rounds at a start begin there
starts_there : (t : Tables) (a : ℕ) (us : List ℕ) (q : ℕ) (r : FrameRound) → slice_get (rounds_of t a us) q ≡ Some r → r.at ≡ a
starts_there t a [] q r e = absurd (none-some r e)
starts_there t a (u ∷ us) q r e = by (eqb (a % unit_period t u) 0) q e (starts_there t a us)
  where
    by : (b : Bool) (i : ℕ) → slice_get (cond b (record { at = a; unit = u } ∷ rounds_of t a us) (rounds_of t a us)) i ≡ Some r → ((i : ℕ) (r : FrameRound) → slice_get (rounds_of t a us) i ≡ Some r → r.at ≡ a) → r.at ≡ a
    by true zero g later = sym (ap (λ (z : FrameRound). z.at) (same_Some _ _ g))
    by true (suc i) g later = later i r g
    by false i g later = later i r g

module _ (t : Tables) (lists : List (List SInstr)) (es : List Event) (rounds_fit : HaveRounds t) (run : IsFeasibleRun t lists es) where
  frames : AreFrames t es (now_of t lists es)
  frames = feasible_runs t lists es run

  -- ---- places

  -- what a job of a frame says of its place
  pub record IsPlaced (f q : ℕ) (k : Job) : Type 0 where
    pub at : ℕ
    pub inv : Inv
    pub known : slice_get t.invs k.inv ≡ Some inv
    pub place_is : slice_get (standing_places t es f) q ≡ Some (place k.inv at)
    pub early : at < frame_of t
    pub release_is : k.release ≡ at + release t inv
    pub end_is : k.end ≡ at + window_end t inv
    pub room : k.release < k.end
    pub made : job_in t (standing_places t es f) at k.inv (Some inv) ≡ k

  pub placed : (f q : ℕ) (k : Job) → slice_get (frame_jobs t (frame_modes t es f)) q ≡ Some k → k.present ≡ true → IsPlaced f q k
  placed f q k e here =
      let modes = frame_modes t es f in
      let ys = standing_places t es f in
      let y = mapped (placed_job t ys) ys q k e in
      let c = placed_present t ys y.0.at y.0.inv k y.2 here in
      let inv : c.0 ≡ k.inv = ap (λ (z : Job). z.inv) c.4 in
      let known : slice_get t.invs k.inv ≡ Some c.1 = ap (slice_get t.invs) (sym inv) ∙ c.3 in
      let x = mapped (derived_place t modes) (frame_places t modes) q y.0 y.1 in
      let r = run_of t modes (rounds t) q x.0 x.1 in
      let of = of_flat (rounds_at t) (starts t) r.0 r.1 r.2 in
      let began = start_is (root_periods t) (frame_of t) of.0 of.1 of.2 in
      let at : y.0.at ≡ of.1 = ap (λ (z : Place). z.at) (sym x.2) ∙ ap (λ (z : Place). z.at) r.6 ∙ starts_there t of.1 (root_modules t) of.3 r.1 of.4 in
      let w = (rounds_fit.windows k.inv c.1 known).0 in
      let release_is : y.0.at + release t c.1 ≡ k.release = ap (λ (z : Job). z.release) c.4 in
      let end_is : y.0.at + window_end t c.1 ≡ k.end = ap (λ (z : Job). z.end) c.4 in
      record {
        at = y.0.at;
        inv = c.1;
        known = known;
        place_is = y.1 ∙ ap (λ (o : Option ℕ). let z : Place = record { inv = o; at = y.0.at } in Some z) c.2 ∙ ap (λ (i : ℕ). Some (place i y.0.at)) inv;
        early = omega (arith, at, began.0);
        release_is = sym release_is;
        end_is = sym end_is;
        room = omega (arith, release_is, end_is, w);
        made = ap (λ (i : ℕ). job_in t ys y.0.at i (Some c.1)) (sym inv) ∙ c.4;
      }

  -- ---- the frame of an instant

  module _ (f : ℕ) (whole : start_of (frame_of t) f ≡ f) where
    -- an instant behind its start by less than its ticks is of it
    start_then : (d : ℕ) → d < frame_of t → frame_start t (f + d) ≡ f
    start_then d less = same_round (frame_of t) (f / frame_of t) (f + d) run.ticks (omega (arith, whole)) (omega (arith, whole, less)) ∙ whole

    -- a position whose round has begun is one of those that are known then
    in_front : (d q : ℕ) (k : Job) (p : IsPlaced f q k) → slice_get (frame_jobs t (frame_modes t es f)) q ≡ Some k → p.at ≤ d → d < frame_of t
        → slice_get (now_of t lists es (f + d)).jobs q ≡ Some k
    in_front d q k p e begun less =
        let o : AreOrdered (standing_places t es f) (known_by d (frame_places t (frame_modes t es f))) d = places_ordered t es f d run.range run.kept in
        let within : q < begun_by t es f (f + d) =
        subst (λ z. q < known_by z (frame_places t (frame_modes t es f))) (let z : d ≡ f + d - f = omega arith in z) (o.begun q (place k.inv p.at) p.place_is begun) in
        subst (λ z. slice_get (take (begun_by t es z (f + d)) (frame_jobs t (frame_modes t es z))) q ≡ Some k) (sym (start_then d less)) (there_front (begun_by t es f (f + d)) (frame_jobs t (frame_modes t es f)) q k e within)

    jobs_then : (d : ℕ) → d < frame_of t → AreJobsSoFar t (state t es (f + d)).stays f (f + d) (now_of t lists es (f + d)).jobs
    jobs_then d less = subst (λ z. AreJobsSoFar t (state t es (f + d)).stays z (f + d) (now_of t lists es (f + d)).jobs) (start_then d less) (frames.jobs_so_far (f + d))

  -- ---- a job of a frame is one of rounds, and the other way round

  -- the job at position q of the frame from f is that at position p of the rounds from s
  pub record IsFramed (f q : ℕ) (k : Job) (s p : ℕ) (j : Job) : Type 0 where
    pub at_frame : slice_get (frame_jobs t (frame_modes t es f)) q ≡ Some k
    pub at_round : slice_get (round_of t es s).jobs p ≡ Some j
    pub here : k.present ≡ true
    pub there : j.present ≡ true
    pub inv : k.inv ≡ j.inv
    pub release_is : f + k.release ≡ s + j.release
    pub end_is : f + k.end ≡ s + j.end
    pub length : get_or (lengths_of t es f (frame_jobs t (frame_modes t es f))) q 0 ≡ job_length (round_of t es s) p
    pub early : s ≤ f + k.release

  same_length : (f q : ℕ) (k : Job) (s p : ℕ) (j : Job) → slice_get (frame_jobs t (frame_modes t es f)) q ≡ Some k → slice_get (round_of t es s).jobs p ≡ Some j → k.inv ≡ j.inv → f + k.release ≡ s + j.release
      → get_or (lengths_of t es f (frame_jobs t (frame_modes t es f))) q 0 ≡ job_length (round_of t es s) p
  same_length f q k s p j a b inv from =
      length_is t es f q (frame_jobs t (frame_modes t es f)) k a ∙ ap₂ (took t es) inv from ∙ sym (length_is t es s p (round_of t es s).jobs j b)

  pub record InFrame (s p : ℕ) (j : Job) : Type 0 where
    pub position : ℕ
    pub job : Job
    pub is : IsFramed (start_of (frame_of t) s) position job s p j

  pub of_round : (s p : ℕ) (j : Job) → slice_get (round_of t es s).jobs p ≡ Some j → j.present ≡ true → InFrame s p j
  of_round s p j at there =
      let x = fresh t run.range run.kept rounds_fit es s p j at there in
      let mm = mode_module t x.inv.mode in
      let y = stay_there (stay_of (state t es s).stays mm) x.inv.mode (sym (entry_is t es s mm) ∙ x.runs) in
      let per = mode_period t x.inv.mode in
      let last : per * (s / per) ≡ s = omega (arith, div-add-mod s per, x.whole) in
      let began : y.0.start ≡ s = own_starts t run.range (first_rules t run.kept) es s mm y.0 y.1 ∙ ap (λ m. mode_period t m * (s / mode_period t m)) y.2 ∙ last in
      let st : InvStands t (state t es s).stays j.inv x.inv s =
      record {
        known = x.known;
        concrete = x.concrete;
        in_round = y.1 ∙ ap (λ m. let v : Stay = record { mode = m; start = y.0.start } in Some v) y.2 ∙ ap (λ n. let v : Stay = record { mode = x.inv.mode; start = n } in Some v) began;
      } in
      let c = (frames.jobs_so_far s).has j.inv x.inv s st in
      let q = c.0 in
      let job = c.1 in
      let f = frame_start t s in
      let at_frame : slice_get (frame_jobs t (frame_modes t es f)) q ≡ Some job.job = (front_there (begun_by t es f s) (frame_jobs t (frame_modes t es f)) q job.job job.at).0 in
      let release_is : f + job.job.release ≡ s + j.release = omega (arith, job.release, x.release) in
      record {
        position = q;
        job = job.job;
        is = record {
          at_frame = at_frame;
          at_round = at;
          here = job.present;
          there = there;
          inv = job.inv;
          release_is = release_is;
          end_is = omega (arith, job.end, x.end);
          length = same_length f q job.job s p j at_frame at job.inv release_is;
          early = omega (arith, release_is);
        };
      }
    where
      stay_there : (o : Option Stay) (m : ℕ) → option_map (λ (y : Stay). y.mode) o ≡ Some m → (y : Stay) × (o ≡ Some y) × (y.mode ≡ m)
      stay_there None m e = absurd (none-some m e)
      stay_there (Some y) m e = (y, refl, same_Some _ _ e)

  pub record InRound (f q : ℕ) (k : Job) : Type 0 where
    pub start : ℕ
    pub position : ℕ
    pub job : Job
    pub inv : Inv
    pub known : slice_get t.invs job.inv ≡ Some inv
    pub is : IsFramed f q k start position job
    pub own : start_of (frame_of t) start ≡ f
    -- its window lies in the frame
    pub within : k.end ≤ frame_of t

  pub of_frame : (f q : ℕ) (k : Job) → start_of (frame_of t) f ≡ f → slice_get (frame_jobs t (frame_modes t es f)) q ≡ Some k → k.present ≡ true → InRound f q k
  of_frame f q k whole e here =
      let w = placed f q k e here in
      let d = w.at in
      let front = in_front f whole d q k w e (omega arith) w.early in
      let c = (jobs_then f whole d w.early).stands q k front here (omega (arith, w.end_is, w.room, w.release_is)) in
      let x = c.0 in
      let s = c.1 in
      let job = c.3 in
      let same : job.job ≡ k = same_Some _ _ (sym job.at ∙ front) in
      let one : w.inv ≡ x = same_Some _ _ (sym w.known ∙ c.2.known) in
      let start : f + d ≡ s = omega (arith, job.release, ap (λ (z : Job). z.release) same, w.release_is, ap (release t) one) in
      let own = stands_job t run.range run.kept rounds_fit es (f + d) k.inv s x c.2 run.within in
      let z = fresh t run.range run.kept rounds_fit es s own.position own.job own.at own.present in
      let release_is : f + k.release ≡ s + own.job.release = omega (arith, start, w.release_is, own.release, ap (release t) one) in
      let end_is : f + k.end ≡ s + own.job.end = omega (arith, start, w.end_is, own.end, ap (window_end t) one) in
      let per = mode_period t z.inv.mode in
      let unit = get_or_from_slice_get (root_modules t) z.unit.number z.unit.unit 0 z.unit.at in
      let even : frame_of t % per ≡ 0 = ap (λ n. frame_of t % n) (z.period ∙ ap (unit_period t) (sym unit)) ∙ frame_divided t z.unit.number (slice_get_within (root_modules t) z.unit.number z.unit.unit z.unit.at) in
      let divided : per * (frame_of t / per) ≡ frame_of t = omega (arith, div-add-mod (frame_of t) per, even) in
      let next : (f + frame_of t) % per ≡ 0 = ap (λ n. n % per) (end_of per (frame_of t / per) (f / frame_of t) (frame_of t) f divided whole) ∙ mul-mod_right per (frame_of t / per * suc (f / frame_of t)) in
      let within : s + per ≤ f + frame_of t = multiples per s (f + frame_of t) z.whole next (omega (arith, start, w.early)) in
      record {
        start = s;
        position = own.position;
        job = own.job;
        inv = z.inv;
        known = z.known;
        is = record {
          at_frame = e;
          at_round = own.at;
          here = here;
          there = own.present;
          inv = sym own.inv;
          release_is = release_is;
          end_is = end_is;
          length = same_length f q k s own.position own.job e own.at (sym own.inv) release_is;
          early = omega (arith, start, w.release_is);
        };
        own = ap (start_of (frame_of t)) (sym start) ∙ start_then f whole d w.early;
        within = omega (arith, end_is, z.within, within);
      }
    where
      end_of : (p c n h f : ℕ) → p * c ≡ h → h * n ≡ f → f + h ≡ p * (c * suc n)
      end_of p c n h f a b = sym b₂ ∙ grind arith
        where
          b₂ : p * c * n + p * c ≡ f + h
          b₂ = ap₂ (λ x y. x + y) (ap (λ z. z * n) a ∙ b) a

  -- what precedes a job in its rounds precedes it in the frame
  pub framed_precedes : (f q r s p m : ℕ) (k i j h : Job) → IsFramed f q k s p j → IsFramed f r i s m h → precedes m j ≡ true → precedes r k ≡ true
  framed_precedes f q r s p m k i j h a b before =
      let x = placed f q k a.at_frame a.here in
      let y = placed f r i b.at_frame b.here in
      let u = fresh t run.range run.kept rounds_fit es s p j a.at_round a.there in
      let v = fresh t run.range run.kept rounds_fit es s m h b.at_round b.there in
      let one : x.inv ≡ u.inv = same_Some _ _ (sym x.known ∙ ap (slice_get t.invs) a.inv ∙ u.known) in
      let other : y.inv ≡ v.inv = same_Some _ _ (sym y.known ∙ ap (slice_get t.invs) b.inv ∙ v.known) in
      let from : f + x.at ≡ s = omega (arith, a.release_is, x.release_is, u.release, ap (release t) one) in
      let then : f + y.at ≡ s = omega (arith, b.release_is, y.release_is, v.release, ap (release t) other) in
      let same : y.at ≡ x.at = omega (arith, from, then) in
      let fed : feeds t i.inv k.inv ≡ true = ap₂ (feeds t) b.inv a.inv ∙ sym (precedes_is t run.range run.kept rounds_fit es s p m j h a.at_round b.at_round a.there b.there) ∙ before in
      let ys = standing_places t es f in
      let test : Place → Bool = λ z. eqb z.at x.at && is_fed_by t k.inv z.inv in
      ap (precedes r) (sym x.made) ∙ mask_bit (map test ys) r ∙ get_mapped test ys no_place r (and_none (eqb 0 x.at)) ∙ ap test (get_or_from_slice_get ys r (place i.inv y.at) no_place y.place_is)
      ∙ and_from (eqb y.at x.at) (feeds t i.inv k.inv) (eq-eqb y.at x.at same) fed

  -- ---- each frame is sound

  pub frame_sound : (f : ℕ) → start_of (frame_of t) f ≡ f → IsSound (frame_plan t lists es f) (frame_of t)
  frame_sound f whole =
      let p = frame_at t lists es f in
      let serving : IsServing (frame_at t lists es f) (frame_of t) = frames_are_served t lists es f run in
      let x = first_point p.jobs p.lengths in
      record {
        meets = λ q k at here.
            met_same p.jobs (end_to_end (walks_from p.jobs p.lists p.legs x)) (walk_from p.jobs (joined p.lists p.legs) x)
            (λ r. show_joined p.jobs p.lists p.legs 0 (frame_of t) (length p.jobs) x r serving.forms serving.chain (omega arith)) q k (serving.meets q k at here);
        once = once;
        inside = times_within p.jobs (length p.jobs) (frame_of t) (joined p.lists p.legs) x (form_joined p.lists p.legs 0 (frame_of t) (length p.jobs) serving.forms serving.chain) (omega arith);
        ends = λ q k at here. (of_frame f q k whole at here).within;
      }
    where
      once : (q r : ℕ) (k i : Job) → slice_get (frame_jobs t (frame_modes t es f)) q ≡ Some k → slice_get (frame_jobs t (frame_modes t es f)) r ≡ Some i → k.present ≡ true → i.present ≡ true → k.inv ≡ i.inv
          → k.release < i.end → i.release < k.end → q ≡ r
      once q r k i a b here there same early late =
          let x = placed f q k a here in
          let y = placed f r i b there in
          let d = max k.release i.release in
          let less : d < frame_of t = omega (arith, (of_frame f q k whole a here).within, (of_frame f r i whole b there).within, x.room, y.room) in
          one_position t (state t es (f + d)).stays f (f + d) (now_of t lists es (f + d)).jobs (jobs_then f whole d less) q r k i (in_front f whole d q k x a (omega (arith, x.release_is)) less)
          (in_front f whole d r i y b (omega (arith, y.release_is)) less) here there same (omega (arith, x.room, late)) (omega (arith, y.room, early))

  pub frames_run : IsRun (frame_plan t lists es) (frame_of t)
  frames_run = record { some = run.ticks; sound = frame_sound }
