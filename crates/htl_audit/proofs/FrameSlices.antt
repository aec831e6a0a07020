-- The slices that close at an instant are those of the walks of frames, each over one list.
use Rattle.std.proofs.Common.{◌≡◌, ◌≤◌, ◌<◌, ℕ, suc, ◌+◌, ◌*◌, Bool, true, false, cond, eqb, ltb, List, [], ◌∷◌, ◌++◌, length, slice_get, Option, Some, None, refl, sym, ap, ap₂, ◌∙◌, arith}
use Rattle.htl_audit.proofs.Words.{filter, ltb-false, ne_eqb, Event, frame_of, node, all_some, joined, up_to, Tables, up_to_same, Job, SInstr, Dispatch, Idle, End, Leg, list_point, walks_from, end_to_end, AreInForm, AreChained, Point, Left, next_point, walk_from, last_point, first_point, slice_of, body, begun_idle, stays, RunningList, lists_from, begun_before, left_in, Frame, frame_modes, path_of, frame_at, rounds_before, IsServing, Slice, own_slice, own_of, own_at, cond_same}
use Rattle.htl_walk.proofs.Joining as joining
use Rattle.htl_audit.proofs.{ClosedSlices.mine, ClosedSlices.onto, ClosedSlices.closed, ClosedSlices.closed_is, ClosedSlices.none_closed, OwnTicks.Plan, OwnTicks.walk_of}

-- the lists of a frame as one
abbrev pub plan_in : Frame → Plan
plan_in f = record { jobs = f.jobs; lengths = f.lengths; schedule = joining.joined f.lists f.legs }

abbrev pub frame_plan : Tables → List (List SInstr) → List Event → ℕ → Plan
frame_plan t lists es f = plan_in (frame_at t lists es f)

-- the slices that close at an instant, of the frames that began before it
abbrev pub frame_slices_at : (ℕ → Plan) → ℕ → ℕ → List Slice
frame_slices_at plan h now = up_to (λ k. closed (plan (k * h)).jobs (k * h) now (walk_of (plan (k * h)))) (rounds_before h now)

-- ---- lists end to end

module _ (jobs : List Job) (f now : ℕ) where
  closed_both : (xs ys : List Left) → closed jobs f now (xs ++ ys) ≡ closed jobs f now xs ++ closed jobs f now ys
  closed_both [] ys = refl
  closed_both (l ∷ xs) ys = by (eqb (f + l.at) now) (mine jobs f l.position l.slice) (closed_both xs ys)
    where
      by : (b : Bool) (o : Option Slice) → closed jobs f now (xs ++ ys) ≡ closed jobs f now xs ++ closed jobs f now ys
          → cond b (onto o (closed jobs f now (xs ++ ys))) (closed jobs f now (xs ++ ys)) ≡ cond b (onto o (closed jobs f now xs)) (closed jobs f now xs) ++ closed jobs f now ys
      by false o e = e
      by true None e = e
      by true (Some x) e = ap (λ zs. x ∷ zs) e

  -- ---- idles and ends close nothing

  closed_body : (s is : List SInstr) (x : Point) (ls : List Left) → closed jobs f now ls ≡ closed jobs f now (walk_from jobs is (last_point jobs s x))
      → closed jobs f now (walk_from jobs s x ++ ls) ≡ closed jobs f now (walk_from jobs (body s ++ is) x)
  closed_body [] is x ls e = e
  closed_body (Dispatch q h ∷ s) is x ls e =
      let y = next_point jobs (Dispatch q h) x in
      ap (λ rest. cond (eqb (f + y.time) now) (onto (mine jobs f (Some q) (slice_of jobs (Dispatch q h) x y.time)) rest) rest) (closed_body s is y ls e)
  closed_body (Idle h ∷ s) is x ls e =
      let y = next_point jobs (Idle h) x in
      ap (λ rest. cond (eqb (f + y.time) now) rest rest) (closed_body s is y ls e)
  closed_body (End ∷ s) is x ls e = cond_same (eqb (f + x.time) now) (closed jobs f now (walk_from jobs s x ++ ls)) ∙ closed_body s is x ls e

  pub closed_joined : (ss : List (List SInstr)) (gs : List Leg) (a h n : ℕ) (x : Point) → AreInForm ss gs → AreChained a h n gs → x.time ≤ a
      → closed jobs f now (end_to_end (walks_from jobs ss gs x)) ≡ closed jobs f now (walk_from jobs (joining.joined ss gs) x)
  closed_joined [] [] a h n x form chain early = sym (cond_same (eqb (f + x.time) now) [])
  closed_joined (s ∷ ss) (g ∷ gs) a h n x form chain early =
      let y = list_point g.from x in
      let e : next_point jobs (Idle g.from) x ≡ y = begun_idle jobs g.from x (omega (arith, chain.0, early)) in
      let t : (last_point jobs s y).time ≤ g.to = stays jobs g.known g.to s y form.0 chain.1 in
      let rest = closed_joined ss gs g.to h n (last_point jobs s y) form.1 chain.3 t in
      closed_body s (joining.joined ss gs) y (end_to_end (walks_from jobs ss gs (last_point jobs s y))) rest
      ∙ ap (λ z. closed jobs f now (walk_from jobs (body s ++ joining.joined ss gs) z)) (sym e)
      ∙ sym (cond_same (eqb (f + (next_point jobs (Idle g.from) x).time) now) (closed jobs f now (walk_from jobs (body s ++ joining.joined ss gs) (next_point jobs (Idle g.from) x))))
  closed_joined _ _ a h n x form chain early = absurd form

  -- ---- a list that begins at the instant or later has closed nothing yet

  pub slices_of_lists : (number : ℕ → ℕ) (j : ℕ) (ss : List (List SInstr)) (gs : List Leg) (x : Point)
      → joined (λ r. all_some (own_slice jobs) (left_in now f r)) (filter (begun_before now) (lists_from number f j ss gs (walks_from jobs ss gs x))) ≡ closed jobs f now (end_to_end (walks_from jobs ss gs x))
  slices_of_lists number j [] gs x = refl
  slices_of_lists number j (s ∷ ss) [] x = refl
  slices_of_lists number j (s ∷ ss) (g ∷ gs) x = by (ltb (f + g.from) now) refl (slices_of_lists number (suc j) ss gs (last_point jobs s (list_point g.from x)))
    where
      here : RunningList
      here = record { from = f + g.from; node = number j; code = s; walk = walk_from jobs s (list_point g.from x) }

      by : (b : Bool) → ltb (f + g.from) now ≡ b
          → joined (λ r. all_some (own_slice jobs) (left_in now f r)) (filter (begun_before now) (lists_from number f (suc j) ss gs (walks_from jobs ss gs (last_point jobs s (list_point g.from x))))) ≡ closed jobs f now (end_to_end (walks_from jobs ss gs (last_point jobs s (list_point g.from x))))
          → joined (λ r. all_some (own_slice jobs) (left_in now f r)) (cond b (record { from = f + g.from; node = number j; code = s; walk = walk_from jobs s (list_point g.from x) } ∷ filter (begun_before now) (lists_from number f (suc j) ss gs (walks_from jobs ss gs (last_point jobs s (list_point g.from x))))) (filter (begun_before now) (lists_from number f (suc j) ss gs (walks_from jobs ss gs (last_point jobs s (list_point g.from x))))))
          ≡ closed jobs f now (walk_from jobs s (list_point g.from x) ++ end_to_end (walks_from jobs ss gs (last_point jobs s (list_point g.from x))))
      by true e rest =
          ap₂ (λ (xs ys : List Slice). xs ++ ys) (closed_is jobs f now 0 (walk_from jobs s (list_point g.from x))) rest
          ∙ sym (closed_both (walk_from jobs s (list_point g.from x)) (end_to_end (walks_from jobs ss gs (last_point jobs s (list_point g.from x)))))
      by false e rest =
          rest
          ∙ ap (λ (xs : List Slice). xs ++ closed jobs f now (end_to_end (walks_from jobs ss gs (last_point jobs s (list_point g.from x))))) (sym (none_closed jobs f now s (list_point g.from x) (ltb-false (f + g.from) now e)))
          ∙ sym (closed_both (walk_from jobs s (list_point g.from x)) (end_to_end (walks_from jobs ss gs (last_point jobs s (list_point g.from x)))))

-- nothing is left at an instant of records that are all left before
pub none_past : (jobs : List Job) (f now : ℕ) (ls : List Left) → ((i : ℕ) (l : Left) → slice_get ls i ≡ Some l → f + l.at < now) → closed jobs f now ls ≡ []
none_past jobs f now [] early = refl
none_past jobs f now (l ∷ ls) early =
    ap (λ b. cond b (onto (mine jobs f l.position l.slice) (closed jobs f now ls)) (closed jobs f now ls)) (ne_eqb (f + l.at) now (λ e. omega (arith, e, early 0 l refl)))
    ∙ none_past jobs f now ls (λ i m at. early (suc i) m at)

-- ---- the frames of a run

module _ (t : Tables) (lists : List (List SInstr)) (es : List Event) where
  frame_slices : (f now : ℕ) → IsServing (frame_at t lists es f) (frame_of t) → own_of t lists es f now ≡ closed (frame_plan t lists es f).jobs f now (walk_of (frame_plan t lists es f))
  frame_slices f now serving =
      let p = frame_at t lists es f in
      slices_of_lists p.jobs f now (node t (path_of t (frame_modes t es f))) 0 p.lists p.legs (first_point p.jobs p.lengths)
      ∙ closed_joined p.jobs f now p.lists p.legs 0 (frame_of t) (length p.jobs) (first_point p.jobs p.lengths) serving.forms serving.chain (omega arith)

  pub slices_are : (h now : ℕ) → ((k : ℕ) → IsServing (frame_at t lists es (k * h)) (frame_of t)) → own_at t lists es (Some h) now ≡ frame_slices_at (frame_plan t lists es) h now
  slices_are h now serving =
      up_to_same (λ k. own_of t lists es (k * h) now) (λ k. closed (frame_plan t lists es (k * h)).jobs (k * h) now (walk_of (frame_plan t lists es (k * h)))) (rounds_before h now)
      (λ k less. frame_slices (k * h) now (serving k))
