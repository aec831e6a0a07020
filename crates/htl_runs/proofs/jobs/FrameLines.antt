-- The job lines of a run that count within a frame are those of the frame's own records.
use Rattle.std.proofs.Common.{◌≡◌, ◌≢◌, ◌≤◌, ◌<◌, inl, inr, ℕ, zero, suc, ◌+◌, ◌-◌, ◌*◌, ◌/◌, ◌%◌, Bool, true, false, cond, ◌&&◌, eqb, ltb, leb, List, [], ◌∷◌, ◌++◌, map, slice_get, Option, Some, None, option_map, refl, sym, ap, ap₂, ◌∙◌, arith, append-nil}
use Rattle.htl_runs.proofs.Words.{filter, div-add-mod, mod-lt, mul-le-mul_right, eqb-true, ltb-true, ltb-false, leb-true, and_parts, Event, node, joined, numbered, up_to, Tables, up_to_same, Job, SInstr, Leg, list_point, walks_from, end_to_end, Left, Point, first_point, last_point, walk_from, RunningList, lists_from, left_in, begun_before, Frame, frame_modes, path_of, frame_at, walk_of, Rises, rounds_before, shifted, RunLine, RunRecord, record_of, as_told, lists_records, old_records, closed_slice_line, job_lines, job_lines_at, lists_at, SliceLine, DoneLine, inv_at, cases_less_same, up_to_none}
use Rattle.htl_runs.proofs.{lines.JobLines.job_lines_of, lines.JobLines.none_first, lines.JobLines.begins_silent, lines.Joined.joined-append, lines.Joined.joined-up_to, lines.Joined.joined-maps, lines.StandingRecords.silent_at}
use Rattle.htl_runs.proofs.{lines.RecordTimes.nothing, lines.RecordTimes.joined_none, lines.RecordTimes.at_now, lines.RecordTimes.before_now, lines.RecordTimes.in_order, jobs.WorkRecords.DoesWork}

-- ---- numbers of frames

-- where frame n isn't one of those that began before, the instant is no later than its start
not_begun : (h n now : ℕ) → 0 < h → rounds_before h now ≤ n → now ≤ n * h
not_begun h n now some few = grind (arith, div-add-mod, mod-lt, mul-le-mul_right)

-- frames that have an instant in common are one
frames_apart : (h k n at : ℕ) → k ≢ n → k * h < at → at ≤ k * h + h → n * h < at → at ≤ n * h + h → ⊥
frames_apart h k n at other a b c d = elim (cases_less_same k n) [
  | inl less ↦ let next : suc k * h ≤ n * h = mul-le-mul_right h less in let is : suc k * h ≡ k * h + h = grind arith in omega (arith, next, is, b, c)
  | inr (inl same) ↦ other same
  | inr (inr more) ↦ let next : suc n * h ≤ k * h = mul-le-mul_right h more in let is : suc n * h ≡ n * h + h = grind arith in omega (arith, next, is, a, d)
]

up_to_one : {X : Type 0} (g : ℕ → List X) (n m : ℕ) → ((k : ℕ) → k ≢ n → g k ≡ []) → (m ≤ n → g n ≡ []) → up_to g m ≡ g n
up_to_one g n zero other late = sym (late (omega arith))
up_to_one {X} g n (suc m) other late = elim (cases_less_same m n) [
  | inl less ↦ up_to_none g (suc m) (λ k few. other k (λ same. omega (arith, same, few, less))) ∙ sym (late (omega (arith, less)))
  | inr (inl same) ↦ ap₂ (λ (xs ys : List X). xs ++ ys) (up_to_none g m (λ k few. other k (λ e. omega (arith, e, few, same)))) (ap g same)
  | inr (inr more) ↦ ap₂ (λ (xs ys : List X). xs ++ ys) (up_to_one g n m other (λ few. absurd (omega (arith, few, more)))) (other m (λ e. omega (arith, e, more))) ∙ append-nil (g n)
]

-- ---- the lines of a frame's lists

module _ {X : Type 0} (h : RunLine → List X) where
  -- what a record of a frame from f gives
  abbrev pub owed : List Job → ℕ → Left → List X
  owed jobs f l = joined h (job_lines_of jobs (0, shifted f l))

  left_then : (jobs : List Job) (f now k : ℕ) (ls : List Left)
      → joined h (joined (job_lines_of jobs) (filter (λ (l : ℕ × Left). eqb l.1.at now) (numbered k (map (shifted f) ls)))) ≡ joined (at_now (owed jobs f) f now) ls
  left_then jobs f now k [] = refl
  left_then jobs f now k (l ∷ ls) = by (eqb (f + l.at) now) (left_then jobs f now (suc k) ls)
    where
      rest : List (ℕ × Left)
      rest = filter (λ (l : ℕ × Left). eqb l.1.at now) (numbered (suc k) (map (shifted f) ls))

      later : List X
      later = joined (at_now (owed jobs f) f now) ls

      by : (b : Bool) → joined h (joined (job_lines_of jobs) rest) ≡ later
          → joined h (joined (job_lines_of jobs) (cond b ((k, shifted f l) ∷ rest) rest)) ≡ cond b (owed jobs f l) [] ++ later
      by true next = joined-append h (job_lines_of jobs (k, shifted f l)) (joined (job_lines_of jobs) rest) ∙ ap (λ (xs : List X). owed jobs f l ++ xs) next
      by false next = next

  -- a list that hasn't begun before has none
  of_lists : (t : Tables) (number : ℕ → ℕ) (f now j : ℕ) (all jobs : List Job) (ss : List (List SInstr)) (gs : List Leg) (x : Point)
      → joined h (joined (λ (r : RunningList). joined (job_lines_of all) (left_in now f r)) (filter (begun_before now) (lists_from number f j ss gs (walks_from jobs ss gs x))))
      ≡ joined (at_now (owed all f) f now) (end_to_end (walks_from jobs ss gs x))
  of_lists t number f now j all jobs [] gs x = refl
  of_lists t number f now j all jobs (s ∷ ss) [] x = refl
  of_lists t number f now j all jobs (s ∷ ss) (g ∷ gs) x = by (ltb (f + g.from) now) refl (of_lists t number f now (suc j) all jobs ss gs (last_point jobs s (list_point g.from x)))
    where
      ls : List Left
      ls = walk_from jobs s (list_point g.from x)

      more : List Left
      more = end_to_end (walks_from jobs ss gs (last_point jobs s (list_point g.from x)))

      r : RunningList
      r = record { from = f + g.from; node = number j; code = s; walk = ls }

      rest : List RunningList
      rest = filter (begun_before now) (lists_from number f (suc j) ss gs (walks_from jobs ss gs (last_point jobs s (list_point g.from x))))

      lines : RunningList → List RunLine
      lines r = joined (job_lines_of all) (left_in now f r)

      here : joined h (lines r) ≡ joined (at_now (owed all f) f now) ls
      here = left_then all f now 0 ls

      split : joined (at_now (owed all f) f now) (ls ++ more) ≡ joined (at_now (owed all f) f now) ls ++ joined (at_now (owed all f) f now) more
      split = joined-append (at_now (owed all f) f now) ls more

      by : (b : Bool) → ltb (f + g.from) now ≡ b → joined h (joined lines rest) ≡ joined (at_now (owed all f) f now) more
          → joined h (joined lines (cond b (r ∷ rest) rest)) ≡ joined (at_now (owed all f) f now) (ls ++ more)
      by true e next = joined-append h (lines r) (joined lines rest) ∙ ap₂ (λ (xs ys : List X). xs ++ ys) here next ∙ sym split
      by false e next =
          let late : now ≤ f + g.from = ltb-false (f + g.from) now e in
          let none : lines r ≡ [] = none_first t all f now 0 ls (λ i l at same. silent_at jobs s (list_point g.from x) l.at i l (omega (arith, late, same)) at refl) in
          next ∙ ap (λ (xs : List X). xs ++ joined (at_now (owed all f) f now) more) (sym (ap (joined h) none) ∙ here) ∙ sym split

  module _ (t : Tables) (lists : List (List SInstr)) (es : List Event) where
    abbrev frame : ℕ → Frame
    frame f = frame_at t lists es f

    of_frame : (f now : ℕ) → joined h (joined job_lines (lists_records t lists es (begun_before now) now f)) ≡ joined (at_now (owed (frame f).jobs f) f now) (walk_of (frame f))
    of_frame f now =
        let p = frame f in
        ap (joined h) (joined-maps job_lines (λ r l. record_of p.jobs r.node r.code (as_told l)) (left_in now f) (filter (begun_before now) (lists_at t lists es f)))
        ∙ of_lists t (node t (path_of t (frame_modes t es f))) f now 0 p.jobs p.jobs p.lists p.legs (first_point p.jobs p.lengths)

    -- ---- where lines count alone that are behind s and no later than e

    module _ (s e : ℕ) (slice_out : (from to inv : ℕ) → (ltb s to && leb to e) ≡ false → h (SliceLine from to inv) ≡ [])
        (done_out : (at inv : ℕ) → (ltb s at && leb at e) ≡ false → h (DoneLine at inv) ≡ []) where
      -- a record that is left at another time, or does nothing, gives nothing
      gives_none : (jobs : List Job) (f : ℕ) (l : Left) → (DoesWork l → ((ltb s (f + l.at) && leb (f + l.at) e) ≡ false) × ((u : ℕ × ℕ) → l.slice ≡ Some u → u.1 ≡ l.at)) → owed jobs f l ≡ []
      gives_none jobs f l out =
          joined-append h (closed_slice_line inv (option_map (λ (u : ℕ × ℕ). (f + u.0, f + u.1)) l.slice)) (cond l.finished (DoneLine (f + l.at) inv ∷ []) [])
          ∙ ap₂ (λ (xs ys : List X). xs ++ ys) (no_slice l.slice refl) (no_done l.finished refl)
        where
          inv : ℕ
          inv = inv_at jobs l.position

          no_slice : (o : Option (ℕ × ℕ)) → l.slice ≡ o → joined h (closed_slice_line inv (option_map (λ (u : ℕ × ℕ). (f + u.0, f + u.1)) o)) ≡ []
          no_slice None has = refl
          no_slice (Some u) has =
              let w = out (inl (u, has)) in
              ap (λ (xs : List X). xs ++ []) (slice_out (f + u.0) (f + u.1) inv (ap (λ (z : ℕ). ltb s (f + z) && leb (f + z) e) (w.1 u has) ∙ w.0))

          no_done : (b : Bool) → l.finished ≡ b → joined h (cond b (DoneLine (f + l.at) inv ∷ []) []) ≡ []
          no_done true has = ap (λ (xs : List X). xs ++ []) (done_out (f + l.at) inv (out (inr has)).0)
          no_done false has = refl

      outside : (at : ℕ) → (s < at → at ≤ e → ⊥) → (ltb s at && leb at e) ≡ false
      outside at not = by (ltb s at && leb at e) refl
        where
          by : (b : Bool) → (ltb s at && leb at e) ≡ b → b ≡ false
          by false is = refl
          by true is = let both = and_parts (ltb s at) (leb at e) is in absurd (not (ltb-true s at both.0) (leb-true at e both.1))

      module _ (long n : ℕ) (some : 0 < long) (first : n * long ≤ s) (last : e ≤ n * long + long)
          (working : (k i : ℕ) (l : Left) → slice_get (walk_of (frame (k * long))) i ≡ Some l → DoesWork l → (0 < l.at) × (l.at ≤ long) × ((u : ℕ × ℕ) → l.slice ≡ Some u → u.1 ≡ l.at)) where
        abbrev gives : ℕ → Left → List X
        gives k l = owed (frame (k * long)).jobs (k * long) l

        abbrev then_left : ℕ → ℕ → List X
        then_left now k = joined (at_now (gives k) (k * long) now) (walk_of (frame (k * long)))

        elsewhere : (now k : ℕ) → k ≢ n → then_left now k ≡ []
        elsewhere now k other =
            joined_none (at_now (gives k) (k * long) now) (walk_of (frame (k * long)))
            (λ i l at. ap (λ (xs : List X). cond (eqb (k * long + l.at) now) xs [])
            (gives_none (frame (k * long)).jobs (k * long) l (λ does.
            let w = working k i l at does in
            (outside (k * long + l.at) (λ a b. frames_apart long k n (k * long + l.at) other (omega (arith, w.0)) (omega (arith, w.1)) (omega (arith, a, first)) (omega (arith, b, last))), w.2)))
            ∙ nothing (eqb (k * long + l.at) now))

        -- nor does its own up to its start
        too_early : (now : ℕ) → now ≤ n * long → then_left now n ≡ []
        too_early now early = joined_none (at_now (gives n) (n * long) now) (walk_of (frame (n * long))) (λ i l at. by l (eqb (n * long + l.at) now) refl (working n i l at))
          where
            by : (l : Left) (b : Bool) → eqb (n * long + l.at) now ≡ b → (DoesWork l → (0 < l.at) × (l.at ≤ long) × ((u : ℕ × ℕ) → l.slice ≡ Some u → u.1 ≡ l.at)) → cond b (gives n l) [] ≡ []
            by l false is works = refl
            by l true is works =
                let here : n * long + l.at ≡ now = eqb-true (n * long + l.at) now is in
                gives_none (frame (n * long)).jobs (n * long) l (λ does. absurd (let w = (works does).0 in omega (arith, here, w, early)))

        at_instant : (now : ℕ) → joined h (job_lines_at t lists es (Some long) now) ≡ then_left now n
        at_instant now =
            let running : ℕ → List RunRecord = λ k. lists_records t lists es (begun_before now) now (k * long) in
            let old = joined job_lines (old_records t lists es (Some long) now) in
            ap (λ (xs : List RunLine). joined h (old ++ xs)) (begins_silent t lists es (Some long) now)
            ∙ ap (joined h) (append-nil old ∙ joined-up_to job_lines running (rounds_before long now))
            ∙ joined-up_to h (λ k. joined job_lines (running k)) (rounds_before long now)
            ∙ up_to_same (λ k. joined h (joined job_lines (running k))) (then_left now) (rounds_before long now) (λ k less. of_frame (k * long) now)
            ∙ up_to_one (then_left now) n (rounds_before long now) (elsewhere now) (λ few. too_early now (not_begun long n now some few))

        -- so those of the instants before m are those of the frame's records that are left before m
        pub of_run : Rises 0 (walk_of (frame (n * long))) → (m : ℕ)
            → joined h (up_to (job_lines_at t lists es (Some long)) m) ≡ joined (before_now (gives n) (n * long) m) (walk_of (frame (n * long)))
        of_run rises m =
            joined-up_to h (job_lines_at t lists es (Some long)) m
            ∙ up_to_same (λ now. joined h (job_lines_at t lists es (Some long) now)) (λ now. then_left now n) m (λ now less. at_instant now)
            ∙ in_order (gives n) (n * long) 0 (walk_of (frame (n * long))) rises m
