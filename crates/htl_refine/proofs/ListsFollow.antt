-- The lists of a run's frame follow one another.
use Rattle.std.proofs.Common.{◌≡◌, ◌⊎◌, ℕ, zero, suc, ◌+◌, ◌≤◌, ◌<◌, ◌%◌, true, false, eqb, List, [], ◌∷◌, length, get_or, map, slice_get, Some, refl, sym, ap, ◌∙◌, arith, inl, inr}
use Rattle.htl_refine.proofs.Words.{eq-eqb, or_left, or_right, length-map, Event, Place, unit_period, frame_of, begins, starts, root_periods, rounds, known_by, root_modules, Tables, Job, SInstr, placed_job, legs_of, Leg, AreInForm, derived_place, frame_modes, frame_places, frame_jobs, frame_at, ListsFollow, no_leg, took, known_rises, starts_order, from_map, same_Some, cases_le}
use Rattle.htl_walk.proofs.Starts.{Rises, starts_rise, known_few}
use Rattle.htl_refine.proofs.{PathDerived.placed_present, RecordOrder.not_some, RoundOrder.round_of, RoundOrder.run_of, RoundOrder.frame_by_start, RoundOrder.begun_known, ServedFrames.frames_are_served}

pub begins_by : (t : Tables) (us : List ℕ) (j u a : ℕ) → slice_get us j ≡ Some u → a % unit_period t u ≡ 0 → begins (map (unit_period t) us) a ≡ true
begins_by t [] j u a e g = not_some u e
begins_by t (v ∷ us) zero u a e g = grind (arith, or_left, same_Some, eq-eqb)
begins_by t (v ∷ us) (suc j) u a e g = or_right (eqb (a % unit_period t v) 0) (begins (map (unit_period t) us) a) (begins_by t us j u a e g)

-- ---- starts

pub rises_next : (ps : List ℕ) (h : ℕ) (from : List ℕ) (j : ℕ) → Rises ps h from → suc j < length from → get_or from j 0 < get_or from (suc j) 0
rises_next ps h (a ∷ b ∷ later) zero r l = r.1
rises_next ps h (a ∷ b ∷ later) (suc j) r l = rises_next ps h (b ∷ later) j r.3 (omega (arith, l))
rises_next ps h _ j r l = absurd (omega arith)

rises_gap : (ps : List ℕ) (h : ℕ) (from : List ℕ) (j x : ℕ) → Rises ps h from → suc j < length from → get_or from j 0 < x → x < get_or from (suc j) 0 → begins ps x ≡ false
rises_gap ps h (c ∷ d ∷ later) zero x r l a b = r.2 x a b
rises_gap ps h (c ∷ d ∷ later) (suc j) x r l a b = rises_gap ps h (d ∷ later) j x r.3 (omega (arith, l)) a b
rises_gap ps h _ j x r l a b = absurd (omega arith)

-- ---- legs

pub legs_many : (h : ℕ) (xs : List Place) (from : List ℕ) → length (legs_of h xs from) ≡ length from
legs_many h xs [] = refl
legs_many h xs (a ∷ later) = ap (λ n. suc n) (legs_many h xs later)

pub leg_from : (h : ℕ) (xs : List Place) (from : List ℕ) (j : ℕ) → j < length from → (get_or (legs_of h xs from) j no_leg).from ≡ get_or from j 0
leg_from h xs [] j l = absurd (omega arith)
leg_from h xs (a ∷ later) zero l = refl
leg_from h xs (a ∷ later) (suc j) l = leg_from h xs later j (omega (arith, l))

pub leg_knows : (h : ℕ) (xs : List Place) (from : List ℕ) (j : ℕ) → j < length from → (get_or (legs_of h xs from) j no_leg).known ≡ known_by (get_or from j 0) xs
leg_knows h xs [] j l = absurd (omega arith)
leg_knows h xs (a ∷ later) zero l = refl
leg_knows h xs (a ∷ later) (suc j) l = leg_knows h xs later j (omega (arith, l))

-- ---- what is new in a list

-- who has a position that is new at a start isn't released before it
released_later : (t : Tables) (es : List Event) (f j p : ℕ) (k : Job) → suc j < length (starts t)
    → known_by (get_or (starts t) j 0) (frame_places t (frame_modes t es f)) ≤ p → slice_get (frame_jobs t (frame_modes t es f)) p ≡ Some k → k.present ≡ true → get_or (starts t) (suc j) 0 ≤ k.release
released_later t es f j p k l new at here =
    let modes = frame_modes t es f in
    let xs = frame_places t modes in
    let ys = map (derived_place t modes) xs in
    let y = from_map (placed_job t ys) ys p k at in
    let x = from_map (derived_place t modes) xs p y.0 y.1 in
    let r = run_of t modes (rounds t) p x.0 x.1 in
    let root = round_of t r.0 r.1 r.2 in
    let begun : begins (root_periods t) r.1.at ≡ true = begins_by t (root_modules t) root.0 r.1.unit r.1.at root.1 root.2 in
    let first : x.0.at ≡ r.1.at = ap (λ (z : Place). z.at) r.6 in
    let second : x.0.at ≡ y.0.at = ap (λ (z : Place). z.at) x.2 in
    let release = ap (λ (z : Job). z.release) (placed_present t ys y.0.at y.0.inv k y.2 here).4 in
    let after : y.0.at ≤ k.release = omega (arith, release) in
    by (cases_le (get_or (starts t) (suc j) 0) r.1.at) (cases_le' r.1.at (get_or (starts t) j 0)) begun (omega (arith, first, second, after))
    (λ early. omega (arith, new, begun_known (get_or (starts t) j 0) xs p x.0 (frame_by_start t modes) x.1 (omega (arith, early, first))))
  where
    cases_le' : (a b : ℕ) → (a ≤ b) ⊎ (b < a)
    cases_le' a b = grind arith

    by : {a : ℕ} → (get_or (starts t) (suc j) 0 ≤ a) ⊎ (a < get_or (starts t) (suc j) 0) → (a ≤ get_or (starts t) j 0) ⊎ (get_or (starts t) j 0 < a) → begins (root_periods t) a ≡ true → a ≤ k.release
        → (a ≤ get_or (starts t) j 0 → ⊥) → get_or (starts t) (suc j) 0 ≤ k.release
    by (inl late) m b after early = omega (arith, late, after)
    by (inr soon) (inl m) b after early = absurd (early m)
    by {a} (inr soon) (inr m) b after early = grind (arith, rises_gap, starts_rise)

-- a list in form isn't empty
form_some : (ss : List (List SInstr)) (gs : List Leg) (j : ℕ) → AreInForm ss gs → j < length gs → 0 < length (get_or ss j [])
form_some [] [] j a l = absurd (omega arith)
form_some ([] ∷ ss) (g ∷ gs) zero a l = absurd a.0
form_some ((i ∷ is) ∷ ss) (g ∷ gs) zero a l = omega arith
form_some (s ∷ ss) (g ∷ gs) (suc j) a l = form_some ss gs j a.1 (omega (arith, l))
form_some _ _ j a l = absurd a

pub lists_follow : ListsFollow
lists_follow t lists es f j run there =
    let modes = frame_modes t es f in
    let xs = frame_places t modes in
    let ys = map (derived_place t modes) xs in
    let h = frame_of t in
    let from = starts t in
    let rise : Rises (root_periods t) h from = starts_rise (root_periods t) h in
    let serving = frames_are_served t lists es f run in
    let many : length (legs_of h xs from) ≡ length from = legs_many h xs from in
    let here : j < length from = omega (arith, there) in
    let own = leg_knows h xs from j here in
    let next = leg_knows h xs from (suc j) there in
    let grows : known_by (get_or from j 0) xs ≤ known_by (get_or from (suc j) 0) xs = known_rises (get_or from j 0) (get_or from (suc j) 0) xs (let z = rises_next (root_periods t) h from j rise there in omega (arith, z)) in
    record {
      forms = serving.forms;
      there = omega (arith, many, there);
      some = form_some (frame_at t lists es f).lists (legs_of h xs from) (suc j) serving.forms (omega (arith, many, there));
      before = λ i l.
          let up = starts_order (root_periods t) h from i j rise (omega (arith, l)) here in
          omega (arith, leg_knows h xs from i (omega (arith, l, here)), own, known_rises (get_or from i 0) (get_or from j 0) xs up);
      more = omega (arith, own, next, grows);
      within = omega (arith, next, known_few (get_or from (suc j) 0) xs, length-map ys (placed_job t ys) ∙ length-map xs (derived_place t modes));
      lengths = length-map (frame_jobs t modes) (λ (z : Job). took t es z.inv (f + z.release));
      later = λ p k new at is. omega (arith, leg_from h xs from (suc j) there, released_later t es f j p k there (omega (arith, own, new)) at is);
    }
