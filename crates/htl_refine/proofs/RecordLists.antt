-- The records of an instant are those of the list that ran up to it, and of the list that begins at it.
use Rattle.std.proofs.Common.{◌≡◌, ◌≢◌, ℕ, zero, suc, ◌+◌, ◌-◌, ◌*◌, ◌/◌, ◌≤◌, ◌<◌, ◌⊎◌, Bool, true, false, cond, eqb, ltb, List, [], ◌∷◌, ◌++◌, length, get_or, map, slice_get, Option, Some, None, refl, sym, ap, ap₂, ◌∙◌, subst, arith, append-nil, inl, inr}
use Rattle.htl_refine.proofs.Words.{filter, eqb-true, eq-eqb, ne_eqb, lt-ltb, ltb-true, slice_get-get_or, same_Some, add-mul-div_left, div-eq_of_lt, Event, hyper, frame_of, root_periods, starts, node, joined, numbered, up_to, Tables, Job, SInstr, Leg, list_point, walks_from, AreInForm, AreChained, path_point, Point, Left, walk_from, last_point, first_point, RunningList, lists_from, lists_at, left_in, begun_before, begins_at, in_frame, old_records_by, new_records_by, frame_modes, path_of, frame_places, frame_at, walks_of, no_leg, leg_at, list_start, list_at, ListsRun, OldRecords, NoOldRecords, NewRecords, NoNewRecords, shifted, rounds_before, IsServing, IsFeasibleRun, past_legs, starts_order, cases_less_same, form_at}
use Rattle.htl_walk.proofs.Starts.{Rises, starts_rise}
use Rattle.htl_refine.proofs.{BegunTimes.start_below, ListCounts.chain_to, ListWalks.list_is, ListsFollow.rises_next, ListsFollow.legs_many, ListsFollow.leg_from, RecordOrder.not_some, RecordOrder.times_within}
use Rattle.htl_refine.proofs.ServedFrames.{frames_are_served}

-- ---- lists end to end, of which at most one gives something

joined_none : {A B : Type 0} (g : A → List B) (test : A → Bool) (xs : List A) → ((i : ℕ) (y : A) → slice_get xs i ≡ Some y → test y ≡ true → g y ≡ []) → joined g (filter test xs) ≡ []
joined_none g test [] h = refl
joined_none {A} {B} g test (x ∷ xs) h = by (test x) refl (joined_none g test xs (λ i y e. h (suc i) y e))
  where
    by : (b : Bool) → test x ≡ b → joined g (filter test xs) ≡ [] → joined g (cond b (x ∷ filter test xs) (filter test xs)) ≡ []
    by true e ih = ap (λ (zs : List B). zs ++ joined g (filter test xs)) (h 0 x refl e) ∙ ih
    by false e ih = ih

joined_one : {A B : Type 0} (g : A → List B) (test : A → Bool) (xs : List A) (j : ℕ) (x : A) → slice_get xs j ≡ Some x → test x ≡ true
    → ((i : ℕ) (y : A) → i ≢ j → slice_get xs i ≡ Some y → test y ≡ true → g y ≡ []) → joined g (filter test xs) ≡ g x
joined_one g test [] j x at pass h = not_some x at
joined_one {A} {B} g test (y ∷ ys) zero x at pass h =
    ap (λ (z : A). joined g (filter test (z ∷ ys))) (same_Some y x at)
    ∙ ap (λ (b : Bool). joined g (cond b (x ∷ filter test ys) (filter test ys))) pass
    ∙ ap (λ (zs : List B). g x ++ zs) (joined_none g test ys (λ i z e. h (suc i) z (λ q. omega (arith, q)) e)) ∙ append-nil (g x)
joined_one {A} {B} g test (y ∷ ys) (suc j) x at pass h = by (test y) refl (joined_one g test ys j x at pass (λ i z n e. h (suc i) z (λ q. n (let same : i ≡ j = omega (arith, q) in same)) e))
  where
    by : (b : Bool) → test y ≡ b → joined g (filter test ys) ≡ g x → joined g (cond b (y ∷ filter test ys) (filter test ys)) ≡ g x
    by true e ih = ap (λ (zs : List B). zs ++ joined g (filter test ys)) (h 0 y (λ q. omega (arith, q)) refl e) ∙ ih
    by false e ih = ih

pub up_to_none : {A : Type 0} (g : ℕ → List A) (m : ℕ) → ((k : ℕ) → k < m → g k ≡ []) → up_to g m ≡ []
up_to_none g zero h = refl
up_to_none g (suc m) h = ap₂ (λ xs ys. xs ++ ys) (up_to_none g m (λ k less. h k (omega (arith, less)))) (h m (omega arith))

-- ---- records that are left at another time

none_left : (now f k : ℕ) (ls : List Left) → ((i : ℕ) (l : Left) → slice_get ls i ≡ Some l → f + l.at ≢ now) → filter (λ (l : ℕ × Left). eqb l.1.at now) (numbered k (map (shifted f) ls)) ≡ []
none_left now f k [] h = refl
none_left now f k (l ∷ ls) h = by (eqb (f + l.at) now) (ne_eqb (f + l.at) now (h 0 l refl)) (none_left now f (suc k) ls (λ i m e. h (suc i) m e))
  where
    by : (b : Bool) → b ≡ false → filter (λ (l : ℕ × Left). eqb l.1.at now) (numbered (suc k) (map (shifted f) ls)) ≡ []
        → cond b ((k, shifted f l) ∷ filter (λ (l : ℕ × Left). eqb l.1.at now) (numbered (suc k) (map (shifted f) ls))) (filter (λ (l : ℕ × Left). eqb l.1.at now) (numbered (suc k) (map (shifted f) ls))) ≡ []
    by true e ih = absurd (let z : ⊥ = cc in z)
    by false e ih = ih

-- ---- the lists of a frame

lists_there : (jobs : List Job) (number : ℕ → ℕ) (f n m : ℕ) (ss : List (List SInstr)) (gs : List Leg) (x : Point) (j : ℕ) → AreInForm ss gs → j < length gs → m ≡ n + j
    → slice_get (lists_from number f n ss gs (walks_from jobs ss gs x)) j
    ≡ Some (record { from = f + (get_or gs j no_leg).from; node = number m; code = get_or ss j []; walk = walk_from jobs (get_or ss j []) (path_point jobs ss gs j 0 x) })
lists_there jobs number f n m [] [] x j form l e = absurd (omega (arith, l))
lists_there jobs number f n m (s ∷ ss) (g ∷ gs) x zero form l e = grind arith
lists_there jobs number f n m (s ∷ ss) (g ∷ gs) x (suc j) form l e =
    lists_there jobs number f (suc n) m ss gs (last_point jobs s (list_point g.from x)) j form.1 (omega (arith, l)) (omega (arith, e))
lists_there jobs number f n m _ _ x j form l e = absurd form

lists_within : (number : ℕ → ℕ) (f n : ℕ) (ss : List (List SInstr)) (gs : List Leg) (ws : List (List Left)) (i : ℕ) (y : RunningList) → slice_get (lists_from number f n ss gs ws) i ≡ Some y → i < length gs
lists_within number f n (s ∷ ss) (g ∷ gs) (w ∷ ws) zero y e = omega arith
lists_within number f n (s ∷ ss) (g ∷ gs) (w ∷ ws) (suc i) y e = let r = lists_within number f (suc n) ss gs ws i y e in omega (arith, r)
lists_within number f n _ _ _ i y e = not_some y e

-- a list begins at its leg's start
point_time : (jobs : List Job) (ss : List (List SInstr)) (gs : List Leg) (j : ℕ) (x : Point) → AreInForm ss gs → j < length gs → (path_point jobs ss gs j 0 x).time ≡ (get_or gs j no_leg).from
point_time jobs [] [] j x f h = absurd (omega arith)
point_time jobs (s ∷ ss) (g ∷ gs) zero x f h = refl
point_time jobs (s ∷ ss) (g ∷ gs) (suc j) x f h = point_time jobs ss gs j (last_point jobs s (list_point g.from x)) f.1 (omega arith)
point_time jobs _ _ j x f h = absurd f

leg_order : (a h n j : ℕ) (gs : List Leg) → AreChained a h n gs → j < length gs → (get_or gs j no_leg).from ≤ (get_or gs j no_leg).to
leg_order a h n j [] c l = absurd (omega (arith, l))
leg_order a h n zero (g ∷ gs) c l = c.1
leg_order a h n (suc j) (g ∷ gs) c l = leg_order g.to h n j gs c.3 (omega (arith, l))

leg_end : (a h n j : ℕ) (gs : List Leg) → AreChained a h n gs → j < length gs → (get_or gs j no_leg).to ≤ h
leg_end a h n j [] c l = absurd (omega (arith, l))
leg_end a h n zero (g ∷ gs) c l = past_legs g.to h n gs c.3
leg_end a h n (suc j) (g ∷ gs) c l = leg_end g.to h n j gs c.3 (omega (arith, l))

legs_order : (a h n i j : ℕ) (gs : List Leg) → AreChained a h n gs → i < j → j < length gs → (get_or gs i no_leg).to ≤ (get_or gs j no_leg).from
legs_order a h n i j [] c less l = absurd (omega (arith, l))
legs_order a h n i zero (g ∷ gs) c less l = absurd (omega (arith, less))
legs_order a h n zero (suc j) (g ∷ gs) c less l = chain_to g.to h n j gs c.3 (omega (arith, l))
legs_order a h n (suc i) (suc j) (g ∷ gs) c less l = legs_order g.to h n i j gs c.3 (omega (arith, less)) (omega (arith, l))

-- ---- frames

frames_begun : (h k now : ℕ) → 0 < h → k * h < now → now ≤ k * h + h → rounds_before h now ≡ suc k
frames_begun h k now some began upto = grind (arith, add-mul-div_left, div-eq_of_lt)

frame_is : (h k a : ℕ) → 0 < h → a < h → h * ((k * h + a) / h) ≡ k * h
frame_is h k a some less = grind (arith, add-mul-div_left, div-eq_of_lt)

frame_before : (h i k : ℕ) → i < k → i * h + h ≤ k * h
frame_before h i k less = grind arith

-- ---- in a run

module _ (t : Tables) (lists : List (List SInstr)) (es : List Event) (run : IsFeasibleRun t lists es) where
  hyper_is : hyper t ≡ Some (frame_of t)
  hyper_is = grind arith

  serving : (f : ℕ) → IsServing (frame_at t lists es f) (frame_of t)
  serving f = frames_are_served t lists es f run

  known_leg : (f j : ℕ) → j < length (starts t) → j < length (frame_at t lists es f).legs
  known_leg f j l = let many = legs_many (frame_of t) (frame_places t (frame_modes t es f)) (starts t) in omega (arith, many, l)

  there : (f j : ℕ) → j < length (starts t) → slice_get (lists_at t lists es f) j ≡ Some (list_at t lists es f j)
  there f j l =
      let p = frame_at t lists es f in
      let number = node t (path_of t (frame_modes t es f)) in
      lists_there p.jobs number f 0 j p.lists p.legs (first_point p.jobs p.lengths) j (serving f).forms (known_leg f j l) (omega arith)
      ∙ ap (λ (w : List Left). let r : RunningList = record { from = f + (leg_at p j).from; node = number j; code = get_or p.lists j []; walk = w } in Some r)
      (sym (list_is p j (serving f).forms (known_leg f j l)))

  only : (f i : ℕ) (y : RunningList) → slice_get (lists_at t lists es f) i ≡ Some y → (i < length (starts t)) × (list_at t lists es f i ≡ y)
  only f i y e =
      let p = frame_at t lists es f in
      let l : i < length p.legs = lists_within (node t (path_of t (frame_modes t es f))) f 0 p.lists p.legs (walks_of p) i y e in
      let few : i < length (starts t) = omega (arith, legs_many (frame_of t) (frame_places t (frame_modes t es f)) (starts t), l) in
      (few, same_Some _ _ (sym (there f i few) ∙ e))

  -- a list leaves nothing after its leg
  times : (f i k : ℕ) (l : Left) → i < length (starts t) → slice_get (list_at t lists es f i).walk k ≡ Some l → l.at ≤ (leg_at (frame_at t lists es f) i).to
  times f i k l few at =
      let p = frame_at t lists es f in
      let s = serving f in
      let m = known_leg f i few in
      let time : (list_start p i).time ≡ (leg_at p i).from = point_time p.jobs p.lists p.legs i (first_point p.jobs p.lengths) s.forms m in
      let order : (leg_at p i).from ≤ (leg_at p i).to = leg_order 0 (frame_of t) (length p.jobs) i p.legs s.chain m in
      times_within p.jobs (leg_at p i).known (leg_at p i).to (get_or p.lists i []) (list_start p i) (form_at p.lists p.legs i s.forms m) (omega (arith, time, order)) k l
      (ap (λ (ls : List Left). slice_get ls k) (sym (list_is p i s.forms m)) ∙ at)

  -- ---- the list that begins

  start_of : (f j : ℕ) → j < length (starts t) → (leg_at (frame_at t lists es f) j).from ≡ get_or (starts t) j 0
  start_of f j l = leg_from (frame_of t) (frame_places t (frame_modes t es f)) (starts t) j l

  strict : (i j : ℕ) → i < j → j < length (starts t) → get_or (starts t) i 0 < get_or (starts t) j 0
  strict i zero less l = absurd (omega (arith, less))
  strict i (suc j) less l =
      let rise : Rises (root_periods t) (frame_of t) (starts t) = starts_rise (root_periods t) (frame_of t) in
      let up = starts_order (root_periods t) (frame_of t) (starts t) i j rise (omega (arith, less)) (omega (arith, l)) in
      omega (arith, up, rises_next (root_periods t) (frame_of t) (starts t) j rise l)

  one_start : (i j : ℕ) → i < length (starts t) → j < length (starts t) → get_or (starts t) i 0 ≡ get_or (starts t) j 0 → i ≢ j → ⊥
  one_start i j l m same other = grind (arith, cases_less_same, strict)

  -- ---- what depends on the records of lists at an instant: where there are none it is nothing

  module _ {A : Type 0} (g : ℕ → RunningList → List A) (now : ℕ) (quiet : (f : ℕ) (r : RunningList) → left_in now f r ≡ [] → g f r ≡ []) where
    -- of the lists of a frame
    in_last : (f j : ℕ) → j < length (starts t) → (list_at t lists es f j).from < now → now ≤ f + (leg_at (frame_at t lists es f) j).to
        → joined (g f) (filter (begun_before now) (lists_at t lists es f)) ≡ g f (list_at t lists es f j)
    in_last f j l began upto =
        joined_one (g f) (begun_before now) (lists_at t lists es f) j (list_at t lists es f j) (there f j l) (lt-ltb (list_at t lists es f j).from now began)
        (λ i y other at pass.
        let o = only f i y at in
        subst (λ (z : RunningList). g f z ≡ []) o.1
        (quiet f (list_at t lists es f i) (by i o.0 other (ltb-true (list_at t lists es f i).from now (subst (λ (z : RunningList). ltb z.from now ≡ true) (sym o.1) pass)) (cases_less_same i j))))
      where
        by : (i : ℕ) → i < length (starts t) → i ≢ j → (list_at t lists es f i).from < now → (i < j) ⊎ ((i ≡ j) ⊎ (j < i)) → left_in now f (list_at t lists es f i) ≡ []
        by i few other start (inl less) =
            let p = frame_at t lists es f in
            let order : (leg_at p i).to ≤ (leg_at p j).from = legs_order 0 (frame_of t) (length p.jobs) i j p.legs (serving f).chain less (known_leg f j l) in
            none_left now f 0 (list_at t lists es f i).walk (λ q m e same. let last = times f i q m few e in omega (arith, last, order, began, same))
        by i few other start (inr (inl same)) = absurd (other same)
        by i few other start (inr (inr more)) =
            let p = frame_at t lists es f in
            absurd (omega (arith, legs_order 0 (frame_of t) (length p.jobs) j i p.legs (serving f).chain more (known_leg f i few), upto, start))

    in_earlier : (f : ℕ) → f + frame_of t < now → joined (g f) (filter (begun_before now) (lists_at t lists es f)) ≡ []
    in_earlier f past =
        joined_none (g f) (begun_before now) (lists_at t lists es f) (λ i y at pass.
        let o = only f i y at in
        let p = frame_at t lists es f in
        let most : (leg_at p i).to ≤ frame_of t = leg_end 0 (frame_of t) (length p.jobs) i p.legs (serving f).chain (known_leg f i o.0) in
        subst (λ (z : RunningList). g f z ≡ []) o.1 (quiet f (list_at t lists es f i) (none_left now f 0 (list_at t lists es f i).walk (λ q m e same. let last = times f i q m o.0 e in omega (arith, last, most, past, same)))))

    pub old_joined : (k j : ℕ) → j < length (starts t) → (list_at t lists es (k * frame_of t) j).from < now → now ≤ k * frame_of t + (leg_at (frame_at t lists es (k * frame_of t)) j).to
        → up_to (λ i. joined (g (i * frame_of t)) (filter (begun_before now) (lists_at t lists es (i * frame_of t)))) (rounds_before (frame_of t) now) ≡ g (k * frame_of t) (list_at t lists es (k * frame_of t) j)
    old_joined k j l began upto =
        let h = frame_of t in
        let p = frame_at t lists es (k * h) in
        let x = λ (i : ℕ). joined (g (i * h)) (filter (begun_before now) (lists_at t lists es (i * h))) in
        let most : (leg_at p j).to ≤ h = leg_end 0 h (length p.jobs) j p.legs (serving (k * h)).chain (known_leg (k * h) j l) in
        let count : rounds_before h now ≡ suc k = frames_begun h k now run.ticks (omega (arith, began)) (omega (arith, upto, most)) in
        let before : up_to x k ≡ [] = up_to_none x k (λ i less. in_earlier (i * h) (let end = frame_before h i k less in omega (arith, end, began))) in
        ap (up_to x) count ∙ ap (λ (xs : List A). xs ++ x k) before ∙ in_last (k * h) j l began upto

    -- of the list that begins
    pub new_joined : (k j : ℕ) → j < length (starts t) → now ≡ (list_at t lists es (k * frame_of t) j).from
        → (frame_of t * (now / frame_of t) ≡ k * frame_of t) × (joined (g (k * frame_of t)) (filter (begins_at now) (lists_at t lists es (k * frame_of t))) ≡ g (k * frame_of t) (list_at t lists es (k * frame_of t) j))
    new_joined k j l now_is =
        let h = frame_of t in
        let f = k * h in
        let r = list_at t lists es f j in
        let below : get_or (starts t) j 0 < h = start_below (root_periods t) h j (get_or (starts t) j 0) (slice_get-get_or (starts t) j 0 l) in
        let start = start_of f j l in
        let less : (leg_at (frame_at t lists es f) j).from < h = omega (arith, below, start) in (
          ap (λ n. h * (n / h)) now_is ∙ frame_is h k (leg_at (frame_at t lists es f) j).from run.ticks less,
          joined_one (g f) (begins_at now) (lists_at t lists es f) j r (there f j l) (eq-eqb r.from now (sym now_is))
              (λ i y other at pass.
              let o = only f i y at in
              let same : (list_at t lists es f i).from ≡ r.from = ap (λ (z : RunningList). z.from) o.1 ∙ eqb-true y.from now pass ∙ now_is in
              absurd (one_start i j o.0 l (let a = start_of f i o.0 in omega (arith, a, start, same)) other)),
        )

    pub none_joined : ((j : ℕ) → j < length (starts t) → frame_of t * (now / frame_of t) + get_or (starts t) j 0 ≢ now)
        → joined (g (frame_of t * (now / frame_of t))) (filter (begins_at now) (lists_at t lists es (frame_of t * (now / frame_of t)))) ≡ []
    none_joined away =
        let f = frame_of t * (now / frame_of t) in
        joined_none (g f) (begins_at now) (lists_at t lists es f) (λ i y at pass.
        let o = only f i y at in
        absurd (away i o.0 (let a = start_of f i o.0 in omega (arith, a, ap (λ (z : RunningList). z.from) o.1 ∙ eqb-true y.from now pass))))

  pub no_frames : rounds_before (frame_of t) 0 ≡ 0
  no_frames = first (frame_of t) run.ticks
    where
      first : (h : ℕ) → 0 < h → rounds_before h 0 ≡ 0
      first h some = grind arith

pub lists_run : ListsRun
lists_run t lists es f j run l = there t lists es run f j l

pub old_records : OldRecords
old_records t lists es k j now run l began upto =
    ap (old_records_by t lists es now) (hyper_is t lists es run) ∙ old_joined t lists es run (λ f r. left_in now f r) now (λ f r e. e) k j l began upto

pub no_old_records : NoOldRecords
no_old_records t lists es run =
    ap (old_records_by t lists es 0) (hyper_is t lists es run) ∙ ap (up_to (λ (i : ℕ). in_frame t lists es (begun_before 0) 0 (i * frame_of t))) (no_frames t lists es run)

pub new_records : NewRecords
new_records t lists es k j run l =
    let now = (list_at t lists es (k * frame_of t) j).from in
    let r = new_joined t lists es run (λ f r. left_in now f r) now (λ f r e. e) k j l refl in
    ap (new_records_by t lists es now) (hyper_is t lists es run) ∙ ap (in_frame t lists es (begins_at now) now) r.0 ∙ r.1

pub no_new_records : NoNewRecords
no_new_records t lists es now run away =
    ap (new_records_by t lists es now) (hyper_is t lists es run) ∙ none_joined t lists es run (λ f r. left_in now f r) now (λ f r e. e) away
