-- Other lengths of jobs that aren't released yet change the point at which a list begins by these lengths alone.
use Rattle.std.proofs.Common.{◌≡◌, ℕ, zero, suc, ◌≤◌, ◌<◌, List, [], ◌∷◌, length, get_or, slice_get, take, Some, cond, refl, sym, ap, ap₂, ◌∙◌, arith, inl, inr}
use Rattle.htl_refine.proofs.Words.{lt-ltb, cases_eq, Job, SInstr, Dispatch, AgreeBefore, Leg, list_point, walks_from, AreInForm, AreChained, path_point, HaveLengths, Point, Left, job_at, time_after, work_after, next_point, last_point, first_point, walk_from, work, earlier, stays, left_same, left_other, Alike, alike_walks, Frame, walks_of, no_leg, leg_at, list_start, time_rises_to}
use Rattle.htl_refine.proofs.{LengthsLater.waits, LengthsLater.waited, LengthsLater.nothing, LengthsLater.list_alike, LengthsLater.begun_alike, LengthsLater.path_alike, LengthsLater.first_alike, ListCounts.chain_to}
use Rattle.htl_refine.proofs.RecordOrder.{times_within}

-- ---- who isn't released has the work that it had

late_work : (now w r until t : ℕ) → (time_after now w r until) < t → t ≤ r → work_after now w r until ≡ w
late_work now zero r until t early late = (nothing now 0 r until refl).1
late_work now (suc w) r until t early late = grind (arith, waited, waits)

late_left : (jobs : List Job) (t q : ℕ) (i : SInstr) (x : Point) → (next_point jobs i x).time < t → t ≤ (job_at jobs q).release → get_or (next_point jobs i x).left q 0 ≡ get_or x.left q 0
late_left jobs t q (Dispatch p until) x early late = grind (arith, cases_eq, left_same, late_work, left_other)
late_left jobs t q _ x early late = refl

late_last : (jobs : List Job) (t q : ℕ) (is : List SInstr) (x : Point) → (last_point jobs is x).time < t → t ≤ (job_at jobs q).release → get_or (last_point jobs is x).left q 0 ≡ get_or x.left q 0
late_last jobs t q [] x early late = refl
late_last jobs t q (i ∷ is) x early late = grind (arith, late_left, time_rises_to, late_last jobs t q is (next_point jobs i x) early late)

late_path : (jobs : List Job) (t q : ℕ) (ss : List (List SInstr)) (gs : List Leg) (a h n j : ℕ) (x : Point) → AreInForm ss gs → AreChained a h n gs → j < length gs → (get_or gs j no_leg).from < t → t ≤ (job_at jobs q).release
    → get_or (path_point jobs ss gs j 0 x).left q 0 ≡ get_or x.left q 0
late_path jobs t q [] [] a h n j x f c l e late = absurd (omega (arith, l))
late_path jobs t q (s ∷ ss) (g ∷ gs) a h n zero x f c l e late = refl
late_path jobs t q (s ∷ ss) (g ∷ gs) a h n (suc j) x f c l e late =
    let v = list_point g.from x in
    let ends : (last_point jobs s v).time ≤ g.to = stays jobs g.known g.to s v f.0 c.1 in
    let later : g.to ≤ (get_or gs j no_leg).from = chain_to g.to h n j gs c.3 (omega (arith, l)) in
    late_path jobs t q ss gs g.to h n j (last_point jobs s v) f.1 c.3 (omega (arith, l)) e late ∙ late_last jobs t q s v (omega (arith, ends, later, e)) late
late_path jobs t q _ _ a h n j x f c l e late = absurd f

-- ---- the lists before have the same records

all_earlier : (e : ℕ) (ls : List Left) → ((k : ℕ) (l : Left) → slice_get ls k ≡ Some l → l.at < e) → earlier e ls ≡ ls
all_earlier e [] h = refl
all_earlier e (l ∷ ls) h = ap (λ b. cond b (l ∷ earlier e ls) (earlier e ls)) (lt-ltb l.at e (h 0 l refl)) ∙ ap (λ ms. l ∷ ms) (all_earlier e ls (λ k m g. h (suc k) m g))

walks_front : (jobs : List Job) (t : ℕ) (ss : List (List SInstr)) (gs : List Leg) (a h n j : ℕ) (x y : Point) → AreInForm ss gs → AreChained a h n gs → j < length gs → (get_or gs j no_leg).from < t → Alike jobs t x y
    → take j (walks_from jobs ss gs x) ≡ take j (walks_from jobs ss gs y)
walks_front jobs t [] [] a h n j x y f c l e k = absurd (omega (arith, l))
walks_front jobs t (s ∷ ss) (g ∷ gs) a h n zero x y f c l e k = refl
walks_front jobs t (s ∷ ss) (g ∷ gs) a h n (suc j) x y f c l e k =
    let v = list_point g.from x in
    let w = list_point g.from y in
    let b = begun_alike jobs t g.from x y k in
    let ends : (last_point jobs s v).time ≤ g.to = stays jobs g.known g.to s v f.0 c.1 in
    let before : g.to < t = omega (arith, chain_to g.to h n j gs c.3 (omega (arith, l)), e) in
    let one : walk_from jobs s v ≡ walk_from jobs s w =
    sym (all_earlier t (walk_from jobs s v) (λ i m at. let z = times_within jobs g.known g.to s v f.0 c.1 i m at in omega (arith, z, before)))
    ∙ alike_walks jobs t s v w b
    ∙ all_earlier t (walk_from jobs s w) (λ i m at. let z = times_within jobs g.known g.to s w f.0 c.1 i m at in omega (arith, z, before)) in
    ap₂ (λ ls ms. ls ∷ ms) one
    (walks_front jobs t ss gs g.to h n j (last_point jobs s v) (last_point jobs s w) f.1 c.3 (omega (arith, l)) e (list_alike jobs t s v w b (omega (arith, ends, before))))
walks_front jobs t _ _ a h n j x y f c l e k = absurd f

-- ---- of a frame

module _ (f : Frame) (ms : List ℕ) (h t j : ℕ) (forms : AreInForm f.lists f.legs) (chain : AreChained 0 h (length f.jobs) f.legs) (there : j < length f.legs) (early : (leg_at f j).from < t)
    (least : HaveLengths f.jobs f.lengths) (more : HaveLengths f.jobs ms) (agree : AgreeBefore t f.jobs f.lengths ms) where
  abbrev g : Frame
  g = record f { lengths = ms }

  first : Alike f.jobs t (first_point f.jobs f.lengths) (first_point f.jobs ms)
  first = first_alike f.jobs f.lengths ms t least more agree

  pub later_time : (list_start f j).time ≡ (list_start (record f { lengths = ms }) j).time
  later_time = (path_alike f.jobs t f.lists f.legs 0 h (length f.jobs) j (first_point f.jobs f.lengths) (first_point f.jobs ms) forms chain there early first).time

  -- who is released has the same work, who isn't has its own
  pub later_released : (q : ℕ) → (job_at f.jobs q).release < t → get_or (list_start f j).left q 0 ≡ get_or (list_start (record f { lengths = ms }) j).left q 0
  later_released q soon = (path_alike f.jobs t f.lists f.legs 0 h (length f.jobs) j (first_point f.jobs f.lengths) (first_point f.jobs ms) forms chain there early first).released q soon

  pub later_unreleased : (q : ℕ) → t ≤ (job_at f.jobs q).release → (get_or (list_start f j).left q 0 ≡ get_or (work f.jobs f.lengths) q 0) × (get_or (list_start (record f { lengths = ms }) j).left q 0 ≡ get_or (work f.jobs ms) q 0)
  later_unreleased q late = grind (arith, late_path)

  pub later_walks : take j (walks_of f) ≡ take j (walks_of (record f { lengths = ms }))
  later_walks = walks_front f.jobs t f.lists f.legs 0 h (length f.jobs) j (first_point f.jobs f.lengths) (first_point f.jobs ms) forms chain there early first
