-- Frames of two runs whose modes agree so far.
use Rattle.std.proofs.Common.{◌≡◌, ◌<◌, ◌≤◌, ◌⊎◌, ℕ, zero, suc, ◌+◌, ◌*◌, Bool, false, ◌&&◌, eqb, leb, le-leb, List, [], ◌∷◌, ◌++◌, length, get_or, map, slice_get, take, Option, Some, None, refl, sym, ◌∙◌, ap, ap₂, subst, arith, inl, inr}
use Rattle.htl_refine.proofs.Words.{cases_lt, ne_eqb, Event, Place, Round, Inv, followed, chosen, frame_of, starts, rounds, node, places_of, known_by, of_bool, list_to, AreInRange, Tables, Job, is_fed_by, mask, job_in, placed, placed_job, placed_jobs, next_of, legs_of, Leg, FramesAgree, running_invs, derived_place, standing_places, frame_modes, path_of, running_places, frame_places, frame_jobs, known_append, length-list_to, map_same, take_front, list_same, take-map}
use Rattle.htl_refine.proofs.{AlongPath.known_none, Fronts.front_there, NodeRead.nodes_read, NodeRead.nodes_agree, StateLaws.states_are_selections}
use Rattle.htl_refine.proofs.RoundOrder.{Sorted, RoundLess, ByStart, sorted_rounds, least_first, run_of, frame_by_start, standing_by_start, begun_known, known_begun, known_same}

-- ---- the places so far

block_known : (d a : ℕ) (ks : List ℕ) → a ≤ d → known_by d (places_of a ks) ≡ length (places_of a ks)
block_known d a [] h = refl
block_known d a (k ∷ ks) h = let bit : of_bool (leb a d) ≡ 1 = ap of_bool (le-leb a d h) in let rest = block_known d a ks h in omega (arith, bit, rest)

take_join : (xs ys : List Place) (n : ℕ) → take (length xs + n) (xs ++ ys) ≡ xs ++ take n ys
take_join [] ys n = let z : 0 + n ≡ n = omega arith in ap (λ m. take m ys) z
take_join (x ∷ xs) ys n = let z : suc (length xs) + n ≡ suc (length xs + n) = omega arith in ap (λ m. take m (x ∷ (xs ++ ys))) z ∙ ap (λ zs. x ∷ zs) (take_join xs ys n)

-- by an offset the same have begun
record Agree (d : ℕ) (xs ys : List Place) : Type 0 where
  known : known_by d xs ≡ known_by d ys
  front : take (known_by d xs) xs ≡ take (known_by d ys) ys

none_agree : (d : ℕ) (xs ys : List Place) → known_by d xs ≡ 0 → known_by d ys ≡ 0 → Agree d xs ys
none_agree d xs ys a b = record { known = a ∙ sym b; front = ap (λ n. take n xs) a ∙ sym (ap (λ n. take n ys) b) }

block_agree : (d : ℕ) (bs xs ys : List Place) → known_by d bs ≡ length bs → Agree d xs ys → Agree d (bs ++ xs) (bs ++ ys)
block_agree d bs xs ys all agree =
    let first : known_by d (bs ++ xs) ≡ length bs + known_by d xs = known_append d bs xs ∙ ap (λ n. n + known_by d xs) all in
    let second : known_by d (bs ++ ys) ≡ length bs + known_by d ys = known_append d bs ys ∙ ap (λ n. n + known_by d ys) all in
    record {
      known = first ∙ ap (λ n. length bs + n) agree.known ∙ sym second;
      front =
          ap (λ n. take n (bs ++ xs)) first ∙ take_join bs xs (known_by d xs) ∙ ap (λ zs. bs ++ zs) agree.front ∙ sym (take_join bs ys (known_by d ys)) ∙ sym (ap (λ n. take n (bs ++ ys)) second);
    }

late_rounds : (t : Tables) (modes : ℕ → List (Option ℕ)) (d : ℕ) (rs : List Round) → ((q : ℕ) (r : Round) → slice_get rs q ≡ Some r → d < r.at) → known_by d (running_places t modes rs) ≡ 0
late_rounds t modes d rs late = known_none d (running_places t modes rs) (λ q y e. let r = run_of t modes rs q y e in let at : y.at ≡ r.1.at = ap (λ (z : Place). z.at) r.6 in omega (arith, at, late r.0 r.1 r.2))

places_agree : (t : Tables) (modes later : ℕ → List (Option ℕ)) (d : ℕ) (rs : List Round) → Sorted RoundLess rs → ((a : ℕ) → a ≤ d → modes a ≡ later a)
    → Agree d (running_places t modes rs) (running_places t later rs)
unfolding Sorted
places_agree t modes later d [] s same = record { known = refl; front = refl }
places_agree t modes later d (r ∷ rs) s same = by (cases_lt d r.at) (places_agree t modes later d rs s.1 same)
  where
    behind : d < r.at → (q : ℕ) (w : Round) → slice_get (r ∷ rs) q ≡ Some w → d < w.at
    behind c zero w e = let is : r.at ≡ w.at = ap (λ (z : Round). z.at) (let one : r ≡ w = cc in one) in omega (arith, c, is)
    behind c (suc q) w e = let first : r.at ≤ w.at = least_first r w (s.0 q w e) in omega (arith, c, first)

    by : (d < r.at) ⊎ (r.at ≤ d) → Agree d (running_places t modes rs) (running_places t later rs) → Agree d (running_places t modes (r ∷ rs)) (running_places t later (r ∷ rs))
    by (inl c) ih = none_agree d (running_places t modes (r ∷ rs)) (running_places t later (r ∷ rs)) (late_rounds t modes d (r ∷ rs) (behind c)) (late_rounds t later d (r ∷ rs) (behind c))
    by (inr h) ih = grind (arith, block_agree, block_known)

-- ---- what stands at them, and the jobs

pub all_false : (test : Place → Bool) (ys : List Place) → ((q : ℕ) (y : Place) → slice_get ys q ≡ Some y → test y ≡ false) → mask (map test ys) ≡ 0
all_false test [] h = refl
all_false test (y ∷ ys) h = let bit : of_bool (test y) ≡ 0 = ap of_bool (h 0 y refl) in let rest = all_false test ys (λ q z e. h (suc q) z e) in omega (arith, bit, rest)

mask_front : (test : Place → Bool) (m : ℕ) (ys : List Place) → ((q : ℕ) (y : Place) → m ≤ q → slice_get ys q ≡ Some y → test y ≡ false) → mask (map test ys) ≡ mask (map test (take m ys))
mask_front test zero ys h = all_false test ys (λ q y e. h q y (omega arith) e)
mask_front test (suc m) [] h = refl
mask_front test (suc m) (y ∷ ys) h = ap (λ n. of_bool (test y) + 2 * n) (mask_front test m ys (λ q z l e. h (suc q) z (omega (arith, l)) e))

away : (a b : ℕ) (c : Bool) → a < b → (eqb b a && c) ≡ false
away a b c l = ap (λ e. e && c) (ne_eqb b a (λ e. omega (arith, e, l)))

-- where nothing from m on is of the round from a, a job there is one of the first m places
job_front : (t : Tables) (ys : List Place) (m a : ℕ) (o : Option ℕ) → ((q : ℕ) (y : Place) → m ≤ q → slice_get ys q ≡ Some y → a < y.at) → placed t ys a o ≡ placed t (take m ys) a o
job_front t ys m a None h = refl
job_front t ys m a (Some k) h = by (slice_get t.invs k)
  where
    test : Place → Bool
    test y = eqb y.at a && is_fed_by t k y.inv

    preds : mask (map (λ (y : Place). eqb y.at a && is_fed_by t k y.inv) ys) ≡ mask (map (λ (y : Place). eqb y.at a && is_fed_by t k y.inv) (take m ys))
    preds = mask_front (λ (y : Place). eqb y.at a && is_fed_by t k y.inv) m ys (λ q y l e. away a y.at (is_fed_by t k y.inv) (h q y l e))

    by : (o : Option Inv) → job_in t ys a k o ≡ job_in t (take m ys) a k o
    by None = refl
    by (Some i) = ap (λ n. let j : Job = record (job_in t ys a k (Some i)) { preds = n } in j) preds

jobs_front : (t : Tables) (ys : List Place) (m d : ℕ) → Sorted ByStart ys → m ≡ known_by d ys → take m (placed_jobs t ys) ≡ placed_jobs t (take m ys)
jobs_front t ys m d sorted is = grind (arith, take-map, map_same, front_there, known_begun, job_front, cases_lt, begun_known)

-- ---- legs and lists

legs_agree : (h : ℕ) (xs ys : List Place) (from : List ℕ) (k : ℕ) → ((j : ℕ) → j < k → j < length from → known_by (get_or from j 0) xs ≡ known_by (get_or from j 0) ys)
    → take k (legs_of h xs from) ≡ take k (legs_of h ys from)
legs_agree h xs ys (a ∷ later) (suc k) e =
    ap₂ (λ n gs. let g : Leg = record { from = a; to = next_of h later; known = n } in g ∷ gs) (e 0 (omega arith) (omega arith)) (legs_agree h xs ys later k (λ j l m. e (suc j) (omega (arith, l)) (omega (arith, m))))
legs_agree h xs ys _ _ e = refl

lists_agree : {A : Type 0} (g h : ℕ → A) (n k : ℕ) → ((j : ℕ) → j < k → g j ≡ h j) → take k (list_to g n) ≡ take k (list_to h n)
lists_agree g h zero k e = refl
lists_agree {A} g h (suc n) k e = grind (arith, cases_lt, list_same, take_front, length-list_to, lists_agree g h n k e)

-- ---- the frames

module _ (t : Tables) (es fs : List Event) (f d : ℕ) (range : AreInRange t) (same : (a : ℕ) → a ≤ d → frame_modes t es f a ≡ frame_modes t fs f a) where
  agree_by : (a : ℕ) → a ≤ d → Agree a (frame_places t (frame_modes t es f)) (frame_places t (frame_modes t fs f))
  agree_by a l = places_agree t (frame_modes t es f) (frame_modes t fs f) a (rounds t) (sorted_rounds t) (λ b m. same b (omega (arith, l, m)))

  standing_sorted : (xs : List Event) → Sorted ByStart (standing_places t xs f)
  standing_sorted xs = standing_by_start t (frame_modes t xs f) (frame_places t (frame_modes t xs f)) (frame_by_start t (frame_modes t xs f))

  stands_same : (q : ℕ) (x : Place) → slice_get (take (known_by d (frame_places t (frame_modes t es f))) (frame_places t (frame_modes t es f))) q ≡ Some x
      → derived_place t (frame_modes t es f) x ≡ derived_place t (frame_modes t fs f) x
  stands_same q x e = grind (arith, front_there, known_begun, frame_by_start)

  fronts : take (known_by d (frame_places t (frame_modes t es f))) (standing_places t es f) ≡ take (known_by d (frame_places t (frame_modes t fs f))) (standing_places t fs f)
  fronts =
      let xs = frame_places t (frame_modes t es f) in
      let ys = frame_places t (frame_modes t fs f) in
      let one = derived_place t (frame_modes t es f) in
      let two = derived_place t (frame_modes t fs f) in
      take-map one (known_by d xs) xs ∙ map_same one two (take (known_by d xs) xs) stands_same ∙ ap (map two) (agree_by d (omega arith)).front ∙ sym (take-map two (known_by d ys) ys)

  pub jobs_agree : take (known_by d (frame_places t (frame_modes t es f))) (frame_jobs t (frame_modes t es f)) ≡ take (known_by d (frame_places t (frame_modes t es f))) (frame_jobs t (frame_modes t fs f))
  jobs_agree =
      let m = known_by d (frame_places t (frame_modes t es f)) in
      let n = known_by d (frame_places t (frame_modes t fs f)) in
      jobs_front t (standing_places t es f) m d (standing_sorted es) (sym (known_same t (frame_modes t es f) d (frame_places t (frame_modes t es f))))
      ∙ ap (placed_jobs t) fronts
      ∙ sym (jobs_front t (standing_places t fs f) n d (standing_sorted fs) (sym (known_same t (frame_modes t fs f) d (frame_places t (frame_modes t fs f)))))
      ∙ ap (λ z. take z (frame_jobs t (frame_modes t fs f))) (sym ((agree_by d (omega arith)).known))

  pub node_agrees : (j : ℕ) → ((i : ℕ) → i ≤ j → get_or (starts t) i 0 ≤ d) → node t (path_of t (frame_modes t es f)) j ≡ node t (path_of t (frame_modes t fs f)) j
  node_agrees j early =
      nodes_read t (frame_modes t es f) (λ a. states_are_selections t range es (f + a)) j
      ∙ nodes_agree t (frame_modes t es f) (frame_modes t fs f) (starts t) j (λ i l. same (get_or (starts t) i 0) (early i l))
      ∙ sym (nodes_read t (frame_modes t fs f) (λ a. states_are_selections t range fs (f + a)) j)

pub frames_agree : FramesAgree
frames_agree t lists es fs f d k range alike =
    let same = alike.modes in
    let early = alike.lists in
    record {
      jobs = jobs_agree t es fs f d range same;
      lists = lists_agree (λ j. get_or lists (node t (path_of t (frame_modes t es f)) j) []) (λ j. get_or lists (node t (path_of t (frame_modes t fs f)) j) []) (length (starts t)) k
          (λ j l. ap (λ z. get_or lists z []) (node_agrees t es fs f d range same j (λ i m. early i (omega (arith, l, m)))));
      legs = legs_agree (frame_of t) (frame_places t (frame_modes t es f)) (frame_places t (frame_modes t fs f)) (starts t) k (λ j l m. (agree_by t es fs f d range same (get_or (starts t) j 0) (early j l)).known);
    }
