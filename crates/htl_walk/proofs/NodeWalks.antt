-- The walk of all paths: what its first nodes tell of further paths, and what the lists of a path tell of it.
use Rattle.std.proofs.Common.{◌≡◌, ℕ, zero, suc, ◌+◌, ◌≤◌, ◌<◌, ◌⊎◌, true, false, leb, leb-true, le-leb, eqb, ◌&&◌, List, [], ◌∷◌, ◌++◌, length, drop, map, get_or, refl, sym, ap, ◌∙◌, subst, arith, inl, inr}
use Rattle.htl_walk.proofs.Words.{cases_lt, cases_Bool, get_or_past, length-map, list_to, of_bool, Tables, Place, starts, paths, node, path_places, known_by, frame_of, root_periods, Job, Miss, SInstr, absent_job, precedes, is_fed_by, Point, job_at, last_point, first_point, worst_cases, AreWellFormed, list_point, IsPathAccepted, AreChained, AgreeOn, AgreeAt, IsListClean, IsListMiss, AreClean, IsPathMiss, counted, WaitWithin, path_jobs, placed_jobs, placed_job, legs_of, legs, next_of, start_at, start_end_at, lists_of, AreFeasible, ShareFront, IsRoundFront, reach, ListIsClean, IsMissIn, count_to, list_at, reached, IsCleanAt, IsNodeMissAt, AreCleanTo, AreSaved, ShareNodes, AreWalkable, IsFirstFailing, marked_within}
use Rattle.htl_walk.proofs.{Fine.job_at_is, Fine.first_left, Clean.accepting, Work.absent_precedes, CleanAlike.clean_alike, GoingOn.untouched, OneMiss.path_refused, Nodes.nodes_share, Nodes.some_root}
use Rattle.htl_walk.proofs.Starts.{Rises, starts_rise, LaterPlaces, Stands, no_place, path_later, later_stands, job_is, placed_is, mask_bit, legs_follow}

-- ---- lists by place

pub list_front : {A : Type 0} (f : ℕ → A) (n : ℕ) → list_to f (suc n) ≡ f 0 ∷ list_to (λ j. f (suc j)) n
list_front f zero = refl
list_front f (suc n) = ap (λ xs. xs ++ f (suc n) ∷ []) (list_front f n)

pub reach_behind : (js : List Job) (a : ℕ) (later : List ℕ) (f : ℕ → List SInstr) (x : Point) (j : ℕ)
    → reach js (a ∷ later) f x (suc j) ≡ reach js later (λ k. f (suc k)) (last_point js (f 0) (list_point a x)) j
reach_behind js a later f x zero = refl
reach_behind js a later f x (suc j) = ap (λ y. last_point js (f (suc j)) (list_point (get_or later j 0) y)) (reach_behind js a later f x j)

count_behind : (f : ℕ → List SInstr) (j : ℕ) → count_to f (suc j) ≡ length (f 0) + count_to (λ k. f (suc k)) j
count_behind f zero = omega arith
count_behind f (suc j) = omega (arith, count_behind f j)

clean_behind : (js : List Job) (h : ℕ) (xs : List Place) (a : ℕ) (later : List ℕ) (f : ℕ → List SInstr) (x : Point) (j : ℕ) → ListIsClean js h xs (a ∷ later) f x (suc j)
    → ListIsClean js h xs later (λ k. f (suc k)) (last_point js (f 0) (list_point a x)) j
clean_behind js h xs a later f x j c = grind (arith, reach_behind)

-- where each list is clean from the point that is reached, the path's lists are
clean_lists : (js : List Job) (h : ℕ) (xs : List Place) (as' : List ℕ) (f : ℕ → List SInstr) (x : Point) → ((j : ℕ) → j < length as' → ListIsClean js h xs as' f x j)
    → AreClean js (list_to f (length as')) (legs_of h xs as') x
clean_lists js h xs [] f x c = tt
clean_lists js h xs (a ∷ later) f x c =
    subst (λ ss. AreClean js ss (legs_of h xs (a ∷ later)) x) (sym (list_front f (length later)))
    (c 0 (omega arith), clean_lists js h xs later (λ k. f (suc k)) (last_point js (f 0) (list_point a x)) (λ j l. clean_behind js h xs a later f x j (c (suc j) (omega (arith, l)))))

-- the miss of the first list that has one is the path's
miss_lists : (js : List Job) (h : ℕ) (xs : List Place) (as' : List ℕ) (f : ℕ → List SInstr) (x : Point) (n j : ℕ) (m : Miss) → j < length as' → ((i : ℕ) → i < j → ListIsClean js h xs as' f x i)
    → IsMissIn js h xs as' f x j m → IsPathMiss js (list_to f (length as')) (legs_of h xs as') n x (counted (n + count_to f j) m)
miss_lists js h xs [] f x n j m l c e = absurd (omega arith)
miss_lists js h xs (a ∷ later) f x n zero m l c e = grind (arith, list_front)
miss_lists js h xs (a ∷ later) f x n (suc j) m l c e =
    let y = last_point js (f 0) (list_point a x) in
    let g : ℕ → List SInstr = λ k. f (suc k) in
    let here : IsMissIn js h xs later g y j m = subst (λ z. IsListMiss (known_by (get_or later j 0) xs) (next_of h (drop (suc j) later)) js (f (suc j)) (list_point (get_or later j 0) z) m) (reach_behind js a later f x j) e in
    subst (λ ss. IsPathMiss js ss (legs_of h xs (a ∷ later)) n x (counted (n + count_to f (suc j)) m)) (sym (list_front f (length later)))
    (inr (
      c 0 (omega arith),
      subst (λ k. IsPathMiss js (list_to g (length later)) (legs_of h xs later) (n + length (f 0)) y (counted k m)) (omega (arith, count_behind f j))
          (miss_lists js h xs later g y (n + length (f 0)) j m (omega (arith, l)) (λ i b. clean_behind js h xs a later f x i (c (suc i) (omega (arith, b)))) here),
    ))

-- what the first lists don't know is untouched
untouched_to : (js : List Job) (h : ℕ) (xs : List Place) (as' : List ℕ) (f : ℕ → List SInstr) (x : Point) (j p : ℕ) → ((i : ℕ) → i < j → ListIsClean js h xs as' f x i)
    → ((i : ℕ) → i < j → known_by (get_or as' i 0) xs ≤ p) → get_or (reach js as' f x j).left p 0 ≡ get_or x.left p 0
untouched_to js h xs as' f x zero p c k = refl
untouched_to js h xs as' f x (suc j) p c k =
    let n = known_by (get_or as' j 0) xs in
    untouched n n (next_of h (drop (suc j) as')) js (f j) (list_point (get_or as' j 0) (reach js as' f x j)) p (c j (omega arith)).form (omega arith) (k j (omega arith))
    ∙ untouched_to js h xs as' f x j p (λ i l. c i (omega (arith, l))) (λ i l. k i (omega (arith, l)))

-- ---- what has begun by an instant has begun later

bit_rises : (x a b : ℕ) → a ≤ b → of_bool (leb x a) ≤ of_bool (leb x b)
bit_rises x a b l = grind (arith, cases_Bool, le-leb, leb-true)

pub known_rises : (a b : ℕ) (xs : List Place) → a ≤ b → known_by a xs ≤ known_by b xs
known_rises a b [] l = omega arith
known_rises a b (x ∷ xs) l = omega (arith, bit_rises x.at a b l, known_rises a b xs l)

first_least : (ps : List ℕ) (h a : ℕ) (later : List ℕ) (j : ℕ) → Rises ps h (a ∷ later) → j < suc (length later) → a ≤ get_or (a ∷ later) j 0
first_least ps h a later zero r l = omega arith
first_least ps h a [] (suc j) r l = absurd (omega (arith, l))
first_least ps h a (b ∷ later) (suc j) r l = omega (arith, r.1, first_least ps h b later j r.3 (omega (arith, l)))

pub starts_order : (ps : List ℕ) (h : ℕ) (xs : List ℕ) (i j : ℕ) → Rises ps h xs → i ≤ j → j < length xs → get_or xs i 0 ≤ get_or xs j 0
starts_order ps h [] i j r o l = absurd (omega (arith, l))
starts_order ps h (a ∷ later) zero j r o l = first_least ps h a later j r l
starts_order ps h (a ∷ later) (suc i) zero r o l = absurd (omega (arith, o))
starts_order ps h (a ∷ later) (suc i) (suc j) r o l = starts_order ps h later i j r.3 (omega (arith, o)) (omega (arith, l))

-- ---- predecessors are positions

absent_waits : (q : ℕ) → precedes q absent_job ≡ true → ⊥
absent_waits q e = let no : false ≡ true = sym (absent_precedes q) ∙ e in cc

waits_for : (t : Tables) (xs : List Place) (p q : ℕ) → LaterPlaces t (root_periods t) 0 xs → precedes q (get_or (placed_jobs t xs) p absent_job) ≡ true → (q < length xs) × (p < length xs)
waits_for t xs p q l e = elim (cases_lt p (length xs)) [
  | inl k ↦
      let s : Stands t (get_or xs p no_place) = later_stands t (root_periods t) 0 xs p l k in
      let test = λ (y : Place). eqb y.at (get_or xs p no_place).at && is_fed_by t s.0 y.inv in
      let bit : get_or (map test xs) q false ≡ true =
      sym (mask_bit (map test xs) q) ∙ sym (ap (precedes q) (job_is t (root_periods t) 0 xs l p k ∙ placed_is t xs (get_or xs p no_place) s)) ∙ e in
      (omega (arith, marked_within (map test xs) q bit, length-map xs test), k)
  | inr k ↦
      absurd (absent_waits q (sym (ap (precedes q) (get_or_past (placed_jobs t xs) p absent_job (omega (arith, k, length-map xs (placed_job t xs))))) ∙ e))
]

-- ---- paths with the same first nodes

-- the work at first
work_at : (js : List Job) (k : ℕ) → AreWellFormed js → get_or (first_point js (worst_cases js)).left k 0 ≡ (get_or js k absent_job).worst
work_at js k good = first_left js good k

module _ (t : Tables) (lists : List (List SInstr)) (ready : AreWalkable t) where
  pub known_order : (path i j : ℕ) → i ≤ j → j < length (starts t) → known_by (start_at t i) (path_places t path) ≤ known_by (start_at t j) (path_places t path)
  known_order path i j o l =
      known_rises (start_at t i) (start_at t j) (path_places t path) (starts_order (root_periods t) (frame_of t) (starts t) i j (starts_rise (root_periods t) (frame_of t)) o l)

  -- before list j what begins there or later has its worst case left
  pub unwalked : (path j k : ℕ) → path < paths t → j ≤ length (starts t) → AreCleanTo t lists path j → ((i : ℕ) → suc i ≡ j → known_by (start_at t i) (path_places t path) ≤ k)
      → get_or (reached t lists path j).left k 0 ≡ (get_or (path_jobs t path) k absent_job).worst
  unwalked path j k h l c b =
      untouched_to (path_jobs t path) (frame_of t) (path_places t path) (starts t) (list_at t lists path) (first_point (path_jobs t path) (worst_cases (path_jobs t path))) j k c (below j l b)
      ∙ work_at (path_jobs t path) k (ready.jobs path h)
    where
      below : (j : ℕ) → j ≤ length (starts t) → ((i : ℕ) → suc i ≡ j → known_by (start_at t i) (path_places t path) ≤ k) → (i : ℕ) → i < j → known_by (start_at t i) (path_places t path) ≤ k
      below zero l b i e = absurd (omega (arith, e))
      below (suc j) l b i e = omega (arith, b j refl, known_order path i j (omega (arith, e)) (omega (arith, l)))

  -- the points that they reach agree on what has begun
  abbrev AgreeTo : ℕ → ℕ → ℕ → Type 0
  AgreeTo p q i = AgreeAt (known_by (start_at t i) (path_places t q)) (reached t lists q (suc i)) (reached t lists p (suc i))

  begin_alike : (p q i : ℕ) → p < paths t → q < paths t → i < length (starts t) → AreCleanTo t lists q i → AreCleanTo t lists p i
      → ((k : ℕ) → suc k ≡ i → AgreeTo p q k × (known_by (start_at t k) (path_places t q) ≡ known_by (start_at t k) (path_places t p)))
      → ShareFront (path_jobs t q) (path_jobs t p) (known_by (start_at t i) (path_places t q)) (start_end_at t i)
      → AgreeAt (known_by (start_at t i) (path_places t q)) (list_point (start_at t i) (reached t lists q i)) (list_point (start_at t i) (reached t lists p i))
  begin_alike p q i hp hq l cq cp before share = grind (arith, unwalked, cases_lt)

  front_waits : (p n b : ℕ) → p < paths t → IsRoundFront (path_jobs t p) n b → WaitWithin n (path_jobs t p)
  front_waits p n b h front x y l e = grind (arith, job_at_is, waits_for, path_later, length-map)

  -- a list that is clean in one path is clean in every path through its node
  node_alike : (p q i : ℕ) → p < paths t → q < paths t → i < length (starts t) → node t q i ≡ node t p i → AreCleanTo t lists q i → AreCleanTo t lists p i
      → ((k : ℕ) → suc k ≡ i → AgreeTo p q k × (known_by (start_at t k) (path_places t q) ≡ known_by (start_at t k) (path_places t p)))
      → IsCleanAt t lists q i → IsCleanAt t lists p i × AgreeTo p q i
  node_alike p q i hp hq l same cq cp before c =
      let n = known_by (start_at t i) (path_places t q) in
      let b = start_end_at t i in
      let js = path_jobs t q in
      let ks = path_jobs t p in
      let s = list_at t lists q i in
      let both = nodes_share t q p i hq hp l same in
      let share = both.1 in
      let x = list_point (start_at t i) (reached t lists q i) in
      let y = list_point (start_at t i) (reached t lists p i) in
      let agree : AgreeOn n js ks = λ k d. job_at_is js k ∙ share.same k d ∙ sym (job_at_is ks k) in
      let list : s ≡ list_at t lists p i = ap (λ m. get_or lists m []) same in
      let late : (k : ℕ) → n ≤ k → (b < (job_at ks k).end) ⊎ (get_or (last_point ks s y).left k 0 ≡ 0) =
      λ k d. elim (cases_lt k (length ks)) [
        | inl e ↦ inl (omega (arith, share.other.later k d e, ((ready.jobs p hp).each k absent_job e).window, ap (λ (j : Job). j.end) (job_at_is ks k)))
        | inr e ↦
            inr (untouched n n b ks s y k c.form (omega arith) d
            ∙ unwalked p i k hp (omega (arith, l)) cp (λ m f. omega (arith, d, both.0, known_order p m i (omega (arith, f)) l))
            ∙ ap (λ (j : Job). j.worst) (get_or_past ks k absent_job e))
      ] in
      let r = clean_alike n n b js ks s x y agree (front_waits p n b hp share.other) (begin_alike p q i hp hq l cq cp before share) (omega arith) late c in (
        subst (λ m. IsListClean m b ks (list_at t lists p i) y) both.0 (subst (λ z. IsListClean n b ks z y) list r.0),
        subst (λ z. AgreeAt n (last_point js s x) (last_point ks z y)) list r.1,
      )

  alike_to : (p q d : ℕ) → p < paths t → q < paths t → d ≤ length (starts t) → ShareNodes t q p d → AreCleanTo t lists q d → (i : ℕ) → i < d → IsCleanAt t lists p i × AgreeTo p q i
  alike_to p q d hp hq l same c i e = all i e i (omega arith)
    where
      all : (i : ℕ) → i < d → (m : ℕ) → m ≤ i → IsCleanAt t lists p m × AgreeTo p q m
      all zero e m f =
          subst (λ k. IsCleanAt t lists p k × AgreeTo p q k) (omega (arith, f))
          (node_alike p q 0 hp hq (omega (arith, l, e)) (same 0 e) (λ k h. absurd (omega (arith, h))) (λ k h. absurd (omega (arith, h))) (λ k h. absurd (omega (arith, h))) (c 0 e))
      all (suc i) e m f =
          let before = all i (omega (arith, e)) in
          elim (cases_lt m (suc i)) [
            | inl g ↦ before m (omega (arith, g))
            | inr g ↦
                subst (λ k. IsCleanAt t lists p k × AgreeTo p q k) (omega (arith, f, g))
                (node_alike p q (suc i) hp hq (omega (arith, l, e)) (same (suc i) e) (λ k h. c k (omega (arith, e, h))) (λ k h. (before k (omega (arith, h))).0)
                (λ k h.
                let s : k ≡ i = omega (arith, h) in
                ((before k (omega (arith, s))).1, (nodes_share t q p k hq hp (omega (arith, l, e, s)) (same k (omega (arith, e, s)))).0)) (c (suc i) e))
          ]

  -- so the first lists of the next path are clean, and what was saved stands
  pub shared_clean : (p q d : ℕ) → p < paths t → q < paths t → d ≤ length (starts t) → ShareNodes t q p d → AreCleanTo t lists q d → AreCleanTo t lists p d
  shared_clean p q d hp hq l same c i e = (alike_to p q d hp hq l same c i e).0

  pub shared_saved : (p q d : ℕ) (states : List (List ℕ)) → p < paths t → q < paths t → d ≤ length (starts t) → ShareNodes t q p d → AreCleanTo t lists q d → AreSaved t lists q d states → AreSaved t lists p d states
  shared_saved p q d states hp hq l same c saved i k e b =
      let b' : k < known_by (start_at t i) (path_places t q) = omega (arith, b, (nodes_share t q p i hq hp (omega (arith, l, e)) (same i e)).0) in
      saved i k e b' ∙ (alike_to p q d hp hq l same c i e).1.left k b'

  -- ---- what the lists of a path tell of it

  chained : (path : ℕ) → path < paths t → AreChained 0 (frame_of t) (length (path_jobs t path)) (legs t path)
  chained path h = legs_follow t path (some_root t path h) (ready.long (omega (arith, h)))

  pub clean_accepted : (path : ℕ) → path < paths t → AreCleanTo t lists path (length (starts t)) → IsPathAccepted (path_jobs t path) (legs t path) (lists_of t lists path)
  clean_accepted path h c =
      (accepting (path_jobs t path) (lists_of t lists path) (legs t path) (frame_of t) (ready.jobs path h) (ready.ends path h) (chained path h)).0
      (clean_lists (path_jobs t path) (frame_of t) (path_places t path) (starts t) (list_at t lists path) (first_point (path_jobs t path) (worst_cases (path_jobs t path))) c)

  pub first_failing : (path j : ℕ) (m : Miss) → path < paths t → j < length (starts t) → ((q : ℕ) → q < path → AreCleanTo t lists q (length (starts t))) → AreCleanTo t lists path j
      → IsNodeMissAt t lists path j m → IsFirstFailing t lists path (counted (count_to (list_at t lists path) j) m)
  first_failing path j m h l before c e =
      let js = path_jobs t path in
      let x = first_point js (worst_cases js) in
      let miss : IsPathMiss js (lists_of t lists path) (legs t path) 0 x (counted (count_to (list_at t lists path) j) m) =
      subst (λ n. IsPathMiss js (list_to (list_at t lists path) (length (starts t))) (legs t path) 0 x (counted n m)) (omega arith)
      (miss_lists js (frame_of t) (path_places t path) (starts t) (list_at t lists path) x 0 j m l c e) in
      record {
        within = h;
        before = λ q b. clean_accepted q (omega (arith, h, b)) (before q b);
        miss = miss;
        refused = path_refused js (lists_of t lists path) (legs t path) (frame_of t) (counted (count_to (list_at t lists path) j) m) (ready.jobs path h) (ready.ends path h) (chained path h) miss;
      }

  pub all_accepted : ((q : ℕ) → q < paths t → AreCleanTo t lists q (length (starts t))) → AreFeasible t lists
  all_accepted c path h = clean_accepted path h (c path h)
