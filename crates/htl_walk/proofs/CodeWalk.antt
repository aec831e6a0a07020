-- The walk of all paths in the terms of the code.
use Rattle.std.proofs.Common.{◌≡◌, ℕ, zero, suc, ◌+◌, ◌-◌, ◌≤◌, ◌<◌, List, [], ◌∷◌, ◌++◌, length, take, drop, set, get_or, add-one, refl, sym, ap, ◌∙◌, subst, arith, inl, inr}
use Rattle.htl_walk.proofs.Words.{cases_lt, get_or-map, length-map, Frame, Place, IsFrame, frame_of, starts, paths, node, path_places, known_by, Tables, Job, Miss, SInstr, Schedule, absent_job, Point, last_point, worst_cases, work, list_point, path_jobs, placed_job, next_of, IsListClean, IsListMiss, list_at, reached, IsCleanAt, IsNodeMissAt, AreCleanTo, AreSaved, AreResumed, ShareNodes, AreWalkable, MissesAt, IsFirstFailing, instrs_of, start_at, AreFeasible, same_number_lists, get_taken}
use Rattle.htl_walk.proofs.{Starts.known_few, GoingOn.same_length, NodeWalks.unwalked, NodeWalks.shared_clean, NodeWalks.shared_saved, NodeWalks.first_failing}

-- ---- reading the starts

taken_length : (n : ℕ) (xs : List ℕ) → n ≤ length xs → length (take n xs) ≡ n
taken_length zero xs l = refl
taken_length (suc n) [] l = absurd (omega (arith, l))
taken_length (suc n) (x ∷ xs) l = ap suc (taken_length n xs (omega (arith, l)))

start_front : (xs : List ℕ) (h j : ℕ) → j < length xs → get_or (xs ++ h ∷ []) j 0 ≡ get_or xs j 0
start_front [] h j l = absurd (omega (arith, l))
start_front (x ∷ xs) h zero l = refl
start_front (x ∷ xs) h (suc j) l = start_front xs h j (omega (arith, l))

next_front : (xs : List ℕ) (h j : ℕ) → j < length xs → get_or (xs ++ h ∷ []) (suc j) 0 ≡ next_of h (drop (suc j) xs)
next_front [] h j l = absurd (omega (arith, l))
next_front (x ∷ []) h zero l = refl
next_front (x ∷ y ∷ xs) h zero l = refl
next_front (x ∷ xs) h (suc j) l = next_front xs h j (omega (arith, l))

pub start_read : (t : Tables) (f : Frame) (j : ℕ) → IsFrame t f → j < length (starts t) → get_or f.starts j 0 ≡ get_or (starts t) j 0
start_read t f j s l = grind (arith, get_taken, start_front)

pub end_read : (t : Tables) (f : Frame) (j : ℕ) → IsFrame t f → j < length (starts t) → get_or f.starts (j + 1) 0 ≡ next_of (frame_of t) (drop (suc j) (starts t))
end_read t f j s l = grind (arith, get_taken, add-one, next_front)

pub list_read : (lists : List Schedule) (d : Schedule) (n : ℕ) → n < length lists → (get_or lists n d).instrs ≡ get_or (instrs_of lists) n []
list_read lists d n l = sym (get_or-map (λ (s : Schedule). s.instrs) lists n d [] l)

-- ---- one list more

carry : (Q : ℕ → ℕ → List Job → List SInstr → ℕ → List ℕ → Type 0) (a a' b b' : ℕ) (c c' : List Job) (d d' : List SInstr) (e e' : ℕ) (f f' : List ℕ)
    → a ≡ a' → b ≡ b' → c ≡ c' → d ≡ d' → e ≡ e' → f ≡ f' → Q a b c d e f → Q a' b' c' d' e' f'
carry Q a a' b b' c c' d d' e e' f f' ea eb ec ed ee ef q = grind arith

point_is : (x y : Point) → x ≡ y → x.left ≡ y.left
point_is x y e = ap (λ (z : Point). z.left) e

module _ (t : Tables) (lists : List (List SInstr)) (path j known until from : ℕ) (jobs : List Job) (list : List SInstr) (left : List ℕ) where
  -- what the code has at list j
  pub record IsAt : Type 0 where
    pub known_is : known ≡ known_by (get_or (starts t) j 0) (path_places t path)
    pub until_is : until ≡ next_of (frame_of t) (drop (suc j) (starts t))
    pub jobs_is : jobs ≡ path_jobs t path
    pub list_is : list ≡ list_at t lists path j
    pub from_is : from ≡ get_or (starts t) j 0
    pub left_is : left ≡ (reached t lists path j).left

  pub clean_here : IsAt → IsListClean known until jobs list (record { time = from; left = left }) → IsCleanAt t lists path j
  clean_here a c =
      carry (λ k u js s b l. IsListClean k u js s (record { time = b; left = l })) known (known_by (get_or (starts t) j 0) (path_places t path)) until (next_of (frame_of t) (drop (suc j) (starts t))) jobs (path_jobs t path) list
      (list_at t lists path j) from (get_or (starts t) j 0) left (reached t lists path j).left a.known_is a.until_is a.jobs_is a.list_is a.from_is a.left_is c

  pub miss_here : (m : Miss) → IsAt → IsListMiss known until jobs list (record { time = from; left = left }) m → IsNodeMissAt t lists path j m
  miss_here m a c =
      carry (λ k u js s b l. IsListMiss k u js s (record { time = b; left = l }) m) known (known_by (get_or (starts t) j 0) (path_places t path)) until (next_of (frame_of t) (drop (suc j) (starts t))) jobs (path_jobs t path) list
      (list_at t lists path j) from (get_or (starts t) j 0) left (reached t lists path j).left a.known_is a.until_is a.jobs_is a.list_is a.from_is a.left_is c

  pub left_next : (time : ℕ) (next : List ℕ) → IsAt → record { time = time; left = next } ≡ last_point jobs list (record { time = from; left = left }) → next ≡ (reached t lists path (suc j)).left
  left_next time next a e =
      carry (λ k u js s b l. next ≡ (last_point js s (record { time = b; left = l })).left) known (known_by (get_or (starts t) j 0) (path_places t path)) until (next_of (frame_of t) (drop (suc j) (starts t))) jobs (path_jobs t path) list
      (list_at t lists path j) from (get_or (starts t) j 0) left (reached t lists path j).left a.known_is a.until_is a.jobs_is a.list_is a.from_is a.left_is
      (point_is (record { time = time; left = next }) (last_point jobs list (record { time = from; left = left })) e)

pub clean_more : (t : Tables) (lists : List (List SInstr)) (path j : ℕ) → AreCleanTo t lists path j → IsCleanAt t lists path j → AreCleanTo t lists path (j + 1)
clean_more t lists path j c h i l = elim (cases_lt i j) [
  | inl k ↦ c i k
  | inr k ↦ let e : j ≡ i = omega (arith, l, k) in subst (IsCleanAt t lists path) e h
]

set_other : (xs : List (List ℕ)) (j i : ℕ) (y : List ℕ) → i < j → get_or (set xs j y) i [] ≡ get_or xs i []
set_other (x ∷ xs) zero i y l = absurd (omega (arith, l))
set_other (x ∷ xs) (suc j) (suc i) y l = set_other xs j i y (omega (arith, l))
set_other _ _ _ y l = refl

set_same : (xs : List (List ℕ)) (j : ℕ) (y : List ℕ) → j < length xs → get_or (set xs j y) j [] ≡ y
set_same [] j y l = absurd (omega (arith, l))
set_same (x ∷ xs) zero y l = refl
set_same (x ∷ xs) (suc j) y l = set_same xs j y (omega (arith, l))

pub saved_more : (t : Tables) (lists : List (List SInstr)) (path j : ℕ) (states : List (List ℕ)) (row left : List ℕ) → j < length states → AreSaved t lists path j states
    → ((k : ℕ) → k < length left → get_or row k 0 ≡ get_or left k 0) → left ≡ (reached t lists path (suc j)).left → known_by (get_or (starts t) j 0) (path_places t path) ≤ length left
    → AreSaved t lists path (j + 1) (set states j row)
saved_more t lists path j states row left room saved rows is few i p l b = grind (arith, cases_lt, set_other, set, set_same)

-- ---- the lengths of what is left

pub work_length : (js : List Job) (ns : List ℕ) → length (work js ns) ≡ length js
work_length [] ns = refl
work_length (j ∷ js) [] = ap suc (work_length js [])
work_length (j ∷ js) (n ∷ ns) = ap suc (work_length js ns)

pub reached_length : (t : Tables) (lists : List (List SInstr)) (path j : ℕ) → length (reached t lists path j).left ≡ length (path_jobs t path)
reached_length t lists path zero = work_length (path_jobs t path) (worst_cases (path_jobs t path))
reached_length t lists path (suc j) = grind (arith, same_length, reached_length t lists path j)

-- ---- resuming

module _ (t : Tables) (lists : List (List SInstr)) (ready : AreWalkable t) where
  pub resumed_first : (path : ℕ) (saved left : List ℕ) (jobs : List Job) → path < paths t → jobs ≡ path_jobs t path → AreResumed jobs saved 0 left (length jobs) → length jobs ≤ length left
      → take (length jobs) left ≡ (reached t lists path 0).left
  resumed_first path saved left jobs h js r len =
      let n : length (take (length jobs) left) ≡ length jobs = taken_length (length jobs) left len in
      same_number_lists (take (length jobs) left) (reached t lists path 0).left (n ∙ ap (λ (xs : List Job). length xs) js ∙ sym (reached_length t lists path 0))
      (λ k l.
      get_taken (length jobs) left k (omega (arith, l, n)) ∙ (r k (omega (arith, l, n))).1 (omega arith) ∙ ap (λ (xs : List Job). (get_or xs k absent_job).worst) js
      ∙ sym (unwalked t lists ready path 0 k h (omega arith) (λ i e. absurd (omega (arith, e))) (λ i e. absurd (omega (arith, e)))))

  pub resumed_later : (path d known : ℕ) (states : List (List ℕ)) (left : List ℕ) (jobs : List Job) → path < paths t → d < length (starts t) → jobs ≡ path_jobs t path
      → known ≡ known_by (get_or (starts t) d 0) (path_places t path) → AreCleanTo t lists path (suc d) → AreSaved t lists path (suc d) states → AreResumed jobs (get_or states d []) known left (length jobs) → length jobs ≤ length left
      → take (length jobs) left ≡ (reached t lists path (suc d)).left
  resumed_later path d known states left jobs h l js is c saved r len =
      let n : length (take (length jobs) left) ≡ length jobs = taken_length (length jobs) left len in
      same_number_lists (take (length jobs) left) (reached t lists path (suc d)).left (n ∙ ap (λ (xs : List Job). length xs) js ∙ sym (reached_length t lists path (suc d)))
      (λ k b.
      get_taken (length jobs) left k (omega (arith, b, n)) ∙ elim (cases_lt k known) [
        | inl a ↦ (r k (omega (arith, b, n))).0 a ∙ saved d k (omega arith) (omega (arith, a, is))
        | inr a ↦
            (r k (omega (arith, b, n))).1 a ∙ ap (λ (xs : List Job). (get_or xs k absent_job).worst) js
            ∙ sym (unwalked t lists ready path (suc d) k h (omega (arith, l)) c (λ i e. let s : i ≡ d = omega (arith, e) in omega (arith, a, is, ap (λ n. known_by (start_at t n) (path_places t path)) s)))
      ])

  -- ---- path after path

  pub fork_clean : (path d : ℕ) → 0 < path → path < paths t → d ≤ length (starts t) → ShareNodes t (path - 1) (path - 1 + 1) d → ((q : ℕ) → q < path → AreCleanTo t lists q (length (starts t)))
      → AreCleanTo t lists path d
  fork_clean path d some h l same c =
      let e : path - 1 + 1 ≡ path = omega (arith, some) in
      shared_clean t lists ready path (path - 1) d h (omega (arith, h)) l (subst (λ p. ShareNodes t (path - 1) p d) e same) (λ i k. c (path - 1) (omega (arith, some)) i (omega (arith, k, l)))

  pub fork_saved : (path d : ℕ) (states : List (List ℕ)) → 0 < path → path < paths t → d ≤ length (starts t) → ShareNodes t (path - 1) (path - 1 + 1) d → ((q : ℕ) → q < path → AreCleanTo t lists q (length (starts t)))
      → ((q : ℕ) → suc q ≡ path → AreSaved t lists q (length (starts t)) states) → AreSaved t lists path d states
  fork_saved path d states some h l same c saved =
      let e : path - 1 + 1 ≡ path = omega (arith, some) in
      shared_saved t lists ready path (path - 1) d states h (omega (arith, h)) l (subst (λ p. ShareNodes t (path - 1) p d) e same) (λ i k. c (path - 1) (omega (arith, some)) i (omega (arith, k, l)))
      (λ i k b g. saved (path - 1) (omega (arith, some)) i k (omega (arith, b, l)) g)

  pub clean_paths : (path : ℕ) → ((q : ℕ) → q < path → AreCleanTo t lists q (length (starts t))) → AreCleanTo t lists path (length (starts t)) → (q : ℕ) → q < path + 1 → AreCleanTo t lists q (length (starts t))
  clean_paths path c here q l = elim (cases_lt q path) [
    | inl k ↦ c q k
    | inr k ↦ let e : path ≡ q = omega (arith, l, k) in subst (λ p. AreCleanTo t lists p (length (starts t))) e here
  ]

  pub saved_path : (path : ℕ) (states : List (List ℕ)) → AreSaved t lists path (length (starts t)) states → (q : ℕ) → suc q ≡ path + 1 → AreSaved t lists q (length (starts t)) states
  saved_path path states s q e = let same : path ≡ q = omega (arith, e) in subst (λ p. AreSaved t lists p (length (starts t)) states) same s

  pub missed : (path : ℕ) (m : Miss) → path < paths t → ((q : ℕ) → q < path → AreCleanTo t lists q (length (starts t))) → MissesAt t lists path m → IsFirstFailing t lists path m
  missed path m h before e =
      subst (IsFirstFailing t lists path) (sym e.5) (first_failing t lists ready path e.0 e.1 h e.2 before e.3 e.4)

  pub refused_all : (path : ℕ) (m : Miss) → IsFirstFailing t lists path m → AreFeasible t lists → ⊥
  refused_all path m e f = e.refused (f path e.within)

-- ---- the code at list j

pub at_list : (t : Tables) (f : Frame) (lists : List Schedule) (path j known n : ℕ) (places : List Place) (jobs : List Job) (r : Schedule) (left : List ℕ) → IsFrame t f → j < length (starts t) → n < length lists
    → known ≡ known_by (get_or f.starts j 0) places → places ≡ path_places t path → jobs ≡ path_jobs t path → n ≡ node t path j → r ≡ get_or lists n r → left ≡ (reached t (instrs_of lists) path j).left
    → IsAt t (instrs_of lists) path j known (get_or f.starts (j + 1) 0) (get_or f.starts j 0) jobs r.instrs left
at_list t f lists path j known n places jobs r left s l within k ps js ns is ls =
    let from = start_read t f j s l in
    record {
      known_is = k ∙ ap (λ a. known_by a places) from ∙ ap (known_by (get_or (starts t) j 0)) ps;
      until_is = end_read t f j s l;
      jobs_is = js;
      list_is = ap (λ (z : Schedule). z.instrs) is ∙ list_read lists r n within ∙ ap (λ m. get_or (instrs_of lists) m []) ns;
      from_is = from;
      left_is = ls;
    }

pub left_length : (t : Tables) (lists : List (List SInstr)) (path j : ℕ) (jobs : List Job) (left : List ℕ) → jobs ≡ path_jobs t path → left ≡ (reached t lists path j).left → length left ≡ length jobs
left_length t lists path j jobs left js ls = ap (λ (xs : List ℕ). length xs) ls ∙ reached_length t lists path j ∙ sym (ap (λ (xs : List Job). length xs) js)

pub jobs_few : (t : Tables) (path : ℕ) (jobs : List Job) → AreWalkable t → path < paths t → jobs ≡ path_jobs t path → length jobs ≤ 128
jobs_few t path jobs ready h js = omega (arith, (ready.jobs path h).few, ap (λ (xs : List Job). length xs) js)

pub known_within : (t : Tables) (path j : ℕ) (jobs : List Job) → jobs ≡ path_jobs t path → known_by (get_or (starts t) j 0) (path_places t path) ≤ length jobs
known_within t path j jobs js =
    omega (arith, known_few (get_or (starts t) j 0) (path_places t path), length-map (path_places t path) (placed_job t (path_places t path)), ap (λ (xs : List Job). length xs) js)

pub first_left_is : (t : Tables) (lists : List (List SInstr)) (path first : ℕ) (xs : List ℕ) → first ≡ 0 → xs ≡ (reached t lists path 0).left → xs ≡ (reached t lists path first).left
first_left_is t lists path first xs e is = is ∙ sym (ap (λ n. (reached t lists path n).left) e)

pub later_left_is : (t : Tables) (f : Frame) (lists : List (List SInstr)) (ready : AreWalkable t) (path first known : ℕ) (places : List Place) (states : List (List ℕ)) (left : List ℕ) (jobs : List Job) → IsFrame t f → path < paths t
    → 0 < first → first ≤ length (starts t) → places ≡ path_places t path → jobs ≡ path_jobs t path → known ≡ known_by (get_or f.starts (first - 1) 0) places → AreCleanTo t lists path first → AreSaved t lists path first states
    → AreResumed jobs (get_or states (first - 1) []) known left (length jobs) → length jobs ≤ length left → take (length jobs) left ≡ (reached t lists path first).left
later_left_is t f lists ready path first known places states left jobs s h some l ps js k c saved r len =
    let d = first - 1 in
    let e : suc d ≡ first = omega (arith, some) in
    let is : known ≡ known_by (get_or (starts t) d 0) (path_places t path) = k ∙ ap (λ a. known_by a places) (start_read t f d s (omega (arith, e, l))) ∙ ap (known_by (get_or (starts t) d 0)) ps in
    resumed_later t lists ready path d known states left jobs h (omega (arith, e, l)) js is (subst (AreCleanTo t lists path) (sym e) c) (subst (λ n. AreSaved t lists path n states) (sym e) saved) r len
    ∙ ap (λ n. (reached t lists path n).left) e
