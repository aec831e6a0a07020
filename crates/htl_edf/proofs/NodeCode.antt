-- The lists of all nodes, as the code makes them.
use Rattle.std.proofs.Common.{◌≡◌, ◌≢◌, ℕ, zero, suc, ◌+◌, ◌-◌, ◌≤◌, ◌<◌, List, [], ◌∷◌, ◌++◌, length, drop, set, get_or, add-one, refl, sym, ap, ◌∙◌, subst, arith, inl, inr}
use Rattle.htl_edf.proofs.Words.{cases_lt, cases_eq, Frame, IsFrame, Tables, frame_of, root_periods, unit_period, starts, paths, nodes, node, root_modules, room_for, begins_zero, Job, SInstr, Schedule, path_jobs, next_of, start_at, start_end_at, ShareNodes, instrs_of, node_depth, Rises, starts_rise, nodes_within, leg_at, start_read, end_read, part, AreReady, AreNodeLists, HasPart, HaveParts, get_taken}
pub use Rattle.htl_walk.proofs.NodeNumbers.{depth_same}
use Rattle.htl_edf.proofs.NodeLists.{one_list_of_node}

-- ---- the end of the frame

behind : (xs : List ℕ) (h n : ℕ) → n ≡ length xs → get_or (xs ++ h ∷ []) n 0 ≡ h
behind [] h zero e = refl
behind (x ∷ xs) h (suc n) e = behind xs h n (omega (arith, e))
behind _ h _ e = absurd (omega (arith, e))

pub frame_end : (t : Tables) (f : Frame) → IsFrame t f → get_or f.starts f.count 0 ≡ frame_of t
frame_end t f s = sym (get_taken (f.count + 1) f.starts f.count (omega arith)) ∙ ap (λ xs. get_or xs f.count 0) s.starts ∙ behind (starts t) (frame_of t) f.count s.count

-- ---- one list more

set_other : (xs : List Schedule) (n m : ℕ) (s : Schedule) → n ≢ m → get_or (instrs_of (set xs n s)) m [] ≡ get_or (instrs_of xs) m []
set_other [] n m s e = refl
set_other (x ∷ xs) zero zero s e = absurd (e refl)
set_other (x ∷ xs) (suc n) (suc m) s e = set_other xs n m s (λ f. e (ap suc f))
set_other (x ∷ xs) _ _ s e = refl

set_same : (xs : List Schedule) (n : ℕ) (s : Schedule) → n < length xs → get_or (instrs_of (set xs n s)) n [] ≡ s.instrs
set_same [] n s l = absurd (omega (arith, l))
set_same (x ∷ xs) zero s l = refl
set_same (x ∷ xs) (suc n) s l = set_same xs n s (omega (arith, l))

module _ (t : Tables) (ready : AreReady t) where
  -- the part of a node, of whatever path
  same_part : (p q j : ℕ) → p < paths t → q < paths t → j < length (starts t) → node t p j ≡ node t q j → part (path_jobs t p) (start_at t j) (start_end_at t j) ≡ part (path_jobs t q) (start_at t j) (start_end_at t j)
  same_part p q j hp hq l e = one_list_of_node t p q j (ready.each p hp).order (ready.each q hq).order hp hq l e

  -- a list that is put where its node is takes no other one away
  pub put_part : (xs : List Schedule) (p j n : ℕ) (s : Schedule) → p < paths t → j < length (starts t) → length xs ≡ nodes t → n ≡ node t p j → s.instrs ≡ part (path_jobs t p) (start_at t j) (start_end_at t j)
      → (q i : ℕ) → q < paths t → i < length (starts t) → HasPart t (instrs_of xs) q i → HasPart t (instrs_of (set xs n s)) q i
  put_part xs p j n s hp l count is part_is q i hq k has = elim (cases_eq n (node t q i)) [
    | inl e ↦
        let same : node t p j ≡ node t q i = sym is ∙ e in
        let depth : j ≡ i = node_depth t p q j i hp l k same in
        let same' : node t p j ≡ node t q j = same ∙ ap (node t q) (sym depth) in
        ap (λ m. get_or (instrs_of (set xs n s)) m []) (sym e) ∙ set_same xs n s (omega (arith, count, is, nodes_within t p j hp l)) ∙ part_is ∙ same_part p q j hp hq l same'
        ∙ ap (λ m. part (path_jobs t q) (start_at t m) (start_end_at t m)) depth
    | inr e ↦ set_other xs n (node t q i) s e ∙ has
  ]

  pub here_part : (xs : List Schedule) (p j n : ℕ) (s : Schedule) → p < paths t → j < length (starts t) → length xs ≡ nodes t → n ≡ node t p j → s.instrs ≡ part (path_jobs t p) (start_at t j) (start_end_at t j)
      → HasPart t (instrs_of (set xs n s)) p j
  here_part xs p j n s hp l count is part_is =
      ap (λ m. get_or (instrs_of (set xs n s)) m []) (sym is) ∙ set_same xs n s (omega (arith, count, is, nodes_within t p j hp l)) ∙ part_is

  pub parts_more : (xs : List Schedule) (p j n : ℕ) (s : Schedule) → p < paths t → j < length (starts t) → length xs ≡ nodes t → n ≡ node t p j → s.instrs ≡ part (path_jobs t p) (start_at t j) (start_end_at t j)
      → ((i : ℕ) → i < j → HasPart t (instrs_of xs) p i) → (i : ℕ) → i < j + 1 → HasPart t (instrs_of (set xs n s)) p i
  parts_more xs p j n s hp l count is part_is has i b = elim (cases_lt i j) [
    | inl k ↦ put_part xs p j n s hp l count is part_is p i hp (omega (arith, k, l)) (has i k)
    | inr k ↦ let e : j ≡ i = omega (arith, b, k) in subst (λ m. HasPart t (instrs_of (set xs n s)) p m) e (here_part xs p j n s hp l count is part_is)
  ]

  pub before_more : (xs : List Schedule) (p j n : ℕ) (s : Schedule) → p < paths t → j < length (starts t) → length xs ≡ nodes t → n ≡ node t p j → s.instrs ≡ part (path_jobs t p) (start_at t j) (start_end_at t j)
      → HaveParts t (instrs_of xs) p → HaveParts t (instrs_of (set xs n s)) p
  before_more xs p j n s hp l count is part_is has q i b k = put_part xs p j n s hp l count is part_is q i (omega (arith, b, hp)) k (has q i b k)

  -- the next path has the lists of the nodes that it shares
  pub shared_parts : (lists : List (List SInstr)) (path d : ℕ) → 0 < path → path < paths t → d ≤ length (starts t) → ShareNodes t (path - 1) (path - 1 + 1) d → HaveParts t lists path
      → (i : ℕ) → i < d → HasPart t lists path i
  shared_parts lists path d some h l share has i b =
      let e : path - 1 + 1 ≡ path = omega (arith, some) in
      let same : node t (path - 1) i ≡ node t path i = share i b ∙ ap (λ p. node t p i) e in
      ap (λ m. get_or lists m []) (sym same) ∙ has (path - 1) i (omega (arith, some)) (omega (arith, b, l)) ∙ same_part (path - 1) path i (omega (arith, h)) h (omega (arith, b, l)) same

-- ---- starts in the frame

rises_within : (ps : List ℕ) (h j : ℕ) (xs : List ℕ) → Rises ps h xs → j < length xs → (get_or xs j 0 < h) × (next_of h (drop (suc j) xs) ≤ h)
rises_within ps h j [] r l = absurd (omega (arith, l))
rises_within ps h zero (x ∷ []) r l = (r.1, omega arith)
rises_within ps h zero (x ∷ y ∷ xs) r l = let later = rises_within ps h zero (y ∷ xs) r.3 (omega arith) in (omega (arith, r.1, later.0), omega (arith, later.0))
rises_within ps h (suc j) (x ∷ xs) r l = rises_within ps h j xs r.3 (omega (arith, l))

pub leg_within : (t : Tables) (f : Frame) (j : ℕ) → IsFrame t f → j < length (starts t) → (get_or f.starts j 0 ≤ get_or f.starts (j + 1) 0) × (get_or f.starts (j + 1) 0 ≤ 1000000)
leg_within t f j s l =
    let rise = starts_rise (root_periods t) (frame_of t) in
    let leg = leg_at (root_periods t) (frame_of t) j (starts t) rise l in
    let in_frame = rises_within (root_periods t) (frame_of t) j (starts t) rise l in
    (omega (arith, start_read t f j s l, end_read t f j s l, leg.0), omega (arith, end_read t f j s l, in_frame.1, s.limits.frame))

pub some_starts : (t : Tables) → 0 < length (root_modules t) → 0 < frame_of t → 0 < length (starts t)
some_starts t some long = omega (arith, room_for (root_periods t) 0 (frame_of t) (begins_zero (unit_period t) (root_modules t) some) long)

pub begin_within : (t : Tables) (f : Frame) (j : ℕ) → IsFrame t f → 0 < length (starts t) → j ≤ length (starts t) → get_or f.starts j 0 ≤ 1000000
begin_within t f zero s some l = let leg = leg_within t f 0 s some in omega (arith, leg.0, leg.1)
begin_within t f (suc j) s some l = let e : suc j ≡ j + 1 = sym (add-one j) in omega (arith, ap (λ n. get_or f.starts n 0) e, (leg_within t f j s (omega (arith, l))).1)

pub part_read : (t : Tables) (f : Frame) (path j : ℕ) (js : List Job) (is : List SInstr) → IsFrame t f → j < length (starts t) → js ≡ path_jobs t path → is ≡ part js (get_or f.starts j 0) (get_or f.starts (j + 1) 0)
    → is ≡ part (path_jobs t path) (start_at t j) (start_end_at t j)
part_read t f path j js is s l e p =
    p ∙ ap (λ ks. part ks (get_or f.starts j 0) (get_or f.starts (j + 1) 0)) e ∙ ap (λ a. part (path_jobs t path) a (get_or f.starts (j + 1) 0)) (start_read t f j s l)
    ∙ ap (part (path_jobs t path) (start_at t j)) (end_read t f j s l)

-- ---- what the answers say

pub all_parts : (t : Tables) (lists : List (List SInstr)) (n : ℕ) → paths t ≤ n → HaveParts t lists n → AreNodeLists t lists
all_parts t lists n l has q i h k = has q i (omega (arith, h, l)) k
