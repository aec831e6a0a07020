-- Who has no work left is done by a record so far.
use Rattle.std.proofs.Common.{◌≡◌, ℕ, zero, suc, ◌+◌, ◌≤◌, ◌<◌, ◌⊎◌, Bool, true, false, cond, ◌&&◌, is_some, List, [], ◌∷◌, ◌++◌, length, get_or, slice_get, take, Option, Some, None, refl, sym, ap, ◌∙◌, arith, inl, inr, append_assoc}
use Rattle.htl_refine.proofs.Words.{Job, SInstr, Leg, list_point, walks_from, end_to_end, AreInForm, path_point, Point, Left, next_point, left_by, walk_from, last_point, first_point, is_position, finish, ends, finish_now, finish_later, walks_of, WorkDone, leg_at, list_start, list_plan, list_walk, records_before, done_by, get_taken, same_Some, walk_take}
use Rattle.htl_refine.proofs.{FinishingRecords.done_past, ListCounts.done_front, ListWalks.list_walks, RecordOrder.not_some}

-- ---- one list

-- who has work and none after the list is finished by it
done_there : (jobs : List Job) (is : List SInstr) (x : Point) (p : ℕ) → 0 < get_or x.left p 0 → get_or (last_point jobs is x).left p 0 ≡ 0 → (g : ℕ) × (finish (walk_from jobs is x) p ≡ Some g)
done_there jobs [] x p some none = absurd (omega (arith, some, none))
done_there jobs (i ∷ is) x p some none =
    let y = next_point jobs i x in
    elim (ends (get_or x.left p 0) (get_or y.left p 0)) [
      | inl q ↦ (y.time, finish_now jobs i is x p q.0 q.1)
      | inr c ↦ elim c [
        | inl z ↦ absurd (omega (arith, some, z))
        | inr more ↦ let r = done_there jobs is y p more none in (r.0, finish_later jobs i is x p (inr more) ∙ r.1)
      ]
    ]

-- ---- lists of records

split_at : (ws : List (List Left)) (j : ℕ) (x : List Left) → slice_get ws j ≡ Some x → (b : List Left) × (end_to_end ws ≡ end_to_end (take j ws) ++ (x ++ b))
split_at [] j x e = not_some x e
split_at (w ∷ ws) zero x e = (end_to_end ws, ap (λ z. z ++ end_to_end ws) (same_Some _ _ e))
split_at (w ∷ ws) (suc j) x e = grind (arith, append_assoc, split_at ws j x e)

take_in : (xs ys : List Left) (k : ℕ) → k ≤ length xs → take k (xs ++ ys) ≡ take k xs
take_in xs ys zero h = refl
take_in [] ys (suc k) h = absurd (omega arith)
take_in (x ∷ xs) ys (suc k) h = ap (λ z. x ∷ z) (take_in xs ys k (omega arith))

pub length-walk : (jobs : List Job) (is : List SInstr) (x : Point) → length (walk_from jobs is x) ≡ length is
length-walk jobs [] x = refl
length-walk jobs (i ∷ is) x = ap suc (length-walk jobs is (next_point jobs i x))

join_some : (xs ys : List Left) (p g : ℕ) → finish xs p ≡ Some g → (q : ℕ) × (finish (xs ++ ys) p ≡ Some q)
join_some [] ys p g e = not_some g e
join_some (x ∷ xs) ys p g e = by (is_position x.position p && x.finished) e (λ f. join_some xs ys p g f)
  where
    by : (b : Bool) → cond b (Some x.at) (finish xs p) ≡ Some g → (finish xs p ≡ Some g → (q : ℕ) × (finish (xs ++ ys) p ≡ Some q)) → (q : ℕ) × (cond b (Some x.at) (finish (xs ++ ys) p) ≡ Some q)
    by true f ih = (x.at, refl)
    by false f ih = ih f

join_later : (xs ys : List Left) (p g : ℕ) → finish ys p ≡ Some g → (q : ℕ) × (finish (xs ++ ys) p ≡ Some q)
join_later [] ys p g e = (g, e)
join_later (x ∷ xs) ys p g e = by (is_position x.position p && x.finished) (join_later xs ys p g e)
  where
    by : (b : Bool) → (q : ℕ) × (finish (xs ++ ys) p ≡ Some q) → (q : ℕ) × (cond b (Some x.at) (finish (xs ++ ys) p) ≡ Some q)
    by true r = (x.at, refl)
    by false r = r

-- ---- no work left where a list begins

amount : (n : ℕ) → (0 < n) ⊎ (n ≡ 0)
amount n = grind arith

path_done : (jobs : List Job) (ss : List (List SInstr)) (gs : List Leg) (j p : ℕ) (x : Point) → AreInForm ss gs → j < length gs → 0 < get_or x.left p 0 → get_or (path_point jobs ss gs j 0 x).left p 0 ≡ 0
    → (g : ℕ) × (finish (end_to_end (take j (walks_from jobs ss gs x))) p ≡ Some g)
path_done jobs [] [] j p x f l some none = absurd (omega arith)
path_done jobs (s ∷ ss) (g ∷ gs) zero p x f l some none = absurd (omega (arith, some, none))
path_done jobs (s ∷ ss) (g ∷ gs) (suc j) p x f l some none =
    by (amount (get_or (last_point jobs s (list_point g.from x)).left p 0)) (λ more. path_done jobs ss gs j p (last_point jobs s (list_point g.from x)) f.1 (omega arith) more none)
  where
    by : (0 < get_or (last_point jobs s (list_point g.from x)).left p 0) ⊎ (get_or (last_point jobs s (list_point g.from x)).left p 0 ≡ 0)
        → (0 < get_or (last_point jobs s (list_point g.from x)).left p 0 → (q : ℕ) × (finish (end_to_end (take j (walks_from jobs ss gs (last_point jobs s (list_point g.from x))))) p ≡ Some q))
        → (q : ℕ) × (finish (walk_from jobs s (list_point g.from x) ++ end_to_end (take j (walks_from jobs ss gs (last_point jobs s (list_point g.from x))))) p ≡ Some q)
    by (inl more) ih =
        let r = ih more in
        join_later (walk_from jobs s (list_point g.from x)) (end_to_end (take j (walks_from jobs ss gs (last_point jobs s (list_point g.from x))))) p r.0 r.1
    by (inr e) ih =
        let y = list_point g.from x in
        let r = done_there jobs s y p some e in
        join_some (walk_from jobs s y) (end_to_end (take j (walks_from jobs ss gs (last_point jobs s y)))) p r.0 r.1
path_done jobs _ _ j p x f l some none = absurd f

-- ---- the law

pub work_done : WorkDone
work_done f h j k p serving l few long some none =
    ap (λ w. done_by w (records_before f j + k) p) cut.1 ∙ by (amount (get_or (list_plan f j).first.left p 0)) (finish (end_to_end (take j (walks_of f))) p) refl
  where
    cut : (b : List Left) × (end_to_end (walks_of f) ≡ end_to_end (take j (walks_of f)) ++ (list_walk (list_plan f j) ++ b))
    cut = split_at (walks_of f) j (list_walk (list_plan f j)) (list_walks f j serving.forms l)

    -- in the list
    own : 0 < get_or (list_plan f j).first.left p 0 → (g : ℕ) × (finish (take k (list_walk (list_plan f j))) p ≡ Some g)
    own more = grind (arith, done_there, walk_take)

    by : (0 < get_or (list_plan f j).first.left p 0) ⊎ (get_or (list_plan f j).first.left p 0 ≡ 0) → (o : Option ℕ) → finish (end_to_end (take j (walks_of f))) p ≡ o
        → done_by (end_to_end (take j (walks_of f)) ++ (list_walk (list_plan f j) ++ cut.0)) (length (end_to_end (take j (walks_of f))) + k) p ≡ true
    by m (Some g) e = done_front (end_to_end (take j (walks_of f))) (list_walk (list_plan f j) ++ cut.0) k p g e
    by (inl more) None e = grind (arith, done_past, cut, is_some, take_in, length-walk, own)
    by (inr zero_left) None e = grind (arith, get_taken, path_done, not_some)
