-- The records of a frame, list by list.
use Rattle.std.proofs.Common.{◌≡◌, ℕ, zero, suc, ◌+◌, ◌≤◌, ◌<◌, ◌⊎◌, Bool, true, false, cond, ◌&&◌, is_some, ltb, List, [], ◌∷◌, ◌++◌, length, get_or, slice_get, take, Option, Some, None, refl, sym, ap, ◌∙◌, arith, inl, inr}
use Rattle.htl_refine.proofs.Words.{lt-ltb, le-ltb, length-append, Job, SInstr, Leg, list_point, walks_from, end_to_end, AreInForm, AreChained, Point, Left, walk_from, last_point, first_point, is_position, finish, walk_of, CountSplit, DoneSplit, no_leg, records_before, Rises, count_left_before, done_by}
use Rattle.htl_refine.proofs.{DoneRecords.done_is, FinishingRecords.finish_record, FinishingRecords.done_past, FinishingRecords.finishing, ListWalks.walk_is, RecordOrder.not_some, RecordOrder.path_rises, RecordOrder.times_within}

-- ---- counts over joined lists of records

-- all of the front is before
count_past : (e : ℕ) (xs ys : List Left) → ((k : ℕ) (l : Left) → slice_get xs k ≡ Some l → l.at < e) → count_left_before e (xs ++ ys) ≡ length xs + count_left_before e ys
count_past e [] ys h = let z : count_left_before e ys ≡ 0 + count_left_before e ys = omega arith in z
count_past e (x ∷ xs) ys h =
    ap (λ b. cond b (suc (count_left_before e (xs ++ ys))) 0) (lt-ltb x.at e (h 0 x refl))
    ∙ ap suc (count_past e xs ys (λ k l g. h (suc k) l g))
    ∙ (let z : suc (length xs + count_left_before e ys) ≡ suc (length xs) + count_left_before e ys = omega arith in z)

none_early : (e b : ℕ) (ys : List Left) → Rises b ys → e ≤ b → count_left_before e ys ≡ 0
none_early e b [] r h = refl
none_early e b (y ∷ ys) r h = ap (λ c. cond c (suc (count_left_before e ys)) 0) (le-ltb y.at e (omega (arith, r.0)))

-- none of what comes behind is
count_in : (e b : ℕ) (xs ys : List Left) → Rises b ys → e ≤ b → count_left_before e (xs ++ ys) ≡ count_left_before e xs
count_in e b [] ys r h = none_early e b ys r h
count_in e b (x ∷ xs) ys r h = ap (λ n. cond (ltb x.at e) (suc n) 0) (count_in e b xs ys r h)

-- ---- list by list

-- how many records the first j lists have
abbrev base_of : List Job → List (List SInstr) → List Leg → Point → ℕ → ℕ
base_of jobs ss gs x j = length (end_to_end (take j (walks_from jobs ss gs x)))

abbrev walk_in : List Job → List (List SInstr) → List Leg → Point → ℕ → List Left
walk_in jobs ss gs x j = get_or (walks_from jobs ss gs x) j []

pub chain_to : (a h n j : ℕ) (gs : List Leg) → AreChained a h n gs → j < length gs → a ≤ (get_or gs j no_leg).from
chain_to a h n j [] c l = absurd (omega arith)
chain_to a h n zero (g ∷ gs) c l = omega (arith, c.0)
chain_to a h n (suc j) (g ∷ gs) c l = omega (arith, c.0, c.1, chain_to g.to h n j gs c.3 (omega arith))

split_count : (jobs : List Job) (ss : List (List SInstr)) (gs : List Leg) (a h n j e : ℕ) (x : Point) → AreInForm ss gs → AreChained a h n gs → j < length gs
    → (get_or gs j no_leg).from < e → e ≤ (get_or gs j no_leg).to
    → count_left_before e (end_to_end (walks_from jobs ss gs x)) ≡ base_of jobs ss gs x j + count_left_before e (walk_in jobs ss gs x j)
split_count jobs [] [] a h n j e x f c l lo hi = absurd (omega arith)
split_count jobs (s ∷ ss) (g ∷ gs) a h n zero e x f c l lo hi =
    let y = list_point g.from x in
    count_in e g.to (walk_from jobs s y) (end_to_end (walks_from jobs ss gs (last_point jobs s y))) (path_rises jobs ss gs g.to h n (last_point jobs s y) f.1 c.3) hi
    ∙ (let z : count_left_before e (walk_from jobs s y) ≡ 0 + count_left_before e (walk_from jobs s y) = omega arith in z)
split_count jobs (s ∷ ss) (g ∷ gs) a h n (suc j) e x f c l lo hi =
    let y = list_point g.from x in
    let v = last_point jobs s y in
    let ls = walk_from jobs s y in
    let later : g.to ≤ (get_or gs j no_leg).from = chain_to g.to h n j gs c.3 (omega arith) in
    count_past e ls (end_to_end (walks_from jobs ss gs v)) (λ k m at. let z : m.at ≤ g.to = times_within jobs g.known g.to s y f.0 c.1 k m at in omega (arith, z, later, lo))
    ∙ ap (λ m. length ls + m) (split_count jobs ss gs g.to h n j e v f.1 c.3 (omega arith) lo hi)
    ∙ (let z : length ls + (base_of jobs ss gs v j + count_left_before e (walk_in jobs ss gs v j)) ≡ (length ls + base_of jobs ss gs v j) + count_left_before e (walk_in jobs ss gs v j) = omega arith in z)
    ∙ ap (λ m. m + count_left_before e (walk_in jobs ss gs v j)) (sym (length-append ls (end_to_end (take j (walks_from jobs ss gs v)))))
split_count jobs _ _ a h n j e x f c l lo hi = absurd f

pub count_split : CountSplit
count_split f h j e serving l lo hi = grind (arith, split_count, walk_is)

-- ---- who is done where a list ends

-- a record that finishes a job is later than the start of the first list
finish_later : (jobs : List Job) (ss : List (List SInstr)) (gs : List Leg) (a h n p g : ℕ) (x : Point) → AreInForm ss gs → AreChained a h n gs → finish (end_to_end (walks_from jobs ss gs x)) p ≡ Some g → a < g
finish_later jobs ss gs a h n p g x f c e =
    let r = finish_record (end_to_end (walks_from jobs ss gs x)) p g e in
    let i = finishing jobs ss gs x r.0 p r.1 f r.2 r.3 r.4 in
    omega (arith, i.before, r.5, chain_to a h n i.place gs c i.there)

pub done_front : (xs ys : List Left) (k p : ℕ) (g : ℕ) → finish xs p ≡ Some g → done_by (xs ++ ys) (length xs + k) p ≡ true
done_front [] ys k p g e = not_some g e
done_front (x ∷ xs) ys k p g e =
    (let z : suc (length xs) + k ≡ suc (length xs + k) = omega arith in ap (λ m. done_by (x ∷ (xs ++ ys)) m p) z)
    ∙ by (is_position x.position p && x.finished) e (λ q. done_front xs ys k p g q)
  where
    by : (b : Bool) → cond b (Some x.at) (finish xs p) ≡ Some g → (finish xs p ≡ Some g → done_by (xs ++ ys) (length xs + k) p ≡ true)
        → is_some (cond b (Some x.at) (finish (take (length xs + k) (xs ++ ys)) p)) ≡ true
    by true q ih = refl
    by false q ih = ih q

-- so the records of further lists at the offset at which these begin make no difference
ends_alike : (xs ys : List Left) (d p : ℕ) → ((g : ℕ) → finish ys p ≡ Some g → d < g) → done_by (xs ++ ys) (length xs + count_left_before (suc d) ys) p ≡ done_by (xs ++ ys) (length xs) p
ends_alike xs ys d p late = by (finish xs p) refl
  where
    none : (k : ℕ) → k ≡ 0 → done_by ys k p ≡ false
    none k e = ap (λ m. done_by ys m p) e

    by : (o : Option ℕ) → finish xs p ≡ o → done_by (xs ++ ys) (length xs + count_left_before (suc d) ys) p ≡ done_by (xs ++ ys) (length xs) p
    by (Some g) e =
        done_front xs ys (count_left_before (suc d) ys) p g e
        ∙ sym ((let z : length xs ≡ length xs + 0 = omega arith in ap (λ m. done_by (xs ++ ys) m p) z) ∙ done_front xs ys 0 p g e)
    by None e =
        done_past xs ys (count_left_before (suc d) ys) p e
        ∙ not_done (done_by ys (count_left_before (suc d) ys) p) refl
        ∙ sym ((let z : length xs ≡ length xs + 0 = omega arith in ap (λ m. done_by (xs ++ ys) m p) z) ∙ done_past xs ys 0 p e)
      where
        not_done : (b : Bool) → done_by ys (count_left_before (suc d) ys) p ≡ b → b ≡ false
        not_done false g = refl
        not_done true g = let r = done_is (suc d) ys p g in absurd (omega (arith, late r.0 r.1, r.2))

pub count_all : (e : ℕ) (ls : List Left) → ((k : ℕ) (l : Left) → slice_get ls k ≡ Some l → l.at < e) → count_left_before e ls ≡ length ls
count_all e [] h = refl
count_all e (l ∷ ls) h = ap (λ b. cond b (suc (count_left_before e ls)) 0) (lt-ltb l.at e (h 0 l refl)) ∙ ap suc (count_all e ls (λ k m g. h (suc k) m g))

joined_more : (xs ys zs : List Left) (d p : ℕ) → ((k : ℕ) (l : Left) → slice_get xs k ≡ Some l → l.at < suc d) → (m : ℕ)
    → done_by ys (count_left_before (suc d) ys) p ≡ done_by ys m p → done_by (xs ++ ys) (count_left_before (suc d) (xs ++ ys)) p ≡ done_by (xs ++ ys) (length xs + m) p
joined_more xs ys zs d p early m e = grind (arith, count_past, done_front, done_past)

split_done : (jobs : List Job) (ss : List (List SInstr)) (gs : List Leg) (a h n j d p : ℕ) (x : Point) → AreInForm ss gs → AreChained a h n gs → j < length gs
    → (get_or gs j no_leg).from ≤ d → d ≤ (get_or gs j no_leg).to
    → done_by (end_to_end (walks_from jobs ss gs x)) (count_left_before (suc d) (end_to_end (walks_from jobs ss gs x))) p
    ≡ done_by (end_to_end (walks_from jobs ss gs x)) (base_of jobs ss gs x j + count_left_before (suc d) (walk_in jobs ss gs x j)) p
split_done jobs [] [] a h n j d p x f c l lo hi = absurd (omega arith)
split_done jobs [] (g ∷ gs) a h n j d p x f c l lo hi = absurd f
split_done jobs (s ∷ ss) [] a h n j d p x f c l lo hi = absurd f
split_done jobs (s ∷ ss) (g ∷ gs) a h n zero d p x f c l lo hi = by_end (cases d g.to hi)
  where
    cases : (a b : ℕ) → a ≤ b → (suc a ≤ b) ⊎ (a ≡ b)
    cases a b h = grind arith

    zero_plus : (m : ℕ) → m ≡ 0 + m
    zero_plus m = omega arith

    by_end : (suc d ≤ g.to) ⊎ (d ≡ g.to)
        → done_by (walk_from jobs s (list_point g.from x) ++ end_to_end (walks_from jobs ss gs (last_point jobs s (list_point g.from x)))) (count_left_before (suc d) (walk_from jobs s (list_point g.from x) ++ end_to_end (walks_from jobs ss gs (last_point jobs s (list_point g.from x))))) p
        ≡ done_by (walk_from jobs s (list_point g.from x) ++ end_to_end (walks_from jobs ss gs (last_point jobs s (list_point g.from x)))) (0 + count_left_before (suc d) (walk_from jobs s (list_point g.from x))) p
    by_end (inl less) =
        let y = list_point g.from x in
        let v = last_point jobs s y in
        let ls = walk_from jobs s y in
        let ms = end_to_end (walks_from jobs ss gs v) in
        ap (λ k. done_by (ls ++ ms) k p) (count_in (suc d) g.to ls ms (path_rises jobs ss gs g.to h n v f.1 c.3) less ∙ zero_plus (count_left_before (suc d) ls))
    by_end (inr same) =
        let y = list_point g.from x in
        let v = last_point jobs s y in
        let ls = walk_from jobs s y in
        let ms = end_to_end (walks_from jobs ss gs v) in
        let early : (k : ℕ) (l : Left) → slice_get ls k ≡ Some l → l.at < suc d = λ k l at. let z : l.at ≤ g.to = times_within jobs g.known g.to s y f.0 c.1 k l at in omega (arith, z, same) in
        ap (λ k. done_by (ls ++ ms) k p) (count_past (suc d) ls ms early)
        ∙ ends_alike ls ms d p (λ q e. let z : g.to < q = finish_later jobs ss gs g.to h n p q v f.1 c.3 e in omega (arith, z, same))
        ∙ ap (λ k. done_by (ls ++ ms) k p) (sym (count_all (suc d) ls early) ∙ zero_plus (count_left_before (suc d) ls))
split_done jobs (s ∷ ss) (g ∷ gs) a h n (suc j) d p x f c l lo hi =
    let y = list_point g.from x in
    let v = last_point jobs s y in
    let ls = walk_from jobs s y in
    let ms = end_to_end (walks_from jobs ss gs v) in
    let later : g.to ≤ (get_or gs j no_leg).from = chain_to g.to h n j gs c.3 (omega arith) in
    let m = base_of jobs ss gs v j + count_left_before (suc d) (walk_in jobs ss gs v j) in
    joined_more ls ms [] d p (λ k q at. let z : q.at ≤ g.to = times_within jobs g.known g.to s y f.0 c.1 k q at in omega (arith, z, later, lo)) m
    (split_done jobs ss gs g.to h n j d p v f.1 c.3 (omega arith) lo hi)
    ∙ ap (λ k. done_by (ls ++ ms) k p)
    ((let z : length ls + (base_of jobs ss gs v j + count_left_before (suc d) (walk_in jobs ss gs v j)) ≡ (length ls + base_of jobs ss gs v j) + count_left_before (suc d) (walk_in jobs ss gs v j) = omega arith in z)
    ∙ ap (λ q. q + count_left_before (suc d) (walk_in jobs ss gs v j)) (sym (length-append ls (end_to_end (take j (walks_from jobs ss gs v))))))

pub done_split : DoneSplit
done_split f h j d p serving l lo hi =
    split_done f.jobs f.lists f.legs 0 h (length f.jobs) j d p (first_point f.jobs f.lengths) serving.forms serving.chain l lo hi
    ∙ ap (λ ls. done_by (walk_of f) (records_before f j + count_left_before (suc d) ls) p) (walk_is f j serving.forms l)
