-- What a record says that finishes a job.
use Rattle.std.proofs.Common.{◌≡◌, ℕ, zero, suc, ◌+◌, ◌-◌, ◌≤◌, ◌<◌, Bool, true, false, cond, ◌&&◌, ◌||◌, eqb, ltb, is_some, List, [], ◌∷◌, ◌++◌, length, get_or, slice_get, take, Option, Some, None, refl, sym, ap, ◌∙◌, subst, arith, inl, inr}
use Rattle.htl_refine.proofs.Words.{cases_lt, eqb-true, eq-eqb, ltb-true, lt-ltb, Job, SInstr, Dispatch, Idle, End, Leg, list_point, walks_from, end_to_end, AreInForm, Point, Left, job_at, dispatch_begins, time_after, work_after, slice_between, slice_onto, finishes_by, next_point, left_by, walk_from, last_point, is_position, finish, slices, InForm, no_finish, left_falls_to, left_falls, left_same, no_leg, Rises, done_by, get_back, within_front, same_Some}
use Rattle.htl_refine.proofs.{RecordOrder.not_some, RecordOrder.walk_rises, SliceOrder.slice_from}

-- ---- one record more

pub finish_more : (ls : List Left) (k p : ℕ) (l : Left) → slice_get ls k ≡ Some l → done_by ls (suc k) p ≡ (done_by ls k p || (is_position l.position p && l.finished))
finish_more [] k p l h = not_some l h
finish_more (m ∷ ls) zero p l h = grind (arith, same_Some, is_some)
finish_more (m ∷ ls) (suc k) p l h = grind (arith, is_some, finish_more ls k p l h)

-- ---- in one list

finishes_is : (a b : ℕ) → finishes_by a b ≡ true → (0 < a) × (b ≡ 0)
finishes_is (suc a) zero e = (omega arith, refl)
finishes_is _ _ e = absurd (let z : ⊥ = cc in z)

-- the last work is done at an offset behind the release, in a slice that begins before it
runs_late : (now w r until : ℕ) → 0 < w → work_after now w r until ≡ 0 → (r < time_after now w r until) × (dispatch_begins now r until < until) × (dispatch_begins now r until < time_after now w r until)
runs_late now zero r until h e = absurd (omega arith)
runs_late now (suc w) r until h e = (omega arith, omega arith, omega arith)

-- the record of position p, which it finishes, in a walk from x
pub record IsLast (jobs : List Job) (is : List SInstr) (x : Point) (k p : ℕ) (l : Left) : Type 0 where
  pub some : 0 < get_or x.left p 0
  pub open_yet : done_by (walk_from jobs is x) k p ≡ false
  pub released : (job_at jobs p).release < l.at
  pub first : (s : ℕ × ℕ) × (slice_get (slices (walk_from jobs is x) p) 0 ≡ Some s) × (s.0 < l.at)

module _ (jobs : List Job) (p : ℕ) where
  slices_here : (l : Left) (ls : List Left) (s : ℕ × ℕ) → l.position ≡ Some p → l.slice ≡ Some s → slice_get (slices (l ∷ ls) p) 0 ≡ Some s
  slices_here l ls s at is = grind (arith, eq-eqb)

  -- the first slice, with a record in front
  slices_front : (i : SInstr) (x : Point) (ls : List Left) (a : ℕ) → (next_point jobs i x).time ≤ a → ((s : ℕ × ℕ) × (slice_get (slices ls p) 0 ≡ Some s) × (s.0 < a))
      → (s : ℕ × ℕ) × (slice_get (slices (left_by jobs i x (next_point jobs i x) ∷ ls) p) 0 ≡ Some s) × (s.0 < a)
  slices_front (Dispatch q h) x ls a later r = by_position (eqb q p) refl
    where
      y : Point
      y = next_point jobs (Dispatch q h) x

      by_work : (w : ℕ) → get_or x.left q 0 ≡ w → time_after x.time w (job_at jobs q).release h ≤ a
          → (s : ℕ × ℕ) × (slice_get (slice_onto (slice_between (dispatch_begins x.time (job_at jobs q).release h) h w y.time) (slices ls p)) 0 ≡ Some s) × (s.0 < a)
      by_work zero is t = r
      by_work (suc w) is t = by_room (ltb (dispatch_begins x.time (job_at jobs q).release h) h) refl
        where
          by_room : (b : Bool) → ltb (dispatch_begins x.time (job_at jobs q).release h) h ≡ b
              → (s : ℕ × ℕ) × (slice_get (slice_onto (elim b [ true ↦ Some (dispatch_begins x.time (job_at jobs q).release h, y.time) | false ↦ None ]) (slices ls p)) 0 ≡ Some s) × (s.0 < a)
          by_room true e = let room : dispatch_begins x.time (job_at jobs q).release h < h = ltb-true _ _ e in ((dispatch_begins x.time (job_at jobs q).release h, y.time), refl, omega arith)
          by_room false e = r

      by_position : (b : Bool) → eqb q p ≡ b
          → (s : ℕ × ℕ) × (slice_get (cond b (slice_onto (slice_between (dispatch_begins x.time (job_at jobs q).release h) h (get_or x.left q 0) y.time) (slices ls p)) (slices ls p)) 0 ≡ Some s) × (s.0 < a)
      by_position true e = by_work (get_or x.left q 0) refl later
      by_position false e = r
  slices_front _ x ls a later r = r

  -- the record of the dispatch that does the last work
  last_here : (q h : ℕ) (is : List SInstr) (x : Point) → q ≡ p → finishes_by (get_or x.left q 0) (get_or (next_point jobs (Dispatch q h) x).left q 0) ≡ true
      → IsLast jobs (Dispatch q h ∷ is) x 0 p (left_by jobs (Dispatch q h) x (next_point jobs (Dispatch q h) x))
  last_here q h is x same e =
      let y = next_point jobs (Dispatch q h) x in
      let f = finishes_is (get_or x.left q 0) (get_or y.left q 0) e in
      let late = runs_late x.time (get_or x.left q 0) (job_at jobs q).release h f.0 (sym (left_same x.left q x.time (job_at jobs q).release h) ∙ f.1) in
      let from = dispatch_begins x.time (job_at jobs q).release h in
      let l = left_by jobs (Dispatch q h) x y in
      record {
        some = subst (λ z. 0 < get_or x.left z 0) same f.0;
        open_yet = refl;
        released = subst (λ z. (job_at jobs z).release < y.time) same late.0;
        first = ((from, y.time), slices_here l (walk_from jobs is y) (from, y.time) (ap (λ z. Some z) same) (slice_is (get_or x.left q 0) f.0 late.1 y.time), late.2);
      }
    where
      slice_is : (w : ℕ) → 0 < w → dispatch_begins x.time (job_at jobs q).release h < h → (to : ℕ)
          → slice_between (dispatch_begins x.time (job_at jobs q).release h) h w to ≡ Some (dispatch_begins x.time (job_at jobs q).release h, to)
      slice_is zero a b to = absurd (omega arith)
      slice_is (suc w) a b to =
          ap (λ c. elim c [ true ↦ Some (dispatch_begins x.time (job_at jobs q).release h, to) | false ↦ None ]) (lt-ltb (dispatch_begins x.time (job_at jobs q).release h) h b)

  pub last_is : (is : List SInstr) (x : Point) (k : ℕ) (l : Left) → slice_get (walk_from jobs is x) k ≡ Some l → l.position ≡ Some p → l.finished ≡ true → IsLast jobs is x k p l
  last_is [] x k l at pos fin = not_some l at
  last_is (Dispatch q h ∷ is) x zero l at pos fin =
      let e : left_by jobs (Dispatch q h) x (next_point jobs (Dispatch q h) x) ≡ l = same_Some _ _ at in
      let same : q ≡ p = same_Some _ _ (ap (λ (z : Left). z.position) e ∙ pos) in
      subst (IsLast jobs (Dispatch q h ∷ is) x 0 p) e (last_here q h is x same (ap (λ (z : Left). z.finished) e ∙ fin))
  last_is (i ∷ is) x (suc k) l at pos fin =
      let y = next_point jobs i x in
      let r = last_is is y k l at pos fin in
      let fall : get_or y.left p 0 ≤ get_or x.left p 0 = left_falls jobs i x p in
      record {
        some = omega (arith, r.some);
        open_yet = not_first i r.some r.open_yet;
        released = r.released;
        first = slices_front i x (walk_from jobs is y) l.at (at_least (walk_from jobs is y) y.time k l (walk_rises jobs is y) at) r.first;
      }
    where
      at_least : (ls : List Left) (a k : ℕ) (l : Left) → Rises a ls → slice_get ls k ≡ Some l → a ≤ l.at
      at_least [] a k l r e = not_some l e
      at_least (m ∷ ls) a zero l r e = omega (arith, r.0, ap (λ (z : Left). z.at) (same_Some _ _ e))
      at_least (m ∷ ls) a (suc k) l r e = omega (arith, r.0, at_least ls m.at k l r.1 e)

      not_first : (j : SInstr) → 0 < get_or (next_point jobs j x).left p 0 → done_by (walk_from jobs is (next_point jobs j x)) k p ≡ false → done_by (walk_from jobs (j ∷ is) x) (suc k) p ≡ false
      not_first (Idle h) s e = e
      not_first End s e = e
      not_first (Dispatch q h) s e = by_position (eqb q p) refl
        where
          y : Point
          y = next_point jobs (Dispatch q h) x

          not_done : (a b : ℕ) → 0 < b → finishes_by a b ≡ false
          not_done (suc a) zero g = absurd (omega arith)
          not_done _ _ g = refl

          by_position : (b : Bool) → eqb q p ≡ b → is_some (cond (b && finishes_by (get_or x.left q 0) (get_or y.left q 0)) (Some y.time) (finish (take k (walk_from jobs is y)) p)) ≡ false
          by_position false g = e
          by_position true g =
              let same : q ≡ p = eqb-true q p g in
              ap (λ b. is_some (cond (true && b) (Some y.time) (finish (take k (walk_from jobs is y)) p))) (not_done (get_or x.left q 0) (get_or y.left q 0) (subst (λ z. 0 < get_or y.left z 0) (sym same) s)) ∙ e
  last_is _ x zero l at pos fin = let e = same_Some _ _ at in not_some p (ap (λ (z : Left). z.position) e ∙ pos)

-- a job that finishes has a record that says so
pub finish_record : (ls : List Left) (p f : ℕ) → finish ls p ≡ Some f → (k : ℕ) × (l : Left) × (slice_get ls k ≡ Some l) × (l.position ≡ Some p) × (l.finished ≡ true) × (l.at ≡ f)
finish_record [] p f e = not_some f e
finish_record (l ∷ ls) p f e = by_test (is_position l.position p && l.finished) refl e (λ g. finish_record ls p f g)
  where
    both : (o : Option ℕ) (b : Bool) → (is_position o p && b) ≡ true → (o ≡ Some p) × (b ≡ true)
    both None b h = absurd (let z : ⊥ = cc in z)
    both (Some q) b h = grind (arith, eqb-true)

    by_test : (b : Bool) → (is_position l.position p && l.finished) ≡ b → cond b (Some l.at) (finish ls p) ≡ Some f
        → (finish ls p ≡ Some f → (k : ℕ) × (m : Left) × (slice_get ls k ≡ Some m) × (m.position ≡ Some p) × (m.finished ≡ true) × (m.at ≡ f))
        → (k : ℕ) × (m : Left) × (slice_get (l ∷ ls) k ≡ Some m) × (m.position ≡ Some p) × (m.finished ≡ true) × (m.at ≡ f)
    by_test true is g ih = let r = both l.position l.finished is in (0, l, refl, r.0, r.1, same_Some _ _ g)
    by_test false is g ih = let r = ih g in (suc r.0, r.1, r.2, r.3, r.4, r.5)

-- ---- among the records of all lists

done_in : (xs ys : List Left) (k p : ℕ) → k < length xs → done_by (xs ++ ys) k p ≡ done_by xs k p
done_in [] ys k p h = absurd (omega arith)
done_in (x ∷ xs) ys zero p h = refl
done_in (x ∷ xs) ys (suc k) p h = grind (arith, is_some, done_in xs ys k p (omega arith))

pub done_past : (xs ys : List Left) (k p : ℕ) → finish xs p ≡ None → done_by (xs ++ ys) (length xs + k) p ≡ done_by ys k p
done_past [] ys k p e = let z : 0 + k ≡ k = omega arith in ap (λ m. done_by ys m p) z
done_past (x ∷ xs) ys k p e =
    (let z : suc (length xs) + k ≡ suc (length xs + k) = omega arith in ap (λ m. done_by (x ∷ (xs ++ ys)) m p) z)
    ∙ by (is_position x.position p && x.finished) e (λ f. done_past xs ys k p f)
  where
    by : (b : Bool) → cond b (Some x.at) (finish xs p) ≡ None → (finish xs p ≡ None → done_by (xs ++ ys) (length xs + k) p ≡ done_by ys k p)
        → is_some (cond b (Some x.at) (finish (take (length xs + k) (xs ++ ys)) p)) ≡ done_by ys k p
    by true f ih = not_some x.at (sym f)
    by false f ih = ih f

-- a list dispatches what it knows alone
known_in : (jobs : List Job) (c b : ℕ) (is : List SInstr) (x : Point) (k p : ℕ) (l : Left) → InForm c b is → slice_get (walk_from jobs is x) k ≡ Some l → l.position ≡ Some p → p < c
known_in jobs c b [] x k p l f e pos = not_some l e
known_in jobs c b (End ∷ []) x (suc k) p l f e pos = not_some l e
known_in jobs c b (End ∷ i ∷ is) x k p l f e pos = absurd f.0
known_in jobs c b (Dispatch q h ∷ is) x zero p l f e pos = let same : q ≡ p = same_Some _ _ (ap (λ (z : Left). z.position) (same_Some _ _ e) ∙ pos) in omega (arith, f.0.0, same)
known_in jobs c b (Dispatch q h ∷ is) x (suc k) p l f e pos = known_in jobs c b is (next_point jobs (Dispatch q h) x) k p l f.1 e pos
known_in jobs c b (Idle h ∷ is) x (suc k) p l f e pos = known_in jobs c b is (next_point jobs (Idle h) x) k p l f.1 e pos
known_in jobs c b _ x zero p l f e pos = not_some p (ap (λ (z : Left). z.position) (same_Some _ _ e) ∙ pos)

-- a slice that is listed is one of a record
listed : (ls : List Left) (p k : ℕ) (s : ℕ × ℕ) → slice_get (slices ls p) k ≡ Some s → (m : ℕ) × (b : Left) × (slice_get ls m ≡ Some b) × (b.slice ≡ Some s)
listed [] p k s e = not_some s e
listed (l ∷ ls) p k s e = by (is_position l.position p) l.slice refl k e (λ j f. listed ls p j s f)
  where
    more : ((m : ℕ) × (b : Left) × (slice_get ls m ≡ Some b) × (b.slice ≡ Some s)) → (m : ℕ) × (b : Left) × (slice_get (l ∷ ls) m ≡ Some b) × (b.slice ≡ Some s)
    more r = (suc r.0, r.1, r.2, r.3)

    by : (b : Bool) (o : Option (ℕ × ℕ)) → l.slice ≡ o → (k : ℕ) → slice_get (cond b (slice_onto o (slices ls p)) (slices ls p)) k ≡ Some s
        → ((j : ℕ) → slice_get (slices ls p) j ≡ Some s → (m : ℕ) × (b : Left) × (slice_get ls m ≡ Some b) × (b.slice ≡ Some s))
        → (m : ℕ) × (b : Left) × (slice_get (l ∷ ls) m ≡ Some b) × (b.slice ≡ Some s)
    by false o is k e ih = more (ih k e)
    by true None is k e ih = more (ih k e)
    by true (Some u) is zero e ih = (0, l, refl, is ∙ e)
    by true (Some u) is (suc k) e ih = more (ih k e)

-- what a finishing record says: the job has work at first and isn't done before it; where only rounds that have begun are known, so is it
pub record IsFinishing (jobs : List Job) (w : List Left) (gs : List Leg) (x : Point) (k p : ℕ) (l : Left) : Type 0 where
  pub some : 0 < get_or x.left p 0
  pub open_yet : done_by w k p ≡ false
  -- a list that began before it knows it
  pub place : ℕ
  pub there : place < length gs
  pub before : (get_or gs place no_leg).from < l.at
  pub known : p < (get_or gs place no_leg).known

pub finishing : (jobs : List Job) (ss : List (List SInstr)) (gs : List Leg) (x : Point) (k p : ℕ) (l : Left) → AreInForm ss gs
    → slice_get (end_to_end (walks_from jobs ss gs x)) k ≡ Some l → l.position ≡ Some p → l.finished ≡ true → IsFinishing jobs (end_to_end (walks_from jobs ss gs x)) gs x k p l
finishing jobs [] gs x k p l f e pos fin = not_some l e
finishing jobs (s ∷ ss) [] x k p l f e pos fin = absurd f
finishing jobs (s ∷ ss) (g ∷ gs) x k p l f e pos fin = elim (cases_lt k (length (walk_from jobs s (list_point g.from x)))) [
  | inl h ↦ here h
  | inr h ↦ there h (λ d at. finishing jobs ss gs (last_point jobs s (list_point g.from x)) d p l f.1 at pos fin)
]
  where
    here : k < length (walk_from jobs s (list_point g.from x)) → IsFinishing jobs (end_to_end (walks_from jobs (s ∷ ss) (g ∷ gs) x)) (g ∷ gs) x k p l
    here h =
        let ls = walk_from jobs s (list_point g.from x) in
        let ms = end_to_end (walks_from jobs ss gs (last_point jobs s (list_point g.from x))) in
        let at : slice_get ls k ≡ Some l = sym (within_front ls ms k h) ∙ e in
        let last = last_is jobs p s (list_point g.from x) k l at pos fin in
        let one = listed ls p 0 last.first.0 last.first.1 in
        record {
          some = last.some;
          open_yet = done_in ls ms k p h ∙ last.open_yet;
          place = 0;
          there = omega arith;
          before = omega (arith, slice_from jobs s (list_point g.from x) one.0 one.1 last.first.0 one.2 one.3, last.first.2);
          known = known_in jobs g.known g.to s (list_point g.from x) k p l f.0 at pos;
        }

    there : length (walk_from jobs s (list_point g.from x)) ≤ k
        → ((d : ℕ) → slice_get (end_to_end (walks_from jobs ss gs (last_point jobs s (list_point g.from x)))) d ≡ Some l
        → IsFinishing jobs (end_to_end (walks_from jobs ss gs (last_point jobs s (list_point g.from x)))) gs (last_point jobs s (list_point g.from x)) d p l)
        → IsFinishing jobs (end_to_end (walks_from jobs (s ∷ ss) (g ∷ gs) x)) (g ∷ gs) x k p l
    there h ih =
        let ls = walk_from jobs s (list_point g.from x) in
        let ms = end_to_end (walks_from jobs ss gs (last_point jobs s (list_point g.from x))) in
        let d = k - length ls in
        let is : length ls + d ≡ k = omega (arith, h) in
        let r = ih d (sym (get_back ls ms d) ∙ ap (slice_get (ls ++ ms)) is ∙ e) in
        record {
          some = omega (arith, r.some, left_falls_to jobs s (list_point g.from x) p);
          open_yet = ap (λ m. done_by (ls ++ ms) m p) (sym is) ∙ done_past ls ms d p (no_finish jobs s (list_point g.from x) p r.some) ∙ r.open_yet;
          place = suc r.place;
          there = omega (arith, r.there);
          before = r.before;
          known = r.known;
        }
