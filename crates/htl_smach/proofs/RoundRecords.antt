-- The records of a round, one by one.
use Rattle.std.proofs.Common.{◌≡◌, ℕ, zero, suc, ◌+◌, ◌≤◌, ◌<◌, ◌⊎◌, Bool, true, false, cond, ◌&&◌, eqb, ltb, List, [], ◌∷◌, ◌++◌, length, get_or, slice_get, set, take, Option, Some, None, is_some, IsSome, ◌↔◌, refl, sym, ap, ap₂, ◌∙◌, subst, arith, inl, inr, get_or-set_same, get_or-set_other}
use Rattle.htl_smach.proofs.Words.{nat_tests, Job, SInstr, Point, job_at, next_point, left_by, walk_from, last_point, first_point, work, finish, HaveLengths, AreWithinWorst, left_falls, point_step, left_falls_to, job_there, job_is, work_present, work_some, Left, Pending, Ready, Done, Round, round_begun, told, told_from, walk_records, given, left_until, next_left, moved, state_by, state_of, finish_so_far, was_finished, IsFinishedSoFar, Stands, IsTold, cases_eq, cases_lt, le-leb, lt-leb, same_Some, eqb_some, walk_take}
use Rattle.htl_walk.specs.Walk as walks
use Rattle.htl_smach.proofs.{Lengths.with_work, Lengths.SameWalk, Lengths.same_walk, Lengths.some_below, Finishing.finished_where_none, Finishing.never_finished}

-- ---- the records as a list

pub told_from-take : (start m : ℕ) (ls : List walks.Left) (k : ℕ) → take k (told_from start m ls) ≡ told_from start m (take k ls)
told_from-take start m ls zero = refl
told_from-take start m [] (suc k) = refl
told_from-take start m (l ∷ ls) (suc k) = ap (λ z. told start m l ∷ z) (told_from-take start (suc m) ls k)

told_at : (start m k : ℕ) (jobs : List Job) (s : List SInstr) (x : Point) (i : SInstr) → slice_get s k ≡ Some i
    → slice_get (told_from start m (walk_from jobs s x)) k
    ≡ Some (told start (m + k) (left_by jobs i (last_point jobs (take k s) x) (next_point jobs i (last_point jobs (take k s) x))))
told_at start m k jobs [] x i e = cc
told_at start m zero jobs (j ∷ is) x i e =
    ap₂ (λ (n : ℕ) (z : SInstr). Some (told start n (left_by jobs z x (next_point jobs z x)))) (let z : m ≡ m + 0 = omega arith in z) (same_Some _ _ e)
told_at start m (suc k) jobs (j ∷ is) x i e =
    told_at start (suc m) k jobs is (next_point jobs j x) i e
    ∙ ap (λ n. Some (told start n (left_by jobs i (last_point jobs (take k is) (next_point jobs j x)) (next_point jobs i (last_point jobs (take k is) (next_point jobs j x)))))) (let z : suc m + k ≡ m + suc k = omega arith in z)

told_past : (start m k : ℕ) (jobs : List Job) (s : List SInstr) (x : Point) → slice_get s k ≡ None
    → slice_get (told_from start m (walk_from jobs s x)) k ≡ None
told_past start m k jobs [] x e = refl
told_past start m zero jobs (j ∷ is) x e = cc
told_past start m (suc k) jobs (j ∷ is) x e = told_past start (suc m) k jobs is (next_point jobs j x) e

pub length-told : (start m : ℕ) (jobs : List Job) (s : List SInstr) (x : Point) → length (told_from start m (walk_from jobs s x)) ≡ length s
length-told start m jobs [] x = refl
length-told start m jobs (j ∷ is) x = ap suc (length-told start (suc m) jobs is (next_point jobs j x))

-- one more element of a front
pub take_more_get : {X : Type 0} (xs : List X) (k : ℕ) (x : X) → slice_get xs k ≡ Some x → take (suc k) xs ≡ take k xs ++ x ∷ []
take_more_get [] k x e = cc
take_more_get (y ∷ xs) zero x e = ap (λ z. z ∷ []) (same_Some _ _ e)
take_more_get (y ∷ xs) (suc k) x e = ap (λ z. y ∷ z) (take_more_get xs k x e)

-- ---- the states

pub record IsPending (r : Round) (p : ℕ) : Type 0 where
  pub present : (job_at r.jobs p).present ≡ true
  pub left : eqb (get_or r.point.left p 0) 0 ≡ false
  pub told : get_or r.released p false ≡ false

pending_by : (a b c : Bool) → state_by a b c ≡ Pending → (a ≡ true) × (b ≡ false) × (c ≡ false)
pending_by false b c e = cc
pending_by true true c e = cc
pending_by true false true e = cc
pending_by true false false e = (refl, refl, refl)

pub pending_is : (r : Round) (p : ℕ) → state_of r p ≡ Pending → IsPending r p
pending_is r p e =
    let z = pending_by (job_at r.jobs p).present (eqb (get_or r.point.left p 0) 0) (get_or r.released p false) e in
    record { present = z.0; left = z.1; told = z.2 }

pub is_pending : (r : Round) (p : ℕ) → IsPending r p → state_of r p ≡ Pending
is_pending r p z =
    ap (λ b. state_by b (eqb (get_or r.point.left p 0) 0) (get_or r.released p false)) z.present
    ∙ ap (λ b. state_by true b (get_or r.released p false)) z.left ∙ ap (state_by true false) z.told

job_below : (js : List Job) (p : ℕ) → (job_at js p).present ≡ true → p < length js
job_below [] p e = cc
job_below (j ∷ js) zero e = omega arith
job_below (j ∷ js) (suc p) e = omega (arith, job_below js p e)

pub pending_below : (r : Round) (p : ℕ) → state_of r p ≡ Pending → p < length r.jobs
pending_below r p e = job_below r.jobs p (pending_is r p e).present

-- what isn't present has no work
pub absent_idle : (js : List Job) (ns : List ℕ) (p : ℕ) → (job_at js p).present ≡ false → get_or (work js ns) p 0 ≡ 0
absent_idle js ns p e =
    elim (cases_lt 0 (get_or (work js ns) p 0)) [
      | inl some ↦ let here : (job_at js p).present ≡ true = work_some js ns p some in absurd (let z : ⊥ = cc in z)
      | inr none ↦ omega arith
    ]

-- ---- the next record

module _ (r : Round) (s : List SInstr) (stands : Stands r s) where
  pub next_point_is : (i : SInstr) → slice_get s r.place ≡ Some i → last_point r.jobs (take (suc r.place) s) r.first ≡ next_point r.jobs i r.point
  next_point_is i e = point_step r.jobs s r.place r.first i e ∙ ap (next_point r.jobs i) (sym stands.point)

  pub next_record_is : (i : SInstr) → slice_get s r.place ≡ Some i
      → slice_get (walk_records r s) r.place ≡ Some (told r.start r.place (left_by r.jobs i r.point (next_point r.jobs i r.point)))
  next_record_is i e =
      told_at r.start 0 r.place r.jobs s r.first i e
      ∙ ap₂ (λ (n : ℕ) (z : Point). Some (told r.start n (left_by r.jobs i z (next_point r.jobs i z)))) (let z : 0 + r.place ≡ r.place = omega arith in z) (sym stands.point)

  pub no_record : slice_get s r.place ≡ None → slice_get (walk_records r s) r.place ≡ None
  no_record e = told_past r.start 0 r.place r.jobs s r.first e

-- the round after the next instruction stands in the walk too
pub stands_next : (r : Round) (s : List SInstr) (until : ℕ) (i : SInstr) → Stands r s → slice_get s r.place ≡ Some i → IsTold r until
    → r.start + (next_point r.jobs i r.point).time ≤ until → Stands (moved r s) s
stands_next r s until i st e told by =
    let y = next_point r.jobs i r.point in
    let is : last_point r.jobs (take (suc r.place) s) r.first ≡ y = next_point_is r s st i e in
    record {
      point = refl;
      work = st.work;
      lengths = st.lengths;
      worst = st.worst;
      pending = λ p z.
          let now : IsPending (moved r s) p = pending_is (moved r s) p z in
          let less : get_or (last_point r.jobs (take (suc r.place) s) r.first).left p 0 ≤ get_or r.point.left p 0 =
          subst (λ (v : Point). get_or v.left p 0 ≤ get_or r.point.left p 0) (sym is) (left_falls r.jobs i r.point p) in
          let was : IsPending r p = record { present = now.present; left = still _ _ less now.left; told = now.told } in
          omega (arith, told p (is_pending r p was), ap (λ (v : Point). v.time) is);
    }
  where
    still : (a b : ℕ) → a ≤ b → eqb a 0 ≡ false → eqb b 0 ≡ false
    still a b h e = grind (arith, nat_tests)

-- ---- a length that is set

set_lengths : (jobs : List Job) (lengths : List ℕ) (p n : ℕ) (P : ℕ → Job → Type 0) → p < length lengths
    → ((q : ℕ) (j : Job) → slice_get jobs q ≡ Some j → j.present ≡ true → P (get_or lengths q 0) j)
    → P n (job_at jobs p)
    → (q : ℕ) (j : Job) → slice_get jobs q ≡ Some j → j.present ≡ true → P (get_or (set lengths p n) q 0) j
set_lengths jobs lengths p n P below old new q j at here =
    elim (cases_eq q p) [
      | inl e ↦
          let is : n ≡ get_or (set lengths p n) q 0 = sym (ap (λ m. get_or (set lengths p n) m 0) e ∙ get_or-set_same lengths p n 0 below) in
          subst (λ (m : ℕ). P m j) is (subst (P n) (ap (job_at jobs) (sym e) ∙ job_is jobs q j at) new)
      | inr d ↦ subst (λ (m : ℕ). P m j) (sym (get_or-set_other lengths p q n 0 d)) (old q j at here)
    ]

-- what isn't 0 wasn't 0 before
some_first : (a b : ℕ) → eqb a 0 ≡ false → a ≤ b → 0 < b
some_first zero b e l = cc
some_first (suc a) b e l = omega (arith, l)

abbrev pub with_length : Round → ℕ → ℕ → Round
with_length r p n = record r { lengths = set r.lengths p n; first = with_work p n r.first; point = with_work p n r.point }

module _ (r : Round) (s : List SInstr) (p n : ℕ) (st : Stands r s) (pending : state_of r p ≡ Pending) (some : 1 ≤ n) (worst : n ≤ (job_at r.jobs p).worst) where
  is : IsPending r p
  is = pending_is r p pending

  its : 1 ≤ get_or r.lengths p 0
  its = st.lengths p (job_at r.jobs p) (job_there r.jobs p is.present) is.present

  within : p < length r.lengths
  within = some_below r.lengths p (omega (arith, its))

  same : SameWalk r.jobs (take r.place s) p n r.first
  same =
      same_walk r.jobs (take r.place s) p n r.first
      (some_first (get_or r.point.left p 0) (get_or r.first.left p 0) is.left (let e : get_or r.point.left p 0 ≡ get_or (last_point r.jobs (take r.place s) r.first).left p 0 = ap (λ (z : Point). get_or z.left p 0) st.point in omega (arith, e, left_falls_to r.jobs (take r.place s) r.first p)))
      (omega arith) (subst (λ (z : Point). z.time ≤ (job_at r.jobs p).release) st.point (st.pending p pending))

  pub given_stays : given (with_length r p n) s ≡ given r s
  given_stays =
      told_from-take r.start 0 (walk_from r.jobs s (with_work p n r.first)) r.place
      ∙ ap (told_from r.start 0) (walk_take r.jobs s (with_work p n r.first) r.place ∙ same.told ∙ sym (walk_take r.jobs s r.first r.place))
      ∙ sym (told_from-take r.start 0 (walk_from r.jobs s r.first) r.place)

  pub stands_set : Stands (with_length r p n) s
  stands_set =
      record {
        point = sym (same.point ∙ ap (with_work p n) (sym st.point));
        work = λ q some. elim (cases_eq q p) [
          | inl e ↦ ap (λ m. (job_at r.jobs m).present) e ∙ is.present
          | inr d ↦ st.work q (omega (arith, some, get_or-set_other r.first.left p q n 0 d))
        ];
        lengths = set_lengths r.jobs r.lengths p n (λ m j. 1 ≤ m) within st.lengths some;
        worst = set_lengths r.jobs r.lengths p n (λ m j. m ≤ j.worst) within st.worst worst;
        pending = λ q z. st.pending q (was q z);
      }
    where
      was : (q : ℕ) → state_of (with_length r p n) q ≡ Pending → state_of r q ≡ Pending
      was q z =
          elim (cases_eq q p) [
            | inl e ↦ subst (λ (m : ℕ). state_of r m ≡ Pending) (sym e) pending
            | inr d ↦
                let now : IsPending (with_length r p n) q = pending_is (with_length r p n) q z in
                is_pending r q (record { present = now.present; left = ap (λ m. eqb m 0) (sym (get_or-set_other r.point.left p q n 0 d)) ∙ now.left; told = now.told })
          ]

-- ---- a release that is told

abbrev pub with_release : Round → ℕ → Round
with_release r p = record r { released = set r.released p true }

pub pending_released : (r : Round) (p q : ℕ) → state_of r p ≡ Pending → state_of (with_release r p) q ≡ Pending → state_of r q ≡ Pending
pending_released r p q here z =
    let now : IsPending (with_release r p) q = pending_is (with_release r p) q z in
    elim (cases_eq q p) [
      | inl e ↦ subst (λ (m : ℕ). state_of r m ≡ Pending) (sym e) here
      | inr d ↦
          is_pending r q (record { present = now.present; left = now.left; told = sym (get_or-set_other r.released p q true false d) ∙ now.told })
    ]

pub ready_released : (r : Round) (p : ℕ) → p < length r.released → state_of r p ≡ Pending → state_of (with_release r p) p ≡ Ready
ready_released r p below here =
    let was : IsPending r p = pending_is r p here in
    ap (λ b. state_by b (eqb (get_or r.point.left p 0) 0) (get_or (set r.released p true) p false)) was.present
    ∙ ap (λ b. state_by true b (get_or (set r.released p true) p false)) was.left ∙ ap (state_by true false) (get_or-set_same r.released p true false below)

pub stands_released : (r : Round) (s : List SInstr) (p : ℕ) → state_of r p ≡ Pending → Stands r s → Stands (with_release r p) s
stands_released r s p here st =
    record {
      point = st.point;
      work = st.work;
      lengths = st.lengths;
      worst = st.worst;
      pending = λ q z. st.pending q (pending_released r p q here z);
    }

-- ---- when a position is done

done_by : (b c : Bool) {X : Type 0} (o : Option X) → b ≡ is_some o → (state_by true b c ≡ Done) ↔ IsSome o
done_by true c o e = (λ _. sym e, λ _. refl)
done_by false true o e = (λ z. cc, λ h. cc)
done_by false false o e = (λ z. cc, λ h. cc)

-- who had no work where the list began is done exactly where it is present
idle_done : (a b c : Bool) {X : Type 0} (o : Option X) → b ≡ true → o ≡ None → (state_by a b c ≡ Done) ↔ (((a && true) ≡ true) ⊎ IsSome o)
idle_done true true c o e n = (λ _. inl refl, λ _. refl)
idle_done false true c None e n = (λ z. cc, λ z. elim z [ inl f ↦ cc | inr f ↦ cc ])
idle_done false true c (Some x) e n = absurd (let z : ⊥ = cc in z)
idle_done a false c o e n = absurd (let z : ⊥ = cc in z)

-- a position is done exactly where an instruction left so far finished it
pub done_is : (r : Round) (s : List SInstr) (p : ℕ) → Stands r s → (state_of r p ≡ Done) ↔ IsFinishedSoFar r s p
done_is r s p st =
    elim (cases_lt 0 (get_or r.first.left p 0)) [ inl some ↦ working some | inr none ↦ idle (omega arith) ]
  where
    present : Bool
    present = (job_at r.jobs p).present

    told_so : Bool
    told_so = get_or r.released p false

    front : finish (walk_from r.jobs (take r.place s) r.first) p ≡ finish_so_far r s p
    front = ap (λ (z : List walks.Left). finish z p) (sym (walk_take r.jobs s r.first r.place))

    no_work : (n : ℕ) → n ≡ 0 → eqb n 0 ≡ true
    no_work n h = grind (arith, nat_tests)

    working : 0 < get_or r.first.left p 0 → (state_of r p ≡ Done) ↔ IsFinishedSoFar r s p
    working some =
        let d : (state_by true (eqb (get_or r.point.left p 0) 0) told_so ≡ Done) ↔ IsSome (finish_so_far r s p) =
        done_by (eqb (get_or r.point.left p 0) 0) told_so (finish_so_far r s p)
        (ap (λ (z : Point). eqb (get_or z.left p 0) 0) st.point ∙ finished_where_none r.jobs (take r.place s) r.first p some ∙ ap is_some front) in
        let e : present ≡ true = st.work p some in
        let here : state_of r p ≡ state_by true (eqb (get_or r.point.left p 0) 0) told_so = ap (λ b. state_by b (eqb (get_or r.point.left p 0) 0) told_so) e in
        let never : was_finished r p ≡ false = ap₂ (λ a b. a && b) e (eqb_some (get_or r.first.left p 0) some) in (
          λ h. inr (d.0 (sym here ∙ h)),
          λ z. elim z [ inl f ↦ absurd (let w : ⊥ = cc in w) | inr f ↦ here ∙ d.1 f ],
        )

    idle : get_or r.first.left p 0 ≡ 0 → (state_of r p ≡ Done) ↔ IsFinishedSoFar r s p
    idle none =
        let e : get_or r.point.left p 0 ≡ get_or (last_point r.jobs (take r.place s) r.first).left p 0 = ap (λ (z : Point). get_or z.left p 0) st.point in
        let still : get_or r.point.left p 0 ≡ 0 = omega (arith, e, left_falls_to r.jobs (take r.place s) r.first p) in
        subst (λ b. (state_of r p ≡ Done) ↔ (((present && b) ≡ true) ⊎ IsSome (finish_so_far r s p))) (sym (no_work (get_or r.first.left p 0) none))
        (idle_done present (eqb (get_or r.point.left p 0) 0) told_so (finish_so_far r s p) (no_work (get_or r.point.left p 0) still)
        (sym front ∙ never_finished r.jobs (take r.place s) r.first p none))

-- in the first list no position was finished before it
pub none_before : (r : Round) (s : List SInstr) (p : ℕ) → Stands r s → r.first ≡ first_point r.jobs r.lengths → was_finished r p ≡ false
none_before r s p st first = by_present (job_at r.jobs p).present refl
  where
    by_present : (b : Bool) → (job_at r.jobs p).present ≡ b → (b && eqb (get_or r.first.left p 0) 0) ≡ false
    by_present false e = refl
    by_present true e =
        let work_is : get_or r.first.left p 0 ≡ get_or (work r.jobs r.lengths) p 0 = ap (λ (z : Point). get_or z.left p 0) first in
        let length_is : get_or (work r.jobs r.lengths) p 0 ≡ get_or r.lengths p 0 = work_present r.jobs r.lengths p (job_at r.jobs p) (job_there r.jobs p e) e in
        eqb_some (get_or r.first.left p 0) (omega (arith, st.lengths p (job_at r.jobs p) (job_there r.jobs p e) e, work_is, length_is))

-- ---- what a call answers

pub none_past : (r : Round) (s : List SInstr) (until : ℕ) → Stands r s → slice_get s r.place ≡ None → None ≡ next_left r s until
none_past r s until st e =
    by_test r.running ∙ sym (ap (λ (o : Option Left). cond r.running (left_until until o) None) (no_record r s st e))
  where
    by_test : (b : Bool) → ◌≡◌ {A = Option Left} None (cond b None None)
    by_test true = refl
    by_test false = refl

next_is : (r : Round) (s : List SInstr) (until : ℕ) (i : SInstr) → Stands r s → slice_get s r.place ≡ Some i
    → next_left r s until ≡ cond r.running (left_until until (Some (told r.start r.place (left_by r.jobs i r.point (next_point r.jobs i r.point))))) None
next_is r s until i st e = ap (λ (o : Option Left). cond r.running (left_until until o) None) (next_record_is r s st i e)

pub none_late : (r : Round) (s : List SInstr) (until : ℕ) (i : SInstr) → Stands r s → slice_get s r.place ≡ Some i
    → until < r.start + (next_point r.jobs i r.point).time → None ≡ next_left r s until
none_late r s until i st e late =
    sym (next_is r s until i st e ∙ ap (λ (b : Bool). cond r.running (cond b (Some (told r.start r.place (left_by r.jobs i r.point (next_point r.jobs i r.point)))) None) None) (lt-leb _ _ late) ∙ by_test r.running)
  where
    by_test : (b : Bool) → ◌≡◌ {A = Option Left} (cond b None None) None
    by_test true = refl
    by_test false = refl

pub some_left : (r : Round) (s : List SInstr) (until : ℕ) (i : SInstr) → Stands r s → slice_get s r.place ≡ Some i → r.running ≡ true
    → r.start + (next_point r.jobs i r.point).time ≤ until
    → Some (told r.start r.place (left_by r.jobs i r.point (next_point r.jobs i r.point))) ≡ next_left r s until
some_left r s until i st e here early =
    let l = told r.start r.place (left_by r.jobs i r.point (next_point r.jobs i r.point)) in
    sym (next_is r s until i st e ∙ ap (λ (b : Bool). cond b (left_until until (Some l)) None) here ∙ ap (λ (b : Bool). cond b (Some l) None) (le-leb _ _ early))

pub moved_is : (r : Round) (s : List SInstr) (i : SInstr) → Stands r s → slice_get s r.place ≡ Some i
    → record r { running = ltb (suc r.place) (length s); place = suc r.place; point = next_point r.jobs i r.point } ≡ moved r s
moved_is r s i st e =
    ap (λ (x : Point). record r { running = ltb (suc r.place) (length s); place = suc r.place; point = x }) (sym (next_point_is r s st i e))

-- a round that begins
pub stands_begun : (at : ℕ) (jobs : List Job) (lengths : List ℕ) (s : List SInstr) → HaveLengths jobs lengths → AreWithinWorst jobs lengths → Stands (round_begun at jobs lengths) s
stands_begun at jobs lengths s some worst = record { point = refl; work = λ p h. work_some jobs lengths p h; lengths = some; worst = worst; pending = λ p z. omega arith }
