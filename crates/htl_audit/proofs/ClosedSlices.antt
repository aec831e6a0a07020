-- The slices of a walk that close at an instant: one at most, and how many ticks those before an instant have.
use Rattle.std.proofs.Common.{◌≡◌, ◌≤◌, ◌<◌, ℕ, zero, suc, ◌+◌, ◌-◌, Bool, true, false, cond, eqb, ltb, List, [], ◌∷◌, length, map, take, slice_get, get_or, Option, Some, None, option_map, refl, sym, ap, ap₂, ◌∙◌, arith}
use Rattle.htl_walk.proofs.PathLists.{walk_take}
use Rattle.htl_audit.proofs.Words.{filter, eqb-true, ltb-true, ltb-false, lt-ltb, le-ltb, all_some, numbered, Job, SInstr, Dispatch, Point, Left, job_at, dispatch_begins, time_after, slice_between, slice_of, slice_onto, position_of, next_point, walk_from, is_position, slices, finish, time_rises, left_falls, shifted, spent, count_left_before, Rises, done_some, walk_rises, not_some, slice_inside, spent_is, done_exactly, Slice, own_slice, same_Some}

-- ---- slices have room

room_after : (now w r until : ℕ) → dispatch_begins now r until < until → dispatch_begins now r until < time_after now (suc w) r until
room_after now w r until h = omega (arith, h)

pub slice_room : (jobs : List Job) (i : SInstr) (x : Point) (u : ℕ × ℕ) → slice_of jobs i x (next_point jobs i x).time ≡ Some u → u.0 < u.1
slice_room jobs (Dispatch p h) x u e = by_work (get_or x.left p 0) e
  where
    by_work : (w : ℕ) → slice_between (dispatch_begins x.time (job_at jobs p).release h) h w (time_after x.time w (job_at jobs p).release h) ≡ Some u → u.0 < u.1
    by_work zero e = not_some u e
    by_work (suc w) e = by_room (ltb (dispatch_begins x.time (job_at jobs p).release h) h) refl e
      where
        by_room : (b : Bool) → ltb (dispatch_begins x.time (job_at jobs p).release h) h ≡ b
            → ◌≡◌ {A = Option (ℕ × ℕ)} (elim b [ true ↦ Some (dispatch_begins x.time (job_at jobs p).release h, time_after x.time (suc w) (job_at jobs p).release h) | false ↦ None ]) (Some u) → u.0 < u.1
        by_room false is e = not_some u e
        by_room true is e =
            let same : ◌≡◌ {A = ℕ × ℕ} (dispatch_begins x.time (job_at jobs p).release h, time_after x.time (suc w) (job_at jobs p).release h) u = same_Some _ _ e in
            omega (arith, room_after x.time w (job_at jobs p).release h (ltb-true (dispatch_begins x.time (job_at jobs p).release h) h is), ap (λ (z : ℕ × ℕ). z.0) same, ap (λ (z : ℕ × ℕ). z.1) same)
slice_room jobs _ x u e = not_some u e

-- and are of a position with work
slice_works : (jobs : List Job) (i : SInstr) (x : Point) (u : ℕ × ℕ) → slice_of jobs i x (next_point jobs i x).time ≡ Some u → (p : ℕ) × (position_of i ≡ Some p) × (0 < get_or x.left p 0)
slice_works jobs (Dispatch p h) x u e = (p, refl, by_work (get_or x.left p 0) refl e)
  where
    by_work : (w : ℕ) → get_or x.left p 0 ≡ w → slice_between (dispatch_begins x.time (job_at jobs p).release h) h w (next_point jobs (Dispatch p h) x).time ≡ Some u → 0 < get_or x.left p 0
    by_work zero is e = not_some u e
    by_work (suc w) is e = omega (arith, is)
slice_works jobs _ x u e = not_some u e

-- a record with a slice: it ends with the record, and is of a position that has work at the start
pub record Runs (P : ℕ → Type 0) (l : Left) (u : ℕ × ℕ) : Type 0 where
  pub position : ℕ
  pub of : l.position ≡ Some position
  pub has : P position
  pub room : u.0 < u.1
  pub ends : u.1 ≡ l.at

pub runs_at : (jobs : List Job) (is : List SInstr) (x : Point) (P : ℕ → Type 0) → ((p : ℕ) → 0 < get_or x.left p 0 → P p)
    → (k : ℕ) (l : Left) (u : ℕ × ℕ) → slice_get (walk_from jobs is x) k ≡ Some l → l.slice ≡ Some u → Runs P l u
runs_at jobs [] x P some k l u at has = not_some l at
runs_at jobs (i ∷ is) x P some (suc k) l u at has =
    runs_at jobs is (next_point jobs i x) P (λ p more. some p (omega (arith, more, left_falls jobs i x p))) k l u at has
runs_at jobs (i ∷ is) x P some zero l u at has =
    let same = same_Some _ _ at in
    let slice : slice_of jobs i x (next_point jobs i x).time ≡ Some u = ap (λ (m : Left). m.slice) same ∙ has in
    let works = slice_works jobs i x u slice in
    record {
      position = works.0;
      of = ap (λ (m : Left). m.position) (sym same) ∙ works.1;
      has = some works.0 works.2;
      room = slice_room jobs i x u slice;
      ends = (slice_inside jobs i x u slice).1 ∙ ap (λ (m : Left). m.at) same;
    }

-- ---- the slices that close at an instant

-- the slice of a record of the round from s, if it has one
abbrev pub mine : List Job → ℕ → Option ℕ → Option (ℕ × ℕ) → Option Slice
mine jobs s o sl =
    elim o [
      | None ↦ None
      | Some p ↦ elim sl [ Some u ↦ Some (record { from = s + u.0; to = s + u.1; inv = (job_at jobs p).inv }) | None ↦ None ]
    ]

abbrev pub onto : Option Slice → List Slice → List Slice
onto o rest = elim o [ Some x ↦ x ∷ rest | None ↦ rest ]

abbrev pub closed : List Job → ℕ → ℕ → List Left → List Slice
closed jobs s now [] = []
closed jobs s now (l ∷ ls) = let rest = closed jobs s now ls in cond (eqb (s + l.at) now) (onto (mine jobs s l.position l.slice) rest) rest

abbrev pub told : ℕ → ℕ → List Left → List (ℕ × Left)
told s k ls = numbered k (map (shifted s) ls)

abbrev pub at_now : ℕ → ℕ × Left → Bool
at_now now l = eqb l.1.at now

own_is : (jobs : List Job) (s k : ℕ) (l : Left) → own_slice jobs (k, shifted s l) ≡ mine jobs s l.position l.slice
own_is jobs s k l = by l.position l.slice
  where
    by : (o : Option ℕ) (sl : Option (ℕ × ℕ))
        → elim o as (λ _. Option Slice) [
          | None ↦ None
          | Some p ↦ elim (option_map {U = ℕ × ℕ} (λ (u : ℕ × ℕ). (s + u.0, s + u.1)) sl) as (λ _. Option Slice) [ Some u ↦ Some (record { from = u.0; to = u.1; inv = (job_at jobs p).inv }) | None ↦ None ]
        ] ≡ mine jobs s o sl
    by None sl = refl
    by (Some p) None = refl
    by (Some p) (Some u) = refl

-- they are those of the records that are left then
pub closed_is : (jobs : List Job) (s now k : ℕ) (ls : List Left) → all_some (own_slice jobs) (filter (at_now now) (told s k ls)) ≡ closed jobs s now ls
closed_is jobs s now k [] = refl
closed_is jobs s now k (l ∷ ls) = by (eqb (s + l.at) now) (own_is jobs s k l) (closed_is jobs s now (suc k) ls)
  where
    by : (b : Bool) → own_slice jobs (k, shifted s l) ≡ mine jobs s l.position l.slice → all_some (own_slice jobs) (filter (at_now now) (told s (suc k) ls)) ≡ closed jobs s now ls
        → all_some (own_slice jobs) (cond b ((k, shifted s l) ∷ filter (at_now now) (told s (suc k) ls)) (filter (at_now now) (told s (suc k) ls)))
        ≡ cond b (onto (mine jobs s l.position l.slice) (closed jobs s now ls)) (closed jobs s now ls)
    by false here next = next
    by true here next = ap₂ (λ (o : Option Slice) (xs : List Slice). onto o xs) here next

-- nothing closes at an instant from a point on that isn't before it
pub none_closed : (jobs : List Job) (s now : ℕ) (is : List SInstr) (x : Point) → now ≤ s + x.time → closed jobs s now (walk_from jobs is x) ≡ []
none_closed jobs s now [] x late = refl
none_closed jobs s now (i ∷ is) x late =
    by (eqb (s + (next_point jobs i x).time) now) refl (position_of i) (slice_of jobs i x (next_point jobs i x).time) refl
    (none_closed jobs s now is (next_point jobs i x) (omega (arith, late, time_rises jobs i x)))
  where
    by : (b : Bool) → eqb (s + (next_point jobs i x).time) now ≡ b → (o : Option ℕ) (sl : Option (ℕ × ℕ)) → slice_of jobs i x (next_point jobs i x).time ≡ sl → closed jobs s now (walk_from jobs is (next_point jobs i x)) ≡ []
        → cond b (onto (mine jobs s o sl) (closed jobs s now (walk_from jobs is (next_point jobs i x)))) (closed jobs s now (walk_from jobs is (next_point jobs i x))) ≡ []
    by false then o sl is next = next
    by true then None sl is next = next
    by true then (Some p) None is next = next
    by true then (Some p) (Some u) is next =
        let inside = slice_inside jobs i x u is in
        absurd (omega (arith, eqb-true (s + (next_point jobs i x).time) now then, late, inside.0, inside.1, slice_room jobs i x u is))

-- so one closes at most
pub one_closed : (jobs : List Job) (s now : ℕ) (is : List SInstr) (x : Point) → length (closed jobs s now (walk_from jobs is x)) ≤ 1
one_closed jobs s now [] x = omega arith
one_closed jobs s now (i ∷ is) x =
    by (eqb (s + (next_point jobs i x).time) now) refl (mine jobs s (position_of i) (slice_of jobs i x (next_point jobs i x).time)) (one_closed jobs s now is (next_point jobs i x))
    (λ e. none_closed jobs s now is (next_point jobs i x) (omega (arith, e)))
  where
    by : (b : Bool) → eqb (s + (next_point jobs i x).time) now ≡ b → (o : Option Slice) → length (closed jobs s now (walk_from jobs is (next_point jobs i x))) ≤ 1
        → (s + (next_point jobs i x).time ≡ now → closed jobs s now (walk_from jobs is (next_point jobs i x)) ≡ [])
        → length (cond b (onto o (closed jobs s now (walk_from jobs is (next_point jobs i x)))) (closed jobs s now (walk_from jobs is (next_point jobs i x)))) ≤ 1
    by false then o next none = next
    by true then None next none = next
    by true then (Some y) next none = let empty = ap (λ (xs : List Slice). length xs) (none (eqb-true (s + (next_point jobs i x).time) now then)) in omega (arith, empty)

-- where a slice that closes then comes from
pub record IsClosed (jobs : List Job) (s now : ℕ) (ls : List Left) (x : Slice) : Type 0 where
  pub number : ℕ
  pub left : Left
  pub position : ℕ
  pub slice : ℕ × ℕ
  pub at : slice_get ls number ≡ Some left
  pub then : s + left.at ≡ now
  pub of : left.position ≡ Some position
  pub runs : left.slice ≡ Some slice
  pub is : record { from = s + slice.0; to = s + slice.1; inv = (job_at jobs position).inv } ≡ x

pub closed_from : (jobs : List Job) (s now : ℕ) (ls : List Left) (i : ℕ) (x : Slice) → slice_get (closed jobs s now ls) i ≡ Some x → IsClosed jobs s now ls x
closed_from jobs s now [] i x at = not_some x at
closed_from jobs s now (l ∷ ls) i x at = by (eqb (s + l.at) now) refl l.position l.slice refl refl i at (λ j e. later (closed_from jobs s now ls j x e))
  where
    later : IsClosed jobs s now ls x → IsClosed jobs s now (l ∷ ls) x
    later c = record { number = suc c.number; left = c.left; position = c.position; slice = c.slice; at = c.at; then = c.then; of = c.of; runs = c.runs; is = c.is }

    by : (b : Bool) → eqb (s + l.at) now ≡ b → (o : Option ℕ) (sl : Option (ℕ × ℕ)) → l.position ≡ o → l.slice ≡ sl → (i : ℕ)
        → slice_get (cond b (onto (mine jobs s o sl) (closed jobs s now ls)) (closed jobs s now ls)) i ≡ Some x → ((j : ℕ) → slice_get (closed jobs s now ls) j ≡ Some x → IsClosed jobs s now (l ∷ ls) x) → IsClosed jobs s now (l ∷ ls) x
    by false then o sl of runs i at next = next i at
    by true then None sl of runs i at next = next i at
    by true then (Some p) None of runs i at next = next i at
    by true then (Some p) (Some u) of runs zero at next =
        record { number = 0; left = l; position = p; slice = u; at = refl; then = eqb-true (s + l.at) now then; of = of; runs = runs; is = same_Some _ _ at }
    by true then (Some p) (Some u) of runs (suc i) at next = next i at

-- ---- the ticks of a position

-- the ticks that a record gives it
abbrev pub gives : ℕ → Left → ℕ
gives p l = cond (is_position l.position p) (elim l.slice [ Some u ↦ u.1 - u.0 | None ↦ 0 ]) 0

-- those of the records that are left before an instant
abbrev pub given : ℕ → ℕ → ℕ → List Left → ℕ
given p s now [] = 0
given p s now (l ∷ ls) = cond (ltb (s + l.at) now) (gives p l) 0 + given p s now ls

spent_more : (p : ℕ) (l : Left) (ls : List Left) → spent (slices (l ∷ ls) p) ≡ gives p l + spent (slices ls p)
spent_more p l ls = by (is_position l.position p) l.slice
  where
    by : (b : Bool) (sl : Option (ℕ × ℕ)) → spent (cond b (slice_onto sl (slices ls p)) (slices ls p)) ≡ cond b (elim sl as (λ _. ℕ) [ Some u ↦ u.1 - u.0 | None ↦ 0 ]) 0 + spent (slices ls p)
    by true (Some u) = refl
    by true None = omega arith
    by false sl = omega arith

pub given_first : (p s : ℕ) (ls : List Left) → given p s 0 ls ≡ 0
given_first p s [] = refl
given_first p s (l ∷ ls) = omega (arith, ap (λ (b : Bool). cond b (gives p l) 0) (le-ltb (s + l.at) 0 (omega arith)), given_first p s ls)

pub given_less : (p s now : ℕ) (ls : List Left) → given p s now ls ≤ spent (slices ls p)
given_less p s now [] = omega arith
given_less p s now (l ∷ ls) = by (ltb (s + l.at) now) (spent_more p l ls) (given_less p s now ls)
  where
    by : (b : Bool) → spent (slices (l ∷ ls) p) ≡ gives p l + spent (slices ls p) → given p s now ls ≤ spent (slices ls p) → cond b (gives p l) 0 + given p s now ls ≤ spent (slices (l ∷ ls) p)
    by true more next = omega (arith, more, next)
    by false more next = omega (arith, more, next)

none_given : (p s now a : ℕ) (ls : List Left) → Rises a ls → now ≤ s + a → given p s now ls ≡ 0
none_given p s now a [] r late = refl
none_given p s now a (l ∷ ls) r late = omega (arith, ap (λ (b : Bool). cond b (gives p l) 0) (le-ltb (s + l.at) now (omega (arith, late, r.0))), none_given p s now l.at ls r.1 (omega (arith, late, r.0)))

given_front : (p s d a : ℕ) (ls : List Left) → Rises a ls → given p s (s + d) ls ≡ spent (slices (take (count_left_before d ls) ls) p)
given_front p s d a [] r = refl
given_front p s d a (l ∷ ls) r = by (ltb l.at d) refl (given_front p s d l.at ls r.1)
  where
    by : (b : Bool) → ltb l.at d ≡ b → given p s (s + d) ls ≡ spent (slices (take (count_left_before d ls) ls) p)
        → cond (ltb (s + l.at) (s + d)) (gives p l) 0 + given p s (s + d) ls ≡ spent (slices (take (cond b (suc (count_left_before d ls)) 0) (l ∷ ls)) p)
    by true is next =
        omega (arith, ap (λ (b : Bool). cond b (gives p l) 0) (lt-ltb (s + l.at) (s + d) (omega (arith, ltb-true l.at d is))), next, spent_more p l (take (count_left_before d ls) ls))
    by false is next =
        omega (arith, ap (λ (b : Bool). cond b (gives p l) 0) (le-ltb (s + l.at) (s + d) (omega (arith, ltb-false l.at d is))), none_given p s (s + d) l.at ls r.1 (omega (arith, ltb-false l.at d is)))

-- who finished before has all its ticks
pub given_all : (jobs : List Job) (is : List SInstr) (x : Point) (p s f now : ℕ) → finish (walk_from jobs is x) p ≡ Some f → s + f < now → given p s now (walk_from jobs is x) ≡ get_or x.left p 0
given_all jobs is x p s f now done before =
    let ls = walk_from jobs is x in
    let d = now - s in
    let from : s + (now - s) ≡ now = omega (arith, before) in
    let rises = walk_rises jobs is x in
    let c = count_left_before (now - s) (walk_from jobs is x) in
    let by = done_some ls c p (done_exactly d x.time ls p f rises done (omega (arith, before))) in
    ap (λ (n : ℕ). given p s n ls) (sym from) ∙ given_front p s d x.time ls rises ∙ ap (λ (xs : List Left). spent (slices xs p)) (walk_take jobs is x c)
    ∙ spent_is jobs (take c is) x p by.0 (ap (λ (xs : List Left). finish xs p) (sym (walk_take jobs is x c)) ∙ by.1)
