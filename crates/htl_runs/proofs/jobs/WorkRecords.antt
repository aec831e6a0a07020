-- A record that has a slice, or finishes a job, is of a position with work, and is left behind that position's release.
use Rattle.std.proofs.Common.{◌≡◌, ◌<◌, ◌≤◌, ◌⊎◌, inl, inr, ℕ, zero, suc, ◌+◌, ◌-◌, Bool, true, false, ltb, List, [], ◌∷◌, ◌++◌, length, slice_get, get_or, Option, Some, None, refl, sym, ap, ◌∙◌, subst, arith}
use Rattle.htl_runs.proofs.Words.{cases_lt, ltb-true, Job, SInstr, Dispatch, Leg, list_point, walks_from, end_to_end, Point, Left, job_at, dispatch_begins, time_after, work_after, slice_between, finishes_by, next_point, left_by, walk_from, last_point, left_falls_to, left_falls, left_same, not_some, slice_inside, get_back, within_front, same_Some}

-- the record has a slice, or finishes a job
abbrev pub DoesWork : Left → Type 0
DoesWork l = ((u : ℕ × ℕ) × (l.slice ≡ Some u)) ⊎ (l.finished ≡ true)

-- then it is of a position that has work where the walk begins, and its slice ends with it
pub record Works (jobs : List Job) (x : Point) (l : Left) : Type 0 where
  pub position : ℕ
  pub of : l.position ≡ Some position
  pub some : 0 < get_or x.left position 0
  pub released : (job_at jobs position).release < l.at
  pub ends : (u : ℕ × ℕ) → l.slice ≡ Some u → u.1 ≡ l.at

-- ---- one dispatch

late : (now w r until : ℕ) → dispatch_begins now r until < until → r < time_after now (suc w) r until
late now w r until h = omega (arith, h)

all_done : (now w r until : ℕ) → work_after now (suc w) r until ≡ 0 → dispatch_begins now r until < until
all_done now w r until e = omega (arith, e)

finish_is : (w n : ℕ) → finishes_by (suc w) n ≡ true → n ≡ 0
finish_is w zero e = refl
finish_is w (suc n) e = absurd (let z : ⊥ = cc in z)

module _ (jobs : List Job) (q until : ℕ) (x : Point) where
  abbrev after : Point
  after = next_point jobs (Dispatch q until) x

  abbrev record_of : Left
  record_of = left_by jobs (Dispatch q until) x after

  at_once : (w : ℕ) → get_or x.left q 0 ≡ w → DoesWork record_of → (0 < get_or x.left q 0) × ((job_at jobs q).release < after.time)
  at_once zero none (inl u) = not_some u.0 (ap (λ w. slice_between (dispatch_begins x.time (job_at jobs q).release until) until w after.time) (sym none) ∙ u.1)
  at_once zero none (inr done) = absurd (let z : false ≡ true = ap (λ w. finishes_by w (get_or after.left q 0)) (sym none) ∙ done in let y : ⊥ = cc in y)
  at_once (suc w) some (inl u) = grind (arith, not_some, ltb-true, late)
  at_once (suc w) some (inr done) = grind (arith, finish_is, left_same, late, all_done)

  dispatched : DoesWork record_of → Works jobs x record_of
  dispatched does =
      let r = at_once (get_or x.left q 0) refl does in
      record { position = q; of = refl; some = r.0; released = r.1; ends = λ u has. (slice_inside jobs (Dispatch q until) x u has).1 }

-- ---- a walk

idle : {P : Type 0} (l : Left) → None ≡ l.slice → false ≡ l.finished → DoesWork l → P
idle l e f (inl u) = not_some u.0 (e ∙ u.1)
idle l e f (inr done) = absurd (let z : false ≡ true = f ∙ done in let y : ⊥ = cc in y)

works_at : (jobs : List Job) (is : List SInstr) (x : Point) (k : ℕ) (l : Left) → slice_get (walk_from jobs is x) k ≡ Some l → DoesWork l → Works jobs x l
works_at jobs [] x k l at does = not_some l at
works_at jobs (i ∷ is) x (suc k) l at does =
    let w = works_at jobs is (next_point jobs i x) k l at does in
    record { position = w.position; of = w.of; some = omega (arith, w.some, left_falls jobs i x w.position); released = w.released; ends = w.ends }
works_at jobs (Dispatch q until ∷ is) x zero l at does = grind (arith, same_Some, dispatched)
works_at jobs _ x zero l at does = let same = same_Some _ _ at in idle l (ap (λ (m : Left). m.slice) same) (ap (λ (m : Left). m.finished) same) does

-- in the walks of a frame's lists
pub works_in : (jobs : List Job) (ss : List (List SInstr)) (gs : List Leg) (x : Point) (k : ℕ) (l : Left) → slice_get (end_to_end (walks_from jobs ss gs x)) k ≡ Some l → DoesWork l → Works jobs x l
works_in jobs [] gs x k l at does = not_some l at
works_in jobs (s ∷ ss) [] x k l at does = not_some l at
works_in jobs (s ∷ ss) (g ∷ gs) x k l at does = elim (cases_lt k (length (walk_from jobs s (list_point g.from x)))) [
  | inl h ↦ here h
  | inr h ↦ there h (λ d e. works_in jobs ss gs (last_point jobs s (list_point g.from x)) d l e does)
]
  where
    here : k < length (walk_from jobs s (list_point g.from x)) → Works jobs x l
    here h =
        let y = list_point g.from x in
        let w = works_at jobs s y k l (sym (within_front (walk_from jobs s y) (end_to_end (walks_from jobs ss gs (last_point jobs s y))) k h) ∙ at) does in
        record { position = w.position; of = w.of; some = w.some; released = w.released; ends = w.ends }

    there : length (walk_from jobs s (list_point g.from x)) ≤ k
        → ((d : ℕ) → slice_get (end_to_end (walks_from jobs ss gs (last_point jobs s (list_point g.from x)))) d ≡ Some l → Works jobs (last_point jobs s (list_point g.from x)) l) → Works jobs x l
    there h ih =
        let y = list_point g.from x in
        let ls = walk_from jobs s y in
        let ms = end_to_end (walks_from jobs ss gs (last_point jobs s y)) in
        let d = k - length ls in
        let w = ih d (sym (get_back ls ms d) ∙ ap (slice_get (ls ++ ms)) (omega (arith, h)) ∙ at) in
        record { position = w.position; of = w.of; some = omega (arith, w.some, left_falls_to jobs s y w.position); released = w.released; ends = w.ends }
