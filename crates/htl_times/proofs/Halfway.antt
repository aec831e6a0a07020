-- Finishes that are noted on the way through a list.
use Rattle.std.proofs.Common.{◌≡◌, ℕ, zero, suc, ◌≤◌, Bool, true, false, cond, ◌&&◌, List, [], ◌∷◌, length, drop, set, get_or, slice_get, Option, Some, None, refl, sym, ap, ◌∙◌, subst, arith}
use Rattle.std.proofs.{Math.ListN.drop_of_length-le, lemmas.List.get_or_past, lemmas.List.set_past}
use Rattle.htl_times.proofs.Words.{or_else, Point, Left, is_position, job_at, time_after, work_after, next_point, walk_from, last_point, finish, left_by, Job, SInstr, Dispatch, not_some, same_Some}
use Rattle.htl_times.specs.Noting.{told, AreNoted, IsHalfway, AreFinishes}

-- ---- the first of some

pub first_none : {A : Type 0} (o : Option A) → or_else o None ≡ o
first_none None = refl
first_none (Some x) = refl

pub first_first : {A : Type 0} (a b c : Option A) → or_else (or_else a b) c ≡ or_else a (or_else b c)
first_first None b c = refl
first_first (Some x) b c = refl

pub finish_told : (l : Left) (ls : List Left) (p : ℕ) → finish (l ∷ ls) p ≡ or_else (told l p) (finish ls p)
finish_told l ls p = by (is_position l.position p && l.finished)
  where
    by : (b : Bool) → cond b (Some l.at) (finish ls p) ≡ or_else (cond b (Some l.at) None) (finish ls p)
    by true = refl
    by false = refl

-- ---- lists by place

pub drop_here : {A : Type 0} (xs : List A) (k : ℕ) (x : A) → slice_get xs k ≡ Some x → drop k xs ≡ x ∷ drop (suc k) xs
drop_here [] k x e = not_some x e
drop_here (y ∷ xs) zero x e = ap (λ z. z ∷ xs) (same_Some y x e)
drop_here (y ∷ xs) (suc k) x e = drop_here xs k x e

-- ---- on the way

module _ (jobs : List Job) (is : List SInstr) (x : Point) (old : List (Option ℕ)) where
  pub halfway_first : IsHalfway jobs is 0 x x old old
  halfway_first = record { same = refl; point = refl; noted = λ p l. refl }

  pub halfway_more : (k : ℕ) (i : SInstr) (y z : Point) (new more : List (Option ℕ)) → slice_get is k ≡ Some i → IsHalfway jobs is k x y old new → z ≡ next_point jobs i y → AreNoted jobs i y z new more → length more ≡ length new
      → IsHalfway jobs is (suc k) x z old more
  halfway_more k i y z new more at h next noted same =
      let e = drop_here is k i at in
      record {
        same = same ∙ h.same;
        point = ap (last_point jobs (drop (suc k) is)) next ∙ sym (ap (λ ks. last_point jobs ks y) e) ∙ h.point;
        noted = λ p l.
            let y' = next_point jobs i y in
            let n : get_or more p None ≡ or_else (get_or new p None) (told (left_by jobs i y y') p) = subst (λ w. get_or more p None ≡ or_else (get_or new p None) (told (left_by jobs i y w) p)) next (noted p (omega (arith, l, h.same))) in
            let rest = finish (walk_from jobs (drop (suc k) is) y') p in
            ap (λ w. or_else (get_or more p None) (finish (walk_from jobs (drop (suc k) is) w) p)) next
            ∙ ap (λ o. or_else o rest) n
            ∙ first_first (get_or new p None) (told (left_by jobs i y y') p) rest
            ∙ ap (or_else (get_or new p None)) (sym (finish_told (left_by jobs i y y') (walk_from jobs (drop (suc k) is) y') p))
            ∙ sym (ap (λ ks. or_else (get_or new p None) (finish (walk_from jobs ks y) p)) e)
            ∙ h.noted p l;
      }

  pub halfway_last : (k : ℕ) (y : Point) (new : List (Option ℕ)) → length is ≤ k → IsHalfway jobs is k x y old new → (y ≡ last_point jobs is x) × AreFinishes jobs is x old new
  halfway_last k y new past h =
      let e = drop_of_length-le is past in (
        sym (ap (λ ks. last_point jobs ks y) e) ∙ h.point,
        λ p l. sym (first_none (get_or new p None)) ∙ sym (ap (λ ks. or_else (get_or new p None) (finish (walk_from jobs ks y) p)) e) ∙ h.noted p l,
      )

-- ---- a dispatch

-- past the positions it does nothing
pub dispatch_past : (jobs : List Job) (p until time : ℕ) (left : List ℕ) → length left ≤ p → next_point jobs (Dispatch p until) (record { time = time; left = left }) ≡ record { time = time; left = left }
dispatch_past jobs p until time left past =
    by (get_or left p 0) (get_or_past left p 0 past)
  where
    point : ℕ → List ℕ → Point
    point a l = record { time = a; left = l }

    by : (w : ℕ) → w ≡ 0 → point (time_after time w (job_at jobs p).release until) (set left p (work_after time w (job_at jobs p).release until)) ≡ point time left
    by zero e = ap (point time) (set_past left p _ past)
    by (suc w) e = absurd (omega arith)
