-- What is told of a list by the positions so far is what the walk of the frame tells.
use Rattle.std.proofs.Common.{◌≡◌, ℕ, zero, suc, ◌<◌, List, [], ◌∷◌, length, take, get_or, slice_get, Some, refl, sym, ap, ◌∙◌, arith}
use Rattle.htl_refine.proofs.Words.{Job, SInstr, Leg, list_point, walks_from, AreInForm, path_point, AgreeOn, AgreeAt, Point, walk_from, last_point, first_point, InForm, walk_alike, Frame, walks_of, ListWalks, leg_at, front_of, list_start, list_plan, list_walk, get_taken, same_Some, form_at, walk_at, job_front}

pub front_agrees : (n : ℕ) (js : List Job) → AgreeOn n (take n js) js
front_agrees n js = λ p h. job_front n js p h

pub point_agrees : (n : ℕ) (x : Point) → AgreeAt n (front_of n x) x
point_agrees n x = record { time = refl; left = λ p h. get_taken n x.left p h }

-- ---- list j of the walk of a path

pub list_walks : ListWalks
list_walks f j form h =
    let g = leg_at f j in
    let x = list_start f j in
    walk_at f.jobs f.lists f.legs j (first_point f.jobs f.lengths) form h
    ∙ ap (λ ls. Some ls) (sym (walk_alike g.known (take g.known f.jobs) f.jobs g.known g.to (get_or f.lists j []) (front_of g.known x) x (front_agrees g.known f.jobs) (point_agrees g.known x) (form_at f.lists f.legs j form h) (omega arith)).0)

pub walk_is : (f : Frame) (j : ℕ) → AreInForm f.lists f.legs → j < length f.legs → get_or (walks_of f) j [] ≡ list_walk (list_plan f j)
walk_is f j forms l = get_of (walks_of f) j (list_walk (list_plan f j)) (list_walks f j forms l)
  where
    get_of : {A : Type 0} (xs : List (List A)) (k : ℕ) (y : List A) → slice_get xs k ≡ Some y → get_or xs k [] ≡ y
    get_of [] k y e = absurd (let z : ⊥ = cc in z)
    get_of (x ∷ xs) zero y e = same_Some x y e
    get_of (x ∷ xs) (suc k) y e = get_of xs k y e

-- so it is the walk of the frame from the point at which the list begins
pub list_is : (f : Frame) (j : ℕ) → AreInForm f.lists f.legs → j < length f.legs → list_walk (list_plan f j) ≡ walk_from f.jobs (get_or f.lists j []) (list_start f j)
list_is f j forms l = same_Some _ _ (sym (list_walks f j forms l) ∙ walk_at f.jobs f.lists f.legs j (first_point f.jobs f.lengths) forms l)
