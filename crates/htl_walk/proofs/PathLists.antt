-- The lists of a path one by one: their forms, their records, and the points at which they begin.
use Rattle.std.proofs.Common.{◌≡◌, ℕ, zero, suc, ◌<◌, List, [], ◌∷◌, length, take, get_or, slice_get, Some, refl, ap, arith}
use Rattle.htl_walk.proofs.Words.{Job, SInstr, Leg, no_leg, list_point, walks_from, AreInForm, path_point, Point, Left, job_at, left_by, next_point, walk_from, last_point, InForm}

-- the records of the first instructions
pub walk_take : (jobs : List Job) (is : List SInstr) (x : Point) (k : ℕ) → take k (walk_from jobs is x) ≡ walk_from jobs (take k is) x
walk_take jobs is x zero = refl
walk_take jobs [] x (suc k) = refl
walk_take jobs (i ∷ is) x (suc k) = ap (λ (ls : List Left). left_by jobs i x (next_point jobs i x) ∷ ls) (walk_take jobs is (next_point jobs i x) k)

-- the job at one of the first positions
pub job_front : (n : ℕ) (js : List Job) (p : ℕ) → p < n → job_at (take n js) p ≡ job_at js p
job_front zero js p h = absurd (omega arith)
job_front (suc n) (j ∷ js) (suc p) h = job_front n js p (omega arith)
job_front (suc n) _ _ h = refl

pub form_at : (ss : List (List SInstr)) (gs : List Leg) (j : ℕ) → AreInForm ss gs → j < length gs → InForm (get_or gs j no_leg).known (get_or gs j no_leg).to (get_or ss j [])
form_at [] [] j f h = absurd (omega arith)
form_at (s ∷ ss) (g ∷ gs) zero f h = f.0
form_at (s ∷ ss) (g ∷ gs) (suc j) f h = form_at ss gs j f.1 (omega arith)
form_at _ _ j f h = absurd f

pub walk_at : (jobs : List Job) (ss : List (List SInstr)) (gs : List Leg) (j : ℕ) (x : Point) → AreInForm ss gs → j < length gs
    → slice_get (walks_from jobs ss gs x) j ≡ Some (walk_from jobs (get_or ss j []) (path_point jobs ss gs j 0 x))
walk_at jobs [] [] j x f h = absurd (omega arith)
walk_at jobs (s ∷ ss) (g ∷ gs) zero x f h = refl
walk_at jobs (s ∷ ss) (g ∷ gs) (suc j) x f h = walk_at jobs ss gs j (last_point jobs s (list_point g.from x)) f.1 (omega arith)
walk_at jobs _ _ j x f h = absurd f

pub point_first : (jobs : List Job) (ss : List (List SInstr)) (gs : List Leg) (x : Point) → AreInForm ss gs → 0 < length gs → path_point jobs ss gs 0 0 x ≡ list_point (get_or gs 0 no_leg).from x
point_first jobs [] [] x f h = absurd (omega arith)
point_first jobs (s ∷ ss) (g ∷ gs) x f h = refl
point_first jobs _ _ x f h = absurd f

-- a list begins with the work that the one before it left
pub point_next : (jobs : List Job) (ss : List (List SInstr)) (gs : List Leg) (j : ℕ) (x : Point) → AreInForm ss gs → suc j < length gs
    → path_point jobs ss gs (suc j) 0 x ≡ list_point (get_or gs (suc j) no_leg).from (last_point jobs (get_or ss j []) (path_point jobs ss gs j 0 x))
point_next jobs [] [] j x f h = absurd (omega arith)
point_next jobs (s ∷ ss) (g ∷ gs) zero x f h = point_first jobs ss gs (last_point jobs s (list_point g.from x)) f.1 (omega arith)
point_next jobs (s ∷ ss) (g ∷ gs) (suc j) x f h = point_next jobs ss gs j (last_point jobs s (list_point g.from x)) f.1 (omega arith)
point_next jobs _ _ j x f h = absurd f
