-- The last position of an invocation, job by job from the back.
use Rattle.std.proofs.Common.{◌≡◌, ℕ, suc, ◌+◌, ◌-◌, ◌<◌, ◌≤◌, Bool, true, false, cond, ◌&&◌, eqb, List, [], ◌∷◌, ◌++◌, length, take, get_or, Option, Some, None, refl, sym, ap, ◌∙◌, arith}
use Rattle.htl_runs.proofs.Words.{take_more, length-take-le, Job, later_or, position_from}

last_one : (q : ℕ) (xs : List Job) (x : Job) (i : ℕ) → position_from q (xs ++ x ∷ []) i ≡ cond (x.present && eqb x.inv i) (Some (q + length xs)) (position_from q xs i)
last_one q [] x i = ap (λ n. cond (x.present && eqb x.inv i) (Some n) None) (let e : q ≡ q + 0 = omega arith in e)
last_one q (y ∷ ys) x i = grind (arith, last_one (suc q) ys x i)

-- the job before a place is of the invocation, or the position stands before it
one_less : (jobs : List Job) (p i : ℕ) (d : Job) → p < length jobs
    → position_from 0 (take (p + 1) jobs) i ≡ cond ((get_or jobs p d).present && eqb (get_or jobs p d).inv i) (Some p) (position_from 0 (take p jobs) i)
one_less jobs p i d below =
    let x = get_or jobs p d in
    ap (λ xs. position_from 0 xs i) (take_more jobs p d below)
    ∙ last_one 0 (take p jobs) x i
    ∙ ap (λ n. cond (x.present && eqb x.inv i) (Some n) (position_from 0 (take p jobs) i)) (let e : 0 + length (take p jobs) ≡ p = omega (arith, length-take-le p jobs (omega (arith, below))) in e)

-- one step of the search
pub one_step : (jobs : List Job) (p i : ℕ) (d : Job) (b : Bool) → position_from 0 jobs i ≡ position_from 0 (take p jobs) i → 0 < p → p ≤ length jobs
    → b ≡ ((get_or jobs (p - 1) d).present && eqb (get_or jobs (p - 1) d).inv i) → position_from 0 jobs i ≡ cond b (Some (p - 1)) (position_from 0 (take (p - 1) jobs) i)
one_step jobs p i d b so_far some within test = grind (arith, one_less)
