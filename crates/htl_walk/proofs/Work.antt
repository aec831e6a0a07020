-- The job and the work at a position.
use Rattle.htl_walk.proofs.Words.{same_Some, has_no_bit, absent_job, precedes, Job, job_at, worst_cases, work, cases_lt}
use Rattle.std.proofs.Common.{◌≡◌, ℕ, zero, suc, ◌<◌, Bool, true, false, cond, List, [], ◌∷◌, get_or, slice_get, Some, refl, ap, ◌∙◌, arith, ◌⊎◌, inl, inr}

pub job_there : (ks : List Job) (p : ℕ) → (job_at ks p).present ≡ true → slice_get ks p ≡ Some (job_at ks p)
job_there [] p e = cc
job_there (k ∷ ks) zero e = refl
job_there (k ∷ ks) (suc p) e = job_there ks p e

pub job_is : (js : List Job) (p : ℕ) (j : Job) → slice_get js p ≡ Some j → job_at js p ≡ j
job_is [] p j e = cc
job_is (k ∷ ks) zero j e = same_Some _ _ e
job_is (k ∷ ks) (suc p) j e = job_is ks p j e

-- a job stands at the position, or none does
pub job_cases : (ks : List Job) (p : ℕ) → (slice_get ks p ≡ Some (job_at ks p)) ⊎ (job_at ks p ≡ absent_job)
job_cases [] p = inr refl
job_cases (k ∷ ks) zero = inl refl
job_cases (k ∷ ks) (suc p) = job_cases ks p

pub absent_precedes : (q : ℕ) → precedes q absent_job ≡ false
absent_precedes q = has_no_bit q

-- the work of a present job is its length
pub work_present : (js : List Job) (ns : List ℕ) (p : ℕ) (j : Job) → slice_get js p ≡ Some j → j.present ≡ true → get_or (work js ns) p 0 ≡ get_or ns p 0
work_present [] ns p j e f = cc
work_present (k ∷ js) [] zero j e f = refl
work_present (k ∷ js) [] (suc p) j e f = work_present js [] p j e f
work_present (k ∷ js) (n ∷ ns) zero j e f = ap (λ b. cond b n 0) (ap (λ x. x.present) (same_Some _ _ e) ∙ f)
work_present (k ∷ js) (n ∷ ns) (suc p) j e f = work_present js ns p j e f

-- who has work is present
pub work_some : (js : List Job) (ns : List ℕ) (p : ℕ) → 0 < get_or (work js ns) p 0 → (job_at js p).present ≡ true
work_some (k ∷ js) [] (suc p) h = work_some js [] p h
work_some (k ∷ js) (n ∷ ns) zero h = grind arith
work_some (k ∷ js) (n ∷ ns) (suc p) h = work_some js ns p h
work_some _ _ _ h = absurd (omega arith)

pub present_or_idle : (js : List Job) (ns : List ℕ) (p : ℕ) → ((job_at js p).present ≡ true) ⊎ (get_or (work js ns) p 0 ≡ 0)
present_or_idle js ns p = grind (arith, cases_lt, work_some)

pub worst_at : (ks : List Job) (p : ℕ) (k : Job) → slice_get ks p ≡ Some k → get_or (worst_cases ks) p 0 ≡ k.worst
worst_at [] p k e = cc
worst_at (j ∷ ks) zero k e = ap (λ x. x.worst) (same_Some _ _ e)
worst_at (j ∷ ks) (suc p) k e = worst_at ks p k e
