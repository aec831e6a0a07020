-- Tests over the jobs of rounds.
use Rattle.std.proofs.Common.{◌≡◌, ℕ, zero, suc, ◌+◌, Bool, true, false, ◌||◌, List, [], ◌∷◌, Some, refl, sym, ◌∙◌, ap, subst, arith, ◌<◌, ◌&&◌, cond, ltb, eqb, inl, inr}
use Rattle.htl_audit.proofs.Words.{slice_get, list_all, list_any, numbered, Job, BeginningJobs, any_job, and_from, and_parts, or_left, or_right, none-some, false_from_ne_true, lt-ltb, le-ltb, ltb-true, ne_eqb, eq-eqb, cases_less_more}

-- an item of a list that passes
pub item_found : {A : Type 0} (test : ℕ × A → Bool) (q : ℕ) (js : List A) → list_any test (numbered q js) ≡ true → (d : ℕ) × (j : A) × (slice_get js d ≡ Some j) × (test (q + d, j) ≡ true)
item_found test q [] e = absurd (let z : ⊥ = cc in z)
item_found {A} test q (j ∷ js) e = by (test (q, j)) refl e (λ g. item_found test (suc q) js g)
  where
    by : (b : Bool) → test (q, j) ≡ b → (b || list_any test (numbered (suc q) js)) ≡ true
        → (list_any test (numbered (suc q) js) ≡ true → (d : ℕ) × (h : A) × (slice_get js d ≡ Some h) × (test (suc q + d, h) ≡ true))
        → (d : ℕ) × (h : A) × (slice_get (j ∷ js) d ≡ Some h) × (test (q + d, h) ≡ true)
    by true is f later = (0, j, refl, subst (λ z. test (z, j) ≡ true) (let z : q ≡ q + 0 = omega arith in z) is)
    by false is f later = let r = later f in (suc r.0, r.1, r.2, subst (λ z. test (z, r.1) ≡ true) (let z : suc q + r.0 ≡ q + suc r.0 = omega arith in z) r.3)

pub item_there : {A : Type 0} (test : ℕ × A → Bool) (q : ℕ) (js : List A) (d : ℕ) (j : A) → slice_get js d ≡ Some j → test (q + d, j) ≡ true → list_any test (numbered q js) ≡ true
item_there test q [] d j at e = absurd (none-some j at)
item_there test q (h ∷ js) zero j at e =
    let one : h ≡ j = cc in
    or_left (test (q, h)) (list_any test (numbered (suc q) js)) (ap (λ z. test (q, z)) one ∙ subst (λ z. test (z, j) ≡ true) (let z : q + 0 ≡ q = omega arith in z) e)
item_there test q (h ∷ js) (suc d) j at e =
    or_right (test (q, h)) (list_any test (numbered (suc q) js)) (item_there test (suc q) js d j at (subst (λ z. test (z, j) ≡ true) (let z : q + suc d ≡ suc q + d = omega arith in z) e))

-- all items pass
pub all_at : {A : Type 0} (test : ℕ × A → Bool) (q : ℕ) (js : List A) → list_all test (numbered q js) ≡ true → (d : ℕ) (j : A) → slice_get js d ≡ Some j → test (q + d, j) ≡ true
all_at test q [] e d j at = absurd (none-some j at)
all_at test q (h ∷ js) e zero j at =
    let one : h ≡ j = cc in
    subst (λ z. test (z, j) ≡ true) (let z : q ≡ q + 0 = omega arith in z) (ap (λ z. test (q, z)) (sym one) ∙ (and_parts (test (q, h)) (list_all test (numbered (suc q) js)) e).0)
all_at test q (h ∷ js) e (suc d) j at =
    subst (λ z. test (z, j) ≡ true) (let z : suc q + d ≡ q + suc d = omega arith in z) (all_at test (suc q) js (and_parts (test (q, h)) (list_all test (numbered (suc q) js)) e).1 d j at)

pub all_pass : {A : Type 0} (test : ℕ × A → Bool) (q : ℕ) (js : List A) → ((d : ℕ) (j : A) → slice_get js d ≡ Some j → test (q + d, j) ≡ true) → list_all test (numbered q js) ≡ true
all_pass test q [] f = refl
all_pass test q (h ∷ js) f =
    and_from (test (q, h)) (list_all test (numbered (suc q) js)) (subst (λ z. test (z, h) ≡ true) (let z : q + 0 ≡ q = omega arith in z) (f 0 h refl))
    (all_pass test (suc q) js (λ d j at. subst (λ z. test (z, j) ≡ true) (let z : q + suc d ≡ suc q + d = omega arith in z) (f (suc d) j at)))

-- counted from 0
pub all_at_0 : {A : Type 0} (test : ℕ × A → Bool) (js : List A) → list_all test (numbered 0 js) ≡ true → (d : ℕ) (j : A) → slice_get js d ≡ Some j → test (d, j) ≡ true
all_at_0 test js e d j at = subst (λ z. test (z, j) ≡ true) (let z : 0 + d ≡ d = omega arith in z) (all_at test 0 js e d j at)

pub all_pass_0 : {A : Type 0} (test : ℕ × A → Bool) (js : List A) → ((d : ℕ) (j : A) → slice_get js d ≡ Some j → test (d, j) ≡ true) → list_all test (numbered 0 js) ≡ true
all_pass_0 test js f = all_pass test 0 js (λ d j at. subst (λ z. test (z, j) ≡ true) (let z : d ≡ 0 + d = omega arith in z) (f d j at))

-- ---- the jobs of rounds

-- the job at position p of the round r, which is one of these
pub record IsJobOf (rounds : List BeginningJobs) (r : BeginningJobs) (p : ℕ) (j : Job) : Type 0 where
  pub number : ℕ
  pub at : slice_get rounds number ≡ Some r
  pub job : slice_get r.jobs p ≡ Some j

pub record IsFound (test : BeginningJobs → ℕ × Job → Bool) (rounds : List BeginningJobs) : Type 0 where
  pub round : BeginningJobs
  pub position : ℕ
  pub job : Job
  pub is : IsJobOf rounds round position job
  pub passes : test round (position, job) ≡ true

pub job_found : (test : BeginningJobs → ℕ × Job → Bool) (rounds : List BeginningJobs) → any_job test rounds ≡ true → IsFound test rounds
job_found test [] e = absurd (let z : ⊥ = cc in z)
job_found test (r ∷ rs) e = by (list_any (test r) (numbered 0 r.jobs)) refl e (λ g. job_found test rs g)
  where
    by : (b : Bool) → list_any (test r) (numbered 0 r.jobs) ≡ b → (b || any_job test rs) ≡ true → (any_job test rs ≡ true → IsFound test rs) → IsFound test (r ∷ rs)
    by true is f later =
        let x = item_found (test r) 0 r.jobs is in
        record { round = r; position = x.0; job = x.1; is = record { number = 0; at = refl; job = x.2 }; passes = subst (λ z. test r (z, x.1) ≡ true) (let z : 0 + x.0 ≡ x.0 = omega arith in z) x.3 }
    by false is f later =
        let x = later f in
        record { round = x.round; position = x.position; job = x.job; is = record { number = suc x.is.number; at = x.is.at; job = x.is.job }; passes = x.passes }

pub job_there : (test : BeginningJobs → ℕ × Job → Bool) (rounds : List BeginningJobs) (r : BeginningJobs) (p : ℕ) (j : Job) → IsJobOf rounds r p j → test r (p, j) ≡ true → any_job test rounds ≡ true
job_there test rounds r p j is e = by rounds is.number is.at
  where
    by : (rs : List BeginningJobs) (n : ℕ) → slice_get rs n ≡ Some r → any_job test rs ≡ true
    by [] n at = absurd (none-some r at)
    by (x ∷ rs) zero at =
        let one : x ≡ r = cc in
        or_left (list_any (test x) (numbered 0 x.jobs)) (any_job test rs) (ap (λ (z : BeginningJobs). list_any (test z) (numbered 0 z.jobs)) one ∙ item_there (test r) 0 r.jobs p j is.job (subst (λ z. test r (z, j) ≡ true) (let z : p ≡ 0 + p = omega arith in z) e))
    by (x ∷ rs) (suc n) at = or_right (list_any (test x) (numbered 0 x.jobs)) (any_job test rs) (by rs n at)

-- a test that no job passes
pub none_passes : (test : BeginningJobs → ℕ × Job → Bool) (rounds : List BeginningJobs) (r : BeginningJobs) (p : ℕ) (j : Job) → any_job test rounds ≡ false → IsJobOf rounds r p j → test r (p, j) ≡ false
none_passes test rounds r p j none is = false_from_ne_true (test r (p, j)) (λ e. let z : true ≡ false = sym (job_there test rounds r p j is e) ∙ none in let y : ⊥ = cc in y)

-- ---- what is short

-- whoever is there, whose window ended, and who has fewer ticks than it takes
pub short_parts : (a : Bool) (m n p q : ℕ) → (a && ltb m n && ltb p q) ≡ true → (a ≡ true) × (m < n) × (p < q)
short_parts a m n p q e =
    let two = and_parts (a && ltb m n) (ltb p q) e in
    let one = and_parts a (ltb m n) two.0 in
    (one.0, ltb-true m n one.1, ltb-true p q two.1)

pub short_from : (a : Bool) (m n p q : ℕ) → a ≡ true → m < n → p < q → (a && ltb m n && ltb p q) ≡ true
short_from a m n p q here late few = and_from (a && ltb m n) (ltb p q) (and_from a (ltb m n) here (lt-ltb m n late)) (lt-ltb p q few)

-- ---- what counts before the next instant counts before this one or at it

pub next_counts : (m n v : ℕ) → cond (ltb m (suc n)) v 0 ≡ cond (ltb m n) v 0 + cond (eqb m n) v 0
next_counts m n v = elim (cases_less_more m n) [
  | inl less ↦ omega (arith, ap (λ b. cond {A = ℕ} b v 0) (lt-ltb m (suc n) (omega (arith, less))), ap (λ b. cond {A = ℕ} b v 0) (lt-ltb m n less), ap (λ b. cond {A = ℕ} b v 0) (ne_eqb m n (λ e. omega (arith, e, less))))
  | inr (inl more) ↦ omega (arith, ap (λ b. cond {A = ℕ} b v 0) (le-ltb m (suc n) (omega (arith, more))), ap (λ b. cond {A = ℕ} b v 0) (le-ltb m n (omega (arith, more))), ap (λ b. cond {A = ℕ} b v 0) (ne_eqb m n (λ e. omega (arith, e, more))))
  | inr (inr same) ↦ omega (arith, ap (λ b. cond {A = ℕ} b v 0) (lt-ltb m (suc n) (omega (arith, same))), ap (λ b. cond {A = ℕ} b v 0) (le-ltb m n (omega (arith, same))), ap (λ b. cond {A = ℕ} b v 0) (eq-eqb m n same))
]
