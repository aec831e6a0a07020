-- Lists of positions, joined.
use Rattle.std.proofs.Common.{◌≡◌, ℕ, zero, suc, ◌+◌, ◌-◌, ◌≤◌, ◌<◌, true, List, [], ◌∷◌, ◌++◌, length, get_or, slice_get, take, Some, refl, sym, ap, ◌∙◌, subst, arith, inl, inr, append_assoc}
use Rattle.htl_smach.proofs.Words.{cases_lt, length-take, length-append, take-append_seam, slice_get-get_or, Job, job_at, job_is}

pub job_left : (xs ys : List Job) (p : ℕ) → p < length xs → job_at (xs ++ ys) p ≡ job_at xs p
job_left [] ys p h = absurd (omega arith)
job_left (x ∷ xs) ys zero h = refl
job_left (x ∷ xs) ys (suc p) h = job_left xs ys p (omega arith)

pub job_right : (xs ys : List Job) (p : ℕ) → job_at (xs ++ ys) (length xs + p) ≡ job_at ys p
job_right [] ys p = let z : 0 + p ≡ p = omega arith in ap (job_at ys) z
job_right (x ∷ xs) ys p = let z : suc (length xs) + p ≡ suc (length xs + p) = omega arith in ap (job_at (x ∷ (xs ++ ys))) z ∙ job_right xs ys p

pub get_left : {A : Type 0} (xs ys : List A) (p : ℕ) (d : A) → p < length xs → get_or (xs ++ ys) p d ≡ get_or xs p d
get_left [] ys p d h = absurd (omega arith)
get_left (x ∷ xs) ys zero d h = refl
get_left (x ∷ xs) ys (suc p) d h = get_left xs ys p d (omega arith)

pub get_right : {A : Type 0} (xs ys : List A) (p : ℕ) (d : A) → get_or (xs ++ ys) (length xs + p) d ≡ get_or ys p d
get_right [] ys p d = let z : 0 + p ≡ p = omega arith in ap (λ n. get_or ys n d) z
get_right (x ∷ xs) ys p d = let z : suc (length xs) + p ≡ suc (length xs + p) = omega arith in ap (λ n. get_or (x ∷ (xs ++ ys)) n d) z ∙ get_right xs ys p d

slice_left : (xs ys : List Job) (p : ℕ) → p < length xs → slice_get (xs ++ ys) p ≡ slice_get xs p
slice_left [] ys p h = absurd (omega arith)
slice_left (x ∷ xs) ys zero h = refl
slice_left (x ∷ xs) ys (suc p) h = slice_left xs ys p (omega arith)

slice_right : (xs ys : List Job) (p : ℕ) → slice_get (xs ++ ys) (length xs + p) ≡ slice_get ys p
slice_right [] ys p = let z : 0 + p ≡ p = omega arith in ap (slice_get ys) z
slice_right (x ∷ xs) ys p = let z : suc (length xs) + p ≡ suc (length xs + p) = omega arith in ap (slice_get (x ∷ (xs ++ ys))) z ∙ slice_right xs ys p

-- what holds of both parts holds of the joined list
pub both_parts : (P : ℕ → Job → Type 0) (xs ys : List Job) (ns ms : List ℕ) → length ns ≡ length xs
    → ((p : ℕ) (j : Job) → slice_get xs p ≡ Some j → j.present ≡ true → P (get_or ns p 0) j)
    → ((p : ℕ) (j : Job) → slice_get ys p ≡ Some j → j.present ≡ true → P (get_or ms p 0) j)
    → (p : ℕ) (j : Job) → slice_get (xs ++ ys) p ≡ Some j → j.present ≡ true → P (get_or (ns ++ ms) p 0) j
both_parts P xs ys ns ms same a b p j e h = elim (cases_lt p (length xs)) [
  | inl l ↦ subst (λ n. P n j) (sym (get_left ns ms p 0 (omega arith))) (a p j (sym (slice_left xs ys p l) ∙ e) h)
  | inr l ↦
      let q = p - length xs in
      let is : length xs + q ≡ p = omega arith in
      let isn : length ns + q ≡ p = omega arith in
      subst (λ n. P n j) (sym (get_right ns ms q 0) ∙ ap (λ k. get_or (ns ++ ms) k 0) isn) (b q j (sym (slice_right xs ys q) ∙ ap (slice_get (xs ++ ys)) is ∙ e) h)
]

-- what is written behind the front of an array
pub behind : {X : Type 0} (n k : ℕ) (xs js rest zs : List X) → n ≤ length xs → js ≡ zs → length zs ≡ k → take (n + k) (take n xs ++ (js ++ rest)) ≡ take n xs ++ zs
behind n k xs js rest zs h e l =
    ap (λ a. take (n + k) (take n xs ++ (a ++ rest))) e
    ∙ ap (take (n + k)) (sym (append_assoc (take n xs) zs rest))
    ∙ ap (λ i. take i ((take n xs ++ zs) ++ rest)) (let z : n + k ≡ length (take n xs ++ zs) = omega (arith, length-append (take n xs) zs, length-take n xs) in z)
    ∙ take-append_seam (take n xs ++ zs) rest

-- what is written over the front of an array
pub front : {X : Type 0} (n : ℕ) (xs ys zs : List X) → xs ≡ zs → length zs ≡ n → take n (xs ++ ys) ≡ zs
front n xs ys zs e l = ap (λ a. take n (a ++ ys)) e ∙ ap (λ k. take k (zs ++ ys)) (sym l) ∙ take-append_seam zs ys

pub job_at_is : (js : List Job) (p : ℕ) (d : Job) → p < length js → job_at js p ≡ get_or js p d
job_at_is js p d h = job_is js p (get_or js p d) (slice_get-get_or js p d h)
