-- The first items of lists.
use Rattle.std.proofs.Common.{◌≡◌, ℕ, zero, suc, ◌<◌, cond, List, [], ◌∷◌, map, slice_get, take, Some, refl, ◌∙◌, ap, arith}
use Rattle.htl_refine.proofs.{Words.Job, Words.job_at, Words.work, RecordOrder.not_some}

pub front_there : {A : Type 0} (m : ℕ) (xs : List A) (p : ℕ) (x : A) → slice_get (take m xs) p ≡ Some x → (slice_get xs p ≡ Some x) × (p < m)
front_there (suc m) (y ∷ xs) zero x e = (e, omega arith)
front_there (suc m) (y ∷ xs) (suc p) x e = let r = front_there m xs p x e in (r.0, omega (arith, r.1))
front_there _ _ p x e = not_some x e

pub take_work : (n : ℕ) (js : List Job) (ns : List ℕ) → work (take n js) (take n ns) ≡ take n (work js ns)
take_work (suc n) (j ∷ js) [] = ap (λ ws. 0 ∷ ws) (ap (work (take n js)) (none n) ∙ take_work n js [])
  where
    none : (n : ℕ) → ◌≡◌ {A = List ℕ} [] (take n [])
    none zero = refl
    none (suc n) = refl
take_work (suc n) (j ∷ js) (m ∷ ns) = ap (λ ws. cond j.present m 0 ∷ ws) (take_work n js ns)
take_work _ _ ns = refl
