-- Which positions are released before an offset.
use Rattle.std.proofs.Common.{◌≡◌, ℕ, zero, suc, false, ◌&&◌, ltb, List, [], ◌∷◌, get_or, slice_get, Some, ap}
use Rattle.htl_runs.proofs.Words.{Job, released_before, not_some, same_Some}

pub flag_at : (d : ℕ) (js : List Job) (p : ℕ) (j : Job) → slice_get js p ≡ Some j → get_or (released_before d js) p false ≡ (j.present && ltb j.release d)
flag_at d [] p j e = not_some j e
flag_at d (k ∷ js) zero j e = ap (λ (z : Job). z.present && ltb z.release d) (same_Some _ _ e)
flag_at d (k ∷ js) (suc p) j e = flag_at d js p j e
