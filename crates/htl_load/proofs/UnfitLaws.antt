-- Functions that fit their places, one after the other.
use Rattle.std.proofs.Common.{◌≡◌, ◌<◌, ℕ, ◌+◌, List, length, get_or, slice_get, ap, subst, arith, inl, inr}
use Rattle.htl_load.proofs.Words.{Task, Tables, function_count, count_at, FitBetween, outputs_count, cases_lt}

pub fit_on : (t : Tables) (from mid to : ℕ) → FitBetween t from mid → FitBetween t mid to → FitBetween t from to
fit_on t from mid to h g = λ k a b. elim (cases_lt k mid) [ inl less ↦ h k a less | inr more ↦ g k more b ]

pub fit_to : (t : Tables) (from a b : ℕ) → a ≡ b → FitBetween t from a → FitBetween t from b
fit_to t from a b e h = subst (FitBetween t from) e h

pub fit_more : (t : Tables) (ts : List Task) (k id count : ℕ) (x : Task) → ts ≡ t.tasks → k < length ts → x ≡ get_or ts k x → count ≡ function_count x → FitBetween t 0 id
    → FitBetween t id (id + count_at (slice_get t.tasks k)) → FitBetween t 0 (id + count)
fit_more t ts k id count x same less is counted h g =
    let inside : k < length t.tasks = omega (arith, less, ap length same) in
    let e : id + count_at (slice_get t.tasks k) ≡ id + count = omega (arith, outputs_count t ts k x same inside is, counted) in
    fit_on t 0 id (id + count) h (fit_to t id (id + count_at (slice_get t.tasks k)) (id + count) e g)
