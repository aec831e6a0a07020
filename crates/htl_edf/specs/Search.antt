-- The search for an overloaded interval.
use Rattle.std.specs.Prelude.{ℕ, zero, suc, ◌+◌, Bool, false, cond, ◌&&◌, ◌||◌, leb, ltb, List, length, pos, int_le, int_lt, Option, neg_ℤ}
use Rattle.htl_walk.specs.declared.job.Job.{Job}
use Rattle.htl_edf.specs.{Sums.sum_below, Tight.release_at, Tight.end_at, Edf.earliest, Lists.jobs_of}

-- the demand of the positions below n in the interval from the release of p to the end of q
abbrev pub demand_below : List Job → ℕ → ℕ → ℕ → ℕ
demand_below js p q n = sum_below (λ r. cond (leb (release_at (jobs_of js) (length js) p) (release_at (jobs_of js) (length js) r) && int_le (end_at (jobs_of js) (length js) r) (end_at (jobs_of js) (length js) q)) ((jobs_of js).worst r) 0) n

-- whether that interval is overloaded
unfoldable pub over : List Job → ℕ → ℕ → Bool
over js p q = ltb 0 (demand_below js p q (length js)) && int_lt (end_at (jobs_of js) (length js) q) (pos (release_at (jobs_of js) (length js) p + demand_below js p q (length js)))

-- whether a position below n passes
abbrev pub any_below : (ℕ → Bool) → ℕ → Bool
any_below s zero = false
any_below s (suc n) = any_below s n || s n

-- of the positions below n, that with the greatest end of an overloaded interval
abbrev pub last_of : List Job → ℕ → Option ℕ
last_of js n = earliest (λ q. any_below (λ p. over js p q) (length js)) (λ q. neg_ℤ (end_at (jobs_of js) (length js) q)) n

-- of the positions below n, that with the least release of an overloaded interval up to the end of q
abbrev pub first_of_end : List Job → ℕ → ℕ → Option ℕ
first_of_end js q n = earliest (λ p. over js p q) (λ p. pos (release_at (jobs_of js) (length js) p)) n
