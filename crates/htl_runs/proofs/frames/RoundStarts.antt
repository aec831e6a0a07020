-- Whether a round of some root module begins.
use Rattle.std.proofs.Common.{◌≡◌, ℕ, zero, suc, ◌%◌, ◌<◌, false, not, ◌&&◌, eqb, [], ap, arith}
use Rattle.htl_runs.proofs.Words.{ne_eqb, list_any, root_modules, Tables, opens, some_round_begins}

pub divides : (p at : ℕ) → 0 < p → (not (eqb p 0) && eqb (at % p) 0) ≡ eqb (at % p) 0
divides zero at h = absurd (omega (arith, h))
divides (suc p) at h = ap (λ b. not b && eqb (at % suc p) 0) (ne_eqb (suc p) 0 (λ e. omega (arith, e)))

-- without modules
pub begins_never : (t : Tables) (at : ℕ) → root_modules t ≡ [] → some_round_begins t at ≡ false
begins_never t at e = ap (list_any (opens t at)) e
