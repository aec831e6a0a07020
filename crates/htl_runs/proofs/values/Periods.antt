-- An instant begins a round of a period, or goes on with that of the instant before.
use Rattle.std.proofs.Common.{◌≡◌, ℕ, suc, ◌+◌, ◌*◌, ◌/◌, ◌<◌, ◌⊎◌, inl, inr}
use Rattle.htl_runs.proofs.Words.{goes_on, turns, cases_eq}

pub begins_or_not : (p n : ℕ) → 0 < p → (p * (suc n / p) ≡ suc n) ⊎ (p * (suc n / p) ≡ p * (n / p))
begins_or_not p n h = elim (cases_eq (suc n) (p * (n / p) + p)) [ inl e ↦ inl (turns p n h e) | inr d ↦ inr (goes_on p n h d) ]
