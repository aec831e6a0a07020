use Rattle.std.proofs.Common.{◌≡◌, ◌<◌, ◌≤◌, ◌⊎◌, ◌+◌, ℕ, true}
use Rattle.htl_audit.specs.Keeping.{has_job, start_at, end_at}
use Rattle.htl_audit.proofs.ledger.Ledger.next_due.Given as goal

abbrev pub invariant-loop-n : goal.invariant-loop-n
invariant-loop-n l =
    (i : ℕ) → i < l.n → has_job l.self.roster i ≡ true → (start_at l.self.roster i + end_at l.t i < l.now) ⊎ (l.due ≤ start_at l.self.roster i + end_at l.t i)
