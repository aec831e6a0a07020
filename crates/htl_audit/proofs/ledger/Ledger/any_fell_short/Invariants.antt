use Rattle.std.proofs.Common.{◌≡◌, drop}
use Rattle.htl_audit.specs.Keeping.{any_fell_short_from, any_fell_short}
use Rattle.htl_audit.proofs.ledger.Ledger.any_fell_short.Given as goal

abbrev pub invariant-loop-n : goal.invariant-loop-n
invariant-loop-n l = any_fell_short_from l.t l.now l.self l.n (drop l.n l.t.invs) ≡ any_fell_short l.t l.now l.self
