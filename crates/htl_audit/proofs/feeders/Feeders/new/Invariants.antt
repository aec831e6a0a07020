use Rattle.std.proofs.Common.{◌≡◌, map, ℕ, Vec, Global}
use Rattle.htl_audit.proofs.Words.{list_to, feeders_of}
use Rattle.htl_audit.proofs.feeders.Feeders.new.Given as goal

abbrev pub invariant-loop-i : goal.invariant-loop-i
invariant-loop-i l = map (λ (r : Vec ℕ Global). r.items) l.rows.items ≡ list_to (feeders_of l.t) l.i
