use Rattle.std.proofs.Common.{◌≡◌, ℕ, ◌&&◌, ltb, get_or}
use Rattle.htl_model.specs.Bits.{has_bit}
use Rattle.htl_walk.proofs.listing.pending_of.Given as goal

abbrev pub invariant-loop-p : goal.invariant-loop-p
invariant-loop-p l = (q : ℕ) → has_bit l.pending q ≡ (ltb q l.p && ltb 0 (get_or l.left q 0))
