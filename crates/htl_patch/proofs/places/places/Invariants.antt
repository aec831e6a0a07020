use Rattle.std.proofs.Common.{◌≡◌, ◌≤◌, ◌<◌, ◌+◌, ℕ, length, drop, get_or}
use Rattle.htl_patch.specs.Renumbered.{place_among}
use Rattle.htl_patch.proofs.places.places.Given as goal

abbrev pub invariant-loop : goal.invariant-loop
invariant-loop l = (length l.found.items ≡ l.counter) × (l.counter ≤ l.count) × ((k : ℕ) → k < length l.found.items → get_or l.found.items k 0 ≡ length l.keys)

-- the places from here on are told
abbrev pub invariant-loop-place : goal.invariant-loop-place
invariant-loop-place l =
    (l.place ≤ length l.keys) × (length l.found.items ≡ l.count) × ((k : ℕ) → k < l.count → get_or l.found.items k 0 ≡ l.place + place_among k (drop l.place l.keys))

abbrev pub decreases-loop-place : goal.decreases-loop-place
decreases-loop-place l = l.place
