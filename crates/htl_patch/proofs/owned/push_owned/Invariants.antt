use Rattle.std.proofs.Common.{◌≡◌, ◌≤◌, ◌++◌, ◌-◌, length, drop}
use Rattle.htl_patch.proofs.Words.{places_from, is_owner, owned_by}
use Rattle.htl_patch.proofs.owned.push_owned.Given as goal

abbrev pub invariant-loop-place : goal.invariant-loop-place
invariant-loop-place l =
    (l.first ≤ l.place) × (l.place ≤ length l.owners) × (l.into.items ++ places_from (is_owner l.m) l.place (drop l.place l.owners) ≡ l.initial.into.items ++ owned_by l.owners l.m)

abbrev pub decreases-loop-place : goal.decreases-loop-place
decreases-loop-place l = length l.owners - l.place
