use Rattle.std.proofs.Common.{◌≡◌, ◌+◌, ◌++◌, length, take, drop, map, Some}
use Rattle.htl_walk.proofs.Words.{places_from, stands, standing_in}
use Rattle.htl_walk.proofs.jobs.put_standing.Given as goal

abbrev pub invariant-loop-k : goal.invariant-loop-k
invariant-loop-k l =
    record {
      front : take l.n l.standing ++ map (λ k. Some k) (places_from (stands l.t l.modes) l.k (drop l.k l.invs)) ≡ map (λ k. Some k) (standing_in l.t l.modes);
      count : l.n + length (places_from (stands l.t l.modes) l.k (drop l.k l.invs)) ≡ length (standing_in l.t l.modes);
    }
