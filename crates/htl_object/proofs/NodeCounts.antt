-- A count of schedules is one of nodes, which are few.
use Rattle.std.proofs.Common.{◌≡◌, ◌≤◌, ℕ, true, ◌&&◌, eqb, List, length, None, refl, sym, ap, arith}
use Rattle.htl_object.proofs.Words.{nat_le, is_none, nat_tests, length-map, limits_kept, rounds_have, choices_some, choices_starts, nodes_small, KeepsLimits, starts, rounds, rounds_at, choices, radices, ways, nodes, frame_limit, AreInRange, Tables, selections_of, positions_to, are_few, is_node_count, and_from, eq-eqb}
use Rattle.htl_object.proofs.{Limits.selections_are, Widest.most_few}

pub small : (n m : ℕ) → n ≤ m → nat_le n m ≡ true
small n m h = grind (arith, nat_tests)

-- the number of nodes is a count of schedules
pub node_count_so : (t : Tables) (n : ℕ) → AreInRange t → KeepsLimits t → frame_limit t ≡ None → n ≡ nodes t → is_node_count t n ≡ true
node_count_so t n r limits none is =
    let count : ℕ = selections_of t.modes t.modules in
    let most : ℕ = positions_to t.modes t.modules t.invs (length t.modules) in
    and_from (are_few t.modes t.modules t.invs) (is_none (frame_limit t) && eqb n (nodes t))
    (and_from (nat_le count 1024) (nat_le most 128) (small count 1024 (omega (arith, selections_are t r, limits.selections))) (small most 128 (most_few t r limits)))
    (and_from (is_none (frame_limit t)) (eqb n (nodes t)) (ap is_none none) (eq-eqb n (nodes t) is))

-- where no limit of frames is exceeded there are few nodes
pub nodes_few : (t : Tables) → AreInRange t → frame_limit t ≡ None → nodes t ≤ 32768
nodes_few t r none =
    let limits = limits_kept t r none in
    let cs : List ℕ = radices t in
    let are : ways cs ≡ choices t (rounds t) = sym (choices_starts t (starts t)) in
    let short : length cs ≤ 32 = omega (arith, length-map (starts t) (λ a. choices t (rounds_at t a)), limits.starts) in
    nodes_small cs (ways cs) (nodes t) refl refl (omega (arith, are, choices_some t (rounds t) (rounds_have t r))) (omega (arith, are, limits.choices)) short
