-- The records of a walk, one by one: their order, how many are left before an offset, and who is done by the first ones.
use Rattle.std.specs.Prelude.{ℕ, suc, ◌≤◌, Bool, cond, ltb, is_some, List, [], ◌∷◌, take}
use Rattle.htl_walk.specs.Walk.{Left, finish}

-- records in order of time, from a on
abbrev pub Rises : ℕ → List Left → Type 0
Rises a [] = Unit {0}
Rises a (l ∷ ls) = (a ≤ l.at) × Rises l.at ls

-- the records that are left before an offset, as a number of records in front
abbrev pub count_left_before : ℕ → List Left → ℕ
count_left_before e [] = 0
count_left_before e (l ∷ ls) = let rest = count_left_before e ls in cond (ltb l.at e) (suc rest) 0

-- the position is done by the first k records
abbrev pub done_by : List Left → ℕ → ℕ → Bool
done_by ls k p = is_some (finish (take k ls) p)
