-- Words on lists.
use Rattle.std.specs.Prelude.{ℕ, suc, Bool, cond, ◌∷◌, ◌++◌, List, [], eqb, fold}
use Rattle.std.specs.List.{list_any}

-- what the function gives for each item and its place, end to end; the places are counted from k
abbrev pub flat_map_at : {A B : Type 0} → (ℕ → A → List B) → ℕ → List A → List B
flat_map_at f k [] = []
flat_map_at f k (x ∷ xs) = f k x ++ flat_map_at f (suc k) xs

-- the value of the function for each item and its place
abbrev pub map_at : {A B : Type 0} → (ℕ → A → B) → ℕ → List A → List B
map_at f k [] = []
map_at f k (x ∷ xs) = f k x ∷ map_at f (suc k) xs

-- the place of the first item that passes the test; the list's length where none does
abbrev pub place_in : {A : Type 0} → (A → Bool) → List A → ℕ
place_in p [] = 0
place_in p (x ∷ xs) = cond (p x) 0 (suc (place_in p xs))

-- the list with the number behind it, unless it is there
abbrev pub with_new : List ℕ → ℕ → List ℕ
with_new xs x = cond (list_any (eqb x) xs) xs (xs ++ x ∷ [])

-- the different numbers of a list, in the order of their first occurrence
abbrev pub distinct : List ℕ → List ℕ
distinct xs = fold with_new [] xs
