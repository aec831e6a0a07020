-- Which bytes are of words, and how many stand first.
use Rattle.std.proofs.Common.{arith, ◌≡◌, ◌<◌, ◌≤◌, ◌+◌, ◌-◌, ℕ, Bool, true, false, ◌&&◌, List, length, take, drop, map, get_or, refl, sym, ap, ◌∙◌}
use Rattle.htl_text.proofs.Words.{prefix_len, range_with_len, prefix_len-drop_yes, take-length, get_or-map-range_with_len, length-drop}

-- a table of what passes, over all bytes
pub in_table : (p : ℕ → Bool) (marks : List Bool) → marks ≡ map p (range_with_len 0 256) → (b : ℕ) → b < 256 → get_or marks b false ≡ p b
in_table p marks e b below = ap (λ (t : List Bool). get_or t b false) e ∙ get_or-map-range_with_len p 0 256 b b false below (omega arith)

-- four elements that pass stand before those of the rest
pub record IsBehindFour (p : ℕ → Bool) (xs rest : List ℕ) : Type 0 where
  pub passed : prefix_len p xs ≡ 4 + prefix_len p rest
  pub long : length rest + 4 ≡ length xs

pub behind-four : (p : ℕ → Bool) (xs : List ℕ) → 4 ≤ length xs
    → (p (get_or xs 0 0) && (p (get_or xs 1 0) && (p (get_or xs 2 0) && p (get_or xs 3 0)))) ≡ true → IsBehindFour p xs (take (length xs - 4) (drop 4 xs))
behind-four p xs some all =
    let each = split (p (get_or xs 0 0)) (p (get_or xs 1 0)) (p (get_or xs 2 0)) (p (get_or xs 3 0)) all in
    let one : prefix_len p (drop 0 xs) ≡ 1 + prefix_len p (drop 1 xs) = prefix_len-drop_yes p xs 0 0 (omega (arith, some)) each.0 in
    let two : prefix_len p (drop 1 xs) ≡ 1 + prefix_len p (drop 2 xs) = prefix_len-drop_yes p xs 1 0 (omega (arith, some)) each.1.0 in
    let three : prefix_len p (drop 2 xs) ≡ 1 + prefix_len p (drop 3 xs) = prefix_len-drop_yes p xs 2 0 (omega (arith, some)) each.1.1.0 in
    let four : prefix_len p (drop 3 xs) ≡ 1 + prefix_len p (drop 4 xs) = prefix_len-drop_yes p xs 3 0 (omega (arith, some)) each.1.1.1 in
    let behind : length (drop 4 xs) ≡ length xs - 4 = length-drop 4 xs in
    let same : take (length xs - 4) (drop 4 xs) ≡ drop 4 xs = ap (λ (n : ℕ). take n (drop 4 xs)) (sym behind) ∙ take-length (drop 4 xs) in
    let whole = ap (prefix_len p) same in
    let size = ap length same in
    record { passed = omega (arith, one, two, three, four, whole); long = omega (arith, behind, size, some) }
  where
    split : (a b c d : Bool) → (a && (b && (c && d))) ≡ true → (a ≡ true) × ((b ≡ true) × ((c ≡ true) × (d ≡ true)))
    split true true true true e = (refl, (refl, (refl, refl)))
    split true true true false e = absurd cc
    split true true false d e = absurd cc
    split true false c d e = absurd cc
    split false b c d e = absurd cc
