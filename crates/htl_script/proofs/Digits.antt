-- Numbers that stand still at the end of 64 bits.
use Rattle.std.proofs.Common.{◌≡◌, ◌-◌, ◌^◌, ◌≤◌, ℕ, min, true, List, [], ◌∷◌, length, take, Some, None, refl, sym, ap, ◌∙◌, arith}
use Rattle.std.specs.Prelude.{if◌then◌else◌}
use Rattle.std.specs.{List.list_all, Char.is_ascii_digit}
use Rattle.std.proofs.lemmas.List.{take_all}
use Rattle.htl_script.proofs.Words.{fold, with_digit, with_digit_capped}

capped_step : (n digit : ℕ) → with_digit_capped (min n (2 ^ 64 - 1)) digit ≡ min (with_digit n digit) (2 ^ 64 - 1)
capped_step n digit = omega arith

-- to stand still at each digit is to stand still at the last
pub fold-capped : (n : ℕ) (digits : List ℕ) → fold with_digit_capped (min n (2 ^ 64 - 1)) digits ≡ min (fold with_digit n digits) (2 ^ 64 - 1)
fold-capped n [] = refl
fold-capped n (digit ∷ digits) =
    ap (λ (m : ℕ). fold with_digit_capped m digits) (capped_step n digit) ∙ fold-capped (with_digit n digit) digits

-- the digits of a whole field
pub digits_value : (field : List ℕ) (n i : ℕ) → length field ≤ i → n ≡ fold with_digit_capped 0 (take i field) → list_all is_ascii_digit (take i field) ≡ true
    → Some n ≡ (if list_all is_ascii_digit field then Some (min (fold with_digit 0 field) (2 ^ 64 - 1)) else None)
digits_value field n i past number digits =
    let whole : take i field ≡ field = take_all i field past in
    let value : n ≡ min (fold with_digit 0 field) (2 ^ 64 - 1) = number ∙ ap (λ (bs : List ℕ). fold with_digit_capped 0 bs) whole ∙ fold-capped 0 field in
    let all : list_all is_ascii_digit field ≡ true = sym (ap (λ (bs : List ℕ). list_all is_ascii_digit bs) whole) ∙ digits in
    rw all (ap (λ (m : ℕ). Some m) value)
