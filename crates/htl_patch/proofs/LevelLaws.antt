-- Levels by going up from module to module.
use Rattle.std.proofs.Common.{◌≡◌, ◌≤◌, ◌<◌, ◌+◌, ◌-◌, ℕ, zero, suc, max, List, [], ◌∷◌, ◌++◌, Option, Some, None, refl, sym, ap, arith}
use Rattle.htl_patch.proofs.Words.{list_to, parent_of, Tables, mode_module, greatest, level}

up : (t : Tables) (n u p : ℕ) → Some p ≡ parent_of t u → level (suc n) t u ≡ suc (level n t (mode_module t p))
up t n u p e = ap (λ (o : Option ℕ). elim o as (λ _. ℕ) [ Some q ↦ suc (level n t (mode_module t q)) | None ↦ 1 ]) (sym e)

-- one step further up
pub level_more : (t : Tables) (steps left here mode next all : ℕ) → left ≤ steps → 0 < left → Some mode ≡ parent_of t here → next ≡ mode_module t mode
    → (steps - left) + level left t here ≡ all → (steps - (left - 1)) + level (left - 1) t next ≡ all
level_more t steps zero here mode next all most less e is going = absurd (omega (arith, less))
level_more t steps (suc left) here mode next all most less e is going =
    let same : suc left - 1 ≡ left = omega arith in
    let a = up t left here mode e in
    let b = ap (λ (n : ℕ). level n t next) same in
    let d = ap (level left t) is in
    omega (arith, a, b, d, going, most)

pub level_top : (t : Tables) (steps left here all : ℕ) → None ≡ parent_of t here → (steps - left) + level left t here ≡ all → (steps - left) + 1 ≡ all
level_top t steps zero here all e going = going
level_top t steps (suc left) here all e going =
    let a : level (suc left) t here ≡ 1 = ap (λ (o : Option ℕ). elim o as (λ _. ℕ) [ Some q ↦ suc (level left t (mode_module t q)) | None ↦ 1 ]) (sym e) in
    omega (arith, a, going)

pub level_end : (t : Tables) (steps left here all : ℕ) → left ≡ 0 → (steps - left) + level left t here ≡ all → steps + 1 ≡ all
level_end t steps left here all none going =
    let a = ap (λ (n : ℕ). level n t here) none in omega (arith, a, none, going)

pub level_start : (t : Tables) (steps here : ℕ) → (steps - steps) + level steps t here ≡ level steps t here
level_start t steps here = omega arith

greatest_push : (x y : ℕ) (ys : List ℕ) → greatest x (ys ++ y ∷ []) ≡ max (greatest x ys) y
greatest_push x y [] = refl
greatest_push x y (z ∷ ys) = greatest_push (max x z) y ys

-- the greatest with one more
pub greatest_next : (f : ℕ → ℕ) (k most now next : ℕ) → most ≡ greatest 0 (list_to f k) → now ≡ f k → next ≡ max now most → next ≡ greatest 0 (list_to f (k + 1))
greatest_next f k most now next is value e =
    let same : suc k ≡ k + 1 = omega arith in
    let a = greatest_push 0 (f k) (list_to f k) in
    let b = ap (λ (n : ℕ). greatest 0 (list_to f n)) same in
    omega (arith, a, b, is, value, e)
