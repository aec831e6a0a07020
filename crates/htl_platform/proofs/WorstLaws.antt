-- Tasks with other worst cases are the same tasks in all else, and stay in their ranges.
use Rattle.std.proofs.Common.{◌≡◌, ℕ, zero, suc, ◌+◌, ◌<◌, List, [], ◌∷◌, length, take, get_or, slice_set, refl, ap, sym, ◌∙◌, arith}
use Rattle.htl_platform.proofs.Words.{Task, tasks_with}

pub length-tasks_with : (ks : List Task) (ws : List ℕ) → length (tasks_with ks ws) ≡ length ks
length-tasks_with [] ws = refl
length-tasks_with (k ∷ ks) [] = refl
length-tasks_with (k ∷ ks) (w ∷ ws) = ap suc (length-tasks_with ks ws)

pub tasks_with-none : (ks : List Task) → tasks_with ks [] ≡ ks
tasks_with-none [] = refl
tasks_with-none (k ∷ ks) = refl

-- one more task takes its worst case
pub tasks_with-suc : (n : ℕ) (x : Task) (ks : List Task) (ws : List ℕ) → x ≡ get_or (tasks_with ks (take n ws)) n x → n < length ks → n < length ws
    → slice_set (tasks_with ks (take n ws)) n (record x { worst = get_or ws n 0 }) ≡ tasks_with ks (take (suc n) ws)
tasks_with-suc n x [] ws is below short = absurd (omega (arith, below))
tasks_with-suc n x (k ∷ ks) [] is below short = absurd (omega (arith, short))
tasks_with-suc zero x (k ∷ ks) (w ∷ ws) is below short =
    ap (λ (y : Task). record y { worst = w } ∷ ks) is ∙ ap (λ (rest : List Task). record k { worst = w } ∷ rest) (sym (tasks_with-none ks))
tasks_with-suc (suc n) x (k ∷ ks) (w ∷ ws) is below short =
    ap (λ (rest : List Task). record k { worst = w } ∷ rest) (tasks_with-suc n x ks ws is (omega (arith, below)) (omega (arith, short)))

pub tasks_with-put : (n : ℕ) (x : Task) (ts ks : List Task) (ws : List ℕ) → ts ≡ tasks_with ks (take n ws) → x ≡ get_or ts n x → n < length ks → n < length ws
    → slice_set ts n (record x { worst = get_or ws n 0 }) ≡ tasks_with ks (take (n + 1) ws)
tasks_with-put n x ts ks ws e is below short =
    let more : suc n ≡ n + 1 = omega arith in
    ap (λ (s : List Task). slice_set s n (record x { worst = get_or ws n 0 })) e
    ∙ tasks_with-suc n x ks ws (is ∙ ap (λ (s : List Task). get_or s n x) e) below short
    ∙ ap (λ (m : ℕ). tasks_with ks (take m ws)) more
