-- What the meaning at an instant depends on.
use Rattle.std.proofs.Common.{◌≡◌, ℕ, zero, suc, ◌*◌, ◌/◌, ◌≤◌, ◌<◌, cond, ◌&&◌, eqb, leb, List, [], ◌∷◌, ◌++◌, slice_get, length, Option, Some, None, ℤ, refl, ap, ap₂, ◌∙◌, arith}
use mathlib.Core.Path.{fun_ext}
use Rattle.htl_model.proofs.Words.{Comm, Event, Tables, State, Stay, up_to, list_to, run_lines, value_lines, changes, no_state, History, history, newest, next_state, next_values, next_value, written, stays_at, first_state, first_values, first_value, past, sense, round_down}

-- two sensor readings that agree up to n
abbrev pub Agree : (ℕ → ℕ → ℤ) → (ℕ → ℕ → ℤ) → ℕ → Type 0
Agree f g n = (c u : ℕ) → u ≤ n → f c u ≡ g c u

list_to_same : {A : Type 0} (f g : ℕ → A) (n : ℕ) → ((k : ℕ) → f k ≡ g k) → list_to f n ≡ list_to g n
list_to_same f g n h = ap (λ k. list_to k n) (fun_ext h)

next_value_local : (t : Tables) (f g seen : ℕ → ℕ → ℤ) (ws : List (Option Stay)) (old : List ℤ) (now c : ℕ) (o : Option Comm) → Agree f g now → next_value t f seen ws old now c o ≡ next_value t g seen ws old now c o
next_value_local t f g seen ws old now c None h = refl
next_value_local t f g seen ws old now c (Some x) h = grind (arith, round_down)

next_values_local : (t : Tables) (f g seen : ℕ → ℕ → ℤ) (ws : List (Option Stay)) (old : List ℤ) (now : ℕ) → Agree f g now → next_values t f seen ws old now ≡ next_values t g seen ws old now
next_values_local t f g seen ws old now h = grind (arith, list_to_same, next_value_local)

first_value_local : (f g : ℕ → ℕ → ℤ) (c : ℕ) (o : Option Comm) → Agree f g 0 → first_value f c o ≡ first_value g c o
first_value_local f g c None a = refl
first_value_local f g c (Some x) a = ap (λ y. cond x.sensor y x.init) (a c 0 (omega arith))

next_state_local : (t : Tables) (f g : ℕ → ℕ → ℤ) (h : History) (old : State) (now : ℕ) → Agree f g now → next_state t f h old now ≡ next_state t g h old now
next_state_local t f g h old now a = grind (arith, next_values_local)

first_state_local : (t : Tables) (f g : ℕ → ℕ → ℤ) → Agree f g 0 → first_state t f ≡ first_state t g
first_state_local t f g a = grind (arith, list_to_same, first_value_local)

-- sensors that agree up to n give the same states up to n
pub history_local : (t : Tables) (f g : ℕ → ℕ → ℤ) (n : ℕ) → Agree f g n → history t f n ≡ history t g n
history_local t f g zero a = ap (λ x. x ∷ []) (first_state_local t f g a)
history_local t f g (suc n) a =
    let ih : history t f n ≡ history t g n = history_local t f g n (λ c u h. a c u (omega arith)) in
    let P : History → History = λ h. next_state t f h (newest h) (suc n) ∷ h in
    ap P ih ∙ ap (λ x. x ∷ history t g n) (next_state_local t f g (history t g n) (newest (history t g n)) (suc n) a)

pub not_yet : (c d r u : ℕ) (y x : ℤ) → u < r → cond (eqb c d && leb r u) y x ≡ x
not_yet c d r u y x h = grind arith

pub up_to_same : {A : Type 0} (f g : ℕ → List A) (n : ℕ) → ((k : ℕ) → k < n → f k ≡ g k) → up_to f n ≡ up_to g n
up_to_same f g zero h = refl
up_to_same f g (suc n) h = ap₂ (λ a b. a ++ b) (up_to_same f g n (λ k p. h k (omega arith))) (h n (omega arith))

value_lines_same : (t : Tables) (es fs : List Event) (now : ℕ) → Agree (sense t es) (sense t fs) now → value_lines t es now ≡ value_lines t fs now
value_lines_same t es fs zero a = ap (changes t 0 no_state) (ap newest (history_local t (sense t es) (sense t fs) zero a))
value_lines_same t es fs (suc n) a =
    ap₂ (changes t (suc n)) (ap newest (history_local t (sense t es) (sense t fs) n (λ c u h. a c u (omega arith))))
    (ap newest (history_local t (sense t es) (sense t fs) (suc n) a))

-- equal sensor values up to `end` give equal lines up to `end`
pub run_lines_same : (t : Tables) (es fs : List Event) (end : ℕ) → Agree (sense t es) (sense t fs) end → run_lines t es end ≡ run_lines t fs end
run_lines_same t es fs end a =
    up_to_same (value_lines t es) (value_lines t fs) (suc end) (λ k p. value_lines_same t es fs k (λ c u h. a c u (omega arith)))
