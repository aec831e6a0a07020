-- What is marked is gone over in order, and the rest passed over.
use Rattle.std.proofs.Common.{◌≡◌, ◌≢◌, ℕ, zero, suc, ◌+◌, ◌<◌, ◌≤◌, ◌⊎◌, Bool, true, false, cond, not, ◌||◌, eqb, List, [], ◌∷◌, ◌++◌, length, get_or, set, Option, Some, None, ℤ, pos, negsuc, refl, sym, ap, ◌∙◌, subst, arith, inl, inr, length-set, get_or-set_same, get_or-set_other, append-nil}
use Rattle.htl_machine.proofs.Words.{append_known, cases_lt, nat_tests, ext_get_or, Line, ValueLine, ModeLine, same, lines_text, up_to, same_mode, Tables, list_at, value_changes, mode_changes, is_marked, Marks}
use Rattle.htl_runs.proofs.lines.PutLines.{IsPutting}

-- ---- lists that become others at the marks

-- below n the lists agree, and behind it where there is no mark
pub record IsSettling {A : Type 0} (d : A) (marks : Marks) (xs ys : List A) (n : ℕ) : Type 0 where
  pub long : length xs ≡ length ys
  pub below : (k : ℕ) → k < n → get_or xs k d ≡ get_or ys k d
  pub other : (k : ℕ) → is_marked marks k ≡ false → get_or xs k d ≡ get_or ys k d

pub settling_start : {A : Type 0} (d : A) (marks : Marks) (xs ys : List A) (n : ℕ) → length xs ≡ length ys → ((k : ℕ) → is_marked marks k ≡ false → get_or xs k d ≡ get_or ys k d)
    → ((k : ℕ) → 0 ≤ k → k < n → is_marked marks k ≡ false) → IsSettling d marks xs ys n
settling_start d marks xs ys n long other skipped = record { long = long; below = λ k less. other k (skipped k (omega arith) less); other = other }

pub settling_step : {A : Type 0} (d : A) (marks : Marks) (xs ys zs : List A) (c n : ℕ) (y : A) → IsSettling d marks xs ys c → c < length xs → zs ≡ set xs c y → y ≡ get_or ys c d
    → ((k : ℕ) → c + 1 ≤ k → k < n → is_marked marks k ≡ false) → IsSettling d marks zs ys n
settling_step {A} d marks xs ys zs c n y h room is here skipped =
    subst (λ (us : List A). IsSettling d marks us ys n) (sym is) (record { long = length-set xs c y ∙ h.long; below = below; other = other })
  where
    at : get_or (set xs c y) c d ≡ get_or ys c d
    at = get_or-set_same xs c y d room ∙ here

    by_place : (k : ℕ) → (k ≡ c) ⊎ (k ≢ c) → get_or xs k d ≡ get_or ys k d → get_or (set xs c y) k d ≡ get_or ys k d
    by_place k (inl e) was = ap (λ n. get_or (set xs c y) n d) e ∙ at ∙ ap (λ n. get_or ys n d) (sym e)
    by_place k (inr e) was = get_or-set_other xs c k y d e ∙ was

    place : (k : ℕ) → (k ≡ c) ⊎ (k ≢ c)
    place k = by (eqb k c) refl
      where
        by : (b : Bool) → eqb k c ≡ b → (k ≡ c) ⊎ (k ≢ c)
        by true e = inl (grind (arith, nat_tests))
        by false e = inr (let f : k ≢ c = grind (arith, nat_tests) in f)

    other : (k : ℕ) → is_marked marks k ≡ false → get_or (set xs c y) k d ≡ get_or ys k d
    other k e = by_place k (place k) (h.other k e)

    below : (k : ℕ) → k < n → get_or (set xs c y) k d ≡ get_or ys k d
    below k less = elim (cases_lt k c) [
      | inl l ↦ by_place k (place k) (h.below k l)
      | inr l ↦ elim (place k) [
        | inl e ↦ ap (λ n. get_or (set xs c y) n d) e ∙ at ∙ ap (λ n. get_or ys n d) (sym e)
        | inr e ↦ other k (skipped k (omega (arith, l, e)) less)
      ]
    ]

pub settling_end : {A : Type 0} (d : A) (marks : Marks) (xs ys : List A) (n : ℕ) → IsSettling d marks xs ys n → length xs ≤ n → xs ≡ ys
settling_end d marks xs ys n h all = ext_get_or d xs ys h.long (λ k less. h.below k (omega (arith, less, all)))

-- ---- modes

pub list_is : (xs : List (Option ℕ)) (k : ℕ) → get_or xs k None ≡ list_at xs k
list_is [] k = refl
list_is (x ∷ xs) zero = refl
list_is (x ∷ xs) (suc k) = list_is xs k

pub modes_other : (marks : Marks) (xs ys : List (Option ℕ)) → ((k : ℕ) → is_marked marks k ≡ false → list_at xs k ≡ list_at ys k) → (k : ℕ) → is_marked marks k ≡ false → get_or xs k None ≡ get_or ys k None
modes_other marks xs ys h k e = list_is xs k ∙ h k e ∙ sym (list_is ys k)

-- ---- lines

up_to_over : {A : Type 0} (f : ℕ → List A) (k n : ℕ) → k ≤ n → ((j : ℕ) → k ≤ j → j < n → f j ≡ []) → up_to f n ≡ up_to f k
up_to_over f k zero low none = ap (up_to f) (let e : 0 ≡ k = omega (arith, low) in e)
up_to_over f k (suc n) low none = elim (cases_lt n k) [
  | inl l ↦ ap (up_to f) (let e : suc n ≡ k = omega (arith, low, l) in e)
  | inr l ↦ ap (λ xs. up_to f n ++ xs) (none n l (omega arith)) ∙ append-nil (up_to f n) ∙ up_to_over f k n l (λ j from less. none j from (omega arith))
]

-- places without lines are passed over
pub putting_over : (t : Tables) (f : ℕ → List Line) (k n : ℕ) (old now : Option (List ℕ)) (before between : ℕ) → k ≤ n → ((j : ℕ) → k ≤ j → j < n → f j ≡ []) → IsPutting t f k old now before between
    → IsPutting t f n old now before between
putting_over t f k n old now before between low none h = record {
  written = h.written ∙ ap (λ (ls : List Line). append_known old (lines_text t ls)) (sym (up_to_over f k n low none));
  kept = h.kept;
}

pub same_self : (x : ℤ) → same x x ≡ true
same_self (pos a) = grind (arith, nat_tests)
same_self (negsuc a) = grind (arith, nat_tests)

pub same_mode_self : (o : Option ℕ) → same_mode o o ≡ true
same_mode_self None = refl
same_mode_self (Some n) = grind (arith, nat_tests)

-- a value that is what it was has no line, but at instant 0
pub no_value_line : (now : ℕ) (old new : List ℤ) (c : ℕ) → (now ≡ 0 → ⊥) → get_or old c (pos 0) ≡ get_or new c (pos 0) → value_changes now old new c ≡ []
no_value_line now old new c later is =
    let x = get_or new c (pos 0) in
    let line : Line = ValueLine now c x in
    let first : eqb now 0 ≡ false = grind (arith, nat_tests) in
    ap (λ (y : ℤ). cond (eqb now 0 || not (same y x)) (line ∷ []) []) is
    ∙ ap (λ (b : Bool). cond (eqb now 0 || not b) (line ∷ []) []) (same_self x)
    ∙ ap (λ (b : Bool). cond (b || false) (line ∷ []) []) first

pub no_mode_line : (now : ℕ) (was is : List (Option ℕ)) (k : ℕ) → list_at was k ≡ list_at is k → mode_changes now was is k ≡ []
no_mode_line now was is k e =
    let o = list_at is k in
    let line : Line = ModeLine now k o in
    ap (λ (p : Option ℕ). cond (same_mode p o) [] (line ∷ [])) e ∙ ap (λ (b : Bool). cond b [] (line ∷ [])) (same_mode_self o)
