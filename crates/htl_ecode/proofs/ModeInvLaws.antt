-- What counts for one mode alone is found among its invocations, which stand together.
use Rattle.std.proofs.Common.{◌≡◌, ◌≤◌, ◌<◌, ℕ, zero, suc, ◌+◌, Bool, false, cond, ◌&&◌, eqb, List, [], ◌∷◌, ◌++◌, length, map, drop, append-nil, Option, Some, refl, sym, ap, ◌∙◌, subst, arith}
use Rattle.htl_ecode.proofs.Words.{nat_tests, Inv, Parts, joined, numbered, IsStartOf, Tables, tables_of, is_concrete, release, call_of, calls_of, release_of, counted_in, offsets_in, phase_offsets, places_at, ends_in, least_from, sooner, slice_get}
use Rattle.htl_ecode.specs.declared.instr.EInstr.TheVariants as I
use Rattle.htl_ecode.proofs.Soonest.{sooner_none}

-- where the first n items give nothing, those behind them give all
pub none_before : {A B : Type 0} (f : ℕ × A → List B) (j n : ℕ) (xs : List A) → ((q : ℕ) (x : A) → q < n → slice_get xs q ≡ Some x → f (j + q, x) ≡ []) →
    joined f (numbered (j + n) (drop n xs)) ≡ joined f (numbered j xs)
none_before f j zero xs h = let same : j + 0 ≡ j = omega arith in ap (λ (k : ℕ). joined f (numbered k xs)) same
none_before f j (suc n) [] h = refl
none_before f j (suc n) (x ∷ xs) h =
    let next : j + suc n ≡ suc j + n = omega arith in
    let here : j + 0 ≡ j = omega arith in
    ap (λ (k : ℕ). joined f (numbered k (drop n xs))) next
    ∙ none_before f (suc j) n xs (λ q y less at. (let step : j + suc q ≡ suc j + q = omega arith in subst (λ (k : ℕ). f (k, y) ≡ []) step (h (suc q) y (omega arith) at)))
    ∙ ap (λ zs. zs ++ joined f (numbered (suc j) xs)) (sym (subst (λ (k : ℕ). f (k, x) ≡ []) here (h 0 x (omega arith) refl)))

-- items that all give nothing
pub none_at_all : {A B : Type 0} (f : ℕ × A → List B) (j : ℕ) (xs : List A) → ((q : ℕ) (x : A) → slice_get xs q ≡ Some x → f (j + q, x) ≡ []) → joined f (numbered j xs) ≡ []
none_at_all f j [] h = refl
none_at_all f j (x ∷ xs) h =
    let here : j + 0 ≡ j = omega arith in
    ap (λ zs. zs ++ joined f (numbered (suc j) xs)) (subst (λ (k : ℕ). f (k, x) ≡ []) here (h 0 x refl))
    ∙ none_at_all f (suc j) xs (λ q y at. (let step : j + suc q ≡ suc j + q = omega arith in subst (λ (k : ℕ). f (k, y) ≡ []) step (h (suc q) y at)))

slice_dropped : {A : Type 0} (xs : List A) (e q : ℕ) (x : A) → slice_get (drop e xs) q ≡ Some x → slice_get xs (e + q) ≡ Some x
slice_dropped xs zero q x at = let zero_add : q ≡ 0 + q = omega arith in subst (λ (j : ℕ). slice_get xs j ≡ Some x) zero_add at
slice_dropped [] (suc e) q x at = cc
slice_dropped (y ∷ xs) (suc e) q x at = let step : suc (e + q) ≡ suc e + q = omega arith in subst (λ (j : ℕ). slice_get (y ∷ xs) j ≡ Some x) step (slice_dropped xs e q x at)

-- a number doesn't matter
unnumbered : {A B : Type 0} (f : A → List B) (j : ℕ) (xs : List A) → joined (λ (p : ℕ × A). f p.1) (numbered j xs) ≡ joined f xs
unnumbered f j [] = refl
unnumbered f j (x ∷ xs) = ap (λ zs. f x ++ zs) (unnumbered f (suc j) xs)

-- ---- invocations

-- the invocations in memory are those of the tables
pub invs_are : (t : Tables) (p : Parts) (xs : List Inv) → t ≡ tables_of p → xs ≡ p.invs → xs ≡ t.invs
invs_are t p xs is are = are ∙ ap (λ z. z.invs) (sym is)

-- each number of an invocation of the mode is one of the list
pub is_within : (t : Tables) (xs : List Inv) (m e k : ℕ) → xs ≡ t.invs → IsStartOf t m e → k < e → k < length xs
is_within t xs m e k is end less = subst (λ (ys : List Inv). k < length ys) (sym is) (let most = end.within in let below : k < length t.invs = omega arith in below)

-- what gives nothing for an invocation of another mode
abbrev pub IsOfMode : {B : Type 0} → ℕ → (ℕ × Inv → List B) → Type 0
IsOfMode m f = (k : ℕ) (x : Inv) → eqb x.mode m ≡ false → f (k, x) ≡ []

pub found_from_start : {B : Type 0} (t : Tables) (xs : List Inv) (m s : ℕ) (f : ℕ × Inv → List B) → xs ≡ t.invs → IsOfMode m f → IsStartOf t m s → joined f (numbered s (drop s xs)) ≡ joined f (numbered 0 t.invs)
found_from_start t xs m s f is h start =
    let from_zero : s ≡ 0 + s = omega arith in
    ap (λ (ys : List Inv). joined f (numbered s (drop s ys))) is
    ∙ ap (λ (k : ℕ). joined f (numbered k (drop s t.invs))) from_zero
    ∙ none_before f 0 s t.invs (λ q x less at. h (0 + q) x (let low = start.below q x less at in grind (arith, nat_tests)))

pub nothing_later : {B : Type 0} (t : Tables) (xs : List Inv) (m e k : ℕ) (f : ℕ × Inv → List B) → xs ≡ t.invs → IsOfMode m f → IsStartOf t (m + 1) e → e ≤ k → joined f (numbered k (drop k xs)) ≡ []
nothing_later t xs m e k f is h end past =
    ap (λ (ys : List Inv). joined f (numbered k (drop k ys))) is
    ∙ none_at_all f k (drop k t.invs) (λ q x at. h (k + q) x (let high = end.above (k + q) x (omega arith) (slice_dropped t.invs k q x at) in grind (arith, nat_tests)))

-- what is put for the invocations of the mode is all
pub all_put : {B : Type 0} (t : Tables) (xs : List Inv) (m e k : ℕ) (f : ℕ × Inv → List B) (new whole : List B) → xs ≡ t.invs → IsOfMode m f → IsStartOf t (m + 1) e → e ≤ k → new ++ joined f (numbered k (drop k xs)) ≡ whole → new ≡ whole
all_put t xs m e k f new whole is h end past going = sym (append-nil new) ∙ ap (λ zs. new ++ zs) (sym (nothing_later t xs m e k f is h end past)) ∙ going

-- ---- what blocks and offsets are made of

pub calls_of_mode : (t : Tables) (m phase o : ℕ) → IsOfMode m (calls_of t m phase o)
calls_of_mode t m phase o k x e = ap (λ (b : Bool). cond (b && is_concrete t x) (map (call_of phase k) (places_at t o 0 (ends_in phase x))) []) e

pub releases_of_mode : (t : Tables) (m o : ℕ) → IsOfMode m (release_of t m o)
releases_of_mode t m o k x e = ap (λ (b : Bool). cond ((b && is_concrete t x) && eqb (release t x) o) (I.Release k ∷ []) []) e

offsets_of_mode : (t : Tables) (m phase : ℕ) → IsOfMode m (λ p. counted_in t m phase p.1)
offsets_of_mode t m phase k x e = ap (λ (b : Bool). cond (b && is_concrete t x) (offsets_in t phase x) []) e

pub offsets_from_start : (t : Tables) (xs : List Inv) (m phase s : ℕ) → xs ≡ t.invs → IsStartOf t m s → joined (counted_in t m phase) (drop s xs) ≡ phase_offsets t m phase
offsets_from_start t xs m phase s is start =
    sym (unnumbered (counted_in t m phase) s (drop s xs))
    ∙ found_from_start t xs m s (λ p. counted_in t m phase p.1) is (offsets_of_mode t m phase) start
    ∙ unnumbered (counted_in t m phase) 0 t.invs

no_offset_later : (t : Tables) (xs : List Inv) (m phase e k : ℕ) → xs ≡ t.invs → IsStartOf t (m + 1) e → e ≤ k → joined (counted_in t m phase) (drop k xs) ≡ []
no_offset_later t xs m phase e k is end past =
    sym (unnumbered (counted_in t m phase) k (drop k xs)) ∙ nothing_later t xs m e k (λ p. counted_in t m phase p.1) is (offsets_of_mode t m phase) end past

-- once the invocations of the mode are passed, the least that was found is the least of all
pub search_ends : (t : Tables) (xs : List Inv) (m phase o e k : ℕ) (best whole : Option ℕ) → xs ≡ t.invs → IsStartOf t (m + 1) e → e ≤ k → sooner best (least_from o (joined (counted_in t m phase) (drop k xs))) ≡ whole → best ≡ whole
search_ends t xs m phase o e k best whole is end past h =
    sym (sooner_none best) ∙ ap (λ zs. sooner best (least_from o zs)) (sym (no_offset_later t xs m phase e k is end past)) ∙ h
