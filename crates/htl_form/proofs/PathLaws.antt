-- Which modes can stand together, by their paths.
use Rattle.std.proofs.Common.{◌≡◌, ◌≢◌, ℕ, zero, suc, Bool, true, false, not, ◌&&◌, eqb, [], Option, Some, None, refl, sym, ◌∙◌, ap, arith, inl, inr}
use Rattle.htl_form.proofs.Words.{slice_get, list_any, nat_tests, Module, AreInRange, parent_of, is_within, parent_mode, OnPath, itself, above, StandTogether, Tables, mode_module, eqb-true, or_cases, or_left, or_right, eqb_apart}
use Rattle.htl_form.specs.WriterFaults.{path, are_rivals, has_rival, stand_together}

-- ---- the modes of a path

-- a mode of the path that passes a test makes the list pass it
path_passes : (t : Tables) (test : ℕ → Bool) (n m x : ℕ) → OnPath t m x → is_within n t (parent_mode t m) ≡ true → test x ≡ true → list_any test (path (suc n) t m) ≡ true
path_passes t test n m x (itself _) within h = or_left (test m) _ h
path_passes t test zero m x (above _ p _ up q) within h = absurd (let no : false ≡ true = sym (ap (is_within 0 t) up) ∙ within in cc)
path_passes t test (suc n) m x (above _ p _ up q) within h =
    let later : list_any test (path (suc n) t p) ≡ true = path_passes t test n p x q (sym (ap (is_within (suc n) t) up) ∙ within) h in
    or_right (test m) _ (ap (λ (o : Option ℕ). list_any test (elim o [ Some y ↦ path (suc n) t y | None ↦ [] ])) up ∙ later)

-- and a list that passes it has such a mode
passes_path : (t : Tables) (test : ℕ → Bool) (n m : ℕ) → list_any test (path n t m) ≡ true → (x : ℕ) × OnPath t m x × (test x ≡ true)
passes_path t test zero m h = cc
passes_path t test (suc n) m h =
    elim (or_cases (test m) _ h) [
      | inl here ↦ (m, itself m, here)
      | inr later ↦ by (parent_mode t m) refl (λ p e. passes_path t test n p e) later
    ]
  where
    by : (o : Option ℕ) → parent_mode t m ≡ o → ((p : ℕ) → list_any test (path n t p) ≡ true → (x : ℕ) × OnPath t p x × (test x ≡ true))
        → list_any test (elim o [ Some y ↦ path n t y | None ↦ [] ]) ≡ true → (x : ℕ) × OnPath t m x × (test x ≡ true)
    by (Some p) up down h = let r = down p h in (r.0, above m p r.0 up r.1, r.2)
    by None up down h = cc

-- ---- how long the paths are

module_within : (t : Tables) → AreInRange t → (u : ℕ) → is_within 7 t (parent_of t u) ≡ true
module_within t r u = by (slice_get t.modules u) refl
  where
    by : (o : Option Module) → slice_get t.modules u ≡ o → is_within 7 t (parent_of t u) ≡ true
    by (Some x) at = ap (λ (o : Option Module). is_within 7 t (elim o [ Some y ↦ y.parent | None ↦ None ])) at ∙ (r.modules u x at).levels
    by None at = ap (λ (o : Option Module). is_within 7 t (elim o [ Some y ↦ y.parent | None ↦ None ])) at

-- ---- two modes that can stand together

rivals_true : (t : Tables) (x y : ℕ) → mode_module t x ≡ mode_module t y → x ≢ y → are_rivals t x y ≡ true
rivals_true t x y same apart = by (mode_module t x) (mode_module t y) same
  where
    by : (a b : ℕ) → a ≡ b → (eqb a b && not (eqb x y)) ≡ true
    by a b e = grind (arith, nat_tests)

true_rivals : (t : Tables) (x y : ℕ) → are_rivals t x y ≡ true → (mode_module t x ≡ mode_module t y) × (x ≢ y)
true_rivals t x y h = by (mode_module t x) (mode_module t y) h
  where
    by : (a b : ℕ) → (eqb a b && not (eqb x y)) ≡ true → (a ≡ b) × (x ≢ y)
    by a b h = (grind (arith, nat_tests), grind (arith, nat_tests))

off : (b : Bool) → not b ≡ true → b ≡ true → ⊥
off true h e = cc
off false h e = cc

pub together_true : (t : Tables) (a b : ℕ) → AreInRange t → stand_together t a b ≡ true → StandTogether t a b
unfolding stand_together
together_true t a b r h = λ x y on_a on_b same. by x y on_a on_b same (eqb x y) refl
  where
    by : (x y : ℕ) → OnPath t a x → OnPath t b y → mode_module t x ≡ mode_module t y → (c : Bool) → eqb x y ≡ c → x ≡ y
    by x y on_a on_b same true e = eqb-true x y e
    by x y on_a on_b same false e =
        absurd (off _ h (path_passes t (has_rival t (path 8 t b)) 7 a x on_a (module_within t r (mode_module t a))
        (path_passes t (are_rivals t x) 7 b y on_b (module_within t r (mode_module t b)) (rivals_true t x y same (eqb_apart x y e)))))

pub true_together : (t : Tables) (a b : ℕ) → StandTogether t a b → stand_together t a b ≡ true
unfolding stand_together
true_together t a b h = by (list_any (has_rival t (path 8 t b)) (path 8 t a)) refl
  where
    by : (c : Bool) → list_any (has_rival t (path 8 t b)) (path 8 t a) ≡ c → not c ≡ true
    by false e = refl
    by true e =
        let x = passes_path t (has_rival t (path 8 t b)) 8 a e in
        let y = passes_path t (are_rivals t x.0) 8 b x.2 in
        let rival = true_rivals t x.0 y.0 y.2 in
        absurd (rival.1 (h x.0 y.0 x.1 y.1 rival.0))

-- two different modes of one module can't
pub rivals_apart : (t : Tables) (a b : ℕ) → mode_module t a ≡ mode_module t b → a ≢ b → stand_together t a b ≡ true → ⊥
unfolding stand_together
rivals_apart t a b same apart h =
    off _ h (or_left (has_rival t (path 8 t b) a) _ (or_left (are_rivals t a b) _ (rivals_true t a b same apart)))
