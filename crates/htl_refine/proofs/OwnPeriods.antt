-- Each module has a period of its own, that of its root module.
use Rattle.std.proofs.Common.{◌≡◌, ◌≢◌, ℕ, zero, suc, ◌+◌, ◌<◌, Bool, true, false, cond, eqb, List, [], ◌∷◌, length, slice_get, Option, Some, None, option_map, refl, sym, ap, ◌∙◌, arith}
use Rattle.htl_refine.proofs.Words.{eqb-true, eq-eqb, Mode, ModulePeriod, Itself, KeptApart, places_from, first_mode, asked_period, AreInRange, IsModeInRange, parent_of, mode_of_module, Tables, mode_period, mode_module, each_at, item_at, period_at, same_Some, module_is}
use Rattle.htl_refine.proofs.RecordOrder.{not_some}

-- the places of the items that pass a test
pub places_first : {A : Type 0} (p : A → Bool) (q d : ℕ) (xs : List A) (x : A) → slice_get xs d ≡ Some x → p x ≡ true
    → (k j : ℕ) × (slice_get (places_from p q xs) 0 ≡ Some k) × (k ≡ q + j) × (y : A) × (slice_get xs j ≡ Some y) × (p y ≡ true)
places_first p q d [] x at pass = not_some x at
places_first {A} p q zero (y ∷ xs) x at pass =
    let h : p y ≡ true = ap p (same_Some _ _ at) ∙ pass in
    (q, 0, ap (λ b. slice_get (cond b (q ∷ places_from p (suc q) xs) (places_from p (suc q) xs)) 0) h, omega arith, y, refl, h)
places_first {A} p q (suc d) (y ∷ xs) x at pass = by_test (p y) refl (places_first p (suc q) d xs x at pass)
  where
    by_test : (b : Bool) → p y ≡ b
        → ((k j : ℕ) × (slice_get (places_from p (suc q) xs) 0 ≡ Some k) × (k ≡ suc q + j) × (z : A) × (slice_get xs j ≡ Some z) × (p z ≡ true))
        → (k j : ℕ) × (slice_get (cond b (q ∷ places_from p (suc q) xs) (places_from p (suc q) xs)) 0 ≡ Some k) × (k ≡ q + j) × (z : A) × (slice_get (y ∷ xs) j ≡ Some z) × (p z ≡ true)
    by_test true is r = (q, 0, refl, omega arith, y, refl, is)
    by_test false is r = (r.0, suc r.1, r.2, omega (arith, r.3), r.4, r.5, r.6)

pub same_or : (a b : ℕ) → (a ≢ b → ⊥) → a ≡ b
same_or a b h = grind (arith, eqb-true, eq-eqb)

module _ (t : Tables) (range : AreInRange t) (kept : KeptApart t 12) where
  -- a mode has the period that is asked of its module
  as_asked : (m p : ℕ) (x : Mode) → slice_get t.modes m ≡ Some x → asked_period t x.«module» ≡ Some p → x.period ≡ p
  as_asked m p x at asked =
      same_or x.period p (λ differ. kept ModulePeriod (record { mode = m; inv = None; part = Itself }) x.period p (omega arith) (λ e. omega (arith, e)) (x, at, (refl, asked, differ)))

  -- so any mode of a module tells it
  pub period_asked : (m k : ℕ) → m < length t.modes → mode_module t m ≡ k → asked_period t k ≡ Some (mode_period t m)
  period_asked m k h own = by_mode (item_at t.modes m h).0 (item_at t.modes m h).1
    where
      by_mode : (x : Mode) → slice_get t.modes m ≡ Some x → asked_period t k ≡ Some (mode_period t m)
      by_mode x at = by_parent (parent_of t k) refl
        where
          unit : x.«module» ≡ k
          unit = sym (module_is t m x at) ∙ own

          told : (p : ℕ) → asked_period t k ≡ Some p → asked_period t k ≡ Some (mode_period t m)
          told p asked = asked ∙ ap (λ z. Some z) (sym (period_at t m x at ∙ as_asked m p x at (ap (asked_period t) unit ∙ asked)))

          by_parent : (o : Option ℕ) → parent_of t k ≡ o → asked_period t k ≡ Some (mode_period t m)
          by_parent (Some q) is =
              told (mode_period t q) (ap (λ (o : Option ℕ). elim o [ Some p ↦ Some (mode_period t p) | None ↦ option_map (mode_period t) (first_mode t k) ]) is)
          by_parent None is =
              let first = places_first (mode_of_module k) 0 m t.modes x at (eq-eqb x.«module» k unit) in
              told (mode_period t first.0)
              (ap (λ (o : Option ℕ). elim o [ Some p ↦ Some (mode_period t p) | None ↦ option_map (mode_period t) (first_mode t k) ]) is ∙ ap (option_map (mode_period t)) first.2)

  pub same_period : (m q k : ℕ) → m < length t.modes → q < length t.modes → mode_module t m ≡ k → mode_module t q ≡ k → mode_period t m ≡ mode_period t q
  same_period m q k a b e f = same_Some _ _ (sym (period_asked m k a e) ∙ period_asked q k b f)

  -- a module that refines a mode has the mode's period
  pub parent_period : (m k q : ℕ) → m < length t.modes → mode_module t m ≡ k → parent_of t k ≡ Some q → mode_period t m ≡ mode_period t q
  parent_period m k q a e parent =
      same_Some _ _ (sym (period_asked m k a e) ∙ ap (λ (o : Option ℕ). elim o [ Some p ↦ Some (mode_period t p) | None ↦ option_map (mode_period t) (first_mode t k) ]) parent)

  pub some_time : (m : ℕ) → m < length t.modes → 0 < mode_period t m
  some_time m h =
      let x = item_at t.modes m h in
      omega (arith, period_at t m x.0 x.1, (each_at (IsModeInRange t) t.modes range.modes m x.0 x.1).period.some)
