-- Where a module is, by where it was: the laws that every instant keeps.
use Rattle.std.proofs.Common.{◌≡◌, ◌≢◌, ℕ, zero, suc, ◌+◌, ◌≤◌, ◌<◌, Bool, true, false, eqb, List, [], length, slice_get, Option, Some, None, IfSome, ℤ, refl, sym, ap, ◌∙◌, subst, arith, ◌⊎◌, inl, inr}
use Rattle.htl_refine.proofs.Words.{eqb-true, eqb-false, cases_lt, slice_get_within, slice_get_past, same_Some, Event, Mode, Module, Stay, state, before, stay_of, stays_at, stays_to, next_stay, go_on_or_begin, runs, target, AreInRange, IsModeThat, parent_of, IsModeOf, Tables, mode_period, mode_module, stay_at, length-stays_to}
use Rattle.htl_refine.proofs.{RecordOrder.not_some, StateLaws.IsOwn, StateLaws.state_own}

-- how a module came to where it is, from where it was
pub data Came (t : Tables) (v : List ℤ) (now : ℕ) (x : Module) (old : Option Stay) (y : Stay) : Type 0 where
  began : old ≡ None → y ≡ record { mode = x.start; start = now } → Came t v now x old y
  turned : (z : Stay) → old ≡ Some z → now ≡ z.start + mode_period t z.mode → y ≡ record { mode = target t v z.mode; start = now } → Came t v now x old y
  stayed : (z : Stay) → old ≡ Some z → now ≢ z.start + mode_period t z.mode → y ≡ z → Came t v now x old y

came : (t : Tables) (v : List ℤ) (now : ℕ) (x : Module) (old : Option Stay) (y : Stay) → go_on_or_begin t v now x old ≡ Some y → Came t v now x old y
came t v now x None y e = began refl (sym (same_Some _ _ e))
came t v now x (Some z) y e = by_end (eqb now (z.start + mode_period t z.mode)) refl e
  where
    by_end : (b : Bool) → eqb now (z.start + mode_period t z.mode) ≡ b
        → ◌≡◌ {A = Option Stay} (elim b [ true ↦ Some (record { mode = target t v z.mode; start = now }) | false ↦ Some z ]) (Some y) → Came t v now x (Some z) y
    by_end true h e = turned z refl (eqb-true now (z.start + mode_period t z.mode) h) (sym (same_Some _ _ e))
    by_end false h e = stayed z refl (eqb-false now (z.start + mode_period t z.mode) h) (sym (same_Some _ _ e))

-- where module k is, as the module x of the tables; with the mode that it refines running
pub record IsThere (t : Tables) (v : List ℤ) (now : ℕ) (old : List (Option Stay)) (k : ℕ) (y : Stay) : Type 0 where
  pub unit : Module
  pub at : slice_get t.modules k ≡ Some unit
  pub came : Came t v now unit (stay_of old k) y
  pub parent : (m : ℕ) → unit.parent ≡ Some m → runs t (stays_to t v now old k) m ≡ true

opened : Option (Option Stay) → Option Stay
opened o = elim o [ Some x ↦ x | None ↦ None ]

pub known_unit : (t : Tables) (v : List ℤ) (now : ℕ) (old : List (Option Stay)) (k : ℕ) (y : Stay) → stay_of (stays_at t v now old) k ≡ Some y → k < length t.modules
unfolding opened
known_unit t v now old k y e = grind (arith, cases_lt, not_some, opened, slice_get_past, length-stays_to)

pub is_there : (t : Tables) (v : List ℤ) (now : ℕ) (old : List (Option Stay)) (k : ℕ) (y : Stay) → stay_of (stays_at t v now old) k ≡ Some y → IsThere t v now old k y
is_there t v now old k y e = by_unit (slice_get t.modules k) refl (sym (stay_at t v now old (length t.modules) k (known_unit t v now old k y e)) ∙ e)
  where
    by_parent : (x : Module) → slice_get t.modules k ≡ Some x → (p : Option ℕ) → x.parent ≡ p
        → ◌≡◌ {A = Option Stay} (elim p [ None ↦ go_on_or_begin t v now x (stay_of old k) | Some m ↦ elim (runs t (stays_to t v now old k) m) [ true ↦ go_on_or_begin t v now x (stay_of old k) | false ↦ None ] ]) (Some y) → IsThere t v now old k y
    by_parent x at None is e = record { unit = x; at = at; came = came t v now x (stay_of old k) y e; parent = λ m f. not_some m (sym is ∙ f) }
    by_parent x at (Some m) is e = by_run (runs t (stays_to t v now old k) m) refl e
      where
        by_run : (b : Bool) → runs t (stays_to t v now old k) m ≡ b → ◌≡◌ {A = Option Stay} (elim b [ true ↦ go_on_or_begin t v now x (stay_of old k) | false ↦ None ]) (Some y) → IsThere t v now old k y
        by_run true r e =
            record {
              unit = x;
              at = at;
              came = came t v now x (stay_of old k) y e;
              parent = λ q f. subst (λ z. runs t (stays_to t v now old k) z ≡ true) (same_Some _ _ (sym is ∙ f)) r;
            }
        by_run false r e = not_some y e

    by_unit : (o : Option Module) → slice_get t.modules k ≡ o
        → ◌≡◌ {A = Option Stay} (elim o [ Some x ↦ next_stay t v now (stays_to t v now old k) x (stay_of old k) | None ↦ None ]) (Some y) → IsThere t v now old k y
    by_unit None is e = not_some y e
    by_unit (Some x) is e = by_parent x is x.parent refl e

-- ---- what every instant keeps

pub record IsStanding (t : Tables) (stays : List (Option Stay)) (now : ℕ) : Type 0 where
  pub real : (k : ℕ) (y : Stay) → stay_of stays k ≡ Some y → y.mode < length t.modes
  -- the mode is one of the module
  pub own : (k : ℕ) (y : Stay) → stay_of stays k ≡ Some y → mode_module t y.mode ≡ k
  pub past : (k : ℕ) (y : Stay) → stay_of stays k ≡ Some y → y.start ≤ now
  -- the mode that the module refines runs
  pub parent : (k m : ℕ) (y : Stay) → stay_of stays k ≡ Some y → parent_of t k ≡ Some m → runs t stays m ≡ true
  pub known : (k : ℕ) (y : Stay) → stay_of stays k ≡ Some y → k < length t.modules

-- the module of a lower number is where it is in the end
pub lower_is : (t : Tables) (v : List ℤ) (now : ℕ) (old : List (Option Stay)) (k n j : ℕ) → j < k → k ≤ n → stay_of (stays_to t v now old n) j ≡ stay_of (stays_to t v now old k) j
lower_is t v now old k n j h g = stay_at t v now old n j (omega arith) ∙ sym (stay_at t v now old k j h)

module _ (t : Tables) (range : AreInRange t) where
  owner_of : (m k : ℕ) → IsModeThat t (λ owner. owner < k) m → mode_module t m < k
  owner_of m k h = subst (λ o. o < k) (sym (ap (λ (o : Option Mode). elim o [ Some x ↦ x.«module» | None ↦ 0 ]) h.1)) h.2

  -- a module refines a mode of a module of lower number
  pub parent_lower : (k m : ℕ) (x : Module) → slice_get t.modules k ≡ Some x → x.parent ≡ Some m → mode_module t m < k
  parent_lower k m x e p = owner_of m k (subst (λ o. IfSome o (IsModeThat t (λ owner. owner < k))) p (range.modules k x e).parent)

  module _ (v : List ℤ) (now : ℕ) (old : List (Option Stay)) where
    past_next : (n : ℕ) → n ≤ now → ((k : ℕ) (y : Stay) → stay_of old k ≡ Some y → y.start ≤ n) → (k : ℕ) (y : Stay) → stay_of (stays_at t v now old) k ≡ Some y → y.start ≤ now
    past_next n later were k y e = let th = is_there t v now old k y e in by_case th.unit th.came
      where
        by_case : (x : Module) → Came t v now x (stay_of old k) y → y.start ≤ now
        by_case x (began o is) = omega (arith, ap (λ (z : Stay). z.start) is)
        by_case x (turned z o h is) = omega (arith, ap (λ (z : Stay). z.start) is)
        by_case x (stayed z o h is) = omega (arith, ap (λ (z : Stay). z.start) is, were k z o, later)

    parent_next : (k m : ℕ) (y : Stay) → stay_of (stays_at t v now old) k ≡ Some y → parent_of t k ≡ Some m → runs t (stays_at t v now old) m ≡ true
    parent_next k m y e p =
        let th = is_there t v now old k y e in
        let is : th.unit.parent ≡ Some m = sym (ap (λ (o : Option Module). elim o [ Some x ↦ x.parent | None ↦ None ]) th.at) ∙ p in
        let less : mode_module t m < k = parent_lower k m th.unit th.at is in
        ap (λ (o : Option Stay). elim o [ Some x ↦ eqb x.mode m | None ↦ false ])
        (lower_is t v now old k (length t.modules) (mode_module t m) less (omega (arith, slice_get_within t.modules k th.unit th.at)))
        ∙ th.parent m is

    standing_next : (past : (k : ℕ) (y : Stay) → stay_of (stays_at t v now old) k ≡ Some y → y.start ≤ now) → ((k : ℕ) → k < length t.modules → IsOwn t range k (stay_of (stays_at t v now old) k)) → IsStanding t (stays_at t v now old) now
    standing_next past owns =
        record {
          real = λ k y e. let m = mine k y e in slice_get_within t.modes y.mode m.0 m.1;
          own = λ k y e. let m = mine k y e in ap (λ (o : Option Mode). elim o [ Some x ↦ x.«module» | None ↦ 0 ]) m.1 ∙ m.2;
          past = past;
          parent = parent_next;
          known = λ k y e. known_unit t v now old k y e;
        }
      where
        mine : (k : ℕ) (y : Stay) → stay_of (stays_at t v now old) k ≡ Some y → IsModeOf t k y.mode
        mine k y e = subst (IsOwn t range k) e (owns k (known_unit t v now old k y e))

  past_at : (es : List Event) (n k : ℕ) (y : Stay) → stay_of (state t es n).stays k ≡ Some y → y.start ≤ n
  past_at es zero k y e = past_next (state t es 0).values 0 [] 0 (omega arith) (λ j z f. not_some z f) k y e
  past_at es (suc n) k y e = past_next (state t es (suc n)).values (suc n) (state t es n).stays n (omega arith) (past_at es n) k y e

  pub standing_at : (es : List Event) (n : ℕ) → IsStanding t (state t es n).stays n
  standing_at es zero = standing_next (state t es 0).values 0 [] (past_at es 0) (state_own t range es 0)
  standing_at es (suc n) = standing_next (state t es (suc n)).values (suc n) (state t es n).stays (past_at es (suc n)) (state_own t range es (suc n))

-- a round that goes on is that of the instant before
pub stood : (t : Tables) (es : List Event) (now k : ℕ) (y : Stay) → stay_of (state t es now).stays k ≡ Some y → y.start < now → stay_of (before t es now).stays k ≡ Some y
stood t es zero k y e h = absurd (omega arith)
stood t es (suc n) k y e h = let th = is_there t (state t es (suc n)).values (suc n) (state t es n).stays k y e in by_case th.unit th.came
  where
    by_case : (x : Module) → Came t (state t es (suc n)).values (suc n) x (stay_of (state t es n).stays k) y → stay_of (state t es n).stays k ≡ Some y
    by_case x (began o is) = absurd (omega (arith, ap (λ (z : Stay). z.start) is))
    by_case x (turned z o g is) = absurd (omega (arith, ap (λ (z : Stay). z.start) is))
    by_case x (stayed z o g is) = o ∙ ap (λ z. Some z) (sym is)
