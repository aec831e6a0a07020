-- When a module's rounds begin, and how long they stand.
use Rattle.std.proofs.Common.{◌≡◌, ◌≢◌, ℕ, zero, suc, ◌+◌, ◌*◌, ◌/◌, ◌%◌, ◌≤◌, ◌<◌, ◌⊎◌, Bool, true, false, eqb, List, [], length, slice_get, Option, Some, None, ℤ, refl, sym, ap, ◌∙◌, arith, inl, inr}
use Rattle.htl_refine.proofs.Words.{eqb-true, eq-eqb, ne_eqb, slice_get_within, div-add-mod, mod-lt, add-mul-div_left, div-eq_of_lt, mul-div_cancel_left, Event, Module, Stay, KeptApart, state, stay_of, stays_at, stays_to, next_stay, go_on_or_begin, runs, target, AreInRange, parent_of, Tables, mode_period, mode_module, stay_at, OwnStarts, StaysSince, StaysUntil, item_at, cases_up_to, zero_down, runs_is}
use Rattle.htl_refine.proofs.{OwnPeriods.same_period, OwnPeriods.parent_period, OwnPeriods.some_time, RecordOrder.not_some}
use Rattle.htl_refine.proofs.Standing.{Came, began, turned, stayed, is_there, IsStanding, parent_lower, lower_is, standing_at, stood}

-- ---- when rounds begin

-- a module that is there, is somewhere
begins_or_goes : (t : Tables) (v : List ℤ) (now : ℕ) (x : Module) (old : Option Stay) → (y : Stay) × (go_on_or_begin t v now x old ≡ Some y)
begins_or_goes t v now x None = (record { mode = x.start; start = now }, refl)
begins_or_goes t v now x (Some z) = by_end (eqb now (z.start + mode_period t z.mode))
  where
    by_end : (b : Bool) → (y : Stay) × (◌≡◌ {A = Option Stay} (elim b [ true ↦ Some (record { mode = target t v z.mode; start = now }) | false ↦ Some z ]) (Some y))
    by_end true = (record { mode = target t v z.mode; start = now }, refl)
    by_end false = (z, refl)

module _ (t : Tables) (range : AreInRange t) where
  -- whoever is active goes on from where it was, or begins
  pub next_is : (v : List ℤ) (now : ℕ) (old : List (Option Stay)) (k : ℕ) (x : Module) → slice_get t.modules k ≡ Some x
      → (x.parent ≡ None) ⊎ ((m : ℕ) × (x.parent ≡ Some m) × (runs t (stays_at t v now old) m ≡ true)) → stay_of (stays_at t v now old) k ≡ go_on_or_begin t v now x (stay_of old k)
  next_is v now old k x at h =
      stay_at t v now old (length t.modules) k (slice_get_within t.modules k x at)
      ∙ ap (λ (o : Option Module). elim o [ Some y ↦ next_stay t v now (stays_to t v now old k) y (stay_of old k) | None ↦ None ]) at ∙ by_parent h
    where
      there_now : (p : Option ℕ) → Option Stay
      there_now p = elim p [ None ↦ go_on_or_begin t v now x (stay_of old k) | Some m ↦ elim (runs t (stays_to t v now old k) m) [ true ↦ go_on_or_begin t v now x (stay_of old k) | false ↦ None ] ]

      by_parent : (x.parent ≡ None) ⊎ ((m : ℕ) × (x.parent ≡ Some m) × (runs t (stays_at t v now old) m ≡ true)) → there_now x.parent ≡ go_on_or_begin t v now x (stay_of old k)
      by_parent (inl e) = ap there_now e
      by_parent (inr r) =
          let less : mode_module t r.0 < k = parent_lower t range k r.0 x at r.1 in
          let same : runs t (stays_to t v now old k) r.0 ≡ runs t (stays_at t v now old) r.0 =
          ap (λ (o : Option Stay). elim o [ Some x ↦ eqb x.mode r.0 | None ↦ false ]) (sym (lower_is t v now old k (length t.modules) (mode_module t r.0) less (omega (arith, slice_get_within t.modules k x at)))) in
          ap there_now r.1 ∙ ap (λ b. elim b [ true ↦ go_on_or_begin t v now x (stay_of old k) | false ↦ None ]) (same ∙ r.2)

  active_next : (v : List ℤ) (now : ℕ) (old : List (Option Stay)) (k : ℕ) (x : Module) → slice_get t.modules k ≡ Some x
      → (x.parent ≡ None) ⊎ ((m : ℕ) × (x.parent ≡ Some m) × (runs t (stays_at t v now old) m ≡ true)) → (y : Stay) × (stay_of (stays_at t v now old) k ≡ Some y)
  active_next v now old k x at h = let g = begins_or_goes t v now x (stay_of old k) in (g.0, next_is v now old k x at h ∙ g.1)

  pub active : (es : List Event) (n k : ℕ) (x : Module) → slice_get t.modules k ≡ Some x
      → (x.parent ≡ None) ⊎ ((m : ℕ) × (x.parent ≡ Some m) × (runs t (state t es n).stays m ≡ true)) → (y : Stay) × (stay_of (state t es n).stays k ≡ Some y)
  active es zero k x at h = active_next (state t es 0).values 0 [] k x at h
  active es (suc n) k x at h = active_next (state t es (suc n)).values (suc n) (state t es n).stays k x at h

-- rounds of a period, one after the other
pub goes_on : (p n : ℕ) → 0 < p → suc n ≢ p * (n / p) + p → p * (suc n / p) ≡ p * (n / p)
goes_on p n h d = grind (arith, div-add-mod, mod-lt, add-mul-div_left, div-eq_of_lt)

pub turns : (p n : ℕ) → 0 < p → suc n ≡ p * (n / p) + p → p * (suc n / p) ≡ suc n
turns p n h e = grind (arith, mul-div_cancel_left)

module _ (t : Tables) (range : AreInRange t) (kept : KeptApart t 12) where
  parent_at : (k : ℕ) (x : Module) → slice_get t.modules k ≡ Some x → parent_of t k ≡ x.parent
  parent_at k x at = ap (λ (o : Option Module). elim o [ Some x ↦ x.parent | None ↦ None ]) at

  -- every round that stands began with the last whole period of its module
  pub own_starts : (es : List Event) (n k : ℕ) (y : Stay) → stay_of (state t es n).stays k ≡ Some y → y.start ≡ mode_period t y.mode * (n / mode_period t y.mode)
  own_starts es zero k y e = let th = is_there t (state t es 0).values 0 [] k y e in by_case th.unit th.came
    where
      by_case : (x : Module) → Came t (state t es 0).values 0 x (stay_of [] k) y → y.start ≡ mode_period t y.mode * (0 / mode_period t y.mode)
      by_case x (began o is) = ap (λ (z : Stay). z.start) is ∙ sym (zero_down (mode_period t y.mode))
      by_case x (turned z o h is) = not_some z o
      by_case x (stayed z o h is) = not_some z o
  own_starts es (suc n) k y e = by_bound (suc k) k y (omega arith) e (λ j z f. own_starts es n j z f)
    where
      IH : Type 0
      IH = (j : ℕ) (z : Stay) → stay_of (state t es n).stays j ≡ Some z → z.start ≡ mode_period t z.mode * (n / mode_period t z.mode)

      by_bound : (b k : ℕ) (y : Stay) → k < b → stay_of (state t es (suc n)).stays k ≡ Some y → IH → y.start ≡ mode_period t y.mode * (suc n / mode_period t y.mode)
      by_bound zero k y h e ih = absurd (omega arith)
      by_bound (suc b) k y h e ih =
          let th = is_there t (state t es (suc n)).values (suc n) (state t es n).stays k y e in
          by_case th.unit th.at th.came (λ j z g f. by_bound b j z g f ih)
        where
          here : IsStanding t (state t es (suc n)).stays (suc n)
          here = standing_at t range es (suc n)

          was : IsStanding t (state t es n).stays n
          was = standing_at t range es n

          by_case : (x : Module) → slice_get t.modules k ≡ Some x → Came t (state t es (suc n)).values (suc n) x (stay_of (state t es n).stays k) y
              → ((j : ℕ) (z : Stay) → j < b → stay_of (state t es (suc n)).stays j ≡ Some z → z.start ≡ mode_period t z.mode * (suc n / mode_period t z.mode)) → y.start ≡ mode_period t y.mode * (suc n / mode_period t y.mode)
          by_case x at (turned z o g is) lower =
              let p = mode_period t z.mode in
              let same : mode_period t y.mode ≡ p = same_period t range kept y.mode z.mode k (here.real k y e) (was.real k z o) (here.own k y e) (was.own k z o) in
              let st : z.start ≡ p * (n / p) = ih k z o in
              ap (λ (z : Stay). z.start) is ∙ sym (turns p n (some_time t range kept z.mode (was.real k z o)) (omega (arith, g, st))) ∙ sym (ap (λ q. q * (suc n / q)) same)
          by_case x at (stayed z o g is) lower =
              let p = mode_period t z.mode in
              let st : z.start ≡ p * (n / p) = ih k z o in
              ap (λ (z : Stay). z.start) is ∙ st ∙ sym (goes_on p n (some_time t range kept z.mode (was.real k z o)) (λ f. g (omega (arith, f, st)))) ∙ sym (ap (λ (z : Stay). mode_period t z.mode * (suc n / mode_period t z.mode)) is)
          by_case x at (began o is) lower = by_parent x.parent refl
            where
              -- it was somewhere already
              contradiction : {P : Type 0} → ((z : Stay) × (stay_of (state t es n).stays k ≡ Some z)) → P
              contradiction r = not_some r.0 (sym o ∙ r.1)

              by_parent : (p : Option ℕ) → x.parent ≡ p → y.start ≡ mode_period t y.mode * (suc n / mode_period t y.mode)
              by_parent None p = contradiction (active t range es n k x at (inl p))
              by_parent (Some m) p =
                  let less : mode_module t m < k = parent_lower t range k m x at p in
                  let r = runs_is t (state t es (suc n)).stays m (here.parent k m y e (parent_at k x at ∙ p)) in
                  let period : mode_period t y.mode ≡ mode_period t m = parent_period t range kept y.mode k m (here.real k y e) (here.own k y e) (parent_at k x at ∙ p) in
                  let began_then : r.0.start ≡ mode_period t r.0.mode * (suc n / mode_period t r.0.mode) = lower (mode_module t m) r.0 (omega (arith, less, h)) r.1 in
                  elim (cases_up_to r.0.start (suc n) (here.past (mode_module t m) r.0 r.1)) [
                    | inl q ↦
                        let stood_on : stay_of (state t es n).stays (mode_module t m) ≡ Some r.0 = stood t es (suc n) (mode_module t m) r.0 r.1 q in
                        let ran : runs t (state t es n).stays m ≡ true = ap (λ (o : Option Stay). elim o [ Some x ↦ eqb x.mode m | None ↦ false ]) stood_on ∙ eq-eqb r.0.mode m r.2 in
                        contradiction (active t range es n k x at (inr (m, p, ran)))
                    | inr q ↦
                        ap (λ (z : Stay). z.start) is ∙ sym q ∙ began_then ∙ ap (λ z. mode_period t z * (suc n / mode_period t z)) r.2
                        ∙ sym (ap (λ z. z * (suc n / z)) period)
                  ]

  -- where a module is, it has been since its round began
  pub since : (es : List Event) (n k : ℕ) (y : Stay) → stay_of (state t es n).stays k ≡ Some y → stay_of (state t es y.start).stays k ≡ Some y
  since es zero k y e = ap (λ z. stay_of (state t es z).stays k) (let z : y.start ≡ 0 = omega (arith, (standing_at t range es 0).past k y e) in z) ∙ e
  since es (suc n) k y e = by_order (cases_up_to y.start (suc n) ((standing_at t range es (suc n)).past k y e)) (λ f. since es n k y f)
    where
      by_order : (y.start < suc n) ⊎ (y.start ≡ suc n) → (stay_of (state t es n).stays k ≡ Some y → stay_of (state t es y.start).stays k ≡ Some y) → stay_of (state t es y.start).stays k ≡ Some y
      by_order (inl less) ih = ih (stood t es (suc n) k y e less)
      by_order (inr same) ih = ap (λ z. stay_of (state t es z).stays k) same ∙ e

  -- and it stays until the round is over
  on_next : (es : List Event) (n k : ℕ) (y : Stay) → stay_of (state t es n).stays k ≡ Some y → suc n < y.start + mode_period t y.mode → stay_of (state t es (suc n)).stays k ≡ Some y
  on_next es n k y e open_yet = by_bound (suc k) k y (omega arith) e open_yet
    where
      by_bound : (b k : ℕ) (y : Stay) → k < b → stay_of (state t es n).stays k ≡ Some y → suc n < y.start + mode_period t y.mode → stay_of (state t es (suc n)).stays k ≡ Some y
      by_bound zero k y h e less = absurd (omega arith)
      by_bound (suc b) k y h e less =
          let st = standing_at t range es n in
          let x = item_at t.modules k (st.known k y e) in
          let not_over : eqb (suc n) (y.start + mode_period t y.mode) ≡ false = ne_eqb (suc n) (y.start + mode_period t y.mode) (λ f. omega (arith, f, less)) in
          next_is t range (state t es (suc n)).values (suc n) (state t es n).stays k x.0 x.1 (by_parent x.0 x.1 st x.0.parent refl (λ j z g f l. by_bound b j z g f l))
          ∙ ap (go_on_or_begin t (state t es (suc n)).values (suc n) x.0) e
          ∙ ap (λ c. elim c [ true ↦ Some (record { mode = target t (state t es (suc n)).values y.mode; start = suc n }) | false ↦ Some y ]) not_over
        where
          by_parent : (x : Module) → slice_get t.modules k ≡ Some x → IsStanding t (state t es n).stays n → (p : Option ℕ) → x.parent ≡ p
              → ((j : ℕ) (z : Stay) → j < b → stay_of (state t es n).stays j ≡ Some z → suc n < z.start + mode_period t z.mode → stay_of (state t es (suc n)).stays j ≡ Some z)
              → (x.parent ≡ None) ⊎ ((m : ℕ) × (x.parent ≡ Some m) × (runs t (state t es (suc n)).stays m ≡ true))
          by_parent x at st None p lower = inl p
          by_parent x at st (Some m) p lower =
              let r = runs_is t (state t es n).stays m (st.parent k m y e (parent_at k x at ∙ p)) in
              let small : mode_module t m < k = parent_lower t range k m x at p in
              let period : mode_period t y.mode ≡ mode_period t r.0.mode = parent_period t range kept y.mode k m (st.real k y e) (st.own k y e) (parent_at k x at ∙ p) ∙ ap (mode_period t) (sym r.2) in
              let same : y.start ≡ r.0.start = (own_starts es n k y e) ∙ ap (λ z. z * (n / z)) period ∙ sym (own_starts es n (mode_module t m) r.0 r.1) in
              let on : stay_of (state t es (suc n)).stays (mode_module t m) ≡ Some r.0 = lower (mode_module t m) r.0 (omega (arith, small, h)) r.1 (omega (arith, less, same, period)) in
              inr (m, p, ap (λ (o : Option Stay). elim o [ Some x ↦ eqb x.mode m | None ↦ false ]) on ∙ eq-eqb r.0.mode m r.2)

  pub until : (es : List Event) (s d k : ℕ) (y : Stay) → stay_of (state t es s).stays k ≡ Some y → s + d < y.start + mode_period t y.mode → stay_of (state t es (s + d)).stays k ≡ Some y
  until es s zero k y e less = ap (λ z. stay_of (state t es z).stays k) (let z : s + 0 ≡ s = omega arith in z) ∙ e
  until es s (suc d) k y e less =
      let z : s + suc d ≡ suc (s + d) = omega arith in
      ap (λ m. stay_of (state t es m).stays k) z ∙ on_next es (s + d) k y (until es s d k y e (omega (arith, less))) (omega (arith, less))

pub all_own_starts : OwnStarts
all_own_starts t es n k y range kept e = own_starts t range kept es n k y e

pub stays_since : StaysSince
stays_since t es n k y range kept e = since t range kept es n k y e

pub stays_until : StaysUntil
stays_until t es s d k y range kept e less = until t range kept es s d k y e less
