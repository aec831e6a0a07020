-- The modes in which the modules are at an instant are a selection of running modes.
use Rattle.std.proofs.Common.{◌≡◌, ℕ, zero, suc, ◌+◌, ◌<◌, Bool, true, false, ◌&&◌, cond, eqb, List, [], ◌∷◌, length, map, Option, Some, None, IfSome, ℤ, refl, sym, ◌∙◌, ap, subst, arith}
use Rattle.htl_refine.proofs.Words.{length-map, slice_get_within, none-some, Event, Mode, Module, Switch, Stay, state, module_stay, stay_of, stays_to, next_stay, go_on_or_begin, runs, target, target_from, switch_holds, AreInRange, IsModeThat, IsSwitchInRange, entry, is_at, is_running, IsModeOf, is_active, IsEntry, IsSelection, Tables, mode_module, mode_period, stay_at, length-stays_to, modes_at, all_at, item_at, and_parts, eqb-true, true_not_false, slice_get, option_map}
use Rattle.htl_refine.proofs.SelectedLaws.{active_is}

abbrev pub mode_in : Option Stay → Option ℕ
mode_in o = option_map (λ (y : Stay). y.mode) o

pub entry_is : (stays : List (Option Stay)) (u : ℕ) → entry (map (λ (o : Option Stay). mode_in o) stays) u ≡ mode_in (stay_of stays u)
entry_is (x ∷ xs) (suc u) = entry_is xs u
entry_is _ _ = refl

module _ (t : Tables) (range : AreInRange t) where
  -- the mode of a stay is one of the module
  abbrev pub IsOwn : ℕ → Option Stay → Type 0
  IsOwn u (Some y) = IsModeOf t u y.mode
  IsOwn u None = Unit {0}

  -- a switch goes to a mode of its own module
  target_own : (v : List ℤ) (u m k : ℕ) (ws : List Switch) → ((j : ℕ) (w : Switch) → slice_get ws j ≡ Some w → IsSwitchInRange t w) → IsModeOf t u m → IsModeOf t u (target_from t v m k ws)
  target_own v u m k [] each own = own
  target_own v u m k (w ∷ ws) each own = by (eqb w.mode m && switch_holds t v k w) refl (target_own v u m (suc k) ws (λ j x at. each (suc j) x at) own)
    where
      by : (b : Bool) → (eqb w.mode m && switch_holds t v k w) ≡ b → IsModeOf t u (target_from t v m (suc k) ws) → IsModeOf t u (cond b w.target (target_from t v m (suc k) ws))
      by true e later =
          let that : IsModeThat t (λ owner. owner ≡ mode_module t w.mode) w.target = (each 0 w refl).target in
          let owner : mode_module t m ≡ own.0.«module» = ap (λ (o : Option Mode). elim o [ Some y ↦ y.«module» | None ↦ 0 ]) own.1 in
          (that.0, that.1, that.2 ∙ ap (mode_module t) (eqb-true w.mode m (and_parts (eqb w.mode m) (switch_holds t v k w) e).0) ∙ owner ∙ own.2)
      by false e later = later

  -- where an active module goes on or begins
  goes_on : (v : List ℤ) (now : ℕ) (u : ℕ) (x : Module) → slice_get t.modules u ≡ Some x → (o : Option Stay) → IsOwn u o → (y : Stay) × (go_on_or_begin t v now x o ≡ Some y) × IsModeOf t u y.mode
  goes_on v now u x at None own = (record { mode = x.start; start = now }, refl, (range.modules u x at).start)
  goes_on v now u x at (Some y) own = by (eqb now (y.start + mode_period t y.mode))
    where
      by : (b : Bool) → (z : Stay) × (elim b as (λ _. Option Stay) [ true ↦ Some (record { mode = target t v y.mode; start = now }) | false ↦ Some y ] ≡ Some z) × IsModeOf t u z.mode
      by true =
          (record { mode = target t v y.mode; start = now }, refl, target_own v u y.mode 0 t.switches (λ j w e. all_at (IsSwitchInRange t) t.switches j w range.switches e) own)
      by false = (y, refl, own)

  -- the stay that the modules below give
  module _ (v : List ℤ) (now : ℕ) (modes : List (Option ℕ)) (lower : List (Option Stay)) (u : ℕ) (x : Module) (at : slice_get t.modules u ≡ Some x) where
    abbrev IsRight : Option ℕ → Option Stay → Type 0
    IsRight p o = IsOwn u o × IsEntry t modes u p (mode_in o)

    active : (p : Option ℕ) (o : Option Stay) → is_active t modes p ≡ true → (y : Stay) × (o ≡ Some y) × IsModeOf t u y.mode → IsRight p o
    active p (Some z) e h = grind (arith, active_is)
    active p None e h = absurd (none-some h.0 h.1)

    inactive : (p : Option ℕ) → is_active t modes p ≡ false → IsRight p None
    inactive p e = (tt, λ a. true_not_false (is_active t modes p) ((active_is t modes p).1 a) e)

    right : (old : Option Stay) → IsOwn u old → ((m : ℕ) → x.parent ≡ Some m → runs t lower m ≡ is_running t modes m) → IsRight x.parent (next_stay t v now lower x old)
    right old own agree = by x.parent refl
      where
        by_runs : (m : ℕ) (b : Bool) → is_running t modes m ≡ b → IsRight (Some m) (elim b as (λ _. Option Stay) [ true ↦ go_on_or_begin t v now x old | false ↦ None ])
        by_runs m true e = active (Some m) (go_on_or_begin t v now x old) e (goes_on v now u x at old own)
        by_runs m false e = inactive (Some m) e

        by : (p : Option ℕ) → x.parent ≡ p
            → IsRight p (elim p as (λ _. Option Stay) [ None ↦ go_on_or_begin t v now x old | Some m ↦ elim (runs t lower m) as (λ _. Option Stay) [ true ↦ go_on_or_begin t v now x old | false ↦ None ] ])
        by None e = active None (go_on_or_begin t v now x old) refl (goes_on v now u x at old own)
        by (Some m) e =
            subst (λ b. IsRight (Some m) (elim b as (λ _. Option Stay) [ true ↦ go_on_or_begin t v now x old | false ↦ None ])) (sym (agree m e)) (by_runs m (is_running t modes m) refl)

  running_same : (stays : List (Option Stay)) (m : ℕ) → runs t stays m ≡ is_running t (map (λ (o : Option Stay). mode_in o) stays) m
  running_same stays m = grind (arith, entry_is)

  -- the stays of an instant, by those of the instant before
  module _ (v : List ℤ) (now : ℕ) (old : List (Option Stay)) (own : (u : ℕ) → u < length t.modules → IsOwn u (stay_of old u)) where
    stays : List (Option Stay)
    stays = stays_to t v now old (length t.modules)

    lower_same : (u m : ℕ) (x : Module) → slice_get t.modules u ≡ Some x → x.parent ≡ Some m → runs t (stays_to t v now old u) m ≡ runs t stays m
    unfolding stays
    lower_same u m x at parent =
        let within : u < length t.modules = slice_get_within t.modules u x at in
        let k = mode_module t m in
        let less : k < u = below_parent u m x at parent in
        ap (λ (o : Option Stay). elim o as (λ _. Bool) [ Some y ↦ eqb y.mode m | None ↦ false ])
        (stay_at t v now old u k less ∙ sym (stay_at t v now old (length t.modules) k (omega arith)))
      where
        below_parent : (u m : ℕ) (x : Module) → slice_get t.modules u ≡ Some x → x.parent ≡ Some m → mode_module t m < u
        below_parent u m x at parent =
            let that : IsModeThat t (λ owner. owner < u) m = subst (λ o. IfSome o (IsModeThat t (λ owner. owner < u))) parent (range.modules u x at).parent in
            let owner : mode_module t m ≡ that.0.«module» = ap (λ (o : Option Mode). elim o [ Some y ↦ y.«module» | None ↦ 0 ]) that.1 in
            omega (arith, owner, that.2)

    stay_right : (u : ℕ) (x : Module) → slice_get t.modules u ≡ Some x
        → IsOwn u (stay_of stays u) × IsEntry t (map (λ (o : Option Stay). mode_in o) stays) u x.parent (mode_in (stay_of stays u))
    unfolding stays
    stay_right u x at =
        let modes = map (λ (o : Option Stay). mode_in o) stays in
        let lower = stays_to t v now old u in
        let within : u < length t.modules = slice_get_within t.modules u x at in
        let is : stay_of stays u ≡ next_stay t v now lower x (stay_of old u) =
        stay_at t v now old (length t.modules) u within ∙ ap (λ o. elim o as (λ _. Option Stay) [ Some y ↦ next_stay t v now lower y (stay_of old u) | None ↦ None ]) at in
        subst (λ o. IsOwn u o × IsEntry t modes u x.parent (mode_in o)) (sym is)
        (right v now modes lower u x at (stay_of old u) (own u within) (λ m parent. lower_same u m x at parent ∙ running_same stays m))

    selection : IsSelection t (map (λ (o : Option Stay). mode_in o) stays)
    unfolding stays
    selection = grind (arith, length-map, stays, length-stays_to, entry_is, stay_right)

  -- at each instant
  pub state_own : (es : List Event) (now u : ℕ) → u < length t.modules → IsOwn u (module_stay t es u now)
  unfolding stays
  state_own es zero u within = let x = item_at t.modules u within in (stay_right (state t es 0).values 0 [] (λ w h. tt) u x.0 x.1).0
  state_own es (suc n) u within =
      let x = item_at t.modules u within in (stay_right (state t es (suc n)).values (suc n) (state t es n).stays (λ w h. state_own es n w h) u x.0 x.1).0

  pub states_are_selections : (es : List Event) (now : ℕ) → IsSelection t (modes_at t es now)
  unfolding stays
  states_are_selections es zero = selection (state t es 0).values 0 [] (λ w h. tt)
  states_are_selections es (suc n) = selection (state t es (suc n)).values (suc n) (state t es n).stays (λ w h. state_own es n w h)
