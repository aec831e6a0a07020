-- One more event, for the E machine: the triggers before an instant depend on the events before it alone.
use Rattle.std.proofs.Common.{◌≡◌, ℕ, Bool, true, false, cond, ltb, List, slice_get, Option, Some, None, refl, sym, ap, ◌∙◌, arith}
use Rattle.htl_runs.proofs.Words.{Event, Module, Stay, State, AreInRange, parent_of, Tables, mode_module, state, stay_of, mode_of, runs, ECode, Trigger, Standing, Entry, opening, awaited, turning, is_called, entering, old_stay, new_stay, parent_runs, parent_at, module_at, active_some, begins_now, FollowsCode, none_below}
use Rattle.htl_runs.proofs.events.SameSensors.{Alike, before_same}

module _ (t : Tables) (range : AreInRange t) (now : ℕ) where
  -- a root module that wasn't there begins in its start mode
  root_begins : (es : List Event) (j : ℕ) (x : Module) → slice_get t.modules j ≡ Some x → x.parent ≡ None → old_stay t es now j ≡ None → new_stay t es now j ≡ Some (record { mode = x.start; start = now })
  root_begins es j x at root none =
      let on : parent_runs t es now x ≡ true = ap (λ (o : Option ℕ). elim o as (λ _. Bool) [ None ↦ true | Some p ↦ runs t (state t es now).stays p ]) root in
      let y = active_some t es now j x range at on in
      y.1 ∙ ap (λ z. Some z) (begins_now t es now j x y.0 range at none y.1)

  -- before the instant a child module isn't called yet
  child_waits : (j q : ℕ) → parent_of t j ≡ Some q → is_called t 0 j ≡ false
  child_waits j q e = ap (λ (o : Option ℕ). elim o as (λ _. Bool) [ None ↦ true | Some p ↦ ltb (mode_module t p) 0 ]) e ∙ none_below (mode_module t q)

  module _ (code : ECode) (es fs : List Event) (alike : Alike t es fs now) where
    old_same : (j : ℕ) → old_stay t es now j ≡ old_stay t fs now j
    old_same j = ap (λ (z : State). stay_of z.stays j) (before_same t es fs now alike)

    turning_same : (j : ℕ) (x : Module) → slice_get t.modules j ≡ Some x → (o : Option Stay) → old_stay t es now j ≡ o → turning t code now 0 j o (new_stay t es now j) ≡ turning t code now 0 j o (new_stay t fs now j)
    turning_same j x at (Some y) e = refl
    turning_same j x at None e = grind (arith, root_begins, old_same, child_waits, parent_at)

    opening_same : (j : ℕ) (x : Module) → slice_get t.modules j ≡ Some x → opening t code now j (old_stay t es now j) (new_stay t es now j) ≡ opening t code now j (old_stay t fs now j) (new_stay t fs now j)
    opening_same j x at =
        let make : Option Stay → Option Trigger → Entry = λ o z. record { mode = mode_of o; write = awaited t code 1 now o; switch = z; read = awaited t code 3 now o } in
        ap (make (old_stay t es now j)) (turning_same j x at (old_stay t es now j) refl)
        ∙ ap (λ o. make o (turning t code now 0 j o (new_stay t fs now j))) (old_same j)

    -- the E machine follows other events that agree before the instant
    pub triggers_alike : (m : Standing) → FollowsCode t code es now m → FollowsCode t code fs now m
    triggers_alike m f =
        record {
          idle = f.idle;
          calendar =
              record {
                sized = f.calendar.sized;
                below = λ j less. absurd (omega (arith, less));
                above = λ j from inside. let x = module_at t j inside in f.calendar.above j from inside ∙ opening_same j x.0 x.1;
              };
        }
