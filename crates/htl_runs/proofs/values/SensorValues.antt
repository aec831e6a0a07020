-- The sensors that are set at an instant are those of the meaning.
use Rattle.std.proofs.Common.{◌≡◌, ℕ, zero, suc, ◌*◌, ◌/◌, ◌%◌, ◌<◌, Bool, true, false, cond, eqb, List, [], ◌∷◌, length, get_or, slice_get, Some, ℤ, pos, refl, sym, ap, ap₂, ◌∙◌, arith, inl, inr}
use Rattle.htl_runs.proofs.Words.{slice_get_within, eqb-true, Event, State, Comm, Tables, state, sense, first_value, next_value, written, state_step, seen_before, Content, with_sensors, shown, shown_at, values_before, AreShown, zero_down}
use Rattle.htl_runs.proofs.{values.FinishedOutputs.list_to_at, values.Periods.begins_or_not, values.InstantValues.length-shown}

list_is : (xs ys : List ℤ) → length xs ≡ length ys → ((k : ℕ) → k < length xs → get_or xs k (pos 0) ≡ get_or ys k (pos 0)) → xs ≡ ys
list_is [] [] e h = refl
list_is (x ∷ xs) (y ∷ ys) e h = ap₂ (λ a b. a ∷ b) (h 0 (omega arith)) (list_is xs ys (omega (arith, e)) (λ k less. h (suc k) (omega (arith, less))))
list_is _ _ e h = absurd (omega (arith, e))

-- a sensor has what it showed when its period last divided the instant
sensor_value : (t : Tables) (es : List Event) (n c : ℕ) (x : Comm) → slice_get t.comms c ≡ Some x → x.sensor ≡ true → get_or (state t es n).values c (pos 0) ≡ sense t es c (x.period * (n / x.period))
sensor_value t es zero c x at is = grind (arith, list_to_at, slice_get_within, zero_down)
sensor_value t es (suc n) c x at is =
    let old = state t es n in
    let value : ℕ → ℤ = λ c. next_value t (sense t es) (seen_before t es (suc n)) old.stays old.values (suc n) c (slice_get t.comms c) in
    ap (λ (z : State). get_or z.values c (pos 0)) (state_step t es n)
    ∙ list_to_at value (length t.comms) c (slice_get_within t.comms c x at)
    ∙ ap (next_value t (sense t es) (seen_before t es (suc n)) old.stays old.values (suc n) c) at
    ∙ ap (λ b. cond b (sense t es c (x.period * (suc n / x.period))) (written t (seen_before t es (suc n)) old.stays old.values (suc n) c)) is

divides : (p n : ℕ) → 0 < p → n % p ≡ 0 → p * (n / p) ≡ n
divides zero n h e = absurd (omega (arith, h))
divides (suc p) n h e = omega (arith, e)

divides_not : (p n : ℕ) → 0 < p → p * (n / p) ≡ n → n % p ≡ 0
divides_not zero n h e = absurd (omega (arith, h))
divides_not (suc p) n h e = omega (arith, e)

-- what is set is what it shows
sensor_shows : (t : Tables) (es : List Event) (now c : ℕ) (x : Comm) (shows : List ℤ) → slice_get t.comms c ≡ Some x → x.sensor ≡ true → 0 < x.period → sense t es c now ≡ get_or shows c (pos 0)
    → cond (eqb (now % x.period) 0) (get_or shows c (pos 0)) (get_or (values_before t es now) c (pos 0)) ≡ sense t es c (x.period * (now / x.period))
sensor_shows t es now c x shows at is some same = by_test now (eqb (now % x.period) 0) refl same
  where
    by_test : (n : ℕ) (b : Bool) → eqb (n % x.period) 0 ≡ b → sense t es c n ≡ get_or shows c (pos 0) → cond b (get_or shows c (pos 0)) (get_or (values_before t es n) c (pos 0)) ≡ sense t es c (x.period * (n / x.period))
    by_test n true e s = sym s ∙ sym (ap (sense t es c) (divides x.period n some (eqb-true (n % x.period) 0 e)))
    by_test zero false e s = absurd (let z : eqb (0 % x.period) 0 ≡ true = ap (λ m. eqb m 0) (divides_not x.period 0 some (zero_down x.period)) in let y : ⊥ = cc in y)
    by_test (suc n) false e s = elim (begins_or_not x.period n some) [
      | inl g ↦ absurd (let z : eqb (suc n % x.period) 0 ≡ true = ap (λ m. eqb m 0) (divides_not x.period (suc n) some g) in let y : ⊥ = cc in y)
      | inr g ↦ sensor_value t es n c x at is ∙ sym (ap (sense t es c) g)
    ]

pub sensors_are : (t : Tables) (es : List Event) (now : ℕ) (shows : List ℤ) (w v : Content) → ((c : ℕ) (x : Comm) → slice_get t.comms c ≡ Some x → 0 < x.period)
    → ((c : ℕ) → c < length t.comms → sense t es c now ≡ get_or shows c (pos 0)) → AreShown t shows (values_before t es now) now w v → v ≡ with_sensors t (sense t es) now w
sensors_are t es now shows w v some same h =
    h.only ∙ ap (λ z. record w { values = z })
    (list_is v.values (shown t (sense t es) now w.values) (h.long ∙ sym (length-shown t (sense t es) now w.values))
    (λ c less. by_comm c (omega (arith, h.long, less)) (there t.comms c (omega (arith, h.long, less)))))
  where
    there : (xs : List Comm) (k : ℕ) → k < length xs → (x : Comm) × (slice_get xs k ≡ Some x)
    there [] k less = absurd (omega (arith, less))
    there (x ∷ xs) zero less = (x, refl)
    there (x ∷ xs) (suc k) less = there xs k (omega (arith, less))

    by_sensor : (c : ℕ) (x : Comm) → slice_get t.comms c ≡ Some x → c < length t.comms → (b : Bool) → x.sensor ≡ b
        → cond b (cond (eqb (now % x.period) 0) (get_or shows c (pos 0)) (get_or (values_before t es now) c (pos 0))) (get_or w.values c (pos 0)) ≡ cond b (sense t es c (x.period * (now / x.period))) (get_or w.values c (pos 0))
    by_sensor c x at less true e = sensor_shows t es now c x shows at e (some c x at) (same c less)
    by_sensor c x at less false e = refl

    by_comm : (c : ℕ) → c < length t.comms → ((x : Comm) × (slice_get t.comms c ≡ Some x)) → get_or v.values c (pos 0) ≡ get_or (shown t (sense t es) now w.values) c (pos 0)
    by_comm c less r = grind (arith, by_sensor, list_to_at)
