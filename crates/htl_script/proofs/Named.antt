-- The first item with a name, found among names in order.
use Rattle.std.proofs.Common.{inl, inr, ◌≡◌, ◌≢◌, ◌+◌, ℕ, Bool, true, false, ◌&&◌, not, cond, List, ◌∷◌, ◌++◌, length, get_or, Option, Some, None, Ok, Err, refl, ap, ◌∙◌, arith}
use Rattle.htl_script.proofs.Words.{slice_get, position_from, bytes_eq, cases_Bool, none-some, same_Some, slice_get_within, bytes_eq-Decides, Comm, Inv, Mode, Module, Task, Tables, is_sensor, is_invocation, dotted, sensor_name, through, name_of, count_of, number_named, IsOrder, IsPlace, Keyed, keyed, keyed_name, Named, Sensor, Invocation}
use Rattle.htl_script.proofs.{FirstItems.first_is, FirstItems.none_is, Orders.no_earlier, Orders.none_named, Orders.unkeyed}

-- ---- a name that is asked for

abbrev tested : Option (List ℕ) → List ℕ → Bool
tested (Some own) text = bytes_eq own text
tested None text = false

hit_is : (o : Option (List ℕ)) (text : List ℕ) → o ≡ Some text → tested o text ≡ true
hit_is None text e = absurd (none-some text e)
hit_is (Some own) text e = (bytes_eq-Decides own text).1 (same_Some own text e)

missed_is : (o : Option (List ℕ)) (text : List ℕ) → o ≢ Some text → tested o text ≡ false
missed_is None text n = refl
missed_is (Some own) text n = elim (cases_Bool (bytes_eq own text)) [
  | inl same ↦ absurd (n (ap (λ z. Some z) ((bytes_eq-Decides own text).0 same)))
  | inr other ↦ other
]

-- ---- items with names

module _ {A : Type 0} (own : A → Option (List ℕ)) (test : A → Bool) (items : List A) (o : Keyed) (text : List ℕ) (each : (x : A) → test x ≡ tested (own x) text) (h : IsOrder (λ n. through own (slice_get items n)) (length items) o) where
  item : (q : ℕ) (r : Option A) → slice_get items q ≡ r → through own r ≡ Some text → (x : A) × (slice_get items q ≡ Some x) × (own x ≡ Some text)
  item q (Some x) e f = (x, e, f)
  item q None e f = absurd (none-some text f)

  miss : (q : ℕ) (y : A) → through own (slice_get items q) ≢ Some text → slice_get items q ≡ Some y → test y ≡ false
  miss q y n at = each y ∙ missed_is (own y) text (λ e. n (ap (through own) at ∙ e))

  abbrev name : ℕ → Option (List ℕ)
  name n = through own (slice_get items n)

  found : (i : ℕ) → IsPlace (keyed_name name) o.numbers (keyed text) (Ok i) → position_from test 0 items ≡ Some (get_or o.numbers i 0)
  found i at =
      let n : ℕ = get_or o.numbers i 0 in
      let x = item n (slice_get items n) refl (unkeyed (name n) text at.1) in
      first_is test items 0 n x.0 x.1 (each x.0 ∙ hit_is (own x.0) text x.2) (λ q y less e. miss q y (no_earlier name (length items) o text h i at q less) e)
      ∙ ap (λ k. Some k) (let e : 0 + n ≡ n = omega arith in e)

  missing : (p : ℕ) → IsPlace (keyed_name name) o.numbers (keyed text) (Err p) → position_from test 0 items ≡ None
  missing p at = none_is test items 0 (λ q y e. miss q y (none_named name (length items) o text h p at q (slice_get_within items q y e)) e)

-- ---- sensors and invocations

sensor_test : (text : List ℕ) (c : Comm) → is_sensor text c ≡ tested (sensor_name c) text
sensor_test text c = by c.sensor
  where
    by : (b : Bool) → (b && bytes_eq c.name text) ≡ tested (cond b (Some c.name) None) text
    by true = refl
    by false = refl

invocation_test : (t : Tables) (text : List ℕ) (i : Inv) → is_invocation t text i ≡ tested (dotted t i) text
invocation_test t text i = by_task (slice_get t.tasks i.task)
  where
    by_abstract : (b : Bool) (a : List ℕ) → (not b && bytes_eq a text) ≡ tested (cond b None (Some a)) text
    by_abstract true a = refl
    by_abstract false a = refl

    by_module : (k : Task) (m : Mode) (o : Option Module)
        → elim o [ Some u ↦ not k.is_abstract && bytes_eq (u.name ++ 46 ∷ (m.name ++ 46 ∷ k.name)) text | None ↦ false ]
        ≡ tested (elim o [ Some u ↦ cond k.is_abstract None (Some (u.name ++ 46 ∷ (m.name ++ 46 ∷ k.name))) | None ↦ None ]) text
    by_module k m (Some u) = by_abstract k.is_abstract (u.name ++ 46 ∷ (m.name ++ 46 ∷ k.name))
    by_module k m None = refl

    by_mode : (k : Task) (o : Option Mode)
        → elim o [
          | Some m ↦ elim (slice_get t.modules m.«module») [ Some u ↦ not k.is_abstract && bytes_eq (u.name ++ 46 ∷ (m.name ++ 46 ∷ k.name)) text | None ↦ false ]
          | None ↦ false
        ]
        ≡ tested (elim o [
          | Some m ↦ elim (slice_get t.modules m.«module») [ Some u ↦ cond k.is_abstract None (Some (u.name ++ 46 ∷ (m.name ++ 46 ∷ k.name))) | None ↦ None ]
          | None ↦ None
        ]) text
    by_mode k (Some m) = by_module k m (slice_get t.modules m.«module»)
    by_mode k None = refl

    by_task : (o : Option Task)
        → elim o [
          | Some k ↦ elim (slice_get t.modes i.mode) [
            | Some m ↦ elim (slice_get t.modules m.«module») [ Some u ↦ not k.is_abstract && bytes_eq (u.name ++ 46 ∷ (m.name ++ 46 ∷ k.name)) text | None ↦ false ]
            | None ↦ false
          ]
          | None ↦ false
        ]
        ≡ tested (elim o [
          | Some k ↦ elim (slice_get t.modes i.mode) [
            | Some m ↦ elim (slice_get t.modules m.«module») [ Some u ↦ cond k.is_abstract None (Some (u.name ++ 46 ∷ (m.name ++ 46 ∷ k.name))) | None ↦ None ]
            | None ↦ None
          ]
          | None ↦ None
        ]) text
    by_task (Some k) = by_mode k (slice_get t.modes i.mode)
    by_task None = refl

pub found_named : (t : Tables) (kind : Named) (o : Keyed) (text : List ℕ) (i : ℕ) → IsOrder (name_of t kind) (count_of t kind) o → IsPlace (keyed_name (name_of t kind)) o.numbers (keyed text) (Ok i)
    → number_named t kind text ≡ Some (get_or o.numbers i 0)
found_named t Sensor o text i h at = found sensor_name (is_sensor text) t.comms o text (sensor_test text) h i at
found_named t Invocation o text i h at = found (dotted t) (is_invocation t text) t.invs o text (invocation_test t text) h i at

pub none_found : (t : Tables) (kind : Named) (o : Keyed) (text : List ℕ) (p : ℕ) → IsOrder (name_of t kind) (count_of t kind) o → IsPlace (keyed_name (name_of t kind)) o.numbers (keyed text) (Err p)
    → number_named t kind text ≡ None
none_found t Sensor o text p h at = missing sensor_name (is_sensor text) t.comms o text (sensor_test text) h p at
none_found t Invocation o text p h at = missing (dotted t) (is_invocation t text) t.invs o text (invocation_test t text) h p at
