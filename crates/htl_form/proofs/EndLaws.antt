-- The tests of the rules not-false ends, windows and worst cases find exactly what the words say.
use Rattle.std.proofs.Common.{◌≡◌, ◌≢◌, ℕ, ◌*◌, ◌<◌, ◌⊎◌, Bool, true, false, not, ◌&&◌, eqb, ltb, List, length, Option, Some, None, refl, sym, ◌∙◌, ap, arith, inl, inr}
use Rattle.htl_form.proofs.Words.{slice_get, option_map, both_true, cases_Bool, not-false, nat_tests, Ty, Inv, End, Tables, mode_period, comm_period, task_worst, release, window_end, is_concrete, ReadLate, WriteOutside, CountsDiffer, TypeDiffers, WindowEmpty, WorstLong, AbstractRead, SensorWritten, input_types, output_types, type_number, end_type, is_sensor, or_else, Found, unless, is_abstractly_written, read_offset_fault, write_offset_fault, unless_equal, count_fault, unless_same, type_fault, abstract_read_fault, sensor_fault, window_fault, worst_case_fault}
use Rattle.htl_model.specs.declared.parts.End.TheVariants as E
use Rattle.htl_form.proofs.{AbstractLaws.written, AbstractLaws.written_test, Finding.Finds, Finding.finds_nothing, Finding.finds_unless, PeriodLaws.finds_equal, PeriodLaws.inner}

pub read_offset_is : (t : Tables) (i : Inv) (e : End) → Finds (read_offset_fault t i e) (ReadLate t i e)
read_offset_is t i (E.Comm c n) =
    finds_unless (ltb (n * comm_period t c) (mode_period t i.mode)) (n * comm_period t c) (mode_period t i.mode) (ReadLate t i (E.Comm c n))
    (λ off. (refl, refl, grind (arith, nat_tests))) (λ h m p. (grind (arith, nat_tests), p.0, p.1))
read_offset_is t i (E.Port p) = finds_nothing

pub write_offset_is : (t : Tables) (i : Inv) (e : End) → Finds (write_offset_fault t i e) (WriteOutside t i e)
write_offset_is t i (E.Comm c n) =
    finds_unless (ltb 0 (n * comm_period t c) && not (ltb (mode_period t i.mode) (n * comm_period t c))) (n * comm_period t c) (mode_period t i.mode) (WriteOutside t i (E.Comm c n))
    (λ off. (refl, refl, outside (n * comm_period t c) (mode_period t i.mode) off))
    (λ h m p. (inside (n * comm_period t c) (mode_period t i.mode) h m p.0 p.1 p.2, p.0, p.1))
  where
    outside : (x p : ℕ) → (ltb 0 x && not (ltb p x)) ≡ false → (x ≡ 0) ⊎ (p < x)
    outside x p e = grind (arith, nat_tests)

    inside : (x p h m : ℕ) → h ≡ x → m ≡ p → (h ≡ 0) ⊎ (m < h) → (ltb 0 x && not (ltb p x)) ≡ false
    inside x p h m a b c = grind (arith, nat_tests)
write_offset_is t i (E.Port p) = finds_nothing

-- a first test, then, where it finds nothing, a second
pub finds_or_else : (a b : Found) (P Q R : ℕ → ℕ → Type 0) → Finds a P → Finds b Q → ((h n : ℕ) → P h n → R h n) → ((h n : ℕ) → a ≡ None → Q h n → R h n)
    → ((h n : ℕ) → R h n → P h n ⊎ ((a ≡ None) × Q h n)) → Finds (or_else a b) R
finds_or_else (Some x) b P Q R f g first second back =
    record {
      says = λ h n e. first h n (f.says h n e);
      finds = λ h n r. elim (back h n r) [ inl p ↦ f.finds h n p | inr q ↦ absurd (let no : Some x ≡ None = q.0 in cc) ];
    }
finds_or_else None b P Q R f g first second back =
    record {
      says = λ h n e. second h n refl (g.says h n e);
      finds = λ h n r. elim (back h n r) [ inl p ↦ absurd (let no : None ≡ Some (h, n) = f.finds h n p in cc) | inr q ↦ g.finds h n q.1 ];
    }

agree : (x y : ℕ) → unless_equal x y ≡ None → x ≡ y
agree x y e =
    elim (cases_Bool (eqb x y)) [
      | inl h ↦ grind (arith, nat_tests)
      | inr h ↦ absurd (let no : unless false x y ≡ None = ap (λ b. unless b x y) (sym h) ∙ e in cc)
    ]

agrees : (x y : ℕ) → x ≡ y → unless_equal x y ≡ None
agrees x y e = let h : eqb x y ≡ true = grind (arith, nat_tests) in ap (λ b. unless b x y) h

pub count_is : (t : Tables) (i : Inv) → Finds (count_fault t i) (CountsDiffer t i)
count_is t i =
    let x = length i.reads in
    let y = length (input_types t i.task) in
    let z = length i.writes in
    let w = length (output_types t i.task) in
    finds_or_else (unless_equal x y) (unless_equal z w) (λ h n. (h ≡ x) × (n ≡ y) × (h ≢ n)) (λ h n. (h ≡ z) × (n ≡ w) × (h ≢ n)) (CountsDiffer t i)
    (finds_equal x y) (finds_equal z w) (λ h n p. inl p) (λ h n e q. inr (agree x y e, q.0, q.1, q.2))
    (λ h n r. elim r [ inl p ↦ inl p | inr q ↦ inr (agrees x y q.0, (q.1, q.2, q.3)) ])

pub finds_same : (o q : Option ℕ) → Finds (unless_same o q) (λ h n. (o ≡ Some h) × (q ≡ Some n) × (h ≢ n))
finds_same (Some x) (Some y) =
    let f = finds_equal x y in
    record {
      says = λ h n e. (let p = f.says h n e in (ap (λ (z : ℕ). Some z) (sym p.0), ap (λ (z : ℕ). Some z) (sym p.1), p.2));
      finds = λ h n p. f.finds h n (inner x h p.0, inner y n p.1, p.2);
    }
finds_same (Some x) None = record { says = λ h n e. absurd (let no : None ≡ Some (h, n) = e in cc); finds = λ h n p. absurd (let no : None ≡ Some n = p.1 in cc) }
finds_same None o = record { says = λ h n e. absurd (let no : None ≡ Some (h, n) = e in cc); finds = λ h n p. absurd (let no : None ≡ Some h = p.0 in cc) }

pub type_is : (t : Tables) (types : List Ty) (j : ℕ) (e : End) → Finds (type_fault t types j e) (TypeDiffers t types j e)
type_is t types j e = finds_same (option_map type_number (end_type t e)) (option_map type_number (slice_get types j))

pub window_is : (t : Tables) (i : Inv) → Finds (window_fault t i) (WindowEmpty t i)
window_is t i =
    finds_unless (ltb (release t i) (window_end t i)) (release t i) (window_end t i) (WindowEmpty t i)
    (λ off. (refl, refl, grind (arith, nat_tests))) (λ h m p. (grind (arith, nat_tests), p.0, p.1))

pub worst_case_is : (t : Tables) (i : Inv) → Finds (worst_case_fault t i) (WorstLong t i)
worst_case_is t i =
    finds_unless (not (ltb (mode_period t i.mode) (task_worst t i.task))) (task_worst t i.task) (mode_period t i.mode) (WorstLong t i)
    (λ off. (refl, refl, grind (arith, nat_tests))) (λ h m p. (grind (arith, nat_tests), p.0, p.1))

both : (a b : Bool) → not (a && b) ≡ false → (a ≡ true) × (b ≡ true)
both true true h = (refl, refl)
both true false h = cc
both false b h = cc

pub abstract_read_is : (t : Tables) (i : Inv) (j : ℕ) (e : End) → Finds (abstract_read_fault t i j e) (AbstractRead t i j e)
abstract_read_is t i j (E.Comm c n) = finds_nothing
abstract_read_is t i j (E.Port p) =
    finds_unless (not (is_concrete t i && is_abstractly_written t p)) j 0 (AbstractRead t i j (E.Port p))
    (λ off. (let b = both (is_concrete t i) (is_abstractly_written t p) off in (refl, refl, b.0, written t p b.1)))
    (λ h m q. (ap not (both_true q.2 (written_test t p q.3)), q.0, q.1))

pub sensor_is : (t : Tables) (j : ℕ) (e : End) → Finds (sensor_fault t j e) (SensorWritten t j e)
sensor_is t j (E.Comm c n) = finds_unless (not (is_sensor t c)) j 0 (SensorWritten t j (E.Comm c n)) (λ off. (refl, refl, not-false (is_sensor t c) off)) (λ h m q. (ap not q.2, q.0, q.1))
sensor_is t j (E.Port p) = finds_nothing
