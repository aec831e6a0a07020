-- Lines that are judged by numbers that stand still at the end of 64 bits.
use Rattle.std.proofs.Common.{◌≡◌, ◌-◌, ◌^◌, ◌≤◌, ℕ, min, Bool, true, false, not, List, Option, Some, None, Ok, Err, refl, sym, ap, ◌∙◌, arith}
use Rattle.std.specs.Prelude.{is_none, is_some, unwrap_or, if◌then◌else◌}
use Rattle.htl_script.proofs.Words.{option_map, true≢false, leb-true, ltb-true, nat_tests, none-some, same_Some, Ty, Event, ScriptKind, Tables, Past, Sense, sensor_of, type_of, is_value, is_unknown, is_out_of_range, fault_of, event_of, event_unless, number_with_sign, judged_statement}
use Rattle.htl_base.specs.declared.Ty.TheVariants as ty
use Rattle.htl_model.specs.declared.event.Event.TheVariants as event
use Rattle.htl_script.specs.declared.fault.ScriptKind.TheVariants as kind

-- a value with its sign, capped
abbrev pub capped : Bool × ℕ → Bool × ℕ
capped x = (x.0, min x.1 (2 ^ 64 - 1))

is_int-capped : (minus : Bool) (size : ℕ) → is_value (minus, min size (2 ^ 64 - 1)) (Some ty.Int) ≡ is_value (minus, size) (Some ty.Int)
is_int-capped true size = grind (arith, nat_tests)
is_int-capped false size = grind (arith, nat_tests)

is_bool-capped : (minus : Bool) (size : ℕ) → is_value (minus, min size (2 ^ 64 - 1)) (Some ty.Bool) ≡ is_value (minus, size) (Some ty.Bool)
is_bool-capped true size = refl
is_bool-capped false size = grind (arith, nat_tests)

is_value-capped : (x : Bool × ℕ) (type : Option Ty) → is_value (capped x) type ≡ is_value x type
is_value-capped x None = refl
is_value-capped x (Some ty.Int) = is_int-capped x.0 x.1
is_value-capped x (Some ty.Bool) = is_bool-capped x.0 x.1

int_size : (minus : Bool) (size : ℕ) → is_value (minus, size) (Some ty.Int) ≡ true → size ≤ 2 ^ 63
int_size true size fits = leb-true size (2 ^ 63) fits
int_size false size fits = let below = leb-true size (2 ^ 63 - 1) fits in omega (arith, below)

bool_size : (minus : Bool) (size : ℕ) → is_value (minus, size) (Some ty.Bool) ≡ true → size ≤ 1
bool_size true size fits = absurd (true≢false (sym fits))
bool_size false size fits = let below = ltb-true size 2 fits in omega (arith, below)

value_size : (x : Bool × ℕ) (type : Option Ty) → is_value x type ≡ true → min x.1 (2 ^ 64 - 1) ≡ x.1
value_size x None fits = absurd (true≢false (sym fits))
value_size x (Some ty.Int) fits = let small = int_size x.0 x.1 fits in omega (arith, small)
value_size x (Some ty.Bool) fits = let small = bool_size x.0 x.1 fits in omega (arith, small)

-- the rules in their order
range_first : (unknown range order : Bool) (over : Option ScriptKind) → unknown ≡ false → range ≡ true
    → (if unknown then Some kind.Unknown else if range then Some kind.Range else if order then Some kind.Order else over) ≡ Some kind.Range
range_first unknown range order over known out = rw (known, out) refl

none_broken : (unknown range order : Bool) (over : Option ScriptKind) → unknown ≡ false → range ≡ false → order ≡ false → over ≡ None
    → (if unknown then Some kind.Unknown else if range then Some kind.Range else if order then Some kind.Order else over) ≡ None
none_broken unknown range order over known fits rises within = rw (known, fits, rises) within

known_sensor : (t : Tables) (name : List ℕ) (value : Bool × ℕ) (c : ℕ) → sensor_of t name ≡ Some c → is_unknown t (Sense name value) ≡ false
known_sensor t name value c found = ap (λ (s : Option ℕ). is_none s) found

sensed_range : (t : Tables) (name : List ℕ) (value : Bool × ℕ) (c : ℕ) (fits : Bool) → sensor_of t name ≡ Some c → is_value value (type_of t c) ≡ fits
    → is_out_of_range t (Sense name value) ≡ not fits
sensed_range t name value c fits found e = ap (λ (s : Option ℕ). not (is_value value (type_of t (unwrap_or s 0)))) found ∙ ap not e

-- a sensor that has no such value
pub sense_range : (t : Tables) (past : Past) (name : List ℕ) (x : Option (Bool × ℕ)) (minus : Bool) (size c : ℕ)
    → Some (minus, size) ≡ option_map (λ (v : Bool × ℕ). capped v) x → sensor_of t name ≡ Some c
    → is_value (minus, size) (type_of t c) ≡ false
    → Err kind.Range ≡ judged_statement t past (option_map (λ (v : Bool × ℕ). Sense name v) x)
sense_range t past name None minus size c e found bad = absurd (none-some _ (sym e))
sense_range t past name (Some x) minus size c e found bad =
    let refused : is_value x (type_of t c) ≡ false =
    sym (is_value-capped x (type_of t c)) ∙ sym (ap (λ (v : Bool × ℕ). is_value v (type_of t c)) (same_Some _ _ e)) ∙ bad in
    let fault : fault_of t past (Sense name x) ≡ Some kind.Range =
    range_first _ _ (is_none past.reading) None (known_sensor t name x c found) (sensed_range t name x c false found refused) in
    sym (ap (λ (f : Option ScriptKind). event_unless f (event_of t (Sense name x))) fault)

is_there : (o : Option ℕ) → is_some o ≡ true → is_none o ≡ false
is_there None some = sym some
is_there (Some x) some = refl

-- a sensor that has such a value, behind a reading
pub sense_value : (t : Tables) (past : Past) (name : List ℕ) (x : Option (Bool × ℕ)) (minus : Bool) (size c : ℕ)
    → Some (minus, size) ≡ option_map (λ (v : Bool × ℕ). capped v) x → sensor_of t name ≡ Some c
    → is_value (minus, size) (type_of t c) ≡ true → is_some past.reading ≡ true
    → Ok (event.Sense c (number_with_sign (minus, size))) ≡ judged_statement t past (option_map (λ (v : Bool × ℕ). Sense name v) x)
sense_value t past name None minus size c e found good read = absurd (none-some _ (sym e))
sense_value t past name (Some x) minus size c e found good read =
    let same : (minus, size) ≡ capped x = same_Some _ _ e in
    let fits : is_value x (type_of t c) ≡ true =
    sym (is_value-capped x (type_of t c)) ∙ sym (ap (λ (v : Bool × ℕ). is_value v (type_of t c)) same) ∙ good in
    let whole : capped x ≡ x = ap (λ (n : ℕ). (x.0, n)) (value_size x (type_of t c) fits) in
    let fault : fault_of t past (Sense name x) ≡ None =
    none_broken _ _ _ _ (known_sensor t name x c found) (sensed_range t name x c true found fits) (is_there past.reading read) refl in
    let event_is : event_of t (Sense name x) ≡ event.Sense c (number_with_sign (minus, size)) =
    ap (λ (s : Option ℕ). event.Sense (unwrap_or s 0) (number_with_sign x)) found ∙ ap (λ (v : Bool × ℕ). event.Sense c (number_with_sign v)) (sym (same ∙ whole)) in
    sym (ap (λ (f : Option ScriptKind). event_unless f (event_of t (Sense name x))) fault ∙ ap (λ (e' : Event). Ok e') event_is)
