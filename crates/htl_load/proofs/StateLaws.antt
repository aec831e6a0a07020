-- Small laws of the typed states.
use Rattle.std.proofs.Common.{◌≡◌, ◌<◌, ℕ, length, slice_get, Some, None, sym, ◌∙◌, arith, inl, inr}
use Rattle.htl_load.proofs.Words.{slice_get_cases, count_function_types, FunctionType, function_types, IsFunctionOf, FitPlaces, IsFormed, IsSpelled, IsAccepted, Object, AreInRange, Tables, Fun, formed, AreFeasible, instrs_of, IsFormFault, IsSpellingFault, IsScheduleFault, IsRefused, ObjectFault}
use Rattle.htl_load.specs.declared.fault.ObjectFault.TheVariants as fault

-- it fits its place
pub function_fits : (t : Tables) (id : ℕ) (f : Fun) → AreInRange t → FitPlaces t → slice_get t.functions id ≡ Some f → (y : FunctionType) × IsFunctionOf y f
function_fits t id f r fit at =
    let inside : id < length t.functions = within t id f at in
    elim (slice_get_cases (function_types t) id).1 [
      | inl c ↦ (c.0, fit id c.0 f c.2 at)
      | inr c ↦ absurd (omega (arith, c.0, inside, count_function_types t r))
    ]
  where
    within : (t : Tables) (id : ℕ) (f : Fun) → slice_get t.functions id ≡ Some f → id < length t.functions
    within t id f at = elim (slice_get_cases t.functions id).1 [ inl c ↦ c.1 | inr c ↦ absurd (let no : Some f ≡ None = sym at ∙ c.1 in cc) ]

-- a spelled object whose schedules are feasible is accepted
pub accepted_with : (o : Object) → IsSpelled o → AreFeasible o.tables (instrs_of o.schedules) → IsAccepted o
accepted_with o spelled feasible = record { spelled = spelled; feasible = feasible }

-- ---- the faults of the tests, one after the other

pub form_refused : (o : Object) (f : ObjectFault) → IsFormFault o f → IsRefused o f
form_refused o (fault.IllFormed f) is = is
form_refused o _ is = absurd is

pub spelling_refused : (o : Object) (f : ObjectFault) → IsFormed o → IsSpellingFault o f → IsRefused o f
spelling_refused o (fault.Function k) formed is = (formed, is)
spelling_refused o (fault.ECode e) formed is = (formed, is)
spelling_refused o _ formed is = absurd is

pub schedule_refused : (o : Object) (f : ObjectFault) → IsSpelled o → IsScheduleFault o f → IsRefused o f
schedule_refused o (fault.Schedule sel m) spelled is = (spelled, is)
schedule_refused o _ spelled is = absurd is
