-- At each instant the part shows the same.
use Rattle.std.proofs.Common.{◌≡◌, ◌⊎◌, inl, inr, ℕ, zero, suc, ◌*◌, ◌/◌, ◌<◌, ◌≤◌, cond, ltb, List, [], get_or, slice_get, Option, Some, None, ℤ, pos, refl, sym, ap, ap₂, ◌∙◌, arith}
use Rattle.htl_exchange.proofs.{Words.Comm, Words.Event, Words.Stay, Words.State, Words.state, Words.val, Words.sense, Words.last_sense, Words.stay_of, Words.next_value, Words.next_values, Words.first_value, Words.written, Cones.Cone}
use Rattle.htl_model.proofs.{Words.AreInRange, Words.KeptApart, Words.Tables, Words.cases_at_most, Words.cases_lt, Words.le-ltb, Words.subst, Laws.state_step, Laws.seen_before}
use Rattle.htl_refine.proofs.Standing.{standing_at}
use Rattle.htl_runs.proofs.values.OneWriter.{distinct}
use Rattle.htl_exchange.proofs.{Matches.IsModeIn, Matches.Matches, Matches.SameOn, Matches.SeenSame, SameStays.StaysSame, SameStays.next_same, SameStays.stay_in, SameValues.written_same, SameValues.value_at, SameValues.first_at}

module _ (t u : Tables) (range : AreInRange t) (other : AreInRange u) (kept : KeptApart t 12) (also : KeptApart u 12) (s : Cone) (unit mode invocation : ℕ → ℕ) (e : Matches t u s unit mode invocation) (es : List Event) where
  sense_same : (c at : ℕ) → sense u es c at ≡ sense t es c at
  sense_same c at = ap (λ (xs : List Comm). last_sense c at 0 (elim (slice_get xs c) as (λ _. ℤ) [ Some x ↦ x.init | None ↦ pos 0 ]) es) e.comms

  -- what the part shows at an instant
  pub record IsSame (n : ℕ) : Type 0 where
    pub values : SameOn s (state t es n).values (state u es n).values
    pub stays : StaysSame t u range other s unit mode invocation e (state t es n).stays (state u es n).stays

  -- a mode in which a module of the part is
  pub real_at : (n x : ℕ) (y : Stay) → s.modules x → stay_of (state t es n).stays x ≡ Some y → IsModeIn t s y.mode
  real_at n x y inside at = stay_in t u range other s unit mode invocation e (state t es n).stays n x y (standing_at t range es n) inside at

  first_values_same : SameOn s (state t es 0).values (state u es 0).values
  first_values_same c inside =
      first_at u (sense u es) c
      ∙ ap (λ (xs : List Comm). first_value (sense u es) c (slice_get xs c)) e.comms
      ∙ by (slice_get t.comms c)
      ∙ sym (first_at t (sense t es) c)
    where
      by : (o : Option Comm) → first_value (sense u es) c o ≡ first_value (sense t es) c o
      by None = refl
      by (Some x) = ap (λ y. cond x.sensor y x.init) (sense_same c 0)

  first_same : IsSame 0
  first_same =
      record {
        values = first_values_same;
        stays = next_same t u range other s unit mode invocation e (state t es 0).values (state u es 0).values 0 [] [] first_values_same (λ x inside. refl) nowhere (standing_at t range es 0);
      }
    where
      nowhere : (x : ℕ) (y : Stay) → s.modules x → stay_of [] x ≡ Some y → IsModeIn t s y.mode
      nowhere x y inside at = absurd (let z : ⊥ = cc in z)

  -- where it showed the same at each instant before
  seen_same : (n : ℕ) → ((k : ℕ) → k ≤ n → IsSame k) → SeenSame s (seen_before t es (suc n)) (seen_before u es (suc n))
  seen_same n were c at inside = by (cases_lt at (suc n))
    where
      by : (at < suc n) ⊎ (suc n ≤ at) → cond (ltb at (suc n)) (val u es c at) (pos 0) ≡ cond (ltb at (suc n)) (val t es c at) (pos 0)
      by (inl less) = ap (λ y. cond (ltb at (suc n)) y (pos 0)) ((were at (omega (arith, less))).values c inside)
      by (inr le) = let z = le-ltb at (suc n) le in ap (λ b. cond b (val u es c at) (pos 0)) z ∙ sym (ap (λ b. cond b (val t es c at) (pos 0)) z)

  values_of : (v : Tables) (n : ℕ) → (state v es (suc n)).values ≡ next_values v (sense v es) (seen_before v es (suc n)) (state v es n).stays (state v es n).values (suc n)
  values_of v n = ap (λ (z : State). z.values) (state_step v es n)

  next_values_same : (n : ℕ) → ((k : ℕ) → k ≤ n → IsSame k) → SameOn s (state t es (suc n)).values (state u es (suc n)).values
  next_values_same n were c inside =
      ap (λ (vs : List ℤ). get_or vs c (pos 0)) (values_of u n)
      ∙ value_at u (sense u es) (seen_before u es (suc n)) (state u es n).stays (state u es n).values (suc n) c
      ∙ ap (λ (xs : List Comm). next_value u (sense u es) (seen_before u es (suc n)) (state u es n).stays (state u es n).values (suc n) c (slice_get xs c)) e.comms
      ∙ by (slice_get t.comms c)
      ∙ sym (value_at t (sense t es) (seen_before t es (suc n)) (state t es n).stays (state t es n).values (suc n) c)
      ∙ sym (ap (λ (vs : List ℤ). get_or vs c (pos 0)) (values_of t n))
    where
      now : IsSame n
      now = were n (omega arith)

      write : written u (seen_before u es (suc n)) (state u es n).stays (state u es n).values (suc n) c ≡ written t (seen_before t es (suc n)) (state t es n).stays (state t es n).values (suc n) c
      write =
          written_same t u range other kept also s unit mode invocation e (state t es n).stays (state u es n).stays n (suc n) (standing_at t range es n) now.stays
          (seen_before t es (suc n)) (seen_before u es (suc n)) (state t es n).values (state u es n).values c (seen_same n were) now.values
          (distinct u other also (state u es n).stays n (suc n) (standing_at u other es n)) inside

      by : (o : Option Comm) → next_value u (sense u es) (seen_before u es (suc n)) (state u es n).stays (state u es n).values (suc n) c o
          ≡ next_value t (sense t es) (seen_before t es (suc n)) (state t es n).stays (state t es n).values (suc n) c o
      by None = refl
      by (Some x) = ap₂ (λ (a b : ℤ). cond x.sensor a b) (sense_same c (x.period * (suc n / x.period))) write

  next_is_same : (n : ℕ) → ((k : ℕ) → k ≤ n → IsSame k) → IsSame (suc n)
  next_is_same n were =
      let values = next_values_same n were in
      let now = were n (omega arith) in
      record {
        values = values;
        stays = next_same t u range other s unit mode invocation e (state t es (suc n)).values (state u es (suc n)).values (suc n) (state t es n).stays (state u es n).stays values now.stays (real_at n) (standing_at t range es (suc n));
      }

  up_to_now : (n k : ℕ) → k ≤ n → IsSame k
  up_to_now zero zero le = first_same
  up_to_now zero (suc k) le = absurd (omega (arith, le))
  up_to_now (suc n) k le = elim (cases_at_most k n le) [
    | inl h ↦ up_to_now n k h
    | inr is ↦ subst IsSame (sym is) (next_is_same n (up_to_now n))
  ]

  pub is_same : (n : ℕ) → IsSame n
  is_same n = up_to_now n n (omega arith)
