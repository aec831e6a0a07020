-- Tables that keep the form rules, and E code that spells them, are what the machine runs.
use Rattle.std.proofs.Common.{◌≡◌, ℕ, zero, suc, ◌*◌, ◌<◌, ◌≤◌, max, Bool, true, false, cond, ◌||◌, eqb, List, [], ◌∷◌, length, slice_get, Option, Some, None, option_map, ℤ, refl, sym, ap, ◌∙◌, subst, arith, ◌⊎◌, inl, inr}
use Rattle.htl_emach.proofs.Words.{eqb-true, eq-eqb, and_parts, cases_eq, or_cases, cases_lt, or_right, Inv, Mode, End, joined, AreInRange, IsInvInRange, Tables, mode_period, mode_module, comm_period, is_concrete, release, offsets, greatest, asked_period, first_mode, CountsDiffer, input_types, output_types, KeptApart, ECode, counts, counted_in, phase_offsets, holds, departure, Done, spelled_reads, Event, state, EDone, Standing, done_in, standing_after, Midway, Onward, HasEnds, each_at, item_at, holds_append, cases_le}
use Rattle.htl_model.specs.declared.parts.End.TheVariants as E
use Rattle.htl_model.specs.FormRules.{ModulePeriod, Offsets, Ends, Itself, Input, Output}
use Rattle.htl_emach.proofs.{Instants.call_onward, Instants.IsPhase, States.SamePeriods, Switching.Sound, Switching.positive}

-- ---- numbers that are equal, or not

-- ---- the period of a refinement

mode_is : (t : Tables) (m : ℕ) (x : Mode) → slice_get t.modes m ≡ Some x → (mode_period t m ≡ x.period) × (mode_module t m ≡ x.«module»)
mode_is t m x e = (ap (λ (o : Option Mode). elim o as (λ _. ℕ) [ Some y ↦ y.period | None ↦ 0 ]) e, ap (λ (o : Option Mode). elim o as (λ _. ℕ) [ Some y ↦ y.«module» | None ↦ 0 ]) e)

pub same_periods : (t : Tables) (last : ℕ) → 1 ≤ last → KeptApart t last → SamePeriods t
same_periods t last least kept = λ k q m parent inside owner.
    let x = item_at t.modes m inside in
    let is = mode_is t m x.0 x.1 in
    let owned : x.0.«module» ≡ k = sym is.1 ∙ owner in
    let asked : asked_period t x.0.«module» ≡ Some (mode_period t q) =
    ap (asked_period t) owned ∙ ap (λ (o : Option ℕ). elim o as (λ _. Option ℕ) [ Some p ↦ Some (mode_period t p) | None ↦ option_map (mode_period t) (first_mode t k) ]) parent in
    elim (cases_eq x.0.period (mode_period t q)) [
      | inl same ↦ is.0 ∙ same
      | inr other ↦
          absurd (kept ModulePeriod (record { mode = m; inv = None; part = Itself }) x.0.period (mode_period t q) (omega (arith, least)) (λ e. omega (arith, e)) (x.0, x.1, (refl, asked, other)))
    ]

-- ---- as many ends as the task has

pub has_ends : (t : Tables) (last : ℕ) → 5 ≤ last → AreInRange t → KeptApart t last → HasEnds t
has_ends t last least r kept =
    record {
      reads = λ i x at. reads_same i x at;
      writes = λ i x at. elim (cases_eq (length x.writes) (length (output_types t x.task))) [
        | inl same ↦ same
        | inr other ↦ absurd (broken i x at (length x.writes) (length (output_types t x.task)) (inr (reads_same i x at, refl, refl, other)))
      ];
    }
  where
    broken : (i : ℕ) (x : Inv) → slice_get t.invs i ≡ Some x → (have need : ℕ) → CountsDiffer t x have need → ⊥
    broken i x at have need differ =
        let inv = each_at (IsInvInRange t) t.invs r.invs i x at in
        let m = item_at t.modes x.mode inv.owner in
        kept Ends (record { mode = x.mode; inv = Some i; part = Itself }) have need (omega (arith, least)) (λ e. omega (arith, e)) (m.0, m.1, (x, at, refl, differ))

    reads_same : (i : ℕ) (x : Inv) → slice_get t.invs i ≡ Some x → length x.reads ≡ length (input_types t x.task)
    reads_same i x at = elim (cases_eq (length x.reads) (length (input_types t x.task))) [
      | inl same ↦ same
      | inr other ↦ absurd (broken i x at (length x.reads) (length (input_types t x.task)) (inl (refl, refl, other)))
    ]

-- ---- offsets

-- an offset of the invocations of a mode is one of an invocation
holds_joined : (o : ℕ) (f : Inv → List ℕ) (xs : List Inv) → holds o (joined f xs) ≡ true → (i : ℕ) × (x : Inv) × (slice_get xs i ≡ Some x) × (holds o (f x) ≡ true)
holds_joined o f [] e = absurd (let z : ⊥ = cc in z)
holds_joined o f (x ∷ xs) e = elim (holds_append o (f x) (joined f xs) e) [
  | inl h ↦ (0, x, refl, h)
  | inr h ↦ (let r = holds_joined o f xs h in (suc r.0, r.1, r.2, r.3))
]

-- an offset of ends is that of an end
holds_ends : (t : Tables) (o : ℕ) (ends : List End) → holds o (offsets t ends) ≡ true → (j : ℕ) × (c : ℕ) × (n : ℕ) × (slice_get ends j ≡ Some (E.Comm c n)) × (o ≡ n * comm_period t c)
holds_ends t o [] e = absurd (let z : ⊥ = cc in z)
holds_ends t o (E.Port p ∷ ends) e = let r = holds_ends t o ends e in (suc r.0, r.1, r.2, r.3, r.4)
holds_ends t o (E.Comm c n ∷ ends) e = elim (or_cases (eqb (n * comm_period t c) o) (holds o (offsets t ends)) e) [
  | inl h ↦ (0, c, n, refl, sym (eqb-true (n * comm_period t c) o h))
  | inr h ↦ (let r = holds_ends t o ends h in (suc r.0, r.1, r.2, r.3, r.4))
]

holds_cond : (o : ℕ) (b : Bool) (xs : List ℕ) → holds o (cond b xs []) ≡ true → (b ≡ true) × (holds o xs ≡ true)
holds_cond o true xs e = (refl, e)
holds_cond o false xs e = absurd (let z : ⊥ = cc in z)

counts_mode : (t : Tables) (m : ℕ) (x : Inv) → counts t m x ≡ true → m ≡ x.mode
counts_mode t m x e = sym (eqb-true x.mode m (and_parts (eqb x.mode m) (is_concrete t x) e).0)

pub writes_within : (t : Tables) (last : ℕ) → 4 ≤ last → KeptApart t last → (m o : ℕ) → m < length t.modes → holds o (phase_offsets t m 1) ≡ true → (0 < o) × (o ≤ mode_period t m)
writes_within t last least kept m o inside there =
    let v = holds_joined o (counted_in t m 1) t.invs there in
    let c = holds_cond o (counts t m v.1) (offsets t v.1.writes) v.3 in
    let e = holds_ends t o v.1.writes c.1 in
    let mode : m ≡ v.1.mode = counts_mode t m v.1 c.0 in
    let x = item_at t.modes m inside in
    let no : (0 ≡ o) ⊎ (mode_period t m < o) → ⊥ = λ h.
    kept Offsets (record { mode = m; inv = Some v.0; part = Output e.0 }) o (mode_period t m) (omega (arith, least)) (λ e. omega (arith, e))
    (x.0, x.1, (v.1, v.2, sym mode, (E.Comm e.1 e.2, e.3, (e.4, ap (mode_period t) mode, elim h [ inl z ↦ inl (sym z) | inr z ↦ inr z ])))) in
    (by_zero o no, by_most o (mode_period t m) no)
  where
    by_zero : (a : ℕ) → ((0 ≡ a) ⊎ (mode_period t m < a) → ⊥) → 0 < a
    by_zero zero h = absurd (h (inl refl))
    by_zero (suc a) h = omega arith

    by_most : (a b : ℕ) → ((0 ≡ a) ⊎ (b < a) → ⊥) → a ≤ b
    by_most a b h = elim (cases_le a b) [ inl g ↦ g | inr g ↦ absurd (h (inr g)) ]

pub reads_within : (t : Tables) (last : ℕ) → 4 ≤ last → AreInRange t → KeptApart t last → (m o : ℕ) → m < length t.modes → holds o (phase_offsets t m 3) ≡ true → o < mode_period t m
reads_within t last least r kept m o inside there =
    let v = holds_joined o (counted_in t m 3) t.invs there in
    let c = holds_cond o (counts t m v.1) (release t v.1 ∷ offsets t v.1.reads) v.3 in
    let mode : m ≡ v.1.mode = counts_mode t m v.1 c.0 in
    elim (or_cases (eqb (release t v.1) o) (holds o (offsets t v.1.reads)) c.1) [
      | inl at_release ↦ subst (λ n. n < mode_period t m) (eqb-true (release t v.1) o at_release) (of_release v.0 v.1 v.2 mode)
      | inr of_end ↦ of_read v.0 v.1 v.2 mode o of_end
    ]
  where
    of_read : (i : ℕ) (x : Inv) → slice_get t.invs i ≡ Some x → m ≡ x.mode → (a : ℕ) → holds a (offsets t x.reads) ≡ true → a < mode_period t m
    of_read i x at mode a h =
        let e = holds_ends t a x.reads h in
        let y = item_at t.modes m inside in
        elim (cases_lt a (mode_period t m)) [
          | inl less ↦ less
          | inr late ↦
              absurd (kept Offsets (record { mode = m; inv = Some i; part = Input e.0 }) a (mode_period t m) (omega (arith, least)) (λ e. omega (arith, e))
              (y.0, y.1, (x, at, sym mode, (E.Comm e.1 e.2, e.3, (e.4, ap (mode_period t) mode, late)))))
        ]

    -- the greatest of offsets is the first, or one of them
    greatest_is : (a : ℕ) (xs : List ℕ) → (greatest a xs ≡ a) ⊎ (holds (greatest a xs) xs ≡ true)
    greatest_is a [] = inl refl
    greatest_is a (y ∷ ys) = elim (greatest_is (max a y) ys) [
      | inl e ↦ elim (either_max a y) [
        | inl z ↦ inl (e ∙ z)
        | inr z ↦ inr (ap (λ b. b || holds (greatest (max a y) ys) ys) (eq-eqb y (greatest (max a y) ys) (sym (e ∙ z))))
      ]
      | inr h ↦ inr (or_right (eqb y (greatest (max a y) ys)) (holds (greatest (max a y) ys) ys) h)
    ]
      where
        either_max : (a b : ℕ) → (max a b ≡ a) ⊎ (max a b ≡ b)
        either_max a b = grind arith

    of_release : (i : ℕ) (x : Inv) → slice_get t.invs i ≡ Some x → m ≡ x.mode → release t x < mode_period t m
    of_release i x at mode = elim (greatest_is 0 (offsets t x.reads)) [
      | inl none ↦ (let some = positive t m r inside in subst (λ n. n < mode_period t m) (sym none) some)
      | inr one ↦ of_read i x at mode (release t x) one
    ]

-- ---- all together

pub sound : (t : Tables) (code : ECode) (last : ℕ) → 4 ≤ last → AreInRange t → KeptApart t last → departure t code ≡ None → Sound t code
sound t code last least r kept spelled =
    record {
      ranges = r;
      reads = λ m inside. spelled_reads t code m spelled inside;
      periods = same_periods t last (omega (arith, least)) kept;
      writes_within = writes_within t last least kept;
      reads_within = reads_within t last least r kept;
    }

pub phase_is : (phase : ℕ) → (1 ≤ phase) × (phase ≤ 3) → IsPhase phase
phase_is zero h = absurd (omega (arith, h.0))
phase_is (suc zero) h = inl refl
phase_is (suc (suc zero)) h = inr (inl refl)
phase_is (suc (suc (suc zero))) h = inr (inr refl)
phase_is (suc (suc (suc (suc n)))) h = absurd (omega (arith, h.1))

-- one call, by what is asked of tables and code
pub step_onward : (t : Tables) (code : ECode) (now phase : ℕ) (values : List ℤ) (m after : Standing) (result : Option EDone) → AreInRange t → KeptApart t 12 → departure t code ≡ None → (1 ≤ phase) × (phase ≤ 3) →
    result ≡ done_in code phase now m → after ≡ standing_after t code values phase now m result →
    (es : List Event) → (done rest : List Done) → (phase ≡ 2 → values ≡ (state t es now).values) → Midway t code es now phase m done rest → Onward t code es now phase after done rest result
step_onward t code now phase values m after result r kept spelled p is next es done rest same mid =
    let one = call_onward t code es now phase values m done rest (sound t code 12 (omega arith) r kept spelled) (phase_is phase p) (λ e. same (eqb-true phase 2 e)) mid in
    let two : Onward t code es now phase (standing_after t code values phase now m result) done rest result = subst (λ o. Onward t code es now phase (standing_after t code values phase now m o) done rest o) (sym is) one in
    subst (λ z. Onward t code es now phase z done rest result) (sym next) two
