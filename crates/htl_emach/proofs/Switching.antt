-- What holds of each module in the switch phase.
use Rattle.std.proofs.Common.{◌≡◌, ℕ, zero, suc, ◌+◌, ◌-◌, ◌<◌, ◌≤◌, Bool, true, false, cond, ltb, List, [], ◌∷◌, length, slice_get, Option, Some, None, refl, sym, ap, ◌∙◌, arith, inl, inr}
use Rattle.htl_model.proofs.Stays.{runs_is}
use Rattle.htl_emach.proofs.Words.{cases_Bool, lt-ltb, cases_eq, nat_tests, Event, Mode, Stay, AreInRange, IsModeInRange, parent_of, Tables, mode_period, mode_module, state, before, stay_of, mode_of, runs, ECode, next_offset, least_from, phase_offsets, holds, block_at, IsLeast, least_is, ModeReads, Trigger, trigger_at, next_block, awaited, ending, is_called, entering, turning, Entry, entry_before, pending_entry, switched, old_stay, new_stay, each_at, cond_same, true_not_false}
use Rattle.htl_emach.proofs.{CopyPhases.off_offset, States.SamePeriods, States.runs_some, States.ran_none, States.stay_runs, States.module_at, States.parent_at, States.parent_of_runs, States.option_cases, States.some_stay, States.none_stay}

-- tables and code that the machine runs
pub record Sound (t : Tables) (code : ECode) : Type 0 where
  pub ranges : AreInRange t
  pub reads : (m : ℕ) → m < length t.modes → ModeReads t code m
  pub periods : SamePeriods t
  pub writes_within : (m o : ℕ) → m < length t.modes → holds o (phase_offsets t m 1) ≡ true → (0 < o) × (o ≤ mode_period t m)
  pub reads_within : (m o : ℕ) → m < length t.modes → holds o (phase_offsets t m 3) ≡ true → o < mode_period t m

-- ---- at a round's end nothing is awaited; at its start all is

no_more : (t : Tables) (code : ECode) (m p s from : ℕ) (xs : List ℕ) → next_offset t m p from ≡ least_from from xs → ((o : ℕ) → holds o xs ≡ true → o < from) → next_block t code m p s from ≡ None
no_more t code m p s from xs is below =
    ap (λ (n : Option ℕ). elim n as (λ _. Option Trigger) [ Some q ↦ trigger_at (s + q) (block_at t code m p q) | None ↦ None ]) (is ∙ by_least (least_from from xs) (least_is from xs))
  where
    by_least : (r : Option ℕ) → IsLeast from xs r → r ≡ None
    by_least None l = refl
    by_least (Some q) l = absurd (no q (below q l.1) l.0)
      where
        no : (q : ℕ) → q < from → from ≤ q → ⊥
        no q a b = omega (arith, a, b)

pub no_writes_left : (t : Tables) (code : ECode) (m s : ℕ) → Sound t code → m < length t.modes → next_block t code m 1 s (suc (mode_period t m)) ≡ None
no_writes_left t code m s h inside = no_more t code m 1 s (suc (mode_period t m)) (phase_offsets t m 1) refl (λ o there. let w = h.writes_within m o inside there in omega (arith, w.1))

pub no_reads_left : (t : Tables) (code : ECode) (m s : ℕ) → Sound t code → m < length t.modes → next_block t code m 3 s (mode_period t m) ≡ None
no_reads_left t code m s h inside = no_more t code m 3 s (mode_period t m) (phase_offsets t m 3) refl (λ o there. h.reads_within m o inside there)

pub no_first_write : (t : Tables) (code : ECode) (m s : ℕ) → Sound t code → m < length t.modes → next_block t code m 1 s 0 ≡ next_block t code m 1 s 1
no_first_write t code m s h inside =
    ap (λ (n : Option ℕ). elim n as (λ _. Option Trigger) [ Some q ↦ trigger_at (s + q) (block_at t code m 1 q) | None ↦ None ]) (off_offset 0 (phase_offsets t m 1) none)
  where
    none : holds 0 (phase_offsets t m 1) ≡ false
    none = elim (cases_Bool (holds 0 (phase_offsets t m 1))) [ inl there ↦ (let w = h.writes_within m 0 inside there in absurd (omega (arith, w.0))) | inr gone ↦ gone ]

pub positive : (t : Tables) (m : ℕ) → AreInRange t → m < length t.modes → 1 ≤ mode_period t m
positive t m r h = by_item (slice_get t.modes m) refl
  where
    past : (xs : List Mode) (i : ℕ) → i < length xs → slice_get xs i ≡ None → ⊥
    past [] i h e = omega (arith, h)
    past (x ∷ xs) zero h e = cc
    past (x ∷ xs) (suc i) h e = past xs i (omega (arith, h)) e

    by_item : (o : Option Mode) → slice_get t.modes m ≡ o → 1 ≤ elim o [ Some x ↦ x.period | None ↦ 0 ]
    by_item (Some x) e = (each_at (IsModeInRange t) t.modes r.modes m x e).period.some
    by_item None e = absurd (past t.modes m h e)

-- the entry of a module whose round begins at the instant
pub fresh_entry : (t : Tables) (code : ECode) (now m : ℕ) → Sound t code → m < length t.modes →
    record { mode = Some m; write = next_block t code m 1 now 0; switch = Some (ending t code (record { mode = m; start = now })); read = next_block t code m 3 now 0 } ≡ switched t code now (Some (record { mode = m; start = now }))
fresh_entry t code now m h inside =
    let one : 1 ≡ suc now - now = omega arith in
    let none : 0 ≡ now - now = omega arith in
    let e : Option Trigger → Option Trigger → Entry = λ w r. record { mode = Some m; write = w; switch = Some (ending t code (record { mode = m; start = now })); read = r } in
    ap (λ w. e w (next_block t code m 3 now 0)) (no_first_write t code m now h inside ∙ ap (next_block t code m 1 now) one)
    ∙ ap (λ n. e (next_block t code m 1 now (suc now - now)) (next_block t code m 3 now n)) none

-- the entry of a module whose round ends at the instant, with its trigger taken
pub over_entry : (t : Tables) (code : ECode) (now k j : ℕ) (z : Stay) (new : Option Stay) → Sound t code → z.mode < length t.modes → now ≡ z.start + mode_period t z.mode →
    record (pending_entry t code now k j (Some z) new) { switch = None } ≡ record { mode = Some z.mode; write = None; switch = None; read = None }
over_entry t code now k j z new h inside end =
    let one : suc now - z.start ≡ suc (mode_period t z.mode) = omega (arith, end) in
    let two : now - z.start ≡ mode_period t z.mode = omega (arith, end) in
    let e : Option Trigger → Option Trigger → Entry = λ w r. record { mode = Some z.mode; write = w; switch = None; read = r } in
    ap (λ w. e w (awaited t code 3 now (Some z))) (ap (next_block t code z.mode 1 z.start) one ∙ no_writes_left t code z.mode z.start h inside)
    ∙ ap (e None) (ap (next_block t code z.mode 3 z.start) two ∙ no_reads_left t code z.mode z.start h inside)

-- ---- which modules are called

pub called_by : (t : Tables) (k j q : ℕ) → parent_of t j ≡ Some q → mode_module t q < k → is_called t k j ≡ true
called_by t k j q e h = ap (λ (o : Option ℕ). elim o as (λ _. Bool) [ None ↦ true | Some p ↦ ltb (mode_module t p) k ]) e ∙ lt-ltb (mode_module t q) k h

-- the block of module k calls no module that it doesn't enter
abbrev pub CallsNone : Tables → List Event → ℕ → ℕ → ℕ → Type 0
CallsNone t es now k j = (q : ℕ) → parent_of t j ≡ Some q → mode_module t q ≡ k → old_stay t es now j ≡ None → new_stay t es now j ≡ None

turning_same : (t : Tables) (code : ECode) (es : List Event) (now k j : ℕ) → CallsNone t es now k j →
    turning t code now k j (old_stay t es now j) (new_stay t es now j) ≡ turning t code now (suc k) j (old_stay t es now j) (new_stay t es now j)
turning_same t code es now k j h = by_old (old_stay t es now j) refl (parent_of t j) refl
  where
    apart : (a b : ℕ) → (a ≡ b → ⊥) → ltb a b ≡ ltb a (suc b)
    apart a b n = grind (arith, nat_tests)

    by_old : (o : Option Stay) → old_stay t es now j ≡ o → (p : Option ℕ) → parent_of t j ≡ p → turning t code now k j o (new_stay t es now j) ≡ turning t code now (suc k) j o (new_stay t es now j)
    by_old (Some z) is p e = refl
    by_old None is None e =
        ap (λ (o : Option ℕ). cond (elim o as (λ _. Bool) [ None ↦ true | Some q ↦ ltb (mode_module t q) k ]) (entering code now (new_stay t es now j)) None) e
        ∙ sym (ap (λ (o : Option ℕ). cond (elim o as (λ _. Bool) [ None ↦ true | Some q ↦ ltb (mode_module t q) (suc k) ]) (entering code now (new_stay t es now j)) None) e)
    by_old None is (Some q) e =
        ap (λ (o : Option ℕ). cond (elim o as (λ _. Bool) [ None ↦ true | Some q ↦ ltb (mode_module t q) k ]) (entering code now (new_stay t es now j)) None) e
        ∙ elim (cases_eq (mode_module t q) k) [
          | inl same ↦ both (h q e same is) (ltb (mode_module t q) k) (ltb (mode_module t q) (suc k))
          | inr other ↦ ap (λ b. cond b (entering code now (new_stay t es now j)) None) (apart (mode_module t q) k other)
        ]
        ∙ sym (ap (λ (o : Option ℕ). cond (elim o as (λ _. Bool) [ None ↦ true | Some q ↦ ltb (mode_module t q) (suc k) ]) (entering code now (new_stay t es now j)) None) e)
      where
        both : new_stay t es now j ≡ None → (a b : Bool) → ◌≡◌ {A = Option Trigger} (cond a (entering code now (new_stay t es now j)) None) (cond b (entering code now (new_stay t es now j)) None)
        both none a b =
            ap (λ (y : Option Stay). cond a (entering code now y) None) none ∙ cond_same a None ∙ sym (cond_same b None) ∙ sym (ap (λ (y : Option Stay). cond b (entering code now y) None) none)

pub before_same : (t : Tables) (code : ECode) (es : List Event) (now k j : ℕ) → CallsNone t es now k j →
    entry_before t code now 2 k j (old_stay t es now j) (new_stay t es now j) ≡ entry_before t code now 2 (suc k) j (old_stay t es now j) (new_stay t es now j)
before_same t code es now k j h = ap with_switch (turning_same t code es now k j h)
  where
    with_switch : Option Trigger → Entry
    with_switch z = record { mode = mode_of (old_stay t es now j); write = awaited t code 1 (suc now) (old_stay t es now j); switch = z; read = awaited t code 3 now (old_stay t es now j) }

-- a child that is active now has an active parent
pub parent_stay : (t : Tables) (es : List Event) (now j q : ℕ) (y : Stay) → AreInRange t → j < length t.modules → parent_of t j ≡ Some q → new_stay t es now j ≡ Some y → (z : Stay) × (new_stay t es now (mode_module t q) ≡ Some z) × (z.mode ≡ q)
parent_stay t es now j q y r inside e new =
    let x = module_at t j inside in
    let parent : x.0.parent ≡ Some q = sym (parent_at t j x.0 x.1) ∙ e in
    runs_is t (state t es now).stays q (sym (parent_of_runs t es now x.0 q parent) ∙ runs_some t es now j x.0 y r x.1 new)

pub calls_none_gone : (t : Tables) (es : List Event) (now k j : ℕ) → AreInRange t → j < length t.modules → new_stay t es now k ≡ None → CallsNone t es now k j
calls_none_gone t es now k j r inside gone = λ q e same old. elim (option_cases (new_stay t es now j)) [
  | inl none ↦ none
  | inr y ↦ (let z = parent_stay t es now j q y.0 r inside e y.1 in absurd (none_stay z.0 (sym gone ∙ ap (new_stay t es now) (sym same) ∙ z.1)))
]

pub calls_none_kept : (t : Tables) (es : List Event) (now k j : ℕ) (z y : Stay) → AreInRange t → j < length t.modules → old_stay t es now k ≡ Some z → new_stay t es now k ≡ Some y → y.mode ≡ z.mode → CallsNone t es now k j
calls_none_kept t es now k j z y r inside old new mode = λ q e same gone. elim (option_cases (new_stay t es now j)) [
  | inl none ↦ none
  | inr v ↦ (
      let x = module_at t j inside in
      let parent : x.0.parent ≡ Some q = sym (parent_at t j x.0 x.1) ∙ e in
      let w = parent_stay t es now j q v.0 r inside e v.1 in
      let is : y ≡ w.0 = some_stay y w.0 (sym new ∙ ap (new_stay t es now) (sym same) ∙ w.1) in
      let zq : z.mode ≡ q = sym mode ∙ ap (λ (s : Stay). s.mode) is ∙ w.2 in
      let at : stay_of (before t es now).stays (mode_module t q) ≡ Some z = ap (stay_of (before t es now).stays) same ∙ old in
      absurd (true_not_false (runs t (before t es now).stays q) (stay_runs t (before t es now).stays q z at zq) (ran_none t es now j x.0 q r x.1 parent gone)))
]
