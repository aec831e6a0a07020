-- One module in the switch phase: it stays as it is, goes on, enters a mode or leaves.
use Rattle.std.proofs.Common.{◌≡◌, ℕ, suc, ◌+◌, ◌<◌, ◌≤◌, Bool, true, false, cond, eqb, ltb, List, [], length, slice_get, Option, Some, None, refl, sym, ap, ◌∙◌, subst, arith, ◌⊎◌, inl, inr}
use Rattle.htl_emach.proofs.Words.{eqb-true, eq-eqb, cases_Bool, nat_tests, slice_get_within, none-some, same_Some, Event, Module, Stay, AreInRange, IsSwitchInRange, parent_of, Tables, mode_period, mode_module, state, before, stay_of, mode_of, runs, target, ECode, is_child, children, entered, on, holds_in, switch_path, enter_path, decide_path, round_end, kept, Trigger, Calendar, with_trigger, target_at, entry_of, goes_at, awaited, ended, is_called, entering, turning, Between, IsSized, Entry, entry_at, pending_entry, switched, old_stay, new_stay, BlockRuns, phase_blocks, each_at, true_not_false, cases_below}
use Rattle.htl_emach.proofs.{ModuleLaws.due_target, ModuleLaws.ModuleLaws, Effects.replay_kept, Effects.allowed_kept, Effects.trigger_set_here, Effects.trigger_set_other, Effects.trigger_set_sized, Effects.sized_module}
use Rattle.htl_emach.proofs.{CopyPhases.not_due, CopyPhases.due_here, CopyPhases.step_between, Rounds.Passes, Rounds.begun_calendar, Rounds.entered_calendar, Rounds.forked, Rounds.with_mode, Rounds.enter_passes}
use Rattle.htl_emach.proofs.Deciding.{Decides, stay_passes, gone_passes, moved_calendar}
use Rattle.htl_emach.proofs.Forks.{begun_sized, begun_other, begun_here, forked_sized, forked_at, called, mode_sized, mode_here, mode_other}
use Rattle.htl_emach.proofs.States.{values_now, parent_runs, lower_parent, IsStay, old_stays, new_stays, goes_on, begins_now, runs_some, runs_none, ran_some, stay_runs, leaves, active_some, module_at, parent_at, parent_of_runs, option_cases, some_stay, mode_known}
use Rattle.htl_emach.proofs.Switching.{Sound, positive, fresh_entry, over_entry, called_by, CallsNone, before_same, parent_stay, calls_none_gone, calls_none_kept}

-- ---- a path of the phase that runs

passes_runs : (t : Tables) (code : ECode) (es : List Event) (now k a : ℕ) (xs : List ℕ) (f : Calendar → Calendar) (c : Calendar) → k < length t.modules → Passes t code now k (goes_at t es now) a xs f →
    Between t code es now 2 (f (with_trigger 2 k None c)) (suc k) → BlockRuns t code es now 2 (with_trigger 2 k None c) k a xs
passes_runs t code es now k a xs f c inside p h =
    record {
      within = inside;
      ends = p.ends;
      allowed = allowed_kept t code.instrs 2 k xs p.allowed;
      leads = subst (λ z. Between t code es now 2 z (suc k)) (sym (replay_kept t code now k xs (with_trigger 2 k None c) ∙ p.does (with_trigger 2 k None c))) h;
    }

-- the entry of module k, with its trigger taken
taken_entry : (t : Tables) (code : ECode) (es : List Event) (now k : ℕ) (c : Calendar) → k < length t.modules → Between t code es now 2 c k →
    entry_at (with_trigger 2 k None c) k ≡ record (pending_entry t code now k k (old_stay t es now k) (new_stay t es now k)) { switch = None }
taken_entry t code es now k c inside b =
    trigger_set_here 2 k None c (sized_module t c k b.sized inside) ∙ ap (λ (e : Entry). record e { switch = None }) (b.above k (omega arith) inside)

-- ---- a mode is entered

abbrev parent_is : ℕ → Option ℕ → Bool
parent_is m o = elim o [ Some q ↦ eqb q m | None ↦ false ]

child_is : (m : ℕ) (o : Option ℕ) → parent_is m o ≡ true → o ≡ Some m
child_is m None e = absurd (let z : ⊥ = cc in z)
child_is m (Some q) e = ap (λ z. Some z) (eqb-true q m e)

no_child : (t : Tables) (m k j : ℕ) (x : Module) → AreInRange t → slice_get t.modules j ≡ Some x → mode_module t m ≡ k → j ≤ k → is_child m x ≡ false
no_child t m k j x r at owner low = elim (cases_Bool (is_child m x)) [
  | inl yes_child ↦ (let h = lower_parent t j x m r at (child_is m x.parent yes_child) in absurd (omega (arith, h, owner, low)))
  | inr is ↦ is
]

-- the calendar after module k entered mode m, before its round begins
abbrev before_round : Tables → ECode → ℕ → ℕ → ℕ → Calendar → Calendar
before_round t code now k m c = forked t code now (children t m) (with_mode k (Some m) (with_trigger 2 k None c))

before_round_at : (t : Tables) (code : ECode) (now k m : ℕ) (c : Calendar) (j : ℕ) (x : Module) → IsSized t c → j < length t.modules → slice_get t.modules j ≡ Some x → (j ≡ k → ⊥) →
    entry_at (before_round t code now k m c) j ≡ cond (is_child m x) (record (entry_at c j) { switch = called t code now j }) (entry_at c j)
before_round_at t code now k m c j x s inside at other =
    forked_at t code now (is_child m) 0 t.modules (with_mode k (Some m) (with_trigger 2 k None c)) j j x (mode_sized t k (Some m) (with_trigger 2 k None c) (trigger_set_sized t 2 k None c s)) inside (omega arith) at
    ∙ ap (λ (e : Entry). cond (is_child m x) (record e { switch = called t code now j }) e) (mode_other k j (Some m) (with_trigger 2 k None c) other ∙ trigger_set_other 2 k j None c other)

before_round_here : (t : Tables) (code : ECode) (now k m : ℕ) (c : Calendar) (x : Module) (mode : Option ℕ) → AreInRange t → IsSized t c → slice_get t.modules k ≡ Some x → mode_module t m ≡ k →
    entry_at (with_trigger 2 k None c) k ≡ record { mode = mode; write = None; switch = None; read = None } →
    entry_at (before_round t code now k m c) k ≡ record { mode = Some m; write = None; switch = None; read = None }
before_round_here t code now k m c x mode r s at owner base =
    let inside : k < length t.modules = slice_get_within t.modules k x at in
    let c1 : Calendar = with_trigger 2 k None c in
    let s1 : IsSized t c1 = trigger_set_sized t 2 k None c s in
    forked_at t code now (is_child m) 0 t.modules (with_mode k (Some m) (with_trigger 2 k None c)) k k x (mode_sized t k (Some m) (with_trigger 2 k None c) s1) inside (omega arith) at
    ∙ ap (λ b. cond b (record (entry_at (with_mode k (Some m) (with_trigger 2 k None c)) k) { switch = called t code now k }) (entry_at (with_mode k (Some m) (with_trigger 2 k None c)) k)) (no_child t m k k x r at owner (omega arith))
    ∙ mode_here t k (Some m) (with_trigger 2 k None c) s1 inside
    ∙ ap (λ (e : Entry). record e { mode = Some m }) base

-- a child of the mode that is entered is called
child_called : (t : Tables) (code : ECode) (es : List Event) (now k m j : ℕ) (x : Module) → AreInRange t → slice_get t.modules j ≡ Some x → x.parent ≡ Some m → mode_module t m ≡ k → runs t (before t es now).stays m ≡ false →
    new_stay t es now k ≡ Some (record { mode = m; start = now }) → called t code now j ≡ turning t code now (suc k) j (old_stay t es now j) (new_stay t es now j)
child_called t code es now k m j x r at parent owner off new =
    let gone : old_stay t es now j ≡ None = elim (option_cases (old_stay t es now j)) [ inl none ↦ none | inr w ↦ absurd (true_not_false (runs t (before t es now).stays m) (ran_some t es now j x m w.0 r at parent w.1) off) ] in
    let on : runs t (state t es now).stays m ≡ true = stay_runs t (state t es now).stays m (record { mode = m; start = now }) (ap (new_stay t es now) owner ∙ new) refl in
    let y = active_some t es now j x r at (parent_of_runs t es now x m parent ∙ on) in
    let is : y.0 ≡ record { mode = x.start; start = now } = begins_now t es now j x y.0 r at gone y.1 in
    let low : mode_module t m < suc k = omega (arith, owner) in
    let entry : entry_of t code j ≡ entered code x.start = ap (λ (o : Option Module). elim o as (λ _. ℕ) [ Some z ↦ entered code z.start | None ↦ 0 ]) at in
    ap (λ a. Some (record { at = now; target = a })) (entry ∙ sym (ap (λ (s : Stay). entered code s.mode) is))
    ∙ sym (ap (λ b. cond b (entering code now (Some y.0)) None) (called_by t (suc k) j m (parent_at t j x at ∙ parent) low))
    ∙ sym (ap (turning t code now (suc k) j None) y.1)
    ∙ sym (ap (λ (o : Option Stay). turning t code now (suc k) j o (new_stay t es now j)) gone)

-- what isn't a child of the mode isn't called
calls_none_entered : (t : Tables) (es : List Event) (now k m j : ℕ) (x : Module) → AreInRange t → slice_get t.modules j ≡ Some x → is_child m x ≡ false → new_stay t es now k ≡ Some (record { mode = m; start = now }) → CallsNone t es now k j
calls_none_entered t es now k m j x r at not_one new = λ q e same old. elim (option_cases (new_stay t es now j)) [
  | inl none ↦ none
  | inr v ↦ (
      let w = parent_stay t es now j q v.0 r (slice_get_within t.modules j x at) e v.1 in
      let is : record { mode = m; start = now } ≡ w.0 = some_stay (record { mode = m; start = now }) w.0 (sym new ∙ ap (new_stay t es now) (sym same) ∙ w.1) in
      let mode : q ≡ m = sym w.2 ∙ sym (ap (λ (s : Stay). s.mode) is) in
      let child : is_child m x ≡ true = ap (parent_is m) (sym (parent_at t j x at) ∙ e) ∙ eq-eqb q m mode in
      absurd (true_not_false (is_child m x) child not_one))
]

pub enters : (t : Tables) (code : ECode) (es : List Event) (now k m : ℕ) (c : Calendar) (mode : Option ℕ) → Sound t code → k < length t.modules → m < length t.modes → mode_module t m ≡ k → runs t (before t es now).stays m ≡ false →
    new_stay t es now k ≡ Some (record { mode = m; start = now }) → Between t code es now 2 c k → entry_at (with_trigger 2 k None c) k ≡ record { mode = mode; write = None; switch = None; read = None } →
    Between t code es now 2 (entered_calendar t code now k m (with_trigger 2 k None c)) (suc k)
enters t code es now k m c mode h inside known owner off new b base =
    let x = module_at t k inside in
    let s3 : IsSized t (before_round t code now k m c) = forked_sized t code now (children t m) (with_mode k (Some m) (with_trigger 2 k None c)) (mode_sized t k (Some m) (with_trigger 2 k None c) (trigger_set_sized t 2 k None c b.sized)) in
    record {
      sized = begun_sized t code now k m (before_round t code now k m c) s3;
      below = λ j less. elim (cases_below j k less) [
        | inl lower ↦ lower_stays j lower ∙ b.below j lower
        | inr same ↦ subst (λ z. entry_at (begun_calendar t code now k m (before_round t code now k m c)) z ≡ switched t code now (new_stay t es now z)) (sym same)
            (begun_here t code now k m (before_round t code now k m c) (Some m) None s3 inside (before_round_here t code now k m c x.0 mode h.ranges b.sized x.1 owner base)
            ∙ fresh_entry t code now m h known ∙ sym (ap (switched t code now) new))
      ];
      above = λ j more within. higher j more within (b.above j (omega (arith, more)) within);
    }
  where
    lower_stays : (j : ℕ) → j < k → entry_at (begun_calendar t code now k m (before_round t code now k m c)) j ≡ entry_at c j
    lower_stays j lower =
        let within : j < length t.modules = omega (arith, lower, inside) in
        let x = module_at t j within in
        begun_other t code now k m j (before_round t code now k m c) (λ e. omega (arith, e, lower))
        ∙ before_round_at t code now k m c j x.0 b.sized within x.1 (λ e. omega (arith, e, lower))
        ∙ ap (λ z. cond z (record (entry_at c j) { switch = called t code now j }) (entry_at c j)) (no_child t m k j x.0 h.ranges x.1 owner (omega (arith, lower)))

    with_switch : ℕ → Option Trigger → Entry
    with_switch j z = record { mode = mode_of (old_stay t es now j); write = awaited t code 1 (suc now) (old_stay t es now j); switch = z; read = awaited t code 3 now (old_stay t es now j) }

    higher : (j : ℕ) → suc k ≤ j → j < length t.modules → entry_at c j ≡ pending_entry t code now k j (old_stay t es now j) (new_stay t es now j) →
        entry_at (begun_calendar t code now k m (before_round t code now k m c)) j ≡ pending_entry t code now (suc k) j (old_stay t es now j) (new_stay t es now j)
    higher j more within e =
        let x = module_at t j within in
        begun_other t code now k m j (before_round t code now k m c) (λ e. omega (arith, e, more))
        ∙ before_round_at t code now k m c j x.0 b.sized within x.1 (λ e. omega (arith, e, more))
        ∙ ap (λ (z : Entry). cond (is_child m x.0) (record z { switch = called t code now j }) z) e
        ∙ by_child x.0 x.1 (is_child m x.0) refl
      where
        by_child : (x : Module) → slice_get t.modules j ≡ Some x → (a : Bool) → is_child m x ≡ a →
            cond a (with_switch j (called t code now j)) (pending_entry t code now k j (old_stay t es now j) (new_stay t es now j)) ≡ pending_entry t code now (suc k) j (old_stay t es now j) (new_stay t es now j)
        by_child x at true is = ap (with_switch j) (child_called t code es now k m j x h.ranges at (child_is m x.parent is) owner off new)
        by_child x at false is = before_same t code es now k j (calls_none_entered t es now k m j x h.ranges at is new)

-- ---- the four cases

-- what the laws speak of, by where the module was and where it is
module _ (t : Tables) (code : ECode) (es : List Event) (now k : ℕ) (h : Sound t code) (inside : k < length t.modules) (x : Module) (at : slice_get t.modules k ≡ Some x) where
  due_by : (o n : Option Stay) → old_stay t es now k ≡ o → new_stay t es now k ≡ n → due_target t code es now 2 k ≡ target_at now (turning t code now k k o n)
  due_by o n old new =
      ap (λ (a : Option Stay). target_at now (turning t code now k k a (new_stay t es now k))) old ∙ ap (λ (b : Option Stay). target_at now (turning t code now k k o b)) new

  blocks_by : (o n : Option Stay) → old_stay t es now k ≡ o → new_stay t es now k ≡ n → phase_blocks t code es now 2 k ≡ on k (switch_path t code (values_now t es now) now o n)
  blocks_by o n old new =
      ap (λ (a : Option Stay). on k (switch_path t code (values_now t es now) now a (new_stay t es now k))) old ∙ ap (λ (b : Option Stay). on k (switch_path t code (values_now t es now) now o b)) new

  written_by : (o n : Option Stay) → old_stay t es now k ≡ o → new_stay t es now k ≡ n → pending_entry t code now k k (old_stay t es now k) (new_stay t es now k) ≡ pending_entry t code now k k o n
  written_by o n old new =
      ap (λ (a : Option Stay). pending_entry t code now k k a (new_stay t es now k)) old ∙ ap (λ (b : Option Stay). pending_entry t code now k k o b) new

  -- the trigger isn't due again
  not_again : target_at now (ended t code (new_stay t es now k)) ≡ None
  not_again = elim (option_cases (new_stay t es now k)) [
    | inl none ↦ ap (λ y. target_at now (ended t code y)) none
    | inr y ↦ ap (λ y. target_at now (ended t code y)) y.1 ∙ not_due (y.0.start + mode_period t y.0.mode) now (Some (round_end t code y.0.mode)) (later y.0 y.1 (option_cases (old_stay t es now k)))
  ]
    where
      from_now : (y : Stay) → 1 ≤ mode_period t y.mode → y.start ≡ now → y.start + mode_period t y.mode ≡ now → ⊥
      from_now y some start e = omega (arith, some, start, e)

      later : (y : Stay) → new_stay t es now k ≡ Some y → (old_stay t es now k ≡ None) ⊎ ((z : Stay) × (old_stay t es now k ≡ Some z)) → y.start + mode_period t y.mode ≡ now → ⊥
      later y new (inl gone) e =
          let some = positive t y.mode h.ranges (new_stays t es now k y h.ranges inside new).mode in
          from_now y some (ap (λ (s : Stay). s.start) (begins_now t es now k x y h.ranges at gone new)) e
      later y new (inr z) e =
          let some = positive t y.mode h.ranges (new_stays t es now k y h.ranges inside new).mode in
          let g = goes_on t es now k x z.0 y h.ranges at z.1 new in
          elim g.ended [
            | inl over ↦ from_now y some (ap (λ (s : Stay). s.start) (g.fresh over)) e
            | inr kept ↦ kept.1 (sym e ∙ ap (λ (s : Stay). s.start + mode_period t s.mode) kept.0)
          ]

  -- inactive, before and now
  module_absent : old_stay t es now k ≡ None → new_stay t es now k ≡ None → ModuleLaws t code es now 2 k
  module_absent old new =
      let due : due_target t code es now 2 k ≡ None = due_by None None old new ∙ by_test (is_called t k k) in
      record {
        passed = not_again;
        idle = λ e. (
          blocks_by None None old new,
          λ c b. step_between t code es now 2 c c k b inside b.sized (b.above k (omega arith) inside ∙ written_by None None old new ∙ entry (is_called t k k) ∙ sym (ap (switched t code now) new)) (λ j n. refl)
              (λ j more within. before_same t code es now k j (calls_none_gone t es now k j h.ranges within new)),
        );
        busy = λ a e. absurd (none-some a (sym due ∙ e));
      }
    where
      by_test : (b : Bool) → target_at now (cond b (entering code now None) None) ≡ None
      by_test true = refl
      by_test false = refl

      entry : (b : Bool) → record { mode = None; write = None; switch = cond b (entering code now None) None; read = None } ≡ switched t code now None
      entry true = refl
      entry false = refl

  -- it begins
  module_begins : (y : Stay) → old_stay t es now k ≡ None → new_stay t es now k ≡ Some y → ModuleLaws t code es now 2 k
  module_begins y old new =
      let is : y ≡ record { mode = x.start; start = now } = begins_now t es now k x y h.ranges at old new in
      let m : ℕ = y.mode in
      let same : y ≡ record { mode = y.mode; start = now } = is ∙ ap (λ n. record { mode = n; start = now }) (sym (ap (λ (s : Stay). s.mode) is)) in
      let known = new_stays t es now k y h.ranges inside new in
      let due : due_target t code es now 2 k ≡ Some (entered code y.mode) =
      due_by None (Some y) old new ∙ ap (λ b. target_at now (cond b (entering code now (Some y)) None)) (is_called_now x.parent refl) ∙ due_here now now (entered code y.mode) refl in
      let off : runs t (before t es now).stays y.mode ≡ false = not_running (old_stay t es now k) refl old known.owner in
      record {
        passed = not_again;
        idle = λ e. absurd (none-some (entered code y.mode) (sym e ∙ due));
        busy = λ a e. (
          enter_path t code y.mode,
          blocks_by None (Some y) old new,
          λ c b.
              passes_runs t code es now k a (enter_path t code y.mode) (entered_calendar t code now k y.mode) c inside
              (subst (λ z. Passes t code now k (goes_at t es now) z (enter_path t code y.mode) (entered_calendar t code now k y.mode)) (same_Some (entered code y.mode) a (sym due ∙ e))
              (enter_passes t code now k y.mode (holds_in t (values_now t es now)) (runs t (state t es now).stays) (h.reads y.mode known.mode)))
              (enters t code es now k y.mode c None h inside known.mode known.owner off (new ∙ ap (λ z. Some z) same) b
              (taken_entry t code es now k c inside b ∙ ap (λ (e : Entry). record e { switch = None }) (written_by None (Some y) old new))),
        );
      }
    where
      is_called_now : (o : Option ℕ) → x.parent ≡ o → is_called t k k ≡ true
      is_called_now None e = ap (λ (o : Option ℕ). elim o as (λ _. Bool) [ None ↦ true | Some p ↦ ltb (mode_module t p) k ]) (parent_at t k x at ∙ e)
      is_called_now (Some q) e = called_by t k k q (parent_at t k x at ∙ e) (lower_parent t k x q h.ranges at e)

      not_running : (o : Option Stay) → old_stay t es now k ≡ o → o ≡ None → mode_module t y.mode ≡ k → runs t (before t es now).stays y.mode ≡ false
      not_running o is none owner =
          ap (λ (s : Option Stay). elim s as (λ _. Bool) [ Some z ↦ eqb z.mode y.mode | None ↦ false ]) (ap (stay_of (before t es now).stays) owner ∙ is ∙ none)

  decides : (z : Stay) → IsStay t now k z → Decides t code z.mode k
  decides z s =
      record {
        mine = h.reads z.mode s.mode;
        others = λ i w e same. (let r = each_at (IsSwitchInRange t) t.switches h.ranges.switches i w e in h.reads w.target (mode_known t (mode_module t w.mode) w.target r.target).0);
        owner = s.owner;
        lower = λ q e. lower_parent t k x q h.ranges at (sym (parent_at t k x at) ∙ e);
      }

  -- the trigger of a round that ends at the instant
  ends_due : (z : Stay) (n : Option Stay) → old_stay t es now k ≡ Some z → new_stay t es now k ≡ n → now ≡ z.start + mode_period t z.mode → due_target t code es now 2 k ≡ Some (round_end t code z.mode)
  ends_due z n old new end = due_by (Some z) n old new ∙ due_here (z.start + mode_period t z.mode) now (round_end t code z.mode) (sym end)

  -- it leaves
  module_leaves : (z : Stay) → old_stay t es now k ≡ Some z → new_stay t es now k ≡ None → ModuleLaws t code es now 2 k
  module_leaves z old new =
      let end : now ≡ z.start + mode_period t z.mode = leaves t es now k z h.ranges h.periods inside old new in
      let due : due_target t code es now 2 k ≡ Some (round_end t code z.mode) = ends_due z None old new end in
      let s = old_stays t es now k z h.ranges inside old in
      record {
        passed = not_again;
        idle = λ e. absurd (none-some (round_end t code z.mode) (sym e ∙ due));
        busy = λ a e. (
          decide_path t code (values_now t es now) false z.mode,
          blocks_by (Some z) None old new,
          λ c b.
              passes_runs t code es now k a (decide_path t code (values_now t es now) false z.mode) (with_mode k None) c inside
              (subst (λ y. Passes t code now k (goes_at t es now) y (decide_path t code (values_now t es now) false z.mode) (with_mode k None)) (same_Some (round_end t code z.mode) a (sym due ∙ e)) (gone z s x.parent refl (runs_none t es now k x h.ranges at new)))
              (step_between t code es now 2 c (with_mode k None (with_trigger 2 k None c)) k b inside (mode_sized t k None (with_trigger 2 k None c) (trigger_set_sized t 2 k None c b.sized))
              (mode_here t k None (with_trigger 2 k None c) (trigger_set_sized t 2 k None c b.sized) inside
              ∙ ap (λ (e : Entry). record e { mode = None }) (taken_entry t code es now k c inside b ∙ ap (λ (e : Entry). record e { switch = None }) (written_by (Some z) None old new) ∙ over_entry t code now k k z None h s.mode end)
              ∙ sym (ap (switched t code now) new))
              (λ j n. mode_other k j None (with_trigger 2 k None c) n ∙ trigger_set_other 2 k j None c n)
              (λ j more within. before_same t code es now k j (calls_none_gone t es now k j h.ranges within new))),
        );
      }
    where
      gone : (z : Stay) → IsStay t now k z → (o : Option ℕ) → x.parent ≡ o → parent_runs t es now x ≡ false → Passes t code now k (goes_at t es now) (round_end t code z.mode) (decide_path t code (values_now t es now) false z.mode) (with_mode k None)
      gone z s None e off = absurd (true_not_false (parent_runs t es now x) (ap (λ (o : Option ℕ). elim o as (λ _. Bool) [ None ↦ true | Some p ↦ runs t (state t es now).stays p ]) e) off)
      gone z s (Some q) e off = gone_passes t code now k z.mode q (values_now t es now) (runs t (state t es now).stays) (decides z s) (parent_at t k x at ∙ e) (sym (parent_of_runs t es now x q e) ∙ off)

  -- its round goes on
  module_stays : (z y : Stay) → old_stay t es now k ≡ Some z → new_stay t es now k ≡ Some y → y ≡ z → (now ≡ z.start + mode_period t z.mode → ⊥) → ModuleLaws t code es now 2 k
  module_stays z y old new same goes =
      let due : due_target t code es now 2 k ≡ None = due_by (Some z) (Some y) old new ∙ not_due (z.start + mode_period t z.mode) now (Some (round_end t code z.mode)) (λ e. goes (sym e)) in
      record {
        passed = not_again;
        idle = λ e. (
          blocks_by (Some z) (Some y) old new ∙ ap (λ b. on k (elim b as (λ _. List ℕ) [ true ↦ decide_path t code (values_now t es now) true z.mode | false ↦ [] ])) (closed_test (eqb now (z.start + mode_period t z.mode)) refl),
          λ c b. step_between t code es now 2 c c k b inside b.sized (b.above k (omega arith) inside ∙ written_by (Some z) (Some y) old new ∙ ap (λ w. switched t code now (Some w)) (sym same) ∙ sym (ap (switched t code now) new)) (λ j n. refl)
              (λ j more within. before_same t code es now k j (calls_none_kept t es now k j z y h.ranges within old new (ap (λ (s : Stay). s.mode) same))),
        );
        busy = λ a e. absurd (none-some a (sym due ∙ e));
      }
    where
      closed_test : (b : Bool) → eqb now (z.start + mode_period t z.mode) ≡ b → eqb now (z.start + mode_period t z.mode) ≡ false
      closed_test true e = absurd (goes (eqb-true now (z.start + mode_period t z.mode) e))
      closed_test false e = e

  -- its round ends, and another begins
  module_turns : (z y : Stay) → old_stay t es now k ≡ Some z → new_stay t es now k ≡ Some y → now ≡ z.start + mode_period t z.mode → y ≡ record { mode = target t (values_now t es now) z.mode; start = now } → ModuleLaws t code es now 2 k
  module_turns z y old new end is =
      let due : due_target t code es now 2 k ≡ Some (round_end t code z.mode) = ends_due z (Some y) old new end in
      let s = old_stays t es now k z h.ranges inside old in
      record {
        passed = not_again;
        idle = λ e. absurd (none-some (round_end t code z.mode) (sym e ∙ due));
        busy = λ a e. (
          decide_path t code (values_now t es now) true z.mode,
          blocks_by (Some z) (Some y) old new ∙ ap (λ b. on k (elim b as (λ _. List ℕ) [ true ↦ decide_path t code (values_now t es now) true z.mode | false ↦ [] ])) (eq-eqb now (z.start + mode_period t z.mode) end),
          λ c b.
              passes_runs t code es now k a (decide_path t code (values_now t es now) true z.mode) (moved_calendar t code now k z.mode (target t (values_now t es now) z.mode)) c inside
              (subst (λ w. Passes t code now k (goes_at t es now) w (decide_path t code (values_now t es now) true z.mode) (moved_calendar t code now k z.mode (target t (values_now t es now) z.mode))) (same_Some (round_end t code z.mode) a (sym due ∙ e))
              (stay_passes t code now k z.mode (values_now t es now) (runs t (state t es now).stays) (decides z s) parent_on))
              (by_mode (target t (values_now t es now) z.mode) (new ∙ ap (λ w. Some w) is) s c b (base c b s) (eqb (target t (values_now t es now) z.mode) z.mode) refl),
        );
      }
    where
      parent_on : (q : ℕ) → parent_of t k ≡ Some q → runs t (state t es now).stays q ≡ true
      parent_on q e = sym (parent_of_runs t es now x q (sym (parent_at t k x at) ∙ e)) ∙ runs_some t es now k x y h.ranges at new

      base : (c : Calendar) → Between t code es now 2 c k → IsStay t now k z → entry_at (with_trigger 2 k None c) k ≡ record { mode = Some z.mode; write = None; switch = None; read = None }
      base c b s = taken_entry t code es now k c inside b ∙ ap (λ (e : Entry). record e { switch = None }) (written_by (Some z) (Some y) old new) ∙ over_entry t code now k k z (Some y) h s.mode end

      by_mode : (m : ℕ) → new_stay t es now k ≡ Some (record { mode = m; start = now }) → IsStay t now k z → (c : Calendar) → Between t code es now 2 c k → entry_at (with_trigger 2 k None c) k ≡ record { mode = Some z.mode; write = None; switch = None; read = None } →
          (a : Bool) → eqb m z.mode ≡ a → Between t code es now 2 (cond a (begun_calendar t code now k z.mode (with_trigger 2 k None c)) (entered_calendar t code now k m (with_trigger 2 k None c))) (suc k)
      by_mode m here s c b start true same =
          let mode : m ≡ z.mode = eqb-true m z.mode same in
          step_between t code es now 2 c (begun_calendar t code now k z.mode (with_trigger 2 k None c)) k b inside (begun_sized t code now k z.mode (with_trigger 2 k None c) (trigger_set_sized t 2 k None c b.sized))
          (begun_here t code now k z.mode (with_trigger 2 k None c) (Some z.mode) None (trigger_set_sized t 2 k None c b.sized) inside start
          ∙ fresh_entry t code now z.mode h s.mode ∙ ap (λ n. switched t code now (Some (record { mode = n; start = now }))) (sym mode) ∙ sym (ap (switched t code now) here))
          (λ j n. begun_other t code now k z.mode j (with_trigger 2 k None c) n ∙ trigger_set_other 2 k j None c n)
          (λ j more within. before_same t code es now k j (calls_none_kept t es now k j z (record { mode = m; start = now }) h.ranges within old here mode))
      by_mode m here s c b start false other =
          let known = new_stays t es now k (record { mode = m; start = now }) h.ranges inside here in
          enters t code es now k m c (Some z.mode) h inside known.mode known.owner (not_running m known.owner other) here b start
        where
          apart : (a b : ℕ) → eqb a b ≡ false → eqb b a ≡ false
          apart a b e = grind (arith, nat_tests)

          not_running : (m : ℕ) → mode_module t m ≡ k → eqb m z.mode ≡ false → runs t (before t es now).stays m ≡ false
          not_running m owner e =
              ap (λ (o : Option Stay). elim o as (λ _. Bool) [ Some w ↦ eqb w.mode m | None ↦ false ]) (ap (stay_of (before t es now).stays) owner ∙ old) ∙ apart m z.mode e

  pub module_switches : ModuleLaws t code es now 2 k
  module_switches = by_stays (option_cases (old_stay t es now k)) (option_cases (new_stay t es now k))
    where
      by_stays : (old_stay t es now k ≡ None) ⊎ ((z : Stay) × (old_stay t es now k ≡ Some z)) → (new_stay t es now k ≡ None) ⊎ ((y : Stay) × (new_stay t es now k ≡ Some y)) → ModuleLaws t code es now 2 k
      by_stays (inl gone) (inl none) = module_absent gone none
      by_stays (inl gone) (inr y) = module_begins y.0 gone y.1
      by_stays (inr z) (inl none) = module_leaves z.0 z.1 none
      by_stays (inr z) (inr y) =
          let g = goes_on t es now k x z.0 y.0 h.ranges at z.1 y.1 in
          elim g.ended [
            | inl over ↦ module_turns z.0 y.0 z.1 y.1 over (g.fresh over)
            | inr kept ↦ module_stays z.0 y.0 z.1 y.1 kept.0 kept.1
          ]
