-- The earliest trigger, and that there is one where there are modules.
use Rattle.std.proofs.Common.{◌≡◌, ℕ, zero, suc, ◌≤◌, ◌<◌, Bool, true, false, cond, eqb, leb, ltb, List, [], ◌∷◌, length, Option, Some, None, IfSome, refl, sym, ap, ◌∙◌, subst, arith, ◌⊎◌, inl, inr}
use Rattle.htl_emach.proofs.Words.{nat_tests, Event, Module, Stay, AreInRange, IsModeThat, parent_of, Tables, mode_module, ECode, entered, Done, Trigger, Block, Calendar, Standing, list_at, triggers_of, IsDueAt, IsEarliest, IsNext, IsNextOf, IsUpToNext, LacksModules, NoneBefore, earlier, earliest, earliest_of, Entry, entry_at, entry_before, entry_after, opening, pending_entry, switched, closed, turning, is_called, entering, ending, old_stay, new_stay, Between, PhaseStands, none-some, same_Some}
use Rattle.htl_emach.proofs.{States.module_at, States.parent_at, Instants.roots_run}

-- an instant that is there and no later
abbrev pub NoLater : Option ℕ → ℕ → Type 0
NoLater r m = (n : ℕ) × (r ≡ Some n) × (n ≤ m)

-- the earliest of an instant and a list of triggers
pub record IsLeastOf (r x : Option ℕ) (ys : List (Option Trigger)) : Type 0 where
  pub first : (m : ℕ) → x ≡ Some m → NoLater r m
  pub rest : (k : ℕ) (z : Trigger) → list_at ys k ≡ Some z → NoLater r z.at
  pub from : (n : ℕ) → r ≡ Some n → (x ≡ Some n) ⊎ ((k : ℕ) × (z : Trigger) × (list_at ys k ≡ Some z) × (z.at ≡ n))

no_later : (r : Option ℕ) (n m : ℕ) → NoLater r n → n ≤ m → NoLater r m
no_later r n m h less = let p = h.2 in (h.0, h.1, omega (arith, p, less))

-- the earlier of two is no later than both, and one of them
earlier_first : (x : ℕ) (y : Option Trigger) → NoLater (earlier (Some x) y) x
earlier_first x None = (x, refl, omega arith)
earlier_first x (Some y) = (cond (leb x y.at) x y.at, refl, grind (arith, nat_tests))

earlier_second : (x : Option ℕ) (y : Trigger) → NoLater (earlier x (Some y)) y.at
earlier_second None y = (y.at, refl, omega arith)
earlier_second (Some x) y = (cond (leb x y.at) x y.at, refl, grind (arith, nat_tests))

earlier_from : (x : Option ℕ) (y : Option Trigger) (n : ℕ) → earlier x y ≡ Some n → (x ≡ Some n) ⊎ ((z : Trigger) × (y ≡ Some z) × (z.at ≡ n))
earlier_from x None n e = inl e
earlier_from None (Some y) n e = inr (y, refl, same_Some y.at n e)
earlier_from (Some x) (Some y) n e = by_test (leb x y.at) (same_Some (cond (leb x y.at) x y.at) n e)
  where
    by_test : (b : Bool) → cond b x y.at ≡ n → (Some x ≡ Some n) ⊎ ((z : Trigger) × (Some y ≡ Some z) × (z.at ≡ n))
    by_test true e = inl (ap (λ (m : ℕ). Some m) e)
    by_test false e = inr (y, refl, e)

pub least_of : (ys : List (Option Trigger)) (x : Option ℕ) → IsLeastOf (earliest x ys) x ys
least_of [] x = record { first = λ m e. (m, e, omega arith); rest = λ k z e. absurd (none-some z e); from = λ n e. inl e }
least_of (y ∷ ys) x = with_first (least_of ys (earlier x y))
  where
    with_first : IsLeastOf (earliest (earlier x y) ys) (earlier x y) ys → IsLeastOf (earliest (earlier x y) ys) x (y ∷ ys)
    with_first h = record { first = before; rest = after; from = λ n e. from_either n (h.from n e) }
      where
        before : (m : ℕ) → x ≡ Some m → NoLater (earliest (earlier x y) ys) m
        before m e =
            let p = earlier_first m y in
            no_later (earliest (earlier x y) ys) p.0 m (h.first p.0 (ap (λ o. earlier o y) e ∙ p.1)) p.2

        after : (k : ℕ) (z : Trigger) → list_at (y ∷ ys) k ≡ Some z → NoLater (earliest (earlier x y) ys) z.at
        after zero z e =
            let p = earlier_second x z in
            no_later (earliest (earlier x y) ys) p.0 z.at (h.first p.0 (ap (earlier x) e ∙ p.1)) p.2
        after (suc k) z e = h.rest k z e

        of_two : (n : ℕ) → (x ≡ Some n) ⊎ ((z : Trigger) × (y ≡ Some z) × (z.at ≡ n)) → (x ≡ Some n) ⊎ ((k : ℕ) × (z : Trigger) × (list_at (y ∷ ys) k ≡ Some z) × (z.at ≡ n))
        of_two n (inl e) = inl e
        of_two n (inr v) = inr (0, v.0, v.1, v.2)

        from_either : (n : ℕ) → (earlier x y ≡ Some n) ⊎ ((k : ℕ) × (z : Trigger) × (list_at ys k ≡ Some z) × (z.at ≡ n)) →
            (x ≡ Some n) ⊎ ((k : ℕ) × (z : Trigger) × (list_at (y ∷ ys) k ≡ Some z) × (z.at ≡ n))
        from_either n (inl e) = of_two n (earlier_from x y n e)
        from_either n (inr v) = inr (suc v.0, v.1, v.2, v.3)

abbrev after_writes : Calendar → Option ℕ
after_writes c = earliest None c.writes

abbrev after_switches : Calendar → Option ℕ
after_switches c = earliest (after_writes c) c.switches

-- the earliest of the triggers of all phases
pub earliest_is : (c : Calendar) → IsEarliest c (earliest_of c)
earliest_is c = by_result (earliest_of c) refl
  where
    of_write : (m : ℕ) → NoLater (after_writes c) m → NoLater (earliest_of c) m
    of_write m h =
        let p = (least_of c.switches (after_writes c)).first h.0 h.1 in
        let q = (least_of c.reads (after_switches c)).first p.0 p.1 in
        no_later (earliest_of c) h.0 m (no_later (earliest_of c) p.0 h.0 q p.2) h.2

    of_switch : (m : ℕ) → NoLater (after_switches c) m → NoLater (earliest_of c) m
    of_switch m h = no_later (earliest_of c) h.0 m ((least_of c.reads (after_switches c)).first h.0 h.1) h.2

    by_phase : (a b : Bool) (k : ℕ) (x : Trigger) → list_at (cond a c.writes (cond b c.switches c.reads)) k ≡ Some x → NoLater (earliest_of c) x.at
    by_phase true b k x e = of_write x.at ((least_of c.writes None).rest k x e)
    by_phase false true k x e = of_switch x.at ((least_of c.switches (after_writes c)).rest k x e)
    by_phase false false k x e = (least_of c.reads (after_switches c)).rest k x e

    bound : (other : ℕ) → IsDueAt c other → NoLater (earliest_of c) other
    bound other due = subst (NoLater (earliest_of c)) due.4 (by_phase (eqb due.0 1) (eqb due.0 2) due.1 due.2 due.3)

    from_writes : (at : ℕ) → (None ≡ Some at) ⊎ ((k : ℕ) × (z : Trigger) × (list_at c.writes k ≡ Some z) × (z.at ≡ at)) → IsDueAt c at
    from_writes at (inl e) = absurd (none-some at e)
    from_writes at (inr v) = (1, v.0, v.1, v.2, v.3)

    from_switches : (at : ℕ) → (after_writes c ≡ Some at) ⊎ ((k : ℕ) × (z : Trigger) × (list_at c.switches k ≡ Some z) × (z.at ≡ at)) → IsDueAt c at
    from_switches at (inl e) = from_writes at ((least_of c.writes None).from at e)
    from_switches at (inr v) = (2, v.0, v.1, v.2, v.3)

    from_reads : (at : ℕ) → (after_switches c ≡ Some at) ⊎ ((k : ℕ) × (z : Trigger) × (list_at c.reads k ≡ Some z) × (z.at ≡ at)) → IsDueAt c at
    from_reads at (inl e) = from_switches at ((least_of c.switches (after_writes c)).from at e)
    from_reads at (inr v) = (3, v.0, v.1, v.2, v.3)

    by_result : (o : Option ℕ) → earliest_of c ≡ o → IsEarliest c o
    by_result None e = λ at due. (let p = bound at due in none-some p.0 (sym e ∙ p.1))
    by_result (Some at) e = (
      from_reads at ((least_of c.reads (after_switches c)).from at e),
      λ other due. (let p = bound other due in let same : at ≡ p.0 = same_Some at p.0 (sym e ∙ p.1) in let less = p.2 in omega (arith, same, less)),
    )

-- where no block runs the earliest trigger is next
pub next_is : (m : Standing) (o : Option ℕ) → m.running ≡ None → o ≡ earliest_of m.calendar → IsNext m o
next_is m o none e = subst (λ b. IsNextOf m.calendar b o) (sym none) (subst (IsEarliest m.calendar) (sym e) (earliest_is m.calendar))

-- at an instant that is no later no trigger was due before
pub none_before : (m : Standing) (phase at : ℕ) → m.running ≡ None → IsUpToNext at m → NoneBefore at (triggers_of phase m.calendar)
none_before m phase at idle order = by_result (earliest_of m.calendar) refl
  where
    by_result : (o : Option ℕ) → o ≡ earliest_of m.calendar → NoneBefore at (triggers_of phase m.calendar)
    by_result None e = λ k x is. (let none = subst (IsEarliest m.calendar) (sym e) (earliest_is m.calendar) in absurd (none x.at (phase, k, x, is, refl)))
    by_result (Some n) e =
        λ k x is.
        (let first = subst (IsEarliest m.calendar) (sym e) (earliest_is m.calendar) in
        let low = order n (next_is m (Some n) idle e) in
        let late = first.1 x.at (phase, k, x, is, refl) in
        omega (arith, low, late))

-- an instant that is no later than what is next
pub up_to_next : (m : Standing) (o : Option ℕ) (at : ℕ) → IsNext m o → IfSome o (λ n. at ≤ n) → IsUpToNext at m
up_to_next m o at is late = by_running m.running o is late
  where
    by_running : (b : Option Block) (o : Option ℕ) → IsNextOf m.calendar b o → IfSome o (λ n. at ≤ n) → (next : ℕ) → IsNextOf m.calendar b (Some next) → at ≤ next
    by_running (Some b) None is late next other = absurd (none-some b.at is)
    by_running (Some b) (Some n) is late next other = let same : n ≡ b.at = same_Some n b.at is in let also : next ≡ b.at = same_Some next b.at other in omega (arith, same, also, late)
    by_running None None is late next other = absurd (is next other.0)
    by_running None (Some n) is late next other = let less = is.1 next other.0 in omega (arith, less, late)

-- ---- a module has a trigger of the switch phase

-- the trigger of a root module that is active
turning_some : (t : Tables) (code : ECode) (now k j : ℕ) (old : Option Stay) (y : Stay) → parent_of t j ≡ None → (x : Trigger) × (turning t code now k j old (Some y) ≡ Some x)
turning_some t code now k j (Some x) y root = (ending t code x, refl)
turning_some t code now k j None y root =
    let called : is_called t k j ≡ true = ap (λ (o : Option ℕ). elim o as (λ _. Bool) [ None ↦ true | Some q ↦ ltb (mode_module t q) k ]) root in
    (record { at = now; target = entered code y.mode }, ap (λ b. cond b (entering code now (Some y)) None) called)

-- before and after its block in a phase
before_some : (t : Tables) (code : ECode) (now phase k j : ℕ) (old : Option Stay) (y : Stay) → parent_of t j ≡ None → (x : Trigger) × ((entry_before t code now phase k j old (Some y)).switch ≡ Some x)
before_some t code now phase k j old y root = by_phase (eqb phase 1) (eqb phase 2)
  where
    by_phase : (a b : Bool) → (x : Trigger) × ((cond a (opening t code now j old (Some y)) (cond b (pending_entry t code now k j old (Some y)) (switched t code now (Some y)))).switch ≡ Some x)
    by_phase true b = turning_some t code now 0 j old y root
    by_phase false true = turning_some t code now k j old y root
    by_phase false false = (ending t code y, refl)

after_some : (t : Tables) (code : ECode) (now phase j : ℕ) (old : Option Stay) (y : Stay) → parent_of t j ≡ None → (x : Trigger) × ((entry_after t code now phase j old (Some y)).switch ≡ Some x)
after_some t code now phase j old y root = by_phase (eqb phase 1) (eqb phase 2)
  where
    by_phase : (a b : Bool) → (x : Trigger) × ((cond a (pending_entry t code now 0 j old (Some y)) (cond b (switched t code now (Some y)) (closed t code now (Some y)))).switch ≡ Some x)
    by_phase true b = turning_some t code now 0 j old y root
    by_phase false true = (ending t code y, refl)
    by_phase false false = (ending t code y, refl)

-- the first module is a root module
first_root : (t : Tables) → AreInRange t → 0 < length t.modules → parent_of t 0 ≡ None
first_root t r inside =
    let x = module_at t 0 inside in
    parent_at t 0 x.0 x.1 ∙ by_parent x.0.parent (r.modules 0 x.0 x.1).parent
  where
    by_parent : (o : Option ℕ) → IfSome o (IsModeThat t (λ owner. owner < 0)) → o ≡ None
    by_parent None h = refl
    by_parent (Some m) h = let less = h.2 in absurd (omega (arith, less))

first_due_at : (t : Tables) (code : ECode) (es : List Event) (now phase k : ℕ) (c : Calendar) → AreInRange t → 0 < length t.modules → Between t code es now phase c k → (at : ℕ) × IsDueAt c at
first_due_at t code es now phase k c r inside b = by_stay (new_stay t es now 0) refl
  where
    root : parent_of t 0 ≡ None
    root = first_root t r inside

    entry_is : (e : Entry) → entry_at c 0 ≡ e → (x : Trigger) × (e.switch ≡ Some x) → (at : ℕ) × IsDueAt c at
    entry_is e is x = (x.0.at, (2, 0, x.0, ap (λ (z : Entry). z.switch) is ∙ x.1, refl))

    by_place : (y : Stay) → new_stay t es now 0 ≡ Some y → (k ≡ 0) ⊎ (0 < k) → (at : ℕ) × IsDueAt c at
    by_place y is (inl zero_k) =
        let from : k ≤ 0 = omega (arith, zero_k) in
        entry_is _ (b.above 0 from inside) (subst (λ z. (x : Trigger) × ((entry_before t code now phase k 0 (old_stay t es now 0) z).switch ≡ Some x)) (sym is) (before_some t code now phase k 0 (old_stay t es now 0) y root))
    by_place y is (inr less) =
        entry_is _ (b.below 0 less) (subst (λ z. (x : Trigger) × ((entry_after t code now phase 0 (old_stay t es now 0) z).switch ≡ Some x)) (sym is) (after_some t code now phase 0 (old_stay t es now 0) y root))

    zero_or : (n : ℕ) → (n ≡ 0) ⊎ (0 < n)
    zero_or zero = inl refl
    zero_or (suc n) = inr (omega arith)

    by_stay : (o : Option Stay) → new_stay t es now 0 ≡ o → (at : ℕ) × IsDueAt c at
    by_stay None is = absurd (roots_run t es now r 0 inside root is)
    by_stay (Some y) is = by_place y is (zero_or k)

-- where nothing is next there is no module
pub lacks_modules : (m : Standing) (o : Option ℕ) → IsNext m o → o ≡ None → LacksModules m
lacks_modules m o next none = λ t code es now phase done rest r mid. by_modules t code es now phase rest r mid.stands t.modules refl
  where
    by_running : (t : Tables) (code : ECode) (es : List Event) (now phase : ℕ) (rest : List Done) (b : Option Block) → AreInRange t → 0 < length t.modules → PhaseStands t code es now phase m.calendar b rest → IsNextOf m.calendar b o → ⊥
    by_running t code es now phase rest (Some b) r inside s is = none-some b.at (sym none ∙ is)
    by_running t code es now phase rest None r inside s is =
        let due = first_due_at t code es now phase s.«module» m.calendar r inside s.calendar in
        subst (λ z. IsNextOf m.calendar None z → ⊥) (sym none) (λ h. h due.0 due.1) is

    by_modules : (t : Tables) (code : ECode) (es : List Event) (now phase : ℕ) (rest : List Done) → AreInRange t → PhaseStands t code es now phase m.calendar m.running rest → (xs : List Module) → t.modules ≡ xs → t.modules ≡ []
    by_modules t code es now phase rest r s [] e = e
    by_modules t code es now phase rest r s (x ∷ xs) e =
        let some : 0 < length t.modules = subst (λ (zs : List Module). 0 < length zs) (sym e) (omega arith) in
        absurd (by_running t code es now phase rest m.running r some s next)
