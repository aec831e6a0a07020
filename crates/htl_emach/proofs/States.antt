-- Where modules are, from one instant to the next.
use Rattle.std.proofs.Common.{◌≡◌, ℕ, zero, suc, ◌+◌, ◌<◌, ◌≤◌, Bool, true, false, cond, ◌&&◌, eqb, List, [], ◌∷◌, length, slice_get, Option, Some, None, IfSome, ℤ, refl, sym, ap, ◌∙◌, subst, arith, ◌⊎◌, inl, inr}
use Rattle.htl_model.proofs.Stays.{runs_is}
use Rattle.htl_emach.proofs.Words.{eqb-true, eq-eqb, cases_Bool, slice_get_within, Event, Module, Mode, Switch, Stay, AreInRange, IsModeThat, IsSwitchInRange, parent_of, Tables, mode_period, mode_module, state, before, stay_of, stays_to, next_stay, go_on_or_begin, runs, target, target_from, switch_holds, stay_at, old_stay, new_stay, each_at, and_first, true_not_false}

-- the values at the instant
abbrev pub values_now : Tables → List Event → ℕ → List ℤ
values_now t es now = (state t es now).values

stays_are : (t : Tables) (es : List Event) (now : ℕ) → (state t es now).stays ≡ stays_to t (values_now t es now) now (before t es now).stays (length t.modules)
stays_are t es zero = refl
stays_are t es (suc n) = refl

-- whether a mode runs now, for a module below k
runs_lower : (t : Tables) (es : List Event) (now k q : ℕ) → k < length t.modules → mode_module t q < k → runs t (stays_to t (values_now t es now) now (before t es now).stays k) q ≡ runs t (state t es now).stays q
runs_lower t es now k q inside lower =
    let u : ℕ = mode_module t q in
    let one : stay_of (stays_to t (values_now t es now) now (before t es now).stays k) (mode_module t q) ≡ stay_of (state t es now).stays (mode_module t q) =
    stay_at t (values_now t es now) now (before t es now).stays k (mode_module t q) lower
    ∙ sym (stay_at t (values_now t es now) now (before t es now).stays (length t.modules) (mode_module t q) (omega (arith, inside, lower)))
    ∙ sym (ap (λ zs. stay_of zs (mode_module t q)) (stays_are t es now)) in
    ap (λ (s : Option Stay). elim s as (λ _. Bool) [ Some x ↦ eqb x.mode q | None ↦ false ]) one

-- where a module goes, by its parent's mode
abbrev pub moves : Tables → List ℤ → ℕ → Module → Bool → Option Stay → Option Stay
moves t v now x on old = elim on [ true ↦ go_on_or_begin t v now x old | false ↦ None ]

-- whether what a module refines runs at the instant; a root module refines nothing
abbrev pub parent_runs : Tables → List Event → ℕ → Module → Bool
parent_runs t es now x = elim x.parent [ None ↦ true | Some q ↦ runs t (state t es now).stays q ]

-- a parent's module has a lower number
pub lower_parent : (t : Tables) (k : ℕ) (x : Module) (q : ℕ) → AreInRange t → slice_get t.modules k ≡ Some x → x.parent ≡ Some q → mode_module t q < k
lower_parent t k x q r at e =
    let p : IsModeThat t (λ owner. owner < k) q = subst (λ o. IfSome o (IsModeThat t (λ owner. owner < k))) e (r.modules k x at).parent in
    let same : mode_module t q ≡ p.0.«module» = ap (λ (o : Option Mode). elim o as (λ _. ℕ) [ Some m ↦ m.«module» | None ↦ 0 ]) p.1 in
    subst (λ n. n < k) (sym same) p.2

pub new_is : (t : Tables) (es : List Event) (now k : ℕ) (x : Module) → AreInRange t → slice_get t.modules k ≡ Some x → new_stay t es now k ≡ moves t (values_now t es now) now x (parent_runs t es now x) (old_stay t es now k)
new_is t es now k x r at =
    let inside : k < length t.modules = slice_get_within t.modules k x at in
    ap (λ zs. stay_of zs k) (stays_are t es now)
    ∙ stay_at t (values_now t es now) now (before t es now).stays (length t.modules) k inside
    ∙ ap (λ (o : Option Module). elim o as (λ _. Option Stay) [ Some y ↦ next_stay t (values_now t es now) now (stays_to t (values_now t es now) now (before t es now).stays k) y (old_stay t es now k) | None ↦ None ]) at
    ∙ by_parent x.parent refl
  where
    by_parent : (o : Option ℕ) → x.parent ≡ o →
        ◌≡◌ {A = Option Stay} (elim o [ None ↦ go_on_or_begin t (values_now t es now) now x (old_stay t es now k) | Some m ↦ elim (runs t (stays_to t (values_now t es now) now (before t es now).stays k) m) [ true ↦ go_on_or_begin t (values_now t es now) now x (old_stay t es now k) | false ↦ None ] ])
        (moves t (values_now t es now) now x (elim o [ None ↦ true | Some q ↦ runs t (state t es now).stays q ]) (old_stay t es now k))
    by_parent None e = refl
    by_parent (Some q) e = ap (λ b. moves t (values_now t es now) now x b (old_stay t es now k)) (runs_lower t es now k q (slice_get_within t.modules k x at) (lower_parent t k x q r at e))

-- ---- modes and starts

-- a stay of module k at an instant up to now
pub record IsStay (t : Tables) (now k : ℕ) (y : Stay) : Type 0 where
  pub mode : y.mode < length t.modes
  pub owner : mode_module t y.mode ≡ k
  pub start : y.start ≤ now

pub mode_known : (t : Tables) (k q : ℕ) → IsModeThat t (λ owner. owner ≡ k) q → (q < length t.modes) × (mode_module t q ≡ k)
mode_known t k q p = (slice_get_within t.modes q p.0 p.1, ap (λ (o : Option Mode). elim o as (λ _. ℕ) [ Some m ↦ m.«module» | None ↦ 0 ]) p.1 ∙ p.2)

-- the target of a mode is of its module
pub target_known : (t : Tables) (v : List ℤ) (m k : ℕ) → AreInRange t → m < length t.modes → mode_module t m ≡ k → (target t v m < length t.modes) × (mode_module t (target t v m) ≡ k)
target_known t v m k r inside owner = from 0 t.switches (λ i w e. each_at (IsSwitchInRange t) t.switches r.switches i w e)
  where
    by_test : (n : ℕ) (w : Switch) (ws : List Switch) → IsSwitchInRange t w → (target_from t v m (suc n) ws < length t.modes) × (mode_module t (target_from t v m (suc n) ws) ≡ k) → (b : Bool) → (eqb w.mode m && switch_holds t v n w) ≡ b →
        (cond b w.target (target_from t v m (suc n) ws) < length t.modes) × (mode_module t (cond b w.target (target_from t v m (suc n) ws)) ≡ k)
    by_test n w ws h ih true is =
        let same : w.mode ≡ m = eqb-true w.mode m (and_first (eqb w.mode m) (switch_holds t v n w) is) in
        mode_known t k w.target (subst (λ z. IsModeThat t (λ owner. owner ≡ z) w.target) (ap (mode_module t) same ∙ owner) h.target)
    by_test n w ws h ih false is = ih

    from : (n : ℕ) (ws : List Switch) → ((i : ℕ) (w : Switch) → slice_get ws i ≡ Some w → IsSwitchInRange t w) → (target_from t v m n ws < length t.modes) × (mode_module t (target_from t v m n ws) ≡ k)
    from n [] h = (inside, owner)
    from n (w ∷ ws) h = by_test n w ws (h 0 w refl) (from (suc n) ws (λ i x e. h (suc i) x e)) (eqb w.mode m && switch_holds t v n w) refl

pub some_stay : (x y : Stay) → Some x ≡ Some y → x ≡ y
some_stay x y e = cc

pub none_stay : (y : Stay) → None ≡ Some y → ⊥
none_stay y e = cc

-- the stays before an instant, from those of the instant before
abbrev OldStays : Tables → List Event → ℕ → Type 0
OldStays t es now = (k : ℕ) (y : Stay) → k < length t.modules → old_stay t es now k ≡ Some y → IsStay t now k y

stay_moves : (t : Tables) (es : List Event) (now k : ℕ) (x : Module) (y : Stay) → AreInRange t → OldStays t es now → slice_get t.modules k ≡ Some x → new_stay t es now k ≡ Some y → IsStay t now k y
stay_moves t es now k x y r olds at e = by_parent (parent_runs t es now x) (sym (new_is t es now k x r at) ∙ e)
  where
    by_end : (z : Stay) → IsStay t now k z → (b : Bool) → ◌≡◌ {A = Option Stay} (elim b [ true ↦ Some (record { mode = target t (values_now t es now) z.mode; start = now }) | false ↦ Some z ]) (Some y) → IsStay t now k y
    by_end z h true e =
        let known = target_known t (values_now t es now) z.mode k r h.mode h.owner in
        subst (IsStay t now k) (some_stay (record { mode = target t (values_now t es now) z.mode; start = now }) y e) (record { mode = known.0; owner = known.1; start = omega arith })
    by_end z h false e = subst (IsStay t now k) (some_stay z y e) h

    by_old : (o : Option Stay) → old_stay t es now k ≡ o → go_on_or_begin t (values_now t es now) now x o ≡ Some y → IsStay t now k y
    by_old None is e =
        let known = mode_known t k x.start (r.modules k x at).start in
        subst (IsStay t now k) (some_stay (record { mode = x.start; start = now }) y e) (record { mode = known.0; owner = known.1; start = omega arith })
    by_old (Some z) is e = by_end z (olds k z (slice_get_within t.modules k x at) is) (eqb now (z.start + mode_period t z.mode)) e

    by_parent : (b : Bool) → moves t (values_now t es now) now x b (old_stay t es now k) ≡ Some y → IsStay t now k y
    by_parent true e = by_old (old_stay t es now k) refl e
    by_parent false e = absurd (none_stay y e)

pub module_at : (t : Tables) (k : ℕ) → k < length t.modules → (x : Module) × (slice_get t.modules k ≡ Some x)
module_at t k h = by_item (slice_get t.modules k) refl
  where
    by_item : (o : Option Module) → slice_get t.modules k ≡ o → (x : Module) × (o ≡ Some x)
    by_item (Some x) e = (x, refl)
    by_item None e = absurd (past t.modules k h e)
      where
        past : (xs : List Module) (i : ℕ) → i < length xs → slice_get xs i ≡ None → ⊥
        past [] i h e = omega (arith, h)
        past (x ∷ xs) zero h e = cc
        past (x ∷ xs) (suc i) h e = past xs i (omega (arith, h)) e

later : (t : Tables) (n k : ℕ) (y : Stay) → IsStay t n k y → IsStay t (suc n) k y
later t n k y h = record { mode = h.mode; owner = h.owner; start = omega (arith, h.start) }

old_all : (t : Tables) (es : List Event) (now : ℕ) → AreInRange t → OldStays t es now
old_all t es zero r = λ k y h e. absurd (none_stay y e)
old_all t es (suc n) r = λ k y h e. let x = module_at t k h in later t n k y (stay_moves t es n k x.0 y r (old_all t es n r) x.1 e)

pub old_stays : (t : Tables) (es : List Event) (now k : ℕ) (y : Stay) → AreInRange t → k < length t.modules → old_stay t es now k ≡ Some y → IsStay t now k y
old_stays t es now k y r h e = old_all t es now r k y h e

pub new_stays : (t : Tables) (es : List Event) (now k : ℕ) (y : Stay) → AreInRange t → k < length t.modules → new_stay t es now k ≡ Some y → IsStay t now k y
new_stays t es now k y r h e = let x = module_at t k h in stay_moves t es now k x.0 y r (old_all t es now r) x.1 e

-- ---- children

-- a module is active exactly where what it refines runs
pub active_some : (t : Tables) (es : List Event) (now k : ℕ) (x : Module) → AreInRange t → slice_get t.modules k ≡ Some x → parent_runs t es now x ≡ true → (y : Stay) × (new_stay t es now k ≡ Some y)
active_some t es now k x r at on = by_old (old_stay t es now k) (new_is t es now k x r at ∙ ap (λ b. moves t (values_now t es now) now x b (old_stay t es now k)) on)
  where
    by_end : (z : Stay) (b : Bool) → new_stay t es now k ≡ elim b [ true ↦ Some (record { mode = target t (values_now t es now) z.mode; start = now }) | false ↦ Some z ] → (y : Stay) × (new_stay t es now k ≡ Some y)
    by_end z true e = (record { mode = target t (values_now t es now) z.mode; start = now }, e)
    by_end z false e = (z, e)

    by_old : (o : Option Stay) → new_stay t es now k ≡ go_on_or_begin t (values_now t es now) now x o → (y : Stay) × (new_stay t es now k ≡ Some y)
    by_old None e = (record { mode = x.start; start = now }, e)
    by_old (Some z) e = by_end z (eqb now (z.start + mode_period t z.mode)) e

-- an active module's parent runs
pub runs_some : (t : Tables) (es : List Event) (now k : ℕ) (x : Module) (y : Stay) → AreInRange t → slice_get t.modules k ≡ Some x → new_stay t es now k ≡ Some y → parent_runs t es now x ≡ true
runs_some t es now k x y r at e = elim (cases_Bool (parent_runs t es now x)) [ inl on ↦ on | inr off ↦ absurd (none_stay y (sym (new_is t es now k x r at ∙ ap (λ b. moves t (values_now t es now) now x b (old_stay t es now k)) off) ∙ e)) ]

pub runs_none : (t : Tables) (es : List Event) (now k : ℕ) (x : Module) → AreInRange t → slice_get t.modules k ≡ Some x → new_stay t es now k ≡ None → parent_runs t es now x ≡ false
runs_none t es now k x r at e = elim (cases_Bool (parent_runs t es now x)) [ inl on ↦ (let y = active_some t es now k x r at on in absurd (none_stay y.0 (sym e ∙ y.1))) | inr off ↦ off ]

-- the same before the instant, where what it refines ran
pub ran_none : (t : Tables) (es : List Event) (now k : ℕ) (x : Module) (q : ℕ) → AreInRange t → slice_get t.modules k ≡ Some x → x.parent ≡ Some q → old_stay t es now k ≡ None → runs t (before t es now).stays q ≡ false
ran_none t es zero k x q r at e is = refl
ran_none t es (suc n) k x q r at e is = sym (ap (λ (o : Option ℕ). elim o as (λ _. Bool) [ None ↦ true | Some p ↦ runs t (state t es n).stays p ]) e) ∙ runs_none t es n k x r at is

pub ran_some : (t : Tables) (es : List Event) (now k : ℕ) (x : Module) (q : ℕ) (y : Stay) → AreInRange t → slice_get t.modules k ≡ Some x → x.parent ≡ Some q → old_stay t es now k ≡ Some y → runs t (before t es now).stays q ≡ true
ran_some t es zero k x q y r at e is = absurd (none_stay y is)
ran_some t es (suc n) k x q y r at e is = sym (ap (λ (o : Option ℕ). elim o as (λ _. Bool) [ None ↦ true | Some p ↦ runs t (state t es n).stays p ]) e) ∙ runs_some t es n k x y r at is

pub stay_runs : (t : Tables) (stays : List (Option Stay)) (q : ℕ) (z : Stay) → stay_of stays (mode_module t q) ≡ Some z → z.mode ≡ q → runs t stays q ≡ true
stay_runs t stays q z is same = ap (λ (o : Option Stay). elim o as (λ _. Bool) [ Some x ↦ eqb x.mode q | None ↦ false ]) is ∙ eq-eqb z.mode q same

-- ---- rounds of a child are those of its parent

-- a module goes on: a new round at the instant, or the round before
pub record GoesOn (t : Tables) (es : List Event) (now : ℕ) (z y : Stay) : Type 0 where
  pub ended : (now ≡ z.start + mode_period t z.mode) ⊎ ((y ≡ z) × (now ≡ z.start + mode_period t z.mode → ⊥))
  pub fresh : now ≡ z.start + mode_period t z.mode → y ≡ record { mode = target t (values_now t es now) z.mode; start = now }

pub goes_on : (t : Tables) (es : List Event) (now k : ℕ) (x : Module) (z y : Stay) → AreInRange t → slice_get t.modules k ≡ Some x → old_stay t es now k ≡ Some z → new_stay t es now k ≡ Some y → GoesOn t es now z y
goes_on t es now k x z y r at old new =
    by_end (eqb now (z.start + mode_period t z.mode)) refl
    (sym (new_is t es now k x r at ∙ ap (λ b. moves t (values_now t es now) now x b (old_stay t es now k)) (runs_some t es now k x y r at new) ∙ ap (go_on_or_begin t (values_now t es now) now x) old) ∙ new)
  where
    differ : eqb now (z.start + mode_period t z.mode) ≡ false → now ≡ z.start + mode_period t z.mode → ⊥
    differ e same = no (sym (eq-eqb now (z.start + mode_period t z.mode) same) ∙ e)
      where
        no : true ≡ false → ⊥
        no e = cc

    by_end : (b : Bool) → eqb now (z.start + mode_period t z.mode) ≡ b → ◌≡◌ {A = Option Stay} (elim b [ true ↦ Some (record { mode = target t (values_now t es now) z.mode; start = now }) | false ↦ Some z ]) (Some y) → GoesOn t es now z y
    by_end true is e = record { ended = inl (eqb-true now (z.start + mode_period t z.mode) is); fresh = λ same. sym (some_stay (record { mode = target t (values_now t es now) z.mode; start = now }) y e) }
    by_end false is e = record { ended = inr (sym (some_stay z y e), differ is); fresh = λ same. absurd (differ is same) }

-- a module that was inactive begins at the instant
pub begins_now : (t : Tables) (es : List Event) (now k : ℕ) (x : Module) (y : Stay) → AreInRange t → slice_get t.modules k ≡ Some x → old_stay t es now k ≡ None → new_stay t es now k ≡ Some y → y ≡ record { mode = x.start; start = now }
begins_now t es now k x y r at old new =
    sym (some_stay (record { mode = x.start; start = now }) y
    (sym (new_is t es now k x r at ∙ ap (λ b. moves t (values_now t es now) now x b (old_stay t es now k)) (runs_some t es now k x y r at new) ∙ ap (go_on_or_begin t (values_now t es now) now x) old) ∙ new))

-- the modes of a module have the period of the mode that it refines
abbrev pub SamePeriods : Tables → Type 0
SamePeriods t = (k q m : ℕ) → parent_of t k ≡ Some q → m < length t.modes → mode_module t m ≡ k → mode_period t m ≡ mode_period t q

pub parent_at : (t : Tables) (k : ℕ) (x : Module) → slice_get t.modules k ≡ Some x → parent_of t k ≡ x.parent
parent_at t k x at = ap (λ (o : Option Module). elim o as (λ _. Option ℕ) [ Some y ↦ y.parent | None ↦ None ]) at

-- the rounds of a module and of the mode that it refines begin together
abbrev pub Aligned : Tables → List Event → ℕ → Type 0
Aligned t es now = (k : ℕ) (x : Module) (q : ℕ) (y : Stay) → slice_get t.modules k ≡ Some x → x.parent ≡ Some q → old_stay t es now k ≡ Some y → (z : Stay) × (old_stay t es now (mode_module t q) ≡ Some z) × (z.mode ≡ q) × (z.start ≡ y.start)

pub parent_of_runs : (t : Tables) (es : List Event) (now : ℕ) (x : Module) (q : ℕ) → x.parent ≡ Some q → parent_runs t es now x ≡ runs t (state t es now).stays q
parent_of_runs t es now x q e = ap (λ (o : Option ℕ). elim o as (λ _. Bool) [ None ↦ true | Some p ↦ runs t (state t es now).stays p ]) e

pub option_cases : (o : Option Stay) → (o ≡ None) ⊎ ((y : Stay) × (o ≡ Some y))
option_cases None = inl refl
option_cases (Some y) = inr (y, refl)

same_end : (t : Tables) (es : List Event) (now k q : ℕ) (x : Module) (y z : Stay) → AreInRange t → SamePeriods t → slice_get t.modules k ≡ Some x → x.parent ≡ Some q → old_stay t es now k ≡ Some y → z.mode ≡ q → z.start ≡ y.start →
    z.start + mode_period t z.mode ≡ y.start + mode_period t y.mode
same_end t es now k q x y z r periods at e old mode start =
    let s = old_stays t es now k y r (slice_get_within t.modules k x at) old in
    let p : mode_period t y.mode ≡ mode_period t q = periods k q y.mode (parent_at t k x at ∙ e) s.mode s.owner in
    ap (λ n. n + mode_period t z.mode) start ∙ ap (λ m. y.start + mode_period t m) mode ∙ ap (λ n. y.start + n) (sym p)

pub aligned_new : (t : Tables) (es : List Event) (now : ℕ) → AreInRange t → SamePeriods t → Aligned t es now → (k : ℕ) (x : Module) (q : ℕ) (y : Stay) → slice_get t.modules k ≡ Some x → x.parent ≡ Some q → new_stay t es now k ≡ Some y →
    (z : Stay) × (new_stay t es now (mode_module t q) ≡ Some z) × (z.mode ≡ q) × (z.start ≡ y.start)
aligned_new t es now r periods olds k x q y at e new =
    let on : runs t (state t es now).stays q ≡ true = sym (parent_of_runs t es now x q e) ∙ runs_some t es now k x y r at new in
    let z = runs_is t (state t es now).stays q on in
    let lower : mode_module t q < k = lower_parent t k x q r at e in
    let inside : k < length t.modules = slice_get_within t.modules k x at in
    let u = module_at t (mode_module t q) (omega (arith, lower, inside)) in
    (z.0, z.1, z.2, by_old z.0 u.0 u.1 z.1 z.2 (option_cases (old_stay t es now k)) (option_cases (old_stay t es now (mode_module t q))))
  where
    by_old : (z : Stay) (u : Module) → slice_get t.modules (mode_module t q) ≡ Some u → new_stay t es now (mode_module t q) ≡ Some z → z.mode ≡ q → (old_stay t es now k ≡ None) ⊎ ((w : Stay) × (old_stay t es now k ≡ Some w)) →
        (old_stay t es now (mode_module t q) ≡ None) ⊎ ((w : Stay) × (old_stay t es now (mode_module t q) ≡ Some w)) → z.start ≡ y.start
    by_old z u up znew zmode (inl none) (inl gone) =
        ap (λ (s : Stay). s.start) (begins_now t es now (mode_module t q) u z r up gone znew) ∙ sym (ap (λ (s : Stay). s.start) (begins_now t es now k x y r at none new))
    by_old z u up znew zmode (inl none) (inr w) =
        let fresh : y.start ≡ now = ap (λ (s : Stay). s.start) (begins_now t es now k x y r at none new) in
        let g = goes_on t es now (mode_module t q) u w.0 z r up w.1 znew in
        elim g.ended [
          | inl end ↦ ap (λ (s : Stay). s.start) (g.fresh end) ∙ sym fresh
          | inr kept ↦
              absurd (true_not_false (runs t (before t es now).stays q) (stay_runs t (before t es now).stays q w.0 w.1 (sym (ap (λ (s : Stay). s.mode) kept.0) ∙ zmode)) (ran_none t es now k x q r at e none))
        ]
    by_old z u up znew zmode (inr v) old =
        let a = olds k x q v.0 at e v.1 in
        let end : a.0.start + mode_period t a.0.mode ≡ v.0.start + mode_period t v.0.mode = same_end t es now k q x v.0 a.0 r periods at e v.1 a.2 a.3 in
        let g = goes_on t es now (mode_module t q) u a.0 z r up a.1 znew in
        let h = goes_on t es now k x v.0 y r at v.1 new in
        elim h.ended [
          | inl over ↦ ap (λ (s : Stay). s.start) (g.fresh (over ∙ sym end)) ∙ sym (ap (λ (s : Stay). s.start) (h.fresh over))
          | inr kept ↦
              elim g.ended [
                | inl over ↦ absurd (kept.1 (over ∙ end))
                | inr still ↦ ap (λ (s : Stay). s.start) still.0 ∙ a.3 ∙ sym (ap (λ (s : Stay). s.start) kept.0)
              ]
        ]

pub aligned : (t : Tables) (es : List Event) (now : ℕ) → AreInRange t → SamePeriods t → Aligned t es now
aligned t es zero r periods = λ k x q y at e old. absurd (none_stay y old)
aligned t es (suc n) r periods = λ k x q y at e old. aligned_new t es n r periods (aligned t es n r periods) k x q y at e old

-- a module leaves at the end of its round
leaves_to : (t : Tables) (es : List Event) (now n : ℕ) → AreInRange t → SamePeriods t → (k : ℕ) (y : Stay) → k < n → k < length t.modules → old_stay t es now k ≡ Some y → new_stay t es now k ≡ None → now ≡ y.start + mode_period t y.mode
leaves_to t es now zero r periods = λ k y less inside old new. absurd (omega (arith, less))
leaves_to t es now (suc n) r periods = λ k y less inside old new. let x = module_at t k inside in by_parent (leaves_to t es now n r periods) k y x.0 x.1 less old new x.0.parent refl
  where
    by_parent : ((k : ℕ) (y : Stay) → k < n → k < length t.modules → old_stay t es now k ≡ Some y → new_stay t es now k ≡ None → now ≡ y.start + mode_period t y.mode) → (k : ℕ) (y : Stay) (x : Module) → slice_get t.modules k ≡ Some x → k < suc n →
        old_stay t es now k ≡ Some y → new_stay t es now k ≡ None → (o : Option ℕ) → x.parent ≡ o → now ≡ y.start + mode_period t y.mode
    by_parent ih k y x at less old new None e =
        absurd (true_not_false (parent_runs t es now x) (ap (λ (o : Option ℕ). elim o as (λ _. Bool) [ None ↦ true | Some p ↦ runs t (state t es now).stays p ]) e) (runs_none t es now k x r at new))
    by_parent ih k y x at less old new (Some q) e =
        let off : runs t (state t es now).stays q ≡ false = sym (parent_of_runs t es now x q e) ∙ runs_none t es now k x r at new in
        let a = aligned t es now r periods k x q y at e old in
        let lower : mode_module t q < k = lower_parent t k x q r at e in
        let inside : k < length t.modules = slice_get_within t.modules k x at in
        let low : mode_module t q < length t.modules = omega (arith, lower, inside) in
        let u = module_at t (mode_module t q) low in
        let end : a.0.start + mode_period t a.0.mode ≡ y.start + mode_period t y.mode = same_end t es now k q x y a.0 r periods at e old a.2 a.3 in
        elim (option_cases (new_stay t es now (mode_module t q))) [
          | inl gone ↦ ih (mode_module t q) a.0 (omega (arith, lower, less)) low a.1 gone ∙ end
          | inr z ↦
              let g = goes_on t es now (mode_module t q) u.0 a.0 z.0 r u.1 a.1 z.1 in
              elim g.ended [
                | inl over ↦ over ∙ end
                | inr still ↦ absurd (true_not_false (runs t (state t es now).stays q) (stay_runs t (state t es now).stays q z.0 z.1 (ap (λ (s : Stay). s.mode) still.0 ∙ a.2)) off)
              ]
        ]

pub leaves : (t : Tables) (es : List Event) (now k : ℕ) (y : Stay) → AreInRange t → SamePeriods t → k < length t.modules → old_stay t es now k ≡ Some y → new_stay t es now k ≡ None → now ≡ y.start + mode_period t y.mode
leaves t es now k y r periods inside old new = leaves_to t es now (suc k) r periods k y (omega arith) inside old new
