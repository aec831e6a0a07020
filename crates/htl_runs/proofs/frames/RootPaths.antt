-- From an invocation whose mode runs up to a root invocation and down again, with the period.
use Rattle.std.proofs.Common.{◌≡◌, ◌<◌, ℕ, zero, suc, Bool, true, false, eqb, List, Option, Some, None, IfSome, refl, sym, ◌∙◌, ap, subst, arith}
use Rattle.htl_runs.proofs.Words.{Inv, Mode, Module, KeptApart, StandsFor, itself, below, AreInRange, IsModeThat, IsInvInRange, IsAbstractIn, ParentFault, parent_mode, Runs, IsActive, IsEntry, IsSelection, Tables, is_concrete, mode_module, mode_period, right_parent, parent_period, each_at, none-some, eqb_apart, eqb-true, slice_get}

module _ (t : Tables) (range : AreInRange t) (kept : KeptApart t 16) (modes : List (Option ℕ)) (selection : IsSelection t modes) where
  kept12 : KeptApart t 12
  kept12 = λ r s have need small other broken. kept r s have need (omega arith) other broken

  refined : Option Module → Option ℕ
  refined o = elim o as (λ _. Option ℕ) [ Some x ↦ x.parent | None ↦ None ]

  -- what a running mode refines runs too, in a module of lower number
  up_runs : (m p : ℕ) → Runs t modes m → parent_mode t m ≡ Some p → Runs t modes p × (mode_module t p < mode_module t m)
  unfolding refined
  up_runs m p runs refines = by (slice_get t.modules (mode_module t m)) refl
    where
      by : (o : Option Module) → slice_get t.modules (mode_module t m) ≡ o → Runs t modes p × (mode_module t p < mode_module t m)
      by None e = absurd (none-some p (sym (ap refined e) ∙ refines))
      by (Some x) e =
          let u = mode_module t m in
          let parent : x.parent ≡ Some p = sym (ap refined e) ∙ refines in
          let that : IsModeThat t (λ owner. owner < u) p = subst (λ o. IfSome o (IsModeThat t (λ owner. owner < u))) parent (range.modules u x e).parent in
          let owner : mode_module t p ≡ that.0.«module» = ap (λ (o : Option Mode). elim o [ Some y ↦ y.«module» | None ↦ 0 ]) that.1 in
          (subst (IsActive t modes) parent (subst (IsEntry t modes u x.parent) runs (selection.each u x e)).1, omega (arith, owner, that.2))

  -- an invocation of a refinement has an abstract parent in the refined mode
  record HasParent (x : Inv) (m : ℕ) : Type 0 where
    number : ℕ
    is : x.parent ≡ Some number
    inv : Inv
    at : slice_get t.invs number ≡ Some inv
    abstract : is_concrete t inv ≡ false
    mode : inv.mode ≡ m

  has_parent : (k m : ℕ) (x : Inv) → slice_get t.invs k ≡ Some x → parent_mode t x.mode ≡ Some m → HasParent x m
  has_parent k m x at refines = by x.parent refl
    where
      wrong : (o : Option ℕ) (h n : ℕ) → x.parent ≡ o → ParentFault t (Some m) o h n → ⊥
      wrong o h n e f =
          right_parent t range kept k x at h n (subst (λ q. ParentFault t q x.parent h n) (sym refines) (subst (λ q. ParentFault t (Some m) q h n) (sym e) f))

      by_inv : (p : ℕ) → x.parent ≡ Some p → (o : Option Inv) → slice_get t.invs p ≡ o → HasParent x m
      by_inv p e None f = absurd (wrong (Some p) 2 1 e (refl, (refl, λ a. none-some a.parent (sym f ∙ a.at))))
      by_inv p e (Some y) f = by_tests (is_concrete t y) refl (eqb y.mode m) refl
        where
          is_it : (a : IsAbstractIn t m p) → a.parent ≡ y
          is_it a = let one : Some a.parent ≡ Some y = sym a.at ∙ f in cc

          by_tests : (b : Bool) → is_concrete t y ≡ b → (c : Bool) → eqb y.mode m ≡ c → HasParent x m
          by_tests true g c h =
              absurd (wrong (Some p) 2 1 e (refl, (refl, λ a. let z : true ≡ false = sym g ∙ ap (is_concrete t) (sym (is_it a)) ∙ a.abstract in cc)))
          by_tests false g true h = record { number = p; is = e; inv = y; at = f; abstract = g; mode = eqb-true y.mode m h }
          by_tests false g false h =
              absurd (wrong (Some p) 2 1 e (refl, (refl, λ a. eqb_apart y.mode m h (ap (λ (z : Inv). z.mode) (sym (is_it a)) ∙ a.mode))))

      by : (o : Option ℕ) → x.parent ≡ o → HasParent x m
      by None e = absurd (wrong None 0 1 e (refl, refl))
      by (Some p) e = by_inv p e (slice_get t.invs p) refl

  -- ---- up

  -- a root invocation in a mode that runs, for which c stands
  pub record IsTop (c q : ℕ) : Type 0 where
    pub number : ℕ
    pub inv : Inv
    pub at : slice_get t.invs number ≡ Some inv
    pub root : parent_mode t inv.mode ≡ None
    pub runs : Runs t modes inv.mode
    pub stands : StandsFor t modes number c
    pub period : mode_period t inv.mode ≡ q

  pub climb : (b k c q : ℕ) (x : Inv) → mode_module t x.mode < b → slice_get t.invs k ≡ Some x → Runs t modes x.mode → StandsFor t modes k c → mode_period t x.mode ≡ q → IsTop c q
  climb zero k c q x less at runs s e = absurd (omega arith)
  climb (suc b) k c q x less at runs s period = by (parent_mode t x.mode) refl (λ n y l a r z e. climb b n c q y l a r z e)
    where
      by : (o : Option ℕ) → parent_mode t x.mode ≡ o
          → ((n : ℕ) (y : Inv) → mode_module t y.mode < b → slice_get t.invs n ≡ Some y → Runs t modes y.mode → StandsFor t modes n c → mode_period t y.mode ≡ q → IsTop c q) → IsTop c q
      by None e up = record { number = k; inv = x; at = at; root = e; runs = runs; stands = s; period = period }
      by (Some m) e up =
          let p = has_parent k m x at e in
          let higher = up_runs x.mode m runs e in
          up p.number p.inv (omega (arith, ap (mode_module t) p.mode, higher.1)) p.at (subst (Runs t modes) (sym p.mode) higher.0)
          (below p.number k c p.inv x p.at p.abstract at p.is runs s)
          (ap (mode_period t) p.mode ∙ sym (parent_period t range kept12 x.mode (mode_module t x.mode) m (each_at (IsInvInRange t) t.invs range.invs k x at).owner refl e) ∙ period)

  -- ---- down

  -- a child of an invocation refines the invocation's mode
  child_period : (n k : ℕ) (x i : Inv) → slice_get t.invs n ≡ Some x → x.parent ≡ Some k → slice_get t.invs k ≡ Some i → mode_period t x.mode ≡ mode_period t i.mode
  child_period n k x i at par here = by (parent_mode t x.mode) refl
    where
      by : (o : Option ℕ) → parent_mode t x.mode ≡ o → mode_period t x.mode ≡ mode_period t i.mode
      by None e =
          absurd (right_parent t range kept n x at 2 0 (subst (λ q. ParentFault t q x.parent 2 0) (sym e) (subst (λ q. ParentFault t None q 2 0) (sym par) (refl, refl))))
      by (Some m) e =
          let p = has_parent n m x at e in
          let one : Some p.inv ≡ Some i = sym p.at ∙ ap (slice_get t.invs) (cc) ∙ here in
          let same : p.inv ≡ i = cc in
          parent_period t range kept12 x.mode (mode_module t x.mode) m (each_at (IsInvInRange t) t.invs range.invs n x at).owner refl e ∙ ap (mode_period t) (sym p.mode) ∙ ap (λ (z : Inv). mode_period t z.mode) same

  pub down : (k c : ℕ) (x : Inv) → slice_get t.invs k ≡ Some x → Runs t modes x.mode → StandsFor t modes k c
      → (y : Inv) × (slice_get t.invs c ≡ Some y) × (is_concrete t y ≡ true) × Runs t modes y.mode × (mode_period t y.mode ≡ mode_period t x.mode)
  down k c x at runs (itself _ y here concrete) =
      let one : Some x ≡ Some y = sym at ∙ here in
      let is : x ≡ y = cc in
      (y, here, concrete, subst (λ (z : Inv). Runs t modes z.mode) is runs, ap (λ (z : Inv). mode_period t z.mode) (sym is))
  down k c x at runs (below _ n _ i y here abstract at_n par runs_n rest) = grind (arith, child_period, down n c y at_n runs_n rest)
