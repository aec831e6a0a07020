-- Root modules: a mode of one has its period, and a mode that refines none is of one.
use Rattle.std.proofs.Common.{◌≡◌, ℕ, ◌<◌, length, Option, Some, None, refl, sym, ◌∙◌, ap, arith}
use Rattle.htl_runs.proofs.Words.{slice_get_within, Mode, Module, KeptApart, unit_start, unit_period, AreInRange, IsModeInRange, parent_mode, is_root, root_modules, Tables, mode_module, mode_period, at_place, same_period, root_is, each_at, item_at, slice_get}

module _ (t : Tables) (range : AreInRange t) (kept : KeptApart t 16) where
  first12 : KeptApart t 12
  first12 = λ r s have need small other broken. kept r s have need (omega arith) other broken

  -- the mode of a root module has its period
  pub unit_period_is : (u q : ℕ) (x : Module) → slice_get t.modules u ≡ Some x → q < length t.modes → mode_module t q ≡ u → mode_period t q ≡ unit_period t u
  unit_period_is u q x at real own =
      let start = (range.modules u x at).start in
      let is : unit_start t u ≡ x.start = ap (λ (o : Option Module). elim o [ Some x ↦ x.start | None ↦ 0 ]) at in
      let unit : mode_module t x.start ≡ u = ap (λ (o : Option Mode). elim o [ Some z ↦ z.«module» | None ↦ 0 ]) start.1 ∙ start.2 in
      same_period t range first12 q x.start u real (slice_get_within t.modes x.start start.0 start.1) own unit ∙ ap (mode_period t) (sym is)

  -- the root module that a mode is of
  pub record HasRoot (q : ℕ) : Type 0 where
    pub index : ℕ
    pub at : slice_get (root_modules t) index ≡ Some (mode_module t q)
    pub period : mode_period t q ≡ unit_period t (mode_module t q)

  pub has_root : (q : ℕ) → q < length t.modes → parent_mode t q ≡ None → HasRoot q
  has_root q real root = by (item_at t.modes q real).0 (item_at t.modes q real).1
    where
      by_module : (x : Module) → slice_get t.modules (mode_module t q) ≡ Some x → HasRoot q
      by_module x at =
          let parent : x.parent ≡ None = sym (ap (λ (o : Option Module). elim o [ Some z ↦ z.parent | None ↦ None ]) at) ∙ root in
          let r = at_place is_root t.modules (mode_module t q) x at (root_is x parent) in
          record { index = r.0; at = r.1; period = unit_period_is (mode_module t q) q x at real refl }

      by : (x : Mode) → slice_get t.modes q ≡ Some x → HasRoot q
      by x at =
          let is : mode_module t q ≡ x.«module» = ap (λ (o : Option Mode). elim o [ Some z ↦ z.«module» | None ↦ 0 ]) at in
          let u = item_at t.modules (mode_module t q) (omega (arith, (each_at (IsModeInRange t) t.modes range.modes q x at).owner, is)) in
          by_module u.0 u.1
