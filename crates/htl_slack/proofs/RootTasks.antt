-- Tasks that are invoked in root modules: how they are found, and that their worst cases are within their modules' periods.
use Rattle.std.proofs.Common.{◌≡◌, ◌≤◌, ◌<◌, ℕ, zero, suc, Bool, true, false, ◌||◌, ◌&&◌, eqb, eqb-true, eq-eqb, List, [], ◌∷◌, length, slice_get, Option, Some, None, refl, sym, ◌∙◌, ap, subst, arith, inl, inr}
use Rattle.htl_edf.proofs.Words.{list_any, slice_get_cases, KeptApart, unit_period, AreInRange, IsInvInRange, IsModeInRange, IsTaskInRange, IsSpan, Tables, mode_module, mode_period, task_worst, and_parts, cases_lt}
use Rattle.htl_walk.proofs.{Words.is_root, Words.each_at, PathReady.IsRootAt, PathReady.as_unit}
use Rattle.htl_model.specs.{declared.parts.Inv.Inv, declared.parts.Mode.Mode, declared.parts.Module.Module, declared.parts.Task.Task, FormRules.WorstCases, FormRules.Itself, FormRules.Site}
use Rattle.htl_slack.specs.RootTasks.{IsRootTask, task_module, limit_of, is_root_at, invokes}

-- ---- the test

no_parent : (o : Option ℕ) → elim o as (λ _. Bool) [ Some p ↦ false | None ↦ true ] ≡ true → o ≡ None
no_parent None e = refl
no_parent (Some p) e = absurd (cc)

root_owner : (t : Tables) (u : ℕ) → is_root_at t u ≡ true → (x : Module) × (slice_get t.modules u ≡ Some x) × (x.parent ≡ None)
root_owner t u e = by (slice_get t.modules u) refl e
  where
    by : (o : Option Module) → slice_get t.modules u ≡ o → elim o as (λ _. Bool) [ Some x ↦ is_root x | None ↦ false ] ≡ true → (x : Module) × (slice_get t.modules u ≡ Some x) × (x.parent ≡ None)
    by None at h = absurd (cc)
    by (Some x) at h = (x, at, no_parent x.parent h)

invoked : (t : Tables) (task : ℕ) (is : List Inv) → list_any (invokes t task) is ≡ true → (k : ℕ) × (i : Inv) × (slice_get is k ≡ Some i) × (invokes t task i ≡ true)
invoked t task [] e = absurd (cc)
invoked t task (i ∷ is) e = by (invokes t task i) refl (invoked t task is) e
  where
    by : (b : Bool) → invokes t task i ≡ b → (list_any (invokes t task) is ≡ true → (k : ℕ) × (j : Inv) × (slice_get is k ≡ Some j) × (invokes t task j ≡ true))
        → (b || list_any (invokes t task) is) ≡ true → (k : ℕ) × (j : Inv) × (slice_get (i ∷ is) k ≡ Some j) × (invokes t task j ≡ true)
    by true h rest f = (0, i, refl, h)
    by false h rest f = let r = rest f in (suc r.0, r.1, r.2, r.3)

invoking : (t : Tables) (task : ℕ) (is : List Inv) (k : ℕ) (i : Inv) → slice_get is k ≡ Some i → invokes t task i ≡ true → list_any (invokes t task) is ≡ true
invoking t task [] k i at h = absurd (cc)
invoking t task (j ∷ js) zero i at h = let same : j ≡ i = cc in ap (λ b. b || list_any (invokes t task) js) (ap (invokes t task) same ∙ h)
invoking t task (j ∷ js) (suc k) i at h = by (invokes t task j) (invoking t task js k i at h)
  where
    by : (b : Bool) → list_any (invokes t task) js ≡ true → (b || list_any (invokes t task) js) ≡ true
    by true f = refl
    by false f = f

pub found : (t : Tables) (task : ℕ) → list_any (invokes t task) t.invs ≡ true → IsRootTask t task
found t task e =
    let r = invoked t task t.invs e in
    let h = and_parts (eqb r.1.task task) (is_root_at t (mode_module t r.1.mode)) r.3 in
    let owner = root_owner t (mode_module t r.1.mode) h.1 in
    record { number = r.0; inv = r.1; at = r.2; invoked = eqb-true r.1.task task h.0; owner = owner.0; owned = owner.1; root = owner.2 }

pub finding : (t : Tables) (task : ℕ) → IsRootTask t task → list_any (invokes t task) t.invs ≡ true
finding t task h =
    let root : is_root h.owner ≡ true = ap (λ (o : Option ℕ). elim o as (λ _. Bool) [ Some p ↦ false | None ↦ true ]) h.root in
    let there : is_root_at t (mode_module t h.inv.mode) ≡ true = ap (λ (o : Option Module). elim o as (λ _. Bool) [ Some x ↦ is_root x | None ↦ false ]) h.owned ∙ root in
    invoking t task t.invs h.number h.inv h.at (ap (λ b. b && is_root_at t (mode_module t h.inv.mode)) (eq-eqb h.inv.task task h.invoked) ∙ there)

-- ---- the task and its module

module _ (t : Tables) (task : ℕ) (r : AreInRange t) (h : IsRootTask t task) where
  in_range : IsInvInRange t h.inv
  in_range = each_at (IsInvInRange t) t.invs r.invs h.number h.inv h.at

  task_at : slice_get t.tasks task ≡ Some in_range.task.0
  task_at = ap (slice_get t.tasks) (sym h.invoked) ∙ in_range.task.1

  pub task_below : task < length t.tasks
  task_below = elim (slice_get_cases t.tasks task).1 [ inl c ↦ c.1 | inr c ↦ absurd (let no : Some in_range.task.0 ≡ None = sym task_at ∙ c.1 in cc) ]

  worst_is : task_worst t task ≡ in_range.task.0.worst
  worst_is = ap (λ (o : Option Task). elim o as (λ _. ℕ) [ Some x ↦ x.worst | None ↦ 0 ]) task_at

  pub own_span : IsSpan (task_worst t task)
  own_span = subst IsSpan (sym worst_is) (each_at (IsTaskInRange t) t.tasks r.tasks task in_range.task.0 task_at).worst

  module_is : task_module t task ≡ mode_module t h.inv.mode
  module_is = ap (λ (o : Option Task). elim o as (λ _. ℕ) [ Some x ↦ x.«module» | None ↦ 0 ]) task_at ∙ in_range.task.2

  root_at : IsRootAt t (mode_module t h.inv.mode)
  root_at = record { owner = h.owner; at = h.owned; root = ap (λ (o : Option ℕ). elim o as (λ _. Bool) [ Some p ↦ false | None ↦ true ]) h.root }

  mode_at : (x : Mode) × (slice_get t.modes h.inv.mode ≡ Some x)
  mode_at = elim (slice_get_cases t.modes h.inv.mode).1 [ inl c ↦ (c.0, c.2) | inr c ↦ absurd (omega (arith, c.0, in_range.owner)) ]

  -- the mode of the invocation has the period of the task's module
  period_is : KeptApart t 12 → mode_period t h.inv.mode ≡ limit_of t task
  period_is kept =
      let owner : mode_module t h.inv.mode ≡ mode_at.0.«module» = ap (λ (o : Option Mode). elim o as (λ _. ℕ) [ Some x ↦ x.«module» | None ↦ 0 ]) mode_at.1 in
      as_unit t (mode_module t h.inv.mode) h.inv.mode mode_at.0 r kept root_at mode_at.1 (sym owner) ∙ ap (unit_period t) (sym module_is)

  pub own_within : KeptApart t 12 → task_worst t task ≤ limit_of t task
  own_within kept =
      let site : Site = record { mode = h.inv.mode; inv = Some h.number; part = Itself } in
      elim (cases_lt (limit_of t task) (task_worst t task)) [
        | inl long ↦
            absurd (kept WorstCases site (task_worst t task) (limit_of t task) (omega arith) (λ e. omega (arith, e))
            (mode_at.0, mode_at.1, (h.inv, h.at, refl, (ap (task_worst t) (sym h.invoked), sym (period_is kept), long))))
        | inr within ↦ within
      ]

  pub limit_small : KeptApart t 12 → limit_of t task ≤ 1000000
  limit_small kept =
      let mode : IsModeInRange t mode_at.0 = each_at (IsModeInRange t) t.modes r.modes h.inv.mode mode_at.0 mode_at.1 in
      let is : mode_period t h.inv.mode ≡ mode_at.0.period = ap (λ (o : Option Mode). elim o as (λ _. ℕ) [ Some x ↦ x.period | None ↦ 0 ]) mode_at.1 in
      omega (arith, mode.period.most, is, period_is kept)
