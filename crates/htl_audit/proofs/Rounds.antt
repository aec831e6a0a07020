-- The rounds of an accepted object: windows have room and lie in their rounds; and the periods of root modules.
use Rattle.std.proofs.Common.{◌≡◌, ℕ, ◌≤◌, ◌<◌, length, get_or, Option, Some, None, All, ◌∙◌, ap, subst, arith}
use Rattle.htl_audit.proofs.Words.{slice_get, get_or_from_slice_get, slice_get-get_or, slice_get_within, Mode, Module, KeptApart, unit_start, unit_period, AreInRange, IsModeInRange, is_root, root_modules, Tables, mode_period, all_places_below, Object, IsAccepted, kept_apart, kept_all, window_small, window_within, HaveRounds, each_at, item_at}

-- ---- periods

module _ (t : Tables) (range : AreInRange t) where
  root_at : (m u : ℕ) → slice_get (root_modules t) m ≡ Some u → (x : Module) × (slice_get t.modules u ≡ Some x)
  root_at m u at =
      let below : u < length t.modules = subst (λ z. z < length t.modules) (get_or_from_slice_get (root_modules t) m u 0 at) (all_places_below is_root t.modules m 0 (slice_get_within (root_modules t) m u at)) in
      item_at t.modules u below

  -- the period of a root module is that of a mode
  root_periods_are : (m u : ℕ) → slice_get (root_modules t) m ≡ Some u → (1 ≤ unit_period t u) × (unit_period t u ≤ 1000000)
  root_periods_are m u at =
      let x = root_at m u at in
      let start = (range.modules u x.0 x.1).start in
      let mode : unit_start t u ≡ x.0.start = ap (λ (o : Option Module). elim o as (λ _. ℕ) [ Some y ↦ y.start | None ↦ 0 ]) x.1 in
      let is : unit_period t u ≡ start.0.period = ap (mode_period t) mode ∙ ap (λ (o : Option Mode). elim o as (λ _. ℕ) [ Some y ↦ y.period | None ↦ 0 ]) start.1 in
      let bounds = (each_at (IsModeInRange t) t.modes range.modes x.0.start start.0 start.1).period in
      (omega (arith, is, bounds.some), omega (arith, is, bounds.most))

  pub periods_within : All (λ u. (1 ≤ unit_period t u) × (unit_period t u ≤ 1000000)) (root_modules t)
  periods_within k d below = root_periods_are k (get_or (root_modules t) k d) (slice_get-get_or (root_modules t) k d below)

pub tables_have_rounds : (t : Tables) → AreInRange t → KeptApart t 12 → HaveRounds t
tables_have_rounds t range kept = record { windows = λ i x at. ((window_small t i x range kept at).0, window_within t i x range kept at) }

pub accepted_range : (o : Object) → IsAccepted o → AreInRange o.tables
accepted_range o accepted = accepted.spelled.formed.ranges.tables

pub accepted_kept : (o : Object) → IsAccepted o → KeptApart o.tables 16
accepted_kept o accepted = kept_apart o.tables 16 (kept_all o.tables accepted.spelled.formed.formed)

-- the first twelve rules
pub first_rules : (t : Tables) → KeptApart t 16 → KeptApart t 12
first_rules t kept r s have need small other broken = kept r s have need (omega (arith, small)) other broken

pub have_rounds : (o : Object) → IsAccepted o → HaveRounds o.tables
have_rounds o accepted = tables_have_rounds o.tables (accepted_range o accepted) (first_rules o.tables (accepted_kept o accepted))
