-- From an invocation upwards: parents are of modules of lower numbers, up to a root invocation.
use Rattle.std.proofs.Common.{◌≡◌, ◌≤◌, ◌<◌, ℕ, zero, suc, ◌+◌, List, length, slice_get, Option, Some, None, IfSome, refl, sym, ◌∙◌, ap, subst, arith}
use Rattle.htl_times.proofs.Words.{item_at, each_at, none-some, same_Some, Inv, StandsFor, itself, below, KeptApart, AreInRange, IsInvInRange, ParentFault, parent_mode, Tables, no_parent, right_parent}
use Rattle.htl_refine.proofs.Exact.{module_below, module_of, module_rises}
use Rattle.htl_times.specs.Roots.{inv_parent, root_in, root_of, EachHasRoot, StandsWithinRoot, ParentlessOfRoots}

-- ---- upwards

go_up : Tables → ℕ → ℕ → Option ℕ → Option ℕ
go_up t n i o = elim o [ Some p ↦ root_in n t p | None ↦ Some i ]

pub step_by : (t : Tables) (n i p : ℕ) → inv_parent t i ≡ Some p → root_in (suc n) t i ≡ root_in n t p
unfolding go_up
step_by t n i p par = ap (go_up t n i) par

pub stop_by : (t : Tables) (n i : ℕ) → inv_parent t i ≡ None → root_in (suc n) t i ≡ Some i
unfolding go_up
stop_by t n i none = ap (go_up t n i) none

parent_is : (t : Tables) (i : ℕ) (x : Inv) → slice_get t.invs i ≡ Some x → inv_parent t i ≡ x.parent
parent_is t i x at = ap (λ (o : Option Inv). elim o [ Some y ↦ y.parent | None ↦ None ]) at

step_up : (t : Tables) (n i p : ℕ) (x : Inv) → slice_get t.invs i ≡ Some x → x.parent ≡ Some p → root_in (suc n) t i ≡ root_in n t p
step_up t n i p x at par = step_by t n i p (parent_is t i x at ∙ par)

stop_here : (t : Tables) (n i : ℕ) (x : Inv) → slice_get t.invs i ≡ Some x → x.parent ≡ None → root_in (suc n) t i ≡ Some i
stop_here t n i x at none = stop_by t n i (parent_is t i x at ∙ none)

-- ---- as the code goes up: what is left to look at, from here, is the root of the invocation

abbrev pub IsOnWay : Tables → ℕ → ℕ → ℕ → Type 0
IsOnWay t inv at step = (left : ℕ) → step + left ≡ length t.modules → root_in left t at ≡ root_of t inv

some_left : (step count : ℕ) → step < count → (left : ℕ) × (step + suc left ≡ count)
some_left step zero l = absurd (omega (arith, l))
some_left zero (suc count) l = (count, omega arith)
some_left (suc step) (suc count) l = let r = some_left step count (omega (arith, l)) in (r.0, omega (arith, r.1))

pub goes_up : (t : Tables) (inv at p step : ℕ) → inv_parent t at ≡ Some p → IsOnWay t inv at step → IsOnWay t inv p (step + 1)
goes_up t inv at p step par way left e = sym (step_by t left at p par) ∙ way (suc left) (omega (arith, e))

pub comes_to : (t : Tables) (inv at step : ℕ) → inv_parent t at ≡ None → step < length t.modules → IsOnWay t inv at step → Some at ≡ root_of t inv
comes_to t inv at step none less way = let r = some_left step (length t.modules) less in sym (stop_by t r.0 at none) ∙ way (suc r.0) r.1

pub looked_enough : (t : Tables) (inv at step : ℕ) → length t.modules ≤ step → step ≤ length t.modules → IsOnWay t inv at step → None ≡ root_of t inv
looked_enough t inv at step most least way = way 0 (omega (arith, most, least))

module _ (t : Tables) (range : AreInRange t) (kept : KeptApart t 16) where
  -- ---- parents and root modules

  -- an invocation without a parent is of a root module
  of_root : (i : ℕ) (x : Inv) → slice_get t.invs i ≡ Some x → x.parent ≡ None → parent_mode t x.mode ≡ None
  of_root i x at none = by (parent_mode t x.mode) refl
    where
      by : (o : Option ℕ) → parent_mode t x.mode ≡ o → o ≡ None
      by None e = refl
      by (Some m) e = absurd (right_parent t range kept i x at 0 1 (subst (λ o. ParentFault t o x.parent 0 1) (sym e) (subst (λ o. ParentFault t (Some m) o 0 1) (sym none) (refl, refl))))

  -- a parent is an invocation
  parent_at : (n k : ℕ) (x : Inv) → slice_get t.invs n ≡ Some x → x.parent ≡ Some k → (i : Inv) × (slice_get t.invs k ≡ Some i)
  parent_at n k x at par = item_at t.invs k (subst (λ o. IfSome o (λ p. p < length t.invs)) par (each_at (IsInvInRange t) t.invs range.invs n x at).parent)

  -- so many steps suffice
  abbrev Leads : ℕ → ℕ → Type 0
  Leads n i = (r : ℕ) × (y : Inv) × (root_in n t i ≡ Some r) × (slice_get t.invs r ≡ Some y) × (y.parent ≡ None)

  root_above : (n i : ℕ) (x : Inv) → slice_get t.invs i ≡ Some x → module_of t range kept x < n → Leads n i
  root_above zero i x at few = absurd (omega arith)
  root_above (suc n) i x at few = by (λ p y at_p less. root_above n p y at_p less) x.parent refl
    where
      by : ((p : ℕ) (y : Inv) → slice_get t.invs p ≡ Some y → module_of t range kept y < n → Leads n p) → (o : Option ℕ) → x.parent ≡ o → Leads (suc n) i
      by later None e = (i, x, stop_here t n i x at e, at, e)
      by later (Some p) e =
          let y = parent_at i p x at e in
          let r = later p y.0 y.1 (omega (arith, few, module_rises t range kept i p x y.0 at e y.1)) in
          (r.0, r.1, step_up t n i p x at e ∙ r.2, r.3, r.4)

  -- and all that suffice lead to one
  abbrev OneBelow : ℕ → ℕ → ℕ → ℕ → Type 0
  OneBelow n m r s = (p : ℕ) → root_in n t p ≡ Some r → root_in m t p ≡ Some s → r ≡ s

  one_root : (n m i r s : ℕ) → root_in n t i ≡ Some r → root_in m t i ≡ Some s → r ≡ s
  one_root zero m i r s e f = absurd (none-some r e)
  one_root (suc n) zero i r s e f = absurd (none-some s f)
  one_root (suc n) (suc m) i r s e f = by (λ p g h. one_root n m p r s g h) (inv_parent t i) refl
    where
      by : OneBelow n m r s → (o : Option ℕ) → inv_parent t i ≡ o → r ≡ s
      by later None none = same_Some r s (sym e ∙ stop_by t n i none ∙ sym (stop_by t m i none) ∙ f)
      by later (Some p) par = later p (sym (step_by t n i p par) ∙ e) (sym (step_by t m i p par) ∙ f)

  -- from what stands for an invocation one comes to where one comes from the invocation
  from_below : (modes : List (Option ℕ)) (k c : ℕ) → StandsFor t modes k c → (n r : ℕ) → root_in n t k ≡ Some r → (m : ℕ) × (root_in m t c ≡ Some r)
  from_below modes k c (itself _ y at concrete) n r e = (n, e)
  from_below modes k c (below _ d _ y x at abstract at_d par runs rest) n r e = from_below modes d c rest (suc n) r (step_up t n d k x at_d par ∙ e)

  standing_at : (modes : List (Option ℕ)) (k c : ℕ) → StandsFor t modes k c → (y : Inv) × (slice_get t.invs c ≡ Some y)
  standing_at modes k c (itself _ y at concrete) = (y, at)
  standing_at modes k c (below _ d _ y x at abstract at_d par runs rest) = standing_at modes d c rest

pub each_has_root : EachHasRoot
each_has_root t i x range kept at =
    let r = root_above t range kept (length t.modules) i x at (module_below t range kept i x at) in
    record { root = r.0; inv = r.1; is = r.2; at = r.3; of_root_module = of_root t range kept r.0 r.1 r.3 r.4 }

pub stands_within_root : StandsWithinRoot
stands_within_root t modes k c x range kept at root stands =
    let y = standing_at t range kept modes k c stands in
    let r = each_has_root t c y.0 range kept y.1 in
    let top = stop_here t 0 k x at (no_parent t range kept k x at root) in
    let other = from_below t range kept modes k c stands 1 k top in
    r.is ∙ ap (λ n. Some n) (one_root t range kept (length t.modules) other.0 c r.root k r.is other.1)

pub parentless_of_roots : ParentlessOfRoots
parentless_of_roots t i x range kept at = (of_root t range kept i x at, no_parent t range kept i x at)
