-- The positions of a frame are by their rounds' starts, and nobody has two in one round.
use Rattle.std.proofs.Common.{◌≡◌, ◌<◌, ◌≤◌, ◌⊎◌, ℕ, suc, ◌+◌, true, List, [], ◌∷◌, slice_get, Option, Some, None, refl, sym, ◌∙◌, ap, subst, arith, inl, inr}
use Rattle.htl_refine.proofs.Words.{cases_less_same, Event, Place, Round, Inv, Mode, Module, StandsFor, itself, below, chosen, KeptApart, rounds, places_of, known_by, AreInRange, parent_mode, entry, IsEntry, IsSelection, is_root, inv_of_mode, invs_of, Tables, mode_module, running_invs, derived_place, place, standing_places, AreOrdered, PlacesOrdered, frame_modes, running_places, frame_places, modes_at, from_map, eqb-true, same_Some}
use Rattle.htl_refine.proofs.{Chains.Under, Chains.same, Chains.under_more, Chains.one_top, Chains.no_parent, Exact.chosen_exact_apart, Members.of_places, Positions.rootless, RecordOrder.not_some, StateLaws.states_are_selections}
use Rattle.htl_refine.proofs.RoundOrder.{Sorted, sorted_at, sorted_join, Less, sorted_places, RoundLess, sorted_rounds, round_of, run_of, ByStart, frame_by_start, standing_by_start, begun_known, known_begun, known_same}

-- ---- places

-- by start, and never the same
PlaceLess : Place → Place → Type 0
PlaceLess x y = (x.at ≤ y.at) × (x ≡ y → ⊥)

inv_or : Place → Option ℕ
inv_or x = x.inv

number_of : (k l a b : ℕ) → place k a ≡ place l b → k ≡ l
unfolding inv_or
number_of k l a b e = let same : ◌≡◌ {A = Option ℕ} (Some k) (Some l) = ap inv_or e in same_Some k l same

sorted_block : (a : ℕ) (ks : List ℕ) → Sorted Less ks → Sorted PlaceLess (places_of a ks)
unfolding Sorted Less PlaceLess
sorted_block a [] s = tt
sorted_block a (k ∷ ks) s = (λ q y e. by q y (from_map (λ z. place z a) ks q y e), sorted_block a ks s.1)
  where
    by : (q : ℕ) (y : Place) → (z : ℕ) × (slice_get ks q ≡ Some z) × (place z a ≡ y) → (a ≤ y.at) × (place k a ≡ y → ⊥)
    by q y m = (omega (arith, ap (λ (w : Place). w.at) m.2), λ e. let one : k ≡ m.0 = number_of k m.0 a a (e ∙ sym m.2) in omega (arith, s.0 q m.0 m.1, one))

sorted_invs : (t : Tables) (ms : List (Option ℕ)) (u : ℕ) → Sorted Less (running_invs t ms u)
unfolding Sorted
sorted_invs t ms u = grind (arith, sorted_places)

-- a root invocation of module u
record IsRootInv (t : Tables) (k u : ℕ) : Type 0 where
  inv : Inv
  at : slice_get t.invs k ≡ Some inv
  unit : mode_module t inv.mode ≡ u
  root : parent_mode t inv.mode ≡ None

one_unit : (t : Tables) (k u v : ℕ) → IsRootInv t k u → IsRootInv t k v → u ≡ v
one_unit t k u v x y = let one : x.inv ≡ y.inv = same_Some x.inv y.inv (sym x.at ∙ y.at) in sym x.unit ∙ ap (λ (z : Inv). mode_module t z.mode) one ∙ y.unit

AreRoots : Tables → (ℕ → List (Option ℕ)) → List Round → Type 0
AreRoots t modes rs = (q : ℕ) (r : Round) → slice_get rs q ≡ Some r → (j k : ℕ) → slice_get (running_invs t (modes r.at) r.unit) j ≡ Some k → IsRootInv t k r.unit

apart_rounds : (t : Tables) (k l u v a b : ℕ) → IsRootInv t k u → IsRootInv t l v → (a < b) ⊎ ((a ≡ b) × (u < v)) → PlaceLess (place k a) (place l b)
unfolding PlaceLess
apart_rounds t k l u v a b x y (inl less) = (omega (arith, less), λ e. let at : a ≡ b = ap (λ (w : Place). w.at) e in omega (arith, at, less))
apart_rounds t k l u v a b x y (inr less) = grind (arith, number_of, one_unit)

sorted_run : (t : Tables) (modes : ℕ → List (Option ℕ)) (rs : List Round) → Sorted RoundLess rs → AreRoots t modes rs → Sorted PlaceLess (running_places t modes rs)
unfolding Sorted RoundLess AreRoots
sorted_run t modes [] s h = tt
sorted_run t modes (r ∷ rs) s h =
    sorted_join PlaceLess (places_of r.at (running_invs t (modes r.at) r.unit)) (running_places t modes rs) (sorted_block r.at (running_invs t (modes r.at) r.unit) (sorted_invs t (modes r.at) r.unit))
    (sorted_run t modes rs s.1 (λ q w e j k g. h (suc q) w e j k g))
    (λ i j x y g k. across i x y (from_map (λ z. place z r.at) (running_invs t (modes r.at) r.unit) i x g) (run_of t modes rs j y k))
  where
    across : (i : ℕ) (x y : Place) → (z : ℕ) × (slice_get (running_invs t (modes r.at) r.unit) i ≡ Some z) × (place z r.at ≡ x)
        → (q : ℕ) × (w : Round) × (slice_get rs q ≡ Some w) × (j k : ℕ) × (slice_get (running_invs t (modes w.at) w.unit) j ≡ Some k) × (y ≡ place k w.at) → PlaceLess x y
    across i x y m n =
        let less = apart_rounds t m.0 n.4 r.unit n.1.unit r.at n.1.at (h 0 r refl i m.0 m.1) (h (suc n.0) n.1 n.2 n.3 n.4 n.5) (s.0 n.0 n.1 n.2) in
        subst (λ z. PlaceLess z y) m.2 (subst (PlaceLess (place m.0 r.at)) (sym n.6) less)

-- ---- in a run

under : (t : Tables) (modes : List (Option ℕ)) (k c : ℕ) → StandsFor t modes k c → Under t c k
under t modes k c (itself _ i at concrete) = same k
under t modes k c (below _ n _ i x at abstract at_n par runs_n rest) = under_more t c n k x (under t modes n c rest) at_n par

module _ (t : Tables) (es : List Event) (f : ℕ) (range : AreInRange t) (kept : KeptApart t 16) where
  selections : (a : ℕ) → IsSelection t (modes_at t es a)
  selections a = states_are_selections t range es a

  running_of : (ms : List (Option ℕ)) (u j k : ℕ) → slice_get (running_invs t ms u) j ≡ Some k → (q : ℕ) × (entry ms u ≡ Some q) × (slice_get (invs_of t q) j ≡ Some k)
  running_of ms u j k e = grind (arith, not_some)

  root_inv : (ms : List (Option ℕ)) (u j k : ℕ) (um : Module) → IsSelection t ms → slice_get t.modules u ≡ Some um → is_root um ≡ true → slice_get (running_invs t ms u) j ≡ Some k → IsRootInv t k u
  root_inv ms u j k um selection at root e =
      let run = running_of ms u j k e in
      let mode_at = (subst (IsEntry t ms u um.parent) run.1 (selection.each u um at)).0 in
      let unit : mode_module t run.0 ≡ u = ap (λ (o : Option Mode). elim o [ Some z ↦ z.«module» | None ↦ 0 ]) mode_at.1 ∙ mode_at.2 in
      let kx = of_places (inv_of_mode run.0) 0 t.invs j k run.2 in
      let inv_at : slice_get t.invs k ≡ Some kx.1 = ap (slice_get t.invs) (let z : k ≡ kx.0 = omega (arith, kx.2) in z) ∙ kx.3 in
      let is : mode_module t kx.1.mode ≡ u = ap (mode_module t) (eqb-true kx.1.mode run.0 kx.4) ∙ unit in
      record {
        inv = kx.1;
        at = inv_at;
        unit = is;
        root = ap (λ z. elim (slice_get t.modules z) [ Some y ↦ y.parent | None ↦ None ]) is ∙ ap (λ (o : Option Module). elim o [ Some y ↦ y.parent | None ↦ None ]) at ∙ rootless um root;
      }

  roots : AreRoots t (frame_modes t es f) (rounds t)
  unfolding AreRoots
  roots q r e j k g =
      let root = round_of t q r e in
      let um = of_places is_root 0 t.modules root.0 r.unit root.1 in
      let unit_at : slice_get t.modules r.unit ≡ Some um.1 = ap (slice_get t.modules) (let z : r.unit ≡ um.0 = omega (arith, um.2) in z) ∙ um.3 in
      root_inv (modes_at t es (f + r.at)) r.unit j k um.1 (selections (f + r.at)) unit_at um.4 g

  in_order : Sorted PlaceLess (frame_places t (frame_modes t es f))
  in_order = sorted_run t (frame_modes t es f) (rounds t) (sorted_rounds t) roots

  by_start : Sorted ByStart (standing_places t es f)
  by_start = standing_by_start t (frame_modes t es f) (frame_places t (frame_modes t es f)) (frame_by_start t (frame_modes t es f))

  -- a place at which i stands
  record IsFor (p i a : ℕ) : Type 0 where
    number : ℕ
    at : slice_get (frame_places t (frame_modes t es f)) p ≡ Some (place number a)
    stands : StandsFor t (frame_modes t es f a) number i
    unit : ℕ
    root : IsRootInv t number unit

  stands_at : (p i a : ℕ) → slice_get (standing_places t es f) p ≡ Some (place i a) → IsFor p i a
  unfolding AreRoots
  stands_at p i a e =
      let modes = frame_modes t es f in
      let x = from_map (derived_place t modes) (frame_places t modes) p (place i a) e in
      let r = run_of t modes (rounds t) p x.0 x.1 in
      let is : derived_place t modes (place r.4 r.1.at) ≡ place i a = ap (derived_place t modes) (sym r.6) ∙ x.2 in
      let at : r.1.at ≡ a = ap (λ (z : Place). z.at) is in
      record {
        number = r.4;
        at = x.1 ∙ ap (λ (z : Place). Some z) r.6 ∙ ap (λ z. Some (place r.4 z)) at;
        stands = (chosen_exact_apart t (modes a) range kept r.4 i).0 (ap (λ z. chosen t (modes z) r.4) (sym at) ∙ (ap (λ (z : Place). z.inv) is));
        unit = r.1.unit;
        root = roots r.0 r.1 r.2 r.3 r.4 r.5;
      }

  top_is : (k u : ℕ) → IsRootInv t k u → (x : Inv) → slice_get t.invs k ≡ Some x → x.parent ≡ None
  top_is k u r x at = no_parent t range kept k x at (subst (λ (z : Inv). parent_mode t z.mode ≡ None) (same_Some r.inv x (sym r.at ∙ at)) r.root)

  not_twice : (p q i a : ℕ) → p < q → slice_get (standing_places t es f) p ≡ Some (place i a) → slice_get (standing_places t es f) q ≡ Some (place i a) → ⊥
  unfolding PlaceLess
  not_twice p q i a l e g =
      let x = stands_at p i a e in
      let y = stands_at q i a g in
      let modes = frame_modes t es f in
      let one : x.number ≡ y.number = one_top t i x.number y.number (under t (modes a) x.number i x.stands) (under t (modes a) y.number i y.stands) (top_is x.number x.unit x.root) (top_is y.number y.unit y.root) in
      (sorted_at PlaceLess (frame_places t modes) p q (place x.number a) (place y.number a) in_order l x.at y.at).1 (ap (λ z. place z a) one)

  in_turn : (p q : ℕ) (x y : Place) → p < q → slice_get (standing_places t es f) p ≡ Some x → slice_get (standing_places t es f) q ≡ Some y → x.at ≤ y.at
  unfolding ByStart
  in_turn p q x y l a b = sorted_at ByStart (standing_places t es f) p q x y by_start l a b

  one_place : (p q i a : ℕ) → slice_get (standing_places t es f) p ≡ Some (place i a) → slice_get (standing_places t es f) q ≡ Some (place i a) → p ≡ q
  one_place p q i a e g = grind (arith, cases_less_same, not_twice)

  pub ordered : (d : ℕ) → AreOrdered (standing_places t es f) (known_by d (frame_places t (frame_modes t es f))) d
  ordered d = grind (arith, known_same, in_turn, one_place, begun_known, by_start, known_begun)

pub places_ordered : PlacesOrdered
places_ordered t es f d range kept = ordered t es f range kept d
