-- The positions of a selection of running modes are invocations in rising order.
use Rattle.std.proofs.Common.{◌≡◌, ◌<◌, ◌≤◌, ℕ, suc, Bool, true, false, cond, List, [], ◌∷◌, ◌++◌, length, get_or, map, Option, Some, None, refl, ◌∙◌, ap, subst, arith, inl, inr}
use Rattle.htl_refine.proofs.Words.{slice_get, flat_map, get_or-map, length-map, slice_get_within, get_or_from_slice_get, none-some, Inv, Mode, Module, places_from, AreInRange, entry, IsSelection, IsEntry, IsModeOf, is_root, root_modules, inv_of_mode, invs_of, Tables, modes_rise, running_invs, running_positions, eqb-true, cases_lt}
use Rattle.htl_refine.proofs.{Members.of_joined, Members.of_flat, Members.of_places, Positions.rootless}

-- ---- lists that rise

-- the list has the number
abbrev pub Has : List ℕ → ℕ → Type 0
Has xs a = (i : ℕ) × (slice_get xs i ≡ Some a)

-- each number is above those before it
abbrev pub AreRising : List ℕ → Type 0
AreRising [] = Unit {0}
AreRising (x ∷ xs) = ((a : ℕ) → Has xs a → x < a) × AreRising xs

nothing_in : (a : ℕ) → Has [] a → ⊥
nothing_in a h = none-some a h.1

pub joined_rise : (xs ys : List ℕ) → AreRising xs → AreRising ys → ((a b : ℕ) → Has xs a → Has ys b → a < b) → AreRising (xs ++ ys)
joined_rise [] ys p q cross = q
joined_rise (x ∷ xs) ys p q cross = (above, joined_rise xs ys p.1 q (λ a b h k. cross a b (suc h.0, h.1) k))
  where
    above : (a : ℕ) → Has (xs ++ ys) a → x < a
    above a h = elim (of_joined xs ys h.0 a h.1) [ inl e ↦ p.0 a (h.0, e) | inr k ↦ cross x a (0, refl) k ]

pub places_rise : {A : Type 0} (test : A → Bool) (k : ℕ) (xs : List A) → AreRising (places_from test k xs)
places_rise test k [] = tt
places_rise test k (x ∷ xs) = by (test x) (places_rise test (suc k) xs)
  where
    above : (a : ℕ) → Has (places_from test (suc k) xs) a → k < a
    above a h = let m = of_places test (suc k) xs h.0 a h.1 in omega (arith, m.2)

    by : (b : Bool) → AreRising (places_from test (suc k) xs) → AreRising (cond b (k ∷ places_from test (suc k) xs) (places_from test (suc k) xs))
    by true later = (above, later)
    by false later = later

flat_rise : (f : ℕ → List ℕ) (us : List ℕ) → AreRising us → ((u : ℕ) → Has us u → AreRising (f u))
    → ((u v a b : ℕ) → Has us u → Has us v → u < v → Has (f u) a → Has (f v) b → a < b) → AreRising (flat_map f us)
flat_rise f [] p each cross = tt
flat_rise f (u ∷ us) p each cross =
    joined_rise (f u) (flat_map f us) (each u (0, refl))
    (flat_rise f us p.1 (λ v h. each v (suc h.0, h.1)) (λ v w a b h k less x y. cross v w a b (suc h.0, h.1) (suc k.0, k.1) less x y))
    (λ a b h k.
    let m = of_flat f us k.0 b k.1 in
    cross u m.1 a b (0, refl) (suc m.0, m.2) (p.0 m.1 (m.0, m.2)) h (m.3, m.4))

-- ---- the positions

-- the modules of modes don't fall
modules_rise : (t : Tables) (p q : ℕ) (x y : Mode) → AreInRange t → slice_get t.modes p ≡ Some x → slice_get t.modes q ≡ Some y → p ≤ q → x.«module» ≤ y.«module»
modules_rise t p q x y r at_p at_q le =
    let below_q : q < length t.modes = slice_get_within t.modes q y at_q in
    let below_p : p < length t.modes = slice_get_within t.modes p x at_p in
    let rise : get_or (map (λ (m : Mode). m.«module») t.modes) p 0 ≤ get_or (map (λ (m : Mode). m.«module») t.modes) q 0 = r.modes_by_module p q 0 le (simp length-map below_q) in
    let is_p : get_or (map (λ (m : Mode). m.«module») t.modes) p 0 ≡ x.«module» = get_or-map (λ (m : Mode). m.«module») t.modes p x 0 below_p ∙ ap (λ (m : Mode). m.«module») (get_or_from_slice_get t.modes p x x at_p) in
    let is_q : get_or (map (λ (m : Mode). m.«module») t.modes) q 0 ≡ y.«module» = get_or-map (λ (m : Mode). m.«module») t.modes q y 0 below_q ∙ ap (λ (m : Mode). m.«module») (get_or_from_slice_get t.modes q y y at_q) in
    omega arith

module _ (t : Tables) (modes : List (Option ℕ)) (range : AreInRange t) (s : IsSelection t modes) where
  -- an invocation of a root module, in a mode that runs
  record IsRunningRoot (u k : ℕ) : Type 0 where
    owner : Module
    at_owner : slice_get t.modules u ≡ Some owner
    root : owner.parent ≡ None
    mode : ℕ
    runs : entry modes u ≡ Some mode
    own : IsModeOf t u mode
    inv : Inv
    at : slice_get t.invs k ≡ Some inv
    of_mode : inv.mode ≡ mode

  root_at : (u : ℕ) → Has (root_modules t) u → (x : Module) × (slice_get t.modules u ≡ Some x) × (x.parent ≡ None)
  root_at u h = grind (arith, of_places, rootless)

  running_at : (u k : ℕ) → Has (root_modules t) u → Has (running_invs t modes u) k → IsRunningRoot u k
  running_at u k h j = by (entry modes u) refl j
    where
      by : (o : Option ℕ) → entry modes u ≡ o → Has (elim o [ Some m ↦ invs_of t m | None ↦ [] ]) k → IsRunningRoot u k
      by (Some m) e i =
          let x = root_at u h in
          let inv = of_places (inv_of_mode m) 0 t.invs i.0 k i.1 in
          record {
            owner = x.0;
            at_owner = x.1;
            root = x.2;
            mode = m;
            runs = e;
            own = (subst (IsEntry t modes u x.0.parent) e (s.each u x.0 x.1)).0;
            inv = inv.1;
            at = subst (λ n. slice_get t.invs n ≡ Some inv.1) (omega (arith, inv.2)) inv.3;
            of_mode = eqb-true inv.1.mode m inv.4;
          }
      by None e i = absurd (nothing_in k i)

  pub running_rise : AreRising (running_positions t modes)
  running_rise = flat_rise (running_invs t modes) (root_modules t) (places_rise is_root 0 t.modules) each cross
    where
      each : (u : ℕ) → Has (root_modules t) u → AreRising (running_invs t modes u)
      each u h = by (entry modes u)
        where
          by : (o : Option ℕ) → AreRising (elim o [ Some m ↦ invs_of t m | None ↦ [] ])
          by (Some m) = places_rise (inv_of_mode m) 0 t.invs
          by None = tt

      cross : (u v a b : ℕ) → Has (root_modules t) u → Has (root_modules t) v → u < v → Has (running_invs t modes u) a → Has (running_invs t modes v) b → a < b
      cross u v a b in_u in_v less in_a in_b =
          let x = running_at u a in_u in_a in
          let y = running_at v b in_v in_b in
          elim (cases_lt a b) [
            | inl below ↦ below
            | inr over ↦
                let rise : y.inv.mode ≤ x.inv.mode = modes_rise t b a y.inv x.inv range y.at x.at over in
                let owners : y.own.0.«module» ≤ x.own.0.«module» = modules_rise t y.mode x.mode y.own.0 x.own.0 range y.own.1 x.own.1 (omega (arith, rise, x.of_mode, y.of_mode)) in
                absurd (omega (arith, owners, x.own.2, y.own.2, less))
          ]
