-- The modules in the order of the tables: where each comes from, and which of them are root modules.
use Rattle.std.proofs.Common.{◌≡◌, ◌⊎◌, inl, inr, ℕ, zero, suc, ◌+◌, ◌<◌, Bool, true, false, cond, List, [], ◌∷◌, length, take, slice_get, Option, Some, None, filter, refl, ◌∙◌, ap, subst, sym, arith, flat_map}
use Rattle.htl_names.proofs.Words.{common_steps, filter-append, none-some, same_Some, PlainProgram, PlainModule, PlainMode, Key, ModeAt, ModuleAt, module_at, modules_at, modes_at, modules_in, mode_children, children, order, refining_program, nth_module, mode_in, below, item_at}
use Rattle.htl_names.proofs.{Refinements.IsRefined, Members.In, FlatMaps.at_flat, FlatMaps.flat_part, FlatMaps.part_of, FlatMaps.of_list_to}

-- the module of a module
abbrev pub Exists : List PlainProgram → ModuleAt → Type 0
Exists ps s = (x : PlainModule) × (module_at ps s.program s.«module» ≡ Some x)

abbrev pub is_root_module : ModuleAt → Bool
is_root_module s = elim s.parent [ Some a ↦ false | None ↦ true ]

-- a module of the program that a mode of s names
pub data IsChild (symbols : List (Key × ℕ)) (ps : List PlainProgram) (s : ModuleAt) : ModuleAt → Type 0 where
  child : (m q u : ℕ) (y : PlainModule) → IsRefined symbols ps (mode_in s m) q → module_at ps q u ≡ Some y → IsChild symbols ps s (nth_module q (Some (mode_in s m)) u)

-- the module at place k is a root module, or stands below one before it
pub data Comes (symbols : List (Key × ℕ)) (ps : List PlainProgram) (modules : List ModuleAt) (k : ℕ) : ModuleAt → Type 0 where
  top : (u : ℕ) (y : PlainModule) → module_at ps 0 u ≡ Some y → Comes symbols ps modules k (nth_module 0 None u)
  under : (j : ℕ) (s r : ModuleAt) → j < k → slice_get modules j ≡ Some s → IsChild symbols ps s r → Comes symbols ps modules k r

module _ (symbols : List (Key × ℕ)) (ps : List PlainProgram) where
  in_program : (parent : Option ModeAt) (q k : ℕ) (r : ModuleAt) → slice_get (modules_in ps parent q) k ≡ Some r → (y : PlainModule) × (module_at ps q k ≡ Some y) × (nth_module q parent k ≡ r)
  in_program parent q k r e =
      let u = of_list_to (nth_module q parent) (length (modules_at ps q)) k r e in
      let y = item_at (modules_at ps q) k u.0 in
      (y.0, y.1, u.1)

  child_of : (s : ModuleAt) (k : ℕ) (r : ModuleAt) → slice_get (children symbols ps s) k ≡ Some r → IsChild symbols ps s r
  child_of s k r e =
      let p = part_of (mode_children symbols ps s.program s.«module») (modes_at ps s.program s.«module») k r e in
      by p.part p.owner p.there p.place (refining_program symbols p.owner) refl p.item
    where
      by : (m : ℕ) (x : PlainMode) → slice_get (modes_at ps s.program s.«module») m ≡ Some x → (j : ℕ) (o : Option ℕ) → refining_program symbols x ≡ o
          → slice_get (elim o as (λ _. List ModuleAt) [ Some q ↦ modules_in ps (Some (mode_in s m)) q | None ↦ [] ]) j ≡ Some r → IsChild symbols ps s r
      by m x its j None is e = absurd (none-some r e)
      by m x its j (Some q) is e = let y = in_program (Some (mode_in s m)) q j r e in subst (IsChild symbols ps s) y.2 (child m q j y.0 (record { mode = x; there = its; refined = is }) y.1)

  -- below one before place k
  abbrev Under : List ModuleAt → ℕ → ModuleAt → Type 0
  Under xs k r = (j : ℕ) × (s : ModuleAt) × (j < k) × (slice_get xs j ≡ Some s) × IsChild symbols ps s r

  flat_under : (f : ModuleAt → List ModuleAt) → ((s : ModuleAt) (k : ℕ) (r : ModuleAt) → slice_get (f s) k ≡ Some r → (s ≡ r) ⊎ Under (f s) k r)
      → (xs : List ModuleAt) (k : ℕ) (r : ModuleAt) → slice_get (flat_map f xs) k ≡ Some r → In r xs ⊎ Under (flat_map f xs) k r
  flat_under f own xs k r e =
      let p = flat_part f xs k r e in
      elim (own p.owner p.place r p.item) [
        | inl is ↦ inl (p.part, p.there ∙ ap Some is)
        | inr b ↦ inr (length (flat_map f (take p.part xs)) + b.0, b.1, omega (arith, b.2, p.number), at_flat f xs p.part b.0 p.owner b.1 p.there b.3, b.4)
      ]

  below_under : (n : ℕ) (s : ModuleAt) (k : ℕ) (r : ModuleAt) → slice_get (below n symbols ps s) k ≡ Some r → (s ≡ r) ⊎ Under (below n symbols ps s) k r
  below_under zero s zero r e = inl (same_Some s r e)
  below_under zero s (suc k) r e = absurd (none-some r e)
  below_under (suc n) s zero r e = inl (same_Some s r e)
  below_under (suc n) s (suc k) r e =
      elim (flat_under (below n symbols ps) (below_under n) (children symbols ps s) k r e) [
        | inl h ↦ inr (0, s, omega arith, refl, child_of s h.0 r h.1)
        | inr b ↦ inr (suc b.0, b.1, omega (arith, b.2), b.3, b.4)
      ]

  pub comes : (k : ℕ) (s : ModuleAt) → slice_get (order symbols ps) k ≡ Some s → Comes symbols ps (order symbols ps) k s
  comes k s e =
      elim (flat_under (below (length ps) symbols ps) (below_under (length ps)) (modules_in ps None 0) k s e) [
        | inl h ↦ let y = in_program None 0 h.0 s h.1 in subst (Comes symbols ps (order symbols ps) k) y.2 (top h.0 y.0 y.1)
        | inr b ↦ under b.0 b.1 s b.2 b.3 b.4
      ]

  pub exist : (k : ℕ) (s : ModuleAt) → slice_get (order symbols ps) k ≡ Some s → Exists ps s
  exist k s e = by s (comes k s e)
    where
      by : (s : ModuleAt) → Comes symbols ps (order symbols ps) k s → Exists ps s
      by s (top u y its) = (y, its)
      by s (under j t r lower there (child m q u y n its)) = (y, its)

  -- ---- the root modules

  -- all are, or none is
  roots_alike : (b : Bool) (xs : List ModuleAt) → ((k : ℕ) (s : ModuleAt) → slice_get xs k ≡ Some s → is_root_module s ≡ b) → filter is_root_module xs ≡ cond b xs []
  roots_alike b [] h = grind (arith, common_steps)
  roots_alike b (x ∷ xs) h = let here = h 0 x refl in let rest = roots_alike b xs (λ k s e. h (suc k) s e) in grind (arith, common_steps)

  no_root_below : (s : ModuleAt) → filter is_root_module (children symbols ps s) ≡ []
  no_root_below s = roots_alike false (children symbols ps s) (λ k r e. by r (child_of s k r e))
    where
      by : (r : ModuleAt) → IsChild symbols ps s r → is_root_module r ≡ false
      by r (child m q u y n its) = refl

  roots_stay : (n : ℕ) (xs : List ModuleAt) → filter is_root_module (flat_map (below n symbols ps) xs) ≡ filter is_root_module xs
  roots_stay n [] = refl
  roots_stay zero (x ∷ xs) = let rest = roots_stay zero xs in grind (arith, common_steps)
  roots_stay (suc n) (x ∷ xs) =
      let lower = roots_stay n (children symbols ps x) ∙ no_root_below x in
      let both = filter-append is_root_module (below (suc n) symbols ps x) (flat_map (below (suc n) symbols ps) xs) in
      let rest = roots_stay (suc n) xs in
      grind (arith, common_steps)

  pub roots_of : filter is_root_module (order symbols ps) ≡ modules_in ps None 0
  roots_of =
      roots_stay (length ps) (modules_in ps None 0)
      ∙ roots_alike true (modules_in ps None 0) (λ k s e. ap (λ (r : ModuleAt). is_root_module r) (sym (in_program None 0 k s e).2))
