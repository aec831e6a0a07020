-- Which items the numbers of the tables name; the modules of the tables are in range.
use Rattle.std.proofs.Common.{◌≡◌, ◌<◌, ◌+◌, ℕ, zero, suc, true, List, [], ◌∷◌, length, take, slice_get, Some, None, refl, sym, ◌∙◌, ap, subst, arith, length-append, ◌≤◌, Option, IfSome, All}
use Rattle.htl_names.proofs.Words.{length-take-le, slice_get_within, same_Some, Module, IsModeThat, IsModuleInRange, parent_of, is_within, mode_module, PlainProgram, PlainModule, PlainMode, PlainTask, PlainSwitch, modules_of, tasks_of, switches_of, ModeAt, ModuleAt, Layout, modes_before, mode_item, mode_items, module_item, module_items_at, module_items, layout, symbols_of, meaning, mode_number, tables_of_tree, flat_map_at, module_at, tasks_at, module_modes, switches_at, MeetsBounds, MeetsTaskBounds, MeetsSwitchBounds, mode_key, AreNamesRight, refinements, Refinement, level, usage, uses, mode_in, Id, modes_of, all_at, from_take, item_at}
use Rattle.htl_names.proofs.{FlatMaps.at_part, FlatMaps.at_flat, FlatMaps.flat_part, FlatMaps.list_to_at, FlatMaps.of_list_to, FlatMaps.counted, FlatMaps.given, FlatMaps.stands, NameUses.known, NameUses.used_in_module}
use Rattle.htl_names.proofs.{Places.modes_in, Places.mode_parts, Places.within, Places.item_in_source, Places.part_in_source, Ordering.right_tree, Ordering.number_is, Ordering.low, TreeLevels.level_step, Members.In, Members.all_given}
use Rattle.htl_names.proofs.ModulePlaces.{Comes, top, under, child, comes, exist}

-- ---- modes by their numbers

module _ (ps : List PlainProgram) where
  abbrev l : Layout
  l = layout ps

  pub mode_stands : (k m : ℕ) (s : ModuleAt) (x : PlainMode) → slice_get l.modules k ≡ Some s → slice_get (modes_in ps s) m ≡ Some x
      → slice_get (mode_items l ps) (modes_before l ps k + m) ≡ Some (mode_item k x)
  mode_stands = stands (λ k s. mode_item k) (modes_in ps) l.modules

  -- mode m of module k is a mode of module k
  pub mode_owner : (k m : ℕ) (s : ModuleAt) (x : PlainMode) → slice_get l.modules k ≡ Some s → slice_get (modes_in ps s) m ≡ Some x
      → mode_module (tables_of_tree ps) (modes_before l ps k + m) ≡ k
  mode_owner k m s x there its = ap (λ o. elim o [ Some x ↦ x.«module» | None ↦ 0 ]) (mode_stands k m s x there its)

  pub its_mode : (k m : ℕ) (s : ModuleAt) (x : PlainMode) (P : ℕ → Type 0) → P k → slice_get l.modules k ≡ Some s → slice_get (modes_in ps s) m ≡ Some x
      → IsModeThat (tables_of_tree ps) P (modes_before l ps k + m)
  its_mode k m s x P holds there its = (mode_item k x, mode_stands k m s x there its, holds)

  pub mode_count : length (mode_items l ps) ≡ length l.modes
  mode_count = counted (λ k s. mode_item k) (modes_in ps) l.modules ∙ sym (mode_parts ps l.modules)

  pub mode_numbered : (k m : ℕ) (s : ModuleAt) (x : PlainMode) → slice_get l.modules k ≡ Some s → slice_get (modes_in ps s) m ≡ Some x
      → slice_get l.modes (modes_before l ps k + m) ≡ Some (mode_in s m)
  mode_numbered k m s x there its =
      let at = list_to_at (mode_in s) (length (modes_in ps s)) m (slice_get_within (modes_in ps s) m x its) in
      subst (λ (n : ℕ). slice_get l.modes (n + m) ≡ Some (mode_in s m)) (mode_parts ps (take k l.modules)) (at_flat (module_modes ps) l.modules k m s (mode_in s m) there at)

  -- what holds of each mode of each module holds of the mode of each number
  pub each_mode : (P : ℕ → ModeAt → Type 0)
      → ((k m : ℕ) (s : ModuleAt) (x : PlainMode) → slice_get l.modules k ≡ Some s → slice_get (modes_in ps s) m ≡ Some x → P (modes_before l ps k + m) (mode_in s m))
      → (n : ℕ) (a : ModeAt) → slice_get l.modes n ≡ Some a → P n a
  each_mode P holds n a e =
      let p = flat_part (module_modes ps) l.modules n a e in
      let m = of_list_to (mode_in p.owner) (length (modes_in ps p.owner)) p.place a p.item in
      let x = item_at (modes_in ps p.owner) p.place m.0 in
      let number : modes_before l ps p.part + p.place ≡ n = omega (arith, p.number, mode_parts ps (take p.part l.modules)) in
      subst (P n) m.1 (subst (λ (i : ℕ). P i (mode_in p.owner p.place)) number (holds p.part p.place p.owner x.0 p.there x.1))

  -- what holds of the item of each node of each mode holds of each item
  pub all_in_modes : {N B : Type 0} (P : B → Type 0) (item : ℕ → ModeAt → N → B) (nodes : ModeAt → List N)
      → ((k m : ℕ) (s : ModuleAt) (x : PlainMode) → slice_get l.modules k ≡ Some s → slice_get (modes_in ps s) m ≡ Some x → (j : ℕ) (n : N) → slice_get (nodes (mode_in s m)) j ≡ Some n
      → P (item (modes_before l ps k + m) (mode_in s m) n))
      → All P (flat_map_at (given item nodes) 0 l.modes)
  all_in_modes {N = N} P item nodes holds =
      all_given P item nodes l.modes (λ i a j n at its. each_mode (λ i a. (j : ℕ) (n : N) → slice_get (nodes a) j ≡ Some n → P (item i a n)) holds i a at j n its)

-- ---- modules by their numbers

singles : {A B : Type 0} (f : ℕ → A → List B) (xs : List A) → ((i : ℕ) (x : A) → slice_get xs i ≡ Some x → (k : ℕ) → length (f k x) ≡ 1) → (k : ℕ) → length (flat_map_at f k xs) ≡ length xs
singles f [] one k = refl
singles f (x ∷ xs) one k =
    omega (arith, length-append (f k x) (flat_map_at f (suc k) xs), one 0 x refl k, singles f xs (λ i y e. one (suc i) y e) (suc k))

pub one_module : (l : Layout) (ps : List PlainProgram) (k : ℕ) (s : ModuleAt) (x : PlainModule) → module_at ps s.program s.«module» ≡ Some x → module_items_at l ps k s ≡ module_item l ps k s x ∷ []
one_module l ps k s x e = ap (λ o. elim o [ Some x ↦ module_item l ps k s x ∷ [] | None ↦ [] ]) e

module _ (ps : List PlainProgram) where
  abbrev modules : List ModuleAt
  modules = (layout ps).modules

  one : (n i : ℕ) (s : ModuleAt) → slice_get modules i ≡ Some s → length (module_items_at (layout ps) ps n s) ≡ 1
  one n i s e = let x = exist (symbols_of ps) ps i s e in ap length (one_module (layout ps) ps n s x.0 x.1)

  pub module_count : length (module_items (layout ps) ps) ≡ length modules
  module_count = singles (module_items_at (layout ps) ps) modules (λ i s e n. one n i s e) 0

  module_stands : (k : ℕ) (s : ModuleAt) (x : PlainModule) → slice_get modules k ≡ Some s → module_at ps s.program s.«module» ≡ Some x
      → slice_get (module_items (layout ps) ps) k ≡ Some (module_item (layout ps) ps k s x)
  module_stands k s x there is =
      let l = layout ps in
      let front = singles (module_items_at l ps) (take k modules) (λ i r e n. one n i r (from_take modules k i r e).1) 0 in
      let size = length-take-le k modules (omega (arith, slice_get_within modules k s there)) in
      let own : slice_get (module_items_at l ps k s) 0 ≡ Some (module_item l ps k s x) = ap (λ ms. slice_get ms 0) (one_module l ps k s x is) in
      let place : length (flat_map_at (module_items_at l ps) 0 (take k modules)) + 0 ≡ k = omega (arith, front, size) in
      subst (λ (n : ℕ). slice_get (module_items l ps) n ≡ Some (module_item l ps k s x)) place (at_part (module_items_at l ps) modules k 0 s (module_item l ps k s x) there own)

  -- what holds of each module at its place holds of each of the tables
  pub each_module : (P : ℕ → Module → Type 0)
      → ((k : ℕ) (s : ModuleAt) (x : PlainModule) → slice_get modules k ≡ Some s → module_at ps s.program s.«module» ≡ Some x → P k (module_item (layout ps) ps k s x))
      → (k : ℕ) (y : Module) → slice_get (module_items (layout ps) ps) k ≡ Some y → P k y
  each_module P holds k y e =
      let s = item_at modules k (omega (arith, module_count, slice_get_within (module_items (layout ps) ps) k y e)) in
      let x = exist (symbols_of ps) ps k s.0 s.1 in
      subst (P k) (same_Some _ _ (sym (module_stands k s.0 x.0 s.1 x.1) ∙ e)) (holds k s.0 x.0 s.1 x.1)

-- the level of the program of a module
abbrev level_of : List PlainProgram → ℕ → ℕ
level_of ps p = level (refinements (symbols_of ps) ps) (length ps) p

level_some : (xs : List Refinement) (n p : ℕ) → 0 < n → 1 ≤ level xs n p
level_some xs zero p h = absurd (omega (arith, h))
level_some xs (suc n) p h = grind arith

module _ (ps : List PlainProgram) (right : AreNamesRight ps) where
  pub mode_number_is : (k m : ℕ) (s : ModuleAt) → slice_get (layout ps).modules k ≡ Some s → modes_before (layout ps) ps k + m ≡ mode_number (layout ps) ps (mode_in s m)
  mode_number_is k m s there = ap (λ (j : ℕ). modes_before (layout ps) ps j + m) (sym (number_is ps right k s there))

  -- the mode that a name means which stands in a module
  pub mode_meant : (k : ℕ) (s : ModuleAt) (id : Id) (P : ℕ → Type 0) → P k → slice_get (layout ps).modules k ≡ Some s → In (usage (mode_key s.program s.«module» id.name) id) (uses ps)
      → IsModeThat (tables_of_tree ps) P (modes_before (layout ps) ps k + meaning (layout ps) (mode_key s.program s.«module» id.name))
  mode_meant k s id P holds there used = let m = (known ps right (usage (mode_key s.program s.«module» id.name) id) used).0 in its_mode ps k _ s m.0 P holds there m.1

  abbrev parent_item : ModuleAt → Option ℕ
  parent_item s = elim s.parent [ Some a ↦ Some (mode_number (layout ps) ps a) | None ↦ None ]

  parent_in_range : (k : ℕ) (s : ModuleAt) → Comes (symbols_of ps) ps (layout ps).modules k s → IfSome (parent_item s) (IsModeThat (tables_of_tree ps) (λ owner. owner < k))
  parent_in_range k s (top u y its) = tt
  parent_in_range k s (under j t r lower there (child m q u y names its)) =
      subst (IsModeThat (tables_of_tree ps) (λ owner. owner < k)) (mode_number_is j m t there) (its_mode ps j m t names.mode (λ owner. owner < k) lower there names.there)

  within_levels : (steps k : ℕ) (s : ModuleAt) → Comes (symbols_of ps) ps (layout ps).modules k s → level_of ps s.program ≤ steps + 1 → is_within steps (tables_of_tree ps) (parent_item s) ≡ true
  within_levels zero k s (top u y its) few = refl
  within_levels (suc steps) k s (top u y its) few = refl
  within_levels zero k s (under j t r lower there (child m q u y names its)) few =
      let some = level_some (refinements (symbols_of ps) ps) (length ps) t.program (omega (arith, within ps q u y its)) in
      absurd (omega (arith, few, level_step (symbols_of ps) ps (right_tree ps right) q (mode_in t m) (within ps q u y its) names, some))
  within_levels (suc steps) k s (under j t r lower there (child m q u y names its)) few =
      let t' = tables_of_tree ps in
      let owner = ap (mode_module t') (sym (mode_number_is j m t there)) ∙ mode_owner ps j m t names.mode there names.there in
      let z = exist (symbols_of ps) ps j t there in
      let own : parent_of t' j ≡ parent_item t = ap (λ (o : Option Module). elim o [ Some y ↦ y.parent | None ↦ None ]) (module_stands ps j t z.0 there z.1) in
      ap (λ (i : ℕ). is_within steps t' (parent_of t' i)) owner ∙ ap (is_within steps t') own
      ∙ within_levels steps j t (comes (symbols_of ps) ps j t there) (omega (arith, few, level_step (symbols_of ps) ps (right_tree ps right) q (mode_in t m) (within ps q u y its) names))

  pub module_in_range : (k : ℕ) (y : Module) → slice_get (module_items (layout ps) ps) k ≡ Some y → IsModuleInRange (tables_of_tree ps) k y
  module_in_range =
      each_module ps (IsModuleInRange (tables_of_tree ps)) (λ k s x there its.
      let h = comes (symbols_of ps) ps k s there in
      record {
        start = mode_meant k s x.start (λ owner. owner ≡ k) refl there (used_in_module ps _ s.program s.«module» x its (0, refl));
        parent = parent_in_range k s h;
        levels = within_levels 7 k s h (omega (arith, low ps right s.program (within ps s.program s.«module» x its)));
      })

-- ---- tasks and switches

module _ (ps : List PlainProgram) (small : MeetsBounds ps) where
  pub task_small : (p u k : ℕ) (t : PlainTask) → slice_get (tasks_at ps p u) k ≡ Some t → MeetsTaskBounds t
  task_small p u k t e = let n = item_in_source (λ (y : PlainModule). y.tasks) ps p u k t e in all_at MeetsTaskBounds (tasks_of (modules_of ps)) (n.0 + k) t small.tasks n.1

  pub switch_small : (a : ModeAt) (j : ℕ) (w : PlainSwitch) → slice_get (switches_at ps a) j ≡ Some w → MeetsSwitchBounds w
  switch_small a j w at =
      let n = part_in_source (λ (z : PlainMode). z.switches) ps a j w at in
      all_at MeetsSwitchBounds (switches_of (modes_of (modules_of ps))) (n.0 + j) w small.switches n.1
