-- The root selections of a tree's tables are as many as the tree's, and have no more positions than the limit.
use Rattle.std.proofs.Common.{◌≡◌, ◌<◌, ◌≤◌, ◌+◌, ◌*◌, cond, ℕ, suc, Bool, true, false, List, [], ◌∷◌, ◌++◌, map, length, slice_get, Option, Some, None, filter, sum, refl, sym, ◌∙◌, ap, subst, arith, length-append, flat_map}
use Rattle.htl_names.proofs.Words.{AllZip, sum_by-cons, slice_get_within, same_Some, KeepsLimits, places_from, Tables, mode_module, Inv, Mode, PlainProgram, PlainModule, PlainMode, MeetsBounds, Layout, layout, symbols_of, mode_item, module_item, module_items_at, invoke_item, tables_of_tree, most_invokes, most_positions, selections, choices, flat_map_at, AreNamesRight, modules_at, invokes_at, nth_module, mode_in, ModeAt, ModuleAt, Module, mul-le, own_mode}
use Rattle.htl_model.specs.Selections.{is_root, root_modules, mode_of_module, inv_of_mode, modes_of, invs_of, choices_from, root_mode}
use Rattle.htl_names.proofs.{InRange.names-in-range, Numbered.module_count, Numbered.each_mode, Numbered.mode_owner, Numbered.one_module, ModulePlaces.is_root_module, ModulePlaces.exist, ModulePlaces.roots_of, FlatMaps.few_owned}
use Rattle.htl_names.proofs.{Ordering.kept_limit, ListLaws.invokes_most, ListLaws.map_places, ListLaws.length-places, Places.modes_in, Places.modes_there, Places.part_is, Members.at_place}

-- root module u of the tables has no more modes, and in each selection no more positions than the most of one of these
record IsRoot (t : Tables) (u : ℕ) (xs : List PlainMode) : Type 0 where
  modes : length (modes_of t u) ≤ length xs
  few : (sel : ℕ) → length (invs_of t (root_mode t sel u)) ≤ most_invokes xs

-- ---- from root modules to selections

module _ (t : Tables) where
  -- these root modules, with n choices, give no more than those modules of a source
  record AreAlike (n : ℕ) (us : List ℕ) (xs : List PlainModule) : Type 0 where
    most : n ≤ choices xs
    counted : (m : ℕ) → m ≤ choices xs → elim us as (λ _. ℕ) [ [] ↦ 0 | u ∷ vs ↦ m ] ≤ elim xs as (λ _. ℕ) [ [] ↦ 0 | y ∷ ys ↦ choices (y ∷ ys) ]
    few : (sel : ℕ) → length (flat_map (λ u. invs_of t (root_mode t sel u)) us) ≤ sum (map (λ (x : PlainModule). most_invokes x.modes) xs)

  abbrev AreRoots : List ℕ → List PlainModule → Type 0
  AreRoots us xs = AllZip (IsRoot t) us (map (λ (x : PlainModule). x.modes) xs)

  alike : (k : ℕ) (ms : List Module) (xs : List PlainModule) → AreRoots (places_from is_root k ms) xs → AreAlike (choices_from t k ms) (places_from is_root k ms) xs
  alike k [] [] h = record { most = omega arith; counted = λ m le. omega arith; few = λ sel. omega arith }
  alike k [] (x ∷ xs) h = absurd h
  alike k (m ∷ ms) xs h = by (is_root m) (choices_from t (suc k) ms) (places_from is_root (suc k) ms) xs h (alike (suc k) ms)
    where
      by : (b : Bool) (n : ℕ) (us : List ℕ) (xs : List PlainModule) → AreRoots (cond b (k ∷ us) us) xs → ((ys : List PlainModule) → AreRoots us ys → AreAlike n us ys)
          → AreAlike (cond b (length (modes_of t k)) 1 * n) (cond b (k ∷ us) us) xs
      by false n us xs h rest = let r = rest xs h in record { most = omega (arith, r.most); counted = r.counted; few = r.few }
      by true n us [] h rest = absurd h
      by true n us (x ∷ xs) h rest =
          let r = rest xs h.1 in
          record {
            most = mul-le (length (modes_of t k)) n (length x.modes) (choices xs) h.0.modes r.most;
            counted = λ m le. le;
            few = λ sel.
                let size = length-append (invs_of t (root_mode t sel k)) (flat_map (λ v. invs_of t (root_mode t sel v)) us) in
                let total = sum_by-cons (λ (n : ℕ). n) (most_invokes x.modes) (map (λ (y : PlainModule). most_invokes y.modes) xs) in
                omega (arith, size, total, h.0.few sel, r.few sel);
          }

-- ---- the tables of a tree

module _ (ps : List PlainProgram) (small : MeetsBounds ps) (right : AreNamesRight ps) where
  abbrev t : Tables
  t = tables_of_tree ps

  abbrev l : Layout
  l = layout ps

  -- a mode of a module has no more invocations than the most of one
  few_in_mode : (k : ℕ) (s : ModuleAt) → slice_get l.modules k ≡ Some s → (n : ℕ) (a : ModeAt) → slice_get l.modes n ≡ Some a → mode_module t n ≡ k
      → length (invokes_at ps a) ≤ most_invokes (modes_in ps s)
  few_in_mode k s there =
      each_mode ps (λ n a. mode_module t n ≡ k → length (invokes_at ps a) ≤ most_invokes (modes_in ps s)) (λ j m r x at its owner.
      let number : j ≡ k = sym (mode_owner ps j m r x at its) ∙ owner in
      let same = same_Some r s (sym at ∙ ap (slice_get l.modules) number ∙ there) in
      omega (arith, invokes_most (modes_in ps r) m x its, ap (λ q. most_invokes (modes_in ps q)) same, ap length (part_is ps (mode_in r m) x (λ z. z.invokes) its)))

  root_is : (k : ℕ) (s : ModuleAt) → slice_get l.modules k ≡ Some s → IsRoot t k (modes_in ps s)
  root_is k s there =
      let range = names-in-range ps small right in
      let below : k < length t.modules = omega (arith, slice_get_within l.modules k s there, module_count ps) in
      let modes = few_owned (λ k s. mode_item k) (modes_in ps) (λ (m : Mode). m.«module») (λ k s x. refl) k (length (modes_in ps s)) l.modules
      (λ r at. omega (arith, ap (λ q. length (modes_in ps q)) (same_Some r s (sym at ∙ there)))) in
      record {
        modes = omega (arith, length-places (mode_of_module k) 0 t.modes, modes);
        few = λ sel.
            let n = root_mode t sel k in
            let invokes = few_owned (invoke_item l ps) (invokes_at ps) (λ (i : Inv). i.mode) (λ m a x. refl) n (most_invokes (modes_in ps s)) l.modes
            (λ a at. few_in_mode k s there n a at (own_mode t sel k range below)) in
            omega (arith, length-places (inv_of_mode n) 0 t.invs, invokes);
      }

  -- the root modules among the modules from place k on
  roots_from : (k : ℕ) (us : List ModuleAt) → ((i j : ℕ) (s : ModuleAt) → i ≡ k + j → slice_get us j ≡ Some s → slice_get l.modules i ≡ Some s)
      → AllZip (IsRoot t) (places_from is_root k (flat_map_at (module_items_at l ps) k us)) (map (modes_in ps) (filter is_root_module us))
  roots_from k [] stand = tt
  roots_from k (s ∷ us) stand =
      let there = stand k 0 s (omega arith) refl in
      let x = exist (symbols_of ps) ps k s there in
      let later = flat_map_at (module_items_at l ps) (suc k) us in
      let rest = roots_from (suc k) us (λ i j r is e. stand i (suc j) r (omega (arith, is)) e) in
      subst (λ ms. AllZip (IsRoot t) (places_from is_root k (ms ++ later)) (map (modes_in ps) (filter is_root_module (s ∷ us)))) (sym (one_module l ps k s x.0 x.1))
      (by x.0 s.parent _ _ (root_is k s there) rest)
    where
      by : (x : PlainModule) (o : Option ModeAt) (ks : List ℕ) (ss : List ModuleAt) → IsRoot t k (modes_in ps s) → AllZip (IsRoot t) ks (map (modes_in ps) ss)
          → (let r : ModuleAt = record s { parent = o } in
          AllZip (IsRoot t) (cond (is_root (module_item l ps k r x)) (k ∷ ks) ks) (map (modes_in ps) (cond (is_root_module r) (s ∷ ss) ss)))
      by x None ks ss here rest = (here, rest)
      by x (Some a) ks ss here rest = rest

  roots_alike : AreAlike t (choices_from t 0 t.modules) (root_modules t) (modules_at ps 0)
  roots_alike =
      let modes : PlainModule → List PlainMode = λ x. x.modes in
      let roots : map (modes_in ps) (filter is_root_module l.modules) ≡ map modes (modules_at ps 0) =
      ap (map (modes_in ps)) (roots_of (symbols_of ps) ps) ∙ map_places (modes_in ps) (nth_module 0 None) modes (modules_at ps 0) (modes_there ps 0) in
      alike t 0 t.modules (modules_at ps 0) (subst (AllZip (IsRoot t) (root_modules t)) roots (roots_from 0 l.modules (at_place l.modules)))

  pub names-keep-limits : KeepsLimits (tables_of_tree ps)
  names-keep-limits =
      let same = roots_alike.counted (choices_from t 0 t.modules) roots_alike.most in
      let few = kept_limit ps right 9 (selections ps) 1024 refl refl in
      let most = kept_limit ps right 10 (most_positions ps) 128 refl refl in
      record {
        selections = omega (arith, same, few);
        positions = λ sel below. omega (arith, roots_alike.few sel, most);
      }
