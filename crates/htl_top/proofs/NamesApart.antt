-- Different items have different names in lines.
use Rattle.std.proofs.Common.{◌≡◌, ◌<◌, ℕ, true, List, [], ◌∷◌, ◌++◌, map, length, slice_get, Option, Some, None, refl, sym, ap, ◌∙◌, arith, append_assoc, append-nil, decimal}
use Rattle.htl_base.proofs.Places.{all_at, item_at}
use Rattle.htl_base.specs.Names.{is_name, is_word_byte}
use Rattle.htl_console.specs.Names.{full_inv, full_mode, inv_name, task_name}
use Rattle.htl_runs.specs.lines.RunLines.{HasNames}
use Rattle.htl_model.proofs.Apart.{apart_names, apart_owned, apart_pairs}
use Rattle.htl_model.specs.{Lines.mode_name, Lines.module_name, Ranges.AreInRange, Ranges.IsModeInRange, Ranges.IsInvInRange, Ranges.are_different, Tables.mode_module, declared.parts.Inv.Inv, declared.parts.Mode.Mode}
use Rattle.htl_model.specs.declared.parts.Task.{Task}
use Rattle.htl_patch.proofs.Counting.{one_key}
use Rattle.htl_top.proofs.Vocabulary.{Tables, and_parts}
use Rattle.htl_top.specs.FoundLaws.{AreToldApart, NamesTellApart}
use Rattle.std.specs.List.{All, list_all}

-- ---- lists whose items differ

-- the name of the item at a place
abbrev named : {A : Type 0} → (A → List ℕ) → List A → ℕ → List ℕ
named f xs k = elim (slice_get xs k) as (λ _. List ℕ) [ Some x ↦ f x | None ↦ [] ]

named_is : {A : Type 0} (f : A → List ℕ) (xs : List A) (k : ℕ) (x : A) → slice_get xs k ≡ Some x → named f xs k ≡ f x
named_is {A = A} f xs k x at = ap (λ (o : Option A). elim o as (λ _. List ℕ) [ Some y ↦ f y | None ↦ [] ]) at

same_named : {A : Type 0} (f : A → List ℕ) (xs : List A) (a b : ℕ) (x y : A) → slice_get xs a ≡ Some x → slice_get xs b ≡ Some y → named f xs a ≡ named f xs b → f x ≡ f y
same_named f xs a b x y p q same = sym (named_is f xs a x p) ∙ same ∙ named_is f xs b y q

told : {A : Type 0} (f : A → List ℕ) (xs : List A) → are_different (map f xs) ≡ true → AreToldApart (length xs) (named f xs)
told f xs apart a b p q same =
    let x = item_at xs a p in
    let y = item_at xs b q in
    one_key f xs (apart_names (map f xs) apart) a b x.0 y.0 x.1 y.1 (same_named f xs a b x.0 y.0 x.1 y.1 same)

-- ---- names up to a dot

no_dot : (b : ℕ) → is_word_byte b ≡ true → b ≡ 46 → ⊥
no_dot b word is = let no : is_word_byte 46 ≡ true = sym (ap is_word_byte is) ∙ word in cc

cut : (us vs xs ys : List ℕ) → list_all is_word_byte us ≡ true → list_all is_word_byte vs ≡ true → us ++ 46 ∷ xs ≡ vs ++ 46 ∷ ys → (us ≡ vs) × (xs ≡ ys)
cut [] [] xs ys p q e = (refl, cc)
cut [] (b ∷ vs) xs ys p q e = absurd (no_dot b (and_parts (is_word_byte b) _ q).0 cc)
cut (a ∷ us) [] xs ys p q e = absurd (no_dot a (and_parts (is_word_byte a) _ p).0 cc)
cut (a ∷ us) (b ∷ vs) xs ys p q e =
    let rest = cut us vs xs ys (and_parts (is_word_byte a) _ p).1 (and_parts (is_word_byte b) _ q).1 cc in
    let first : a ≡ b = cc in
    (ap (λ (n : ℕ). n ∷ us) first ∙ ap (λ (ns : List ℕ). b ∷ ns) rest.0, rest.1)

word_at : {A : Type 0} (f : A → List ℕ) (xs : List A) → All (λ x. is_name (f x) ≡ true) xs → (k : ℕ) → k < length xs → list_all is_word_byte (named f xs k) ≡ true
word_at {A = A} f xs names k p =
    let x = item_at xs k p in
    let front = and_parts _ _ (and_parts _ _ (all_at (λ (y : A). is_name (f y) ≡ true) xs k x.0 names x.1)).0 in
    ap (list_all is_word_byte) (named_is f xs k x.0 x.1) ∙ (and_parts _ _ front.1).1

-- ---- the items of tables

module _ (t : Tables) (range : AreInRange t) (names : HasNames t) where
  modules_told : AreToldApart (length t.modules) (module_name t)
  modules_told = told (λ u. u.name) t.modules range.module_names

  owner_is : (m : ℕ) (x : Mode) → slice_get t.modes m ≡ Some x → mode_module t m ≡ x.«module»
  owner_is m x at = ap (λ (o : Option Mode). elim o as (λ _. ℕ) [ Some y ↦ y.«module» | None ↦ 0 ]) at

  owner_below : (m : ℕ) → m < length t.modes → mode_module t m < length t.modules
  owner_below m p =
      let x = item_at t.modes m p in
      let owned : IsModeInRange t x.0 = all_at (IsModeInRange t) t.modes m x.0 range.modes x.1 in
      omega (arith, owner_is m x.0 x.1, owned.owner)

  -- by both names of a mode
  mode_told : (a b : ℕ) → a < length t.modes → b < length t.modes → module_name t (mode_module t a) ≡ module_name t (mode_module t b) → mode_name t a ≡ mode_name t b → a ≡ b
  mode_told a b p q owners modes =
      let x = item_at t.modes a p in
      let y = item_at t.modes b q in
      let owner : x.0.«module» ≡ y.0.«module» = sym (owner_is a x.0 x.1) ∙ modules_told (mode_module t a) (mode_module t b) (owner_below a p) (owner_below b q) owners ∙ owner_is b y.0 y.1 in
      one_key (λ (m : Mode). (m.«module», m.name)) t.modes (apart_owned _ range.mode_names) a b x.0 y.0 x.1 y.1
      (ap (λ (u : ℕ). (u, x.0.name)) owner ∙ ap (λ (n : List ℕ). (y.0.«module», n)) (same_named (λ (m : Mode). m.name) t.modes a b x.0 y.0 x.1 y.1 modes))

  -- a mode's names apart, whatever stands behind them
  split : (a b : ℕ) (xs ys : List ℕ) → a < length t.modes → b < length t.modes → full_mode t a ++ xs ≡ full_mode t b ++ ys
      → (module_name t (mode_module t a) ≡ module_name t (mode_module t b)) × (mode_name t a ++ xs ≡ mode_name t b ++ ys)
  split a b xs ys p q same =
      let flat : (m : ℕ) (zs : List ℕ) → full_mode t m ++ zs ≡ module_name t (mode_module t m) ++ 46 ∷ (mode_name t m ++ zs) =
      λ m zs. append_assoc (module_name t (mode_module t m) ++ 46 ∷ []) (mode_name t m) zs ∙ append_assoc (module_name t (mode_module t m)) (46 ∷ []) (mode_name t m ++ zs) in
      let word : (m : ℕ) → m < length t.modes → list_all is_word_byte (module_name t (mode_module t m)) ≡ true =
      λ m below. word_at (λ u. u.name) t.modules names.modules (mode_module t m) (owner_below m below) in
      cut (module_name t (mode_module t a)) (module_name t (mode_module t b)) (mode_name t a ++ xs) (mode_name t b ++ ys) (word a p) (word b q) (sym (flat a xs) ∙ same ∙ flat b ys)

  modes_told : AreToldApart (length t.modes) (full_mode t)
  modes_told a b p q same =
      let parts = split a b [] [] p q (ap (λ (bs : List ℕ). bs ++ []) same) in
      mode_told a b p q parts.0 (sym (append-nil (mode_name t a)) ∙ parts.1 ∙ append-nil (mode_name t b))

  invs_told : AreToldApart (length t.invs) (inv_name t)
  invs_told a b p q same =
      let x = item_at t.invs a p in
      let y = item_at t.invs b q in
      let shown : (k : ℕ) (z : Inv) → slice_get t.invs k ≡ Some z → inv_name t k ≡ full_mode t z.mode ++ 46 ∷ task_name t z.task =
      λ k z at. ap (λ (o : Option Inv). elim o as (λ _. List ℕ) [ Some i ↦ full_inv t i | None ↦ decimal k ]) at ∙ append_assoc (full_mode t z.mode) (46 ∷ []) (task_name t z.task) in
      let i : IsInvInRange t x.0 = all_at (IsInvInRange t) t.invs a x.0 range.invs x.1 in
      let j : IsInvInRange t y.0 = all_at (IsInvInRange t) t.invs b y.0 range.invs y.1 in
      let word : (m : ℕ) → m < length t.modes → list_all is_word_byte (mode_name t m) ≡ true = λ m below. word_at (λ z. z.name) t.modes names.modes m below in
      let first = split x.0.mode y.0.mode (46 ∷ task_name t x.0.task) (46 ∷ task_name t y.0.task) i.owner j.owner (sym (shown a x.0 x.1) ∙ same ∙ shown b y.0 y.1) in
      let second = cut (mode_name t x.0.mode) (mode_name t y.0.mode) (task_name t x.0.task) (task_name t y.0.task) (word x.0.mode i.owner) (word y.0.mode j.owner) first.1 in
      let mode : x.0.mode ≡ y.0.mode = mode_told x.0.mode y.0.mode i.owner j.owner first.0 second.0 in
      let k = i.task.0 in
      let l = j.task.0 in
      let owner : k.«module» ≡ l.«module» = i.task.2 ∙ ap (mode_module t) mode ∙ sym j.task.2 in
      let name = same_named (λ (z : Task). z.name) t.tasks x.0.task y.0.task k l i.task.1 j.task.1 second.1 in
      let task = one_key (λ (z : Task). (z.«module», z.name)) t.tasks (apart_owned _ range.task_names) x.0.task y.0.task k l i.task.1 j.task.1 (ap (λ (u : ℕ). (u, k.name)) owner ∙ ap (λ (n : List ℕ). (l.«module», n)) name) in
      one_key (λ (z : Inv). (z.mode, z.task)) t.invs (apart_pairs _ range.invoked_once) a b x.0 y.0 x.1 y.1 (ap (λ (m : ℕ). (m, x.0.task)) mode ∙ ap (λ (n : ℕ). (y.0.mode, n)) task)

pub names_tell : NamesTellApart
names_tell t range names =
    record { comms = told (λ c. c.name) t.comms range.comm_names; modules = modules_told t range names; modes = modes_told t range names; invs = invs_told t range names }
