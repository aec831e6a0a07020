-- The modes of all root modules in a selection, digit by digit, and the positions as one pass over the invocations meets them.
use Rattle.std.proofs.Common.{◌≡◌, ◌≤◌, ◌<◌, ◌⊎◌, ◌+◌, ◌-◌, ◌*◌, ◌/◌, ◌%◌, ℕ, zero, suc, Bool, true, false, ◌&&◌, ◌||◌, cond, eqb, List, [], ◌∷◌, ◌++◌, length, map, replicate, drop, drop-cons, get_or, slice_get, Option, Some, None, add-one, leb, set, min, refl, sym, ◌∙◌, ap, arith, inl, inr}
use Rattle.htl_model.proofs.Words.{flat_map, IsNonDecreasing, div-div-eq-div-mul, mul_comm, nat_tests, slice_get_within, slice_get-get_or, slice_get_cases, get_or-set_same, get_or-set_other, Inv, Mode, Module, places_from, AreInRange, IsInvInRange, IsModeInRange, root_entry, AreRootModes, below, modes_below, entry, is_at, is_running, is_root, modes_of, choices_from, root_mode, invs_of, positions, Tables, mode_module, eq-eqb, ne_eqb, cases_lt, cases_order, cases_up_to}
use Rattle.htl_model.proofs.{ChoiceLaws.capped, ChosenLaws.get_none, SelectionLaws.modes_some, SelectionLaws.cut_front, PortTableLaws.all_at}
use Rattle.htl_model.proofs.RisingKeys.{Rises, rises, unequal, most_below, all_below, key_below, key_above, run_length, run_at, places_same, none_pass, in_two, AreInTurn}

pub modes_rise : (t : Tables) → AreInRange t → Rises (λ (m : Mode). m.«module») t.modes
modes_rise t r = rises (λ (m : Mode). m.«module») t.modes r.modes_by_module

-- all modes are of modules
pub modes_all : (t : Tables) (n : ℕ) → AreInRange t → n ≡ length t.modules → length t.modes ≡ modes_below t.modes n
modes_all t n r count = sym (all_below (λ (m : Mode). m.«module») n t.modes (λ p x at. let owner = (all_at (IsModeInRange t) t.modes p x r.modes at).owner in omega arith))

-- the modes of a module are those between
pub modes_between : (t : Tables) (u first end : ℕ) → first ≡ modes_below t.modes u → end ≡ modes_below t.modes (u + 1) → length (modes_of t u) ≡ end - first
modes_between t u first end e f = omega (arith, run_length (λ (m : Mode). m.«module») u 0 t.modes)

pub mode_between : (t : Tables) (u j first : ℕ) → AreInRange t → first ≡ modes_below t.modes u → j < length (modes_of t u) → get_or (modes_of t u) j 0 ≡ first + j
mode_between t u j first r e h = run_at (λ (m : Mode). m.«module») u 0 j t.modes (modes_rise t r) h ∙ omega (arith, e)

-- a mode of the module more in front
pub first_back : (modes : List Mode) (u first : ℕ) (x : Mode) → IsNonDecreasing (map (λ (m : Mode). m.«module») modes) → 0 < first → first ≤ length modes
    → x ≡ get_or modes (first - 1) x → x.«module» ≡ u → modes_below modes u ≤ first - 1
first_back modes u first x rising some room is own = elim (cases_lt (first - 1) (modes_below modes u)) [
  | inl less ↦
      let at : slice_get modes (first - 1) ≡ Some x = slice_get-get_or modes (first - 1) x (omega arith) ∙ ap (λ (m : Mode). Some m) (sym is) in
      let low = key_below (λ (m : Mode). m.«module») u (first - 1) x modes (rises (λ (m : Mode). m.«module») modes rising) at less in
      absurd (omega (arith, low, own))
  | inr more ↦ more
]

-- none more
pub first_found : (modes : List Mode) (u first : ℕ) (x : Mode) → IsNonDecreasing (map (λ (m : Mode). m.«module») modes) → 0 < first → first ≤ length modes
    → x ≡ get_or modes (first - 1) x → (x.«module» ≡ u → ⊥) → first ≤ modes_below modes (u + 1) → modes_below modes u ≤ first → first ≡ modes_below modes u
first_found modes u first x rising some room is other high low = elim (cases_lt (first - 1) (modes_below modes u)) [
  | inl less ↦ omega arith
  | inr more ↦
      let at : slice_get modes (first - 1) ≡ Some x = slice_get-get_or modes (first - 1) x (omega arith) ∙ ap (λ (m : Mode). Some m) (sym is) in
      let rise = rises (λ (m : Mode). m.«module») modes rising in
      let up = key_above (λ (m : Mode). m.«module») u (first - 1) x modes rise at more in
      let down = key_below (λ (m : Mode). m.«module») (u + 1) (first - 1) x modes rise at (omega arith) in
      absurd (other (omega (arith, up, down)))
]

pub modes_grow : (modes : List Mode) (u : ℕ) → modes_below modes u ≤ modes_below modes (u + 1)
modes_grow modes u = omega (arith, run_length (λ (m : Mode). m.«module») u 0 modes)

pub modes_most : (modes : List Mode) (u : ℕ) → modes_below modes u ≤ length modes
modes_most modes u = most_below (λ (m : Mode). m.«module») u modes

-- ---- the choices from the last module on

pub choices_none : (t : Tables) (modules : List Module) (k : ℕ) → choices_from t k (drop (length modules) modules) ≡ 1
choices_none t [] k = refl
choices_none t (x ∷ xs) k = choices_none t xs k

pub choices_cut : (t : Tables) (modules : List Module) (k : ℕ) (x : Module) → k < length modules → x ≡ get_or modules k x
    → choices_from t k (drop k modules) ≡ cond (is_root x) (length (modes_of t k)) 1 * choices_from t (k + 1) (drop (k + 1) modules)
choices_cut t modules k x below at = grind (arith, drop-cons, add-one)

-- one more module in front
pub choices_before : (cap : ℕ) (t : Tables) (modules : List Module) (k n m count : ℕ) (x : Module) → k < length modules → x ≡ get_or modules k x → count ≡ length (modes_of t k)
    → m ≡ min (n * cond (is_root x) count 1) cap → n ≡ min (choices_from t (k + 1) (drop (k + 1) modules)) cap → m ≡ min (choices_from t k (drop k modules)) cap
choices_before cap t modules k n m count x below at many is so_far =
    let rest = choices_from t (k + 1) (drop (k + 1) modules) in
    let here = cond (is_root x) (length (modes_of t k)) 1 in
    is ∙ ap (λ c. min (n * cond (is_root x) c 1) cap) many ∙ ap (λ y. min (y * here) cap) so_far ∙ capped rest cap here
    ∙ ap (λ y. min y cap) (mul_comm rest here ∙ sym (choices_cut t modules k x below at))

-- ---- the digits of a selection

digits_cut : (b : Bool) (sel count rest digits before : ℕ) → digits ≡ sel / rest → before ≡ cond b (digits / count) digits → before ≡ sel / (cond b count 1 * rest)
digits_cut true sel count rest digits before e f = f ∙ ap (λ n. n / count) e ∙ div-div-eq-div-mul sel rest count ∙ ap (λ n. sel / n) (mul_comm rest count)
digits_cut false sel count rest digits before e f = let one : 1 * rest ≡ rest = omega arith in f ∙ e ∙ ap (λ n. sel / n) (sym one)

pub digits_before : (t : Tables) (modules : List Module) (sel k digits before count : ℕ) (x : Module) → k < length modules → x ≡ get_or modules k x → count ≡ length (modes_of t k)
    → digits ≡ sel / choices_from t (k + 1) (drop (k + 1) modules) → before ≡ cond (is_root x) (digits / count) digits → before ≡ sel / choices_from t k (drop k modules)
digits_before t modules sel k digits before count x below at many so_far is =
    digits_cut (is_root x) sel (length (modes_of t k)) (choices_from t (k + 1) (drop (k + 1) modules)) digits before so_far
    (is ∙ ap (λ c. cond (is_root x) (digits / c) digits) many)
    ∙ ap (λ n. sel / n) (sym (choices_cut t modules k x below at))

-- the entry of one module
pub entry_found : (t : Tables) (sel u digits first end : ℕ) (x : Module) (mode : Option ℕ) → AreInRange t → slice_get t.modules u ≡ Some x
    → first ≡ modes_below t.modes u → end ≡ modes_below t.modes (u + 1)
    → digits ≡ sel / choices_from t (u + 1) (drop (u + 1) t.modules) → mode ≡ cond (is_root x) (Some (first + digits % (end - first))) None → mode ≡ root_entry t sel u
entry_found t sel u digits first end x mode r at e f so_far is =
    let count = modes_between t u first end e f in
    let some = modes_some t u r (slice_get_within t.modules u x at) in
    let place = sel / choices_from t (u + 1) (drop (u + 1) t.modules) % length (modes_of t u) in
    let within : place < length (modes_of t u) = omega arith in
    let there : get_or (modes_of t u) place 0 ≡ first + place = mode_between t u place first r e within in
    is ∙ ap (λ n. cond (is_root x) (Some (first + n)) None) (ap (λ n. n % (end - first)) so_far ∙ ap (λ n. sel / choices_from t (u + 1) (drop (u + 1) t.modules) % n) (sym count))
    ∙ ap (λ n. cond (is_root x) (Some n) None) (sym there)
    ∙ sym (ap (λ (o : Option Module). elim o as (λ _. Option ℕ) [ Some y ↦ cond (is_root y) (Some (root_mode t sel u)) None | None ↦ None ]) at)

-- the entries from a module on
abbrev pub AreRootModesFrom : Tables → ℕ → ℕ → List (Option ℕ) → Type 0
AreRootModesFrom t sel k entries = (u : ℕ) → k ≤ u → entry entries u ≡ root_entry t sel u

pub entries_none : (t : Tables) (sel k size : ℕ) → length t.modules ≤ k → AreRootModesFrom t sel k (replicate size None)
entries_none t sel k size end u h = grind (arith, get_none, slice_get_cases, slice_get_within)

pub entries_more : (t : Tables) (sel k : ℕ) (entries : List (Option ℕ)) (mode : Option ℕ) → k < length entries → mode ≡ root_entry t sel k
    → AreRootModesFrom t sel (suc k) entries → AreRootModesFrom t sel k (set entries k mode)
entries_more t sel k entries mode room is so_far u h = grind (arith, cases_up_to, get_or-set_other, set, get_or-set_same)

-- ---- the positions

-- the mode of a module in a selection is of the module
pub own_mode : (t : Tables) (sel u : ℕ) → AreInRange t → u < length t.modules → mode_module t (root_mode t sel u) ≡ u
own_mode t sel u r h =
    let first = modes_below t.modes u in
    let count = run_length (λ (m : Mode). m.«module») u 0 t.modes in
    let some = modes_some t u r h in
    let place = sel / choices_from t (u + 1) (drop (u + 1) t.modules) % length (modes_of t u) in
    let within : place < length (modes_of t u) = omega arith in
    let there : root_mode t sel u ≡ first + place = mode_between t u place first r refl within in
    elim (slice_get_cases t.modes (root_mode t sel u)).1 [
      | inl c ↦
          let low = key_above (λ (m : Mode). m.«module») u (root_mode t sel u) c.0 t.modes (modes_rise t r) c.2 (omega arith) in
          let high = key_below (λ (m : Mode). m.«module») (u + 1) (root_mode t sel u) c.0 t.modes (modes_rise t r) c.2 (omega (arith, there, count, within)) in
          ap {B = ℕ} (λ (o : Option Mode). elim o [ Some y ↦ y.«module» | None ↦ 0 ]) c.2 ∙ omega (arith, low, high)
      | inr c ↦ absurd (omega (arith, c.0, there, within, count, most_below (λ (m : Mode). m.«module») (u + 1) t.modes))
    ]

split : (m k : ℕ) (b : Bool) → ((eqb m k && b) || (leb (suc k) m && b)) ≡ (leb k m && b)
split m k true = grind (arith, nat_tests)
split m k false = grind (arith, nat_tests)

far_at : (m k : ℕ) (b : Bool) → (leb k m && b) ≡ true → k ≤ m
far_at m k b e = grind (arith, nat_tests)

near_at : (m k : ℕ) (b : Bool) → (eqb m k && b) ≡ true → m ≡ k
near_at m k b e = grind (arith, nat_tests)

all_behind : (m : ℕ) (b : Bool) → (leb 0 m && b) ≡ b
all_behind m b = grind (arith, nat_tests)

-- later modes are of no earlier module
pub owners_rise : (t : Tables) (m n : ℕ) → AreInRange t → m ≤ n → n < length t.modes → mode_module t m ≤ mode_module t n
owners_rise t m n r le h = grind (arith, slice_get_cases, modes_rise)

module _ (t : Tables) (sel : ℕ) (entries : List (Option ℕ)) (r : AreInRange t) (are : AreRootModes t sel entries) where
  -- the invocation stands in the selection, in this module
  abbrev here : ℕ → Inv → Bool
  here k i = eqb (mode_module t i.mode) k && is_running t entries i.mode

  -- in this module or a later one
  abbrev behind : ℕ → Inv → Bool
  behind k i = leb k (mode_module t i.mode) && is_running t entries i.mode

  -- the modes of invocations are modes of modules
  owner_within : (j : ℕ) (i : Inv) → slice_get t.invs j ≡ Some i → (i.mode < length t.modes) × (mode_module t i.mode < length t.modules)
  owner_within j i at = grind (arith, all_at, slice_get_cases)

  at_root : (b : Bool) (m n : ℕ) → is_at (cond b (Some n) None) m ≡ cond b (eqb m n) false
  at_root true m n = grind (arith, nat_tests)
  at_root false m n = refl

  fails : (b : Bool) → cond b false false ≡ false
  fails true = refl
  fails false = refl

  owned : (k : ℕ) (x : Module) (i : Inv) → slice_get t.modules k ≡ Some x → here k i ≡ cond (is_root x) (eqb i.mode (root_mode t sel k)) false
  owned k x i at = elim (cases_order (mode_module t i.mode) k) [
    | inl same ↦
        ap (λ b. b && is_running t entries i.mode) (eq-eqb (mode_module t i.mode) k same)
        ∙ ap (λ u. is_at (entry entries u) i.mode) same ∙ ap (λ o. is_at o i.mode) (are k)
        ∙ ap (λ (o : Option Module). is_at (elim o as (λ _. Option ℕ) [ Some y ↦ cond (is_root y) (Some (root_mode t sel k)) None | None ↦ None ]) i.mode) at
        ∙ at_root (is_root x) i.mode (root_mode t sel k)
    | inr other ↦
        ap (λ b. b && is_running t entries i.mode) (unequal (mode_module t i.mode) k other)
        ∙ sym (ap (λ b. cond (is_root x) b false) (no_mode (λ e. other_not (ap (mode_module t) e ∙ own_mode t sel k r (slice_get_within t.modules k x at)) other)) ∙ fails (is_root x))
  ]
    where
      other_not : mode_module t i.mode ≡ k → (mode_module t i.mode < k) ⊎ (k < mode_module t i.mode) → ⊥
      other_not e (inl h) = omega (arith, e)
      other_not e (inr h) = omega (arith, e)

      no_mode : (i.mode ≡ root_mode t sel k → ⊥) → eqb i.mode (root_mode t sel k) ≡ false
      no_mode never = ne_eqb i.mode (root_mode t sel k) never

  -- one module more
  one_more : (k : ℕ) (i : Inv) → (here k i || behind (suc k) i) ≡ behind k i
  one_more k i = split (mode_module t i.mode) k (is_running t entries i.mode)

  in_turn : (k : ℕ) → AreInTurn (here k) (behind (suc k)) t.invs
  in_turn k i j x y le at_x at_y after now =
      let far = far_at (mode_module t x.mode) (suc k) (is_running t entries x.mode) after in
      let near = near_at (mode_module t y.mode) k (is_running t entries y.mode) now in
      let up = rises (λ (z : Inv). z.mode) t.invs r.invs_by_mode i j x y le at_x at_y in
      omega (arith, far, near, owners_rise t x.mode y.mode r up (owner_within j y at_y).0)

  module_here : (k : ℕ) (x : Module) → slice_get t.modules k ≡ Some x → cond (is_root x) (invs_of t (root_mode t sel k)) [] ≡ places_from (here k) 0 t.invs
  module_here k x at =
      by (is_root x) ∙ places_same (λ (i : Inv). cond (is_root x) (eqb i.mode (root_mode t sel k)) false) (here k) 0 t.invs (λ j i there. sym (owned k x i at))
    where
      by : (b : Bool) → cond b (invs_of t (root_mode t sel k)) [] ≡ places_from (λ (i : Inv). cond b (eqb i.mode (root_mode t sel k)) false) 0 t.invs
      by true = refl
      by false = sym (none_pass (λ (i : Inv). false) 0 t.invs (λ j y at e. cc))

  from_module : (k : ℕ) (modules : List Module) → ((j : ℕ) → slice_get modules j ≡ slice_get t.modules (k + j)) → length modules + k ≡ length t.modules
      → flat_map (λ u. invs_of t (root_mode t sel u)) (places_from is_root k modules) ≡ places_from (behind k) 0 t.invs
  from_module k [] at long = grind (arith, none_pass, far_at, owner_within)
  from_module k (x ∷ xs) at long =
      let f = λ (u : ℕ). invs_of t (root_mode t sel u) in
      let more = from_module (suc k) xs (λ j. at (suc j) ∙ ap (slice_get t.modules) (let e : k + suc j ≡ suc k + j = omega arith in e)) (omega arith) in
      let first : slice_get t.modules k ≡ Some x = ap (slice_get t.modules) (let e : k ≡ k + 0 = omega arith in e) ∙ sym (at 0) in
      cut_front f (is_root x) k (places_from is_root (suc k) xs)
      ∙ ap (λ z. z ++ flat_map f (places_from is_root (suc k) xs)) (module_here k x first)
      ∙ ap (λ z. places_from (here k) 0 t.invs ++ z) more
      ∙ sym (in_two (here k) (behind (suc k)) 0 t.invs (in_turn k))
      ∙ places_same (λ (i : Inv). here k i || behind (suc k) i) (behind k) 0 t.invs (λ j i there. one_more k i)

  -- one pass over the invocations meets the positions in their cases_up_to
  pub positions_met : positions t sel ≡ places_from (λ i. is_running t entries i.mode) 0 t.invs
  positions_met = grind (arith, from_module, places_same, all_behind)

-- ---- the pass itself

nothing_left : (invs : List Inv) (k : ℕ) → length invs ≤ k → drop k invs ≡ []
nothing_left [] zero h = refl
nothing_left [] (suc k) h = refl
nothing_left (x ∷ xs) zero h = absurd (omega arith)
nothing_left (x ∷ xs) (suc k) h = nothing_left xs k (omega arith)

pub none_left : (test : Inv → Bool) (invs : List Inv) (k : ℕ) → length invs ≤ k → places_from test k (drop k invs) ≡ []
none_left test invs k h = ap (places_from test k) (nothing_left invs k h)

module _ (test : Inv → Bool) (invs : List Inv) (k : ℕ) (x : Inv) (below_end : k < length invs) (at : x ≡ get_or invs k x) where
  cut : places_from test k (drop k invs) ≡ cond (test x) (k ∷ places_from test (suc k) (drop (suc k) invs)) (places_from test (suc k) (drop (suc k) invs))
  cut = ap (places_from test k) (drop-cons invs k x below_end ∙ ap (λ z. z ∷ drop (suc k) invs) (sym at))

  pub met_here : test x ≡ true → places_from test k (drop k invs) ≡ k ∷ places_from test (k + 1) (drop (k + 1) invs)
  met_here e = grind (arith, cut, add-one)

  pub passed_over : test x ≡ false → places_from test k (drop k invs) ≡ places_from test (k + 1) (drop (k + 1) invs)
  passed_over e = grind (arith, cut, add-one)

  pub count_here : (n m whole : ℕ) → test x ≡ true → m ≡ n + 1 → n + length (places_from test k (drop k invs)) ≡ whole → m + length (places_from test (k + 1) (drop (k + 1) invs)) ≡ whole
  count_here n m whole e f h = omega (arith, f, ap length (met_here e))

  pub count_over : (n m whole : ℕ) → test x ≡ false → m ≡ n → n + length (places_from test k (drop k invs)) ≡ whole → m + length (places_from test (k + 1) (drop (k + 1) invs)) ≡ whole
  count_over n m whole e f h = omega (arith, f, ap length (passed_over e))

  -- the place is met, one is met in front of it, or none
  pub found_here : (found : ℕ) → test x ≡ true → get_or (places_from test k (drop k invs)) 0 0 ≡ found → k ≡ found
  found_here found e h = sym (ap (λ z. get_or z 0 0) (met_here e)) ∙ h

  pub found_later : (n m found : ℕ) → test x ≡ true → 0 < n → m ≡ n - 1 → get_or (places_from test k (drop k invs)) n 0 ≡ found → get_or (places_from test (k + 1) (drop (k + 1) invs)) m 0 ≡ found
  found_later n m found e some f h = grind (arith, met_here)

  pub found_over : (n m found : ℕ) → test x ≡ false → m ≡ n → get_or (places_from test k (drop k invs)) n 0 ≡ found → get_or (places_from test (k + 1) (drop (k + 1) invs)) m 0 ≡ found
  found_over n m found e f h = ap (λ i. get_or (places_from test (k + 1) (drop (k + 1) invs)) i 0) f ∙ sym (ap (λ z. get_or z n 0) (passed_over e)) ∙ h
