-- Tests of what is taken over: by places, and by the invocations that stand for others.
use Rattle.std.proofs.Common.{◌≡◌, ◌<◌, ◌+◌, ℕ, zero, suc, Bool, true, false, cond, not, ◌&&◌, ◌||◌, eqb, ltb, List, [], ◌∷◌, ◌++◌, length, length-append, map, drop, get_or, slice_get, Option, Some, None, refl, sym, ◌∙◌, ap, subst, arith}
use Rattle.htl_patch.proofs.Words.{nat_tests, length-map, slice_get-get_or, list_any, numbered, first_some, AreInRange, IsModeInRange, IsInvInRange, Tables, mode_module, Inv, Mode, Module, length-list_to, get_list_to, counterpart, all_counterparts, first, is_transferred, inv_module, is_matched, is_unmatched_parent, module_name, is_kept_name, twice_at, order, ArePlacesOf, place_among, Replacement, invs_named, invoked_name, belongs_to_mode, donor_parent, combined, donor_module, all_at, eqb_flips, and_none, and_with_true}

below_some : (n : ℕ) → ltb 0 (suc n) ≡ true
below_some n = grind (arith, nat_tests)

below_next : (a b : ℕ) → ltb (suc a) (suc b) ≡ ltb a b
below_next a b = grind (arith, nat_tests)

transferred_place : (m : ℕ) (xs : List ℕ) → ltb (place_among m xs) (length xs) ≡ list_any (eqb m) xs
transferred_place m [] = none 0 (omega arith)
  where
    none : (a : ℕ) → a ≡ 0 → ltb a 0 ≡ false
    none a e = grind (arith, nat_tests)
transferred_place m (x ∷ xs) = by (eqb x m) (transferred_place m xs) ∙ ap (λ (b : Bool). b || list_any (eqb m) xs) (eqb_flips x m)
  where
    by : (b : Bool) → ltb (place_among m xs) (length xs) ≡ list_any (eqb m) xs → ltb (cond b 0 (suc (place_among m xs))) (suc (length xs)) ≡ (b || list_any (eqb m) xs)
    by true later = below_some (length xs)
    by false later = below_next (place_among m xs) (length xs) ∙ later

-- a module is taken over where it has a place
pub transferred_is : (g : Replacement) (k before : ℕ) (units places : List ℕ) → k < length g.donor.modules → before ≡ length g.host.modules → units ≡ order g
    → ArePlacesOf (length (combined g).modules) (order g) places → ltb (get_or places (before + k) 0) (length units) ≡ is_transferred g k
transferred_is g k before units places less is all a =
    let both = length-append g.host.modules (map (donor_module g) g.donor.modules) in
    let back = length-map g.donor.modules (donor_module g) in
    ap (λ (n : ℕ). ltb (get_or places (n + k) 0) (length units)) is
    ∙ ap (λ (n : ℕ). ltb n (length units)) (a.at (length g.host.modules + k) (omega (arith, less, both, back)))
    ∙ ap (λ (xs : List ℕ). ltb (place_among (length g.host.modules + k) (order g)) (length xs)) all
    ∙ transferred_place (length g.host.modules + k) (order g)

-- the module of a mode is a module
pub unit_within : (t : Tables) (m : ℕ) → AreInRange t → m < length t.modes → mode_module t m < length t.modules
unit_within t m r less = by (slice_get t.modes m) refl
  where
    by : (o : Option Mode) → slice_get t.modes m ≡ o → elim o as (λ _. ℕ) [ Some x ↦ x.«module» | None ↦ 0 ] < length t.modules
    by (Some x) e = (all_at (IsModeInRange t) t.modes m x r.modes e).owner
    by None e = absurd (gone t.modes m less e)
      where
        gone : (xs : List Mode) (k : ℕ) → k < length xs → slice_get xs k ≡ None → ⊥
        gone [] k less e = absurd (omega (arith, less))
        gone (x ∷ xs) zero less e = cc
        gone (x ∷ xs) (suc k) less e = gone xs k (omega (arith, less)) e

-- ---- the invocations that stand for others

module _ (g : Replacement) (counterparts : List (Option ℕ)) (are : counterparts ≡ all_counterparts g) (p : ℕ) (less : p < length g.donor.invs) where
  pub counterparts_within : p < length counterparts
  counterparts_within = let size = ap length are in let n = length-list_to (counterpart g) (length g.donor.invs) in omega (arith, size, n, less)

  pub counterpart_is : (o : Option ℕ) → get_or counterparts p None ≡ o → counterpart g p ≡ o
  counterpart_is o e = sym (ap (λ (os : List (Option ℕ)). get_or os p None) are ∙ get_list_to (counterpart g) (length g.donor.invs) p None less) ∙ e

  -- none stands for it where it isn't met by name
  pub matched_at : is_matched g p ≡ elim (counterpart g p) as (λ _. Bool) [ Some k ↦ true | None ↦ false ]
  matched_at = by (belongs_to_mode g.donor g.replacing_mode p) (invs_named g.host g.patched_mode (invoked_name g.donor p))
    where
      by : (b : Bool) (ks : List ℕ) → (b && not (eqb (length ks) 0)) ≡ elim (cond b (first ks) None) as (λ _. Bool) [ Some k ↦ true | None ↦ false ]
      by false ks = refl
      by true [] = refl
      by true (k ∷ ks) = let e : eqb (length (k ∷ ks)) 0 ≡ false = grind (arith, nat_tests) in ap not e

  pub matched_is_none : (k : ℕ) → counterpart g p ≡ Some k → is_unmatched_parent g (Some p) ≡ false
  matched_is_none k e =
      ap (λ (b : Bool). not (is_transferred g (inv_module g.donor p)) && not b) (matched_at ∙ ap (λ (o : Option ℕ). elim o as (λ _. Bool) [ Some k ↦ true | None ↦ false ]) e)
      ∙ and_none (not (is_transferred g (inv_module g.donor p)))

  pub unmatched_is : (t : Bool) → counterpart g p ≡ None → t ≡ is_transferred g (inv_module g.donor p) → is_unmatched_parent g (Some p) ≡ not t
  unmatched_is t e is =
      ap (λ (b : Bool). not (is_transferred g (inv_module g.donor p)) && not b) (matched_at ∙ ap (λ (o : Option ℕ). elim o as (λ _. Bool) [ Some k ↦ true | None ↦ false ]) e)
      ∙ ap (λ (b : Bool). not b && true) (sym is) ∙ and_with_true (not t)

-- the parent that stands for one in the donor's mode
moved_invocation : (g : Replacement) (p : ℕ) → belongs_to_mode g.donor g.replacing_mode p ≡ true → donor_parent g p ≡ elim (counterpart g p) as (λ _. ℕ) [ Some k ↦ k | None ↦ 0 ]
moved_invocation g p e =
    ap (λ (b : Bool). cond b (get_or (invs_named g.host g.patched_mode (invoked_name g.donor p)) 0 0) (length g.host.invs + p)) e
    ∙ by (invs_named g.host g.patched_mode (invoked_name g.donor p))
    ∙ sym (ap (λ (b : Bool). elim (cond b (first (invs_named g.host g.patched_mode (invoked_name g.donor p))) None) as (λ _. ℕ) [ Some k ↦ k | None ↦ 0 ]) e)
  where
    by : (ks : List ℕ) → get_or ks 0 0 ≡ elim (first ks) as (λ _. ℕ) [ Some k ↦ k | None ↦ 0 ]
    by [] = refl
    by (k ∷ ks) = refl

pub moved_matched : (g : Replacement) (p k : ℕ) → counterpart g p ≡ Some k → belongs_to_mode g.donor g.replacing_mode p ≡ true → donor_parent g p ≡ k
moved_matched g p k e on = moved_invocation g p on ∙ ap (λ (o : Option ℕ). elim o as (λ _. ℕ) [ Some k ↦ k | None ↦ 0 ]) e

pub moved_unmatched : (g : Replacement) (p : ℕ) → counterpart g p ≡ None → belongs_to_mode g.donor g.replacing_mode p ≡ true → donor_parent g p ≡ 0
moved_unmatched g p e on = moved_invocation g p on ∙ ap (λ (o : Option ℕ). elim o as (λ _. ℕ) [ Some k ↦ k | None ↦ 0 ]) e

-- another stays
pub moved_own : (g : Replacement) (p before : ℕ) → before ≡ length g.host.invs → belongs_to_mode g.donor g.replacing_mode p ≡ false → donor_parent g p ≡ before + p
moved_own g p before is off =
    ap (λ (b : Bool). cond b (get_or (invs_named g.host g.patched_mode (invoked_name g.donor p)) 0 0) (length g.host.invs + p)) off ∙ ap (λ (n : ℕ). n + p) (sym is)

-- the module of an invocation is a module
pub inv_unit : (t : Tables) (xs : List Inv) (p unit : ℕ) (x : Inv) → AreInRange t → xs ≡ t.invs → p < length t.invs → x ≡ get_or xs p x → unit ≡ mode_module t (get_or xs p x).mode
    → (unit < length t.modules) × (unit ≡ inv_module t p)
inv_unit t xs p unit x r same less is at =
    let size = ap length same in
    let there : slice_get t.invs p ≡ Some x = subst (λ ys. slice_get ys p ≡ Some x) same (slice_get-get_or xs p x (omega (arith, less, size)) ∙ ap (λ (i : Inv). Some i) (sym is)) in
    let here : unit ≡ mode_module t x.mode = at ∙ ap (λ (i : Inv). mode_module t i.mode) (sym is) in
    let within = unit_within t x.mode r (all_at (IsInvInRange t) t.invs p x r.invs there).owner in
    (omega (arith, within, here), here ∙ sym (ap (λ (o : Option Inv). elim o as (λ _. ℕ) [ Some i ↦ mode_module t i.mode | None ↦ length t.modules ]) there))

-- ---- the first value that a test gives

front_step : {A : Type 0} (test : ℕ × A → Option ℕ) (k : ℕ) (xs : List A) (d : A) → k < length xs
    → (n : ℕ) → first_some test (numbered n (drop k xs)) ≡ elim (test (n, get_or xs k d)) as (λ _. Option ℕ) [ Some y ↦ Some y | None ↦ first_some test (numbered (suc n) (drop (suc k) xs)) ]
front_step test k [] d less n = absurd (omega (arith, less))
front_step test zero (x ∷ xs) d less n = refl
front_step test (suc k) (x ∷ xs) d less n = front_step test k xs d (omega (arith, less)) n

-- a module that isn't told twice is passed
pub twice_next : (g : Replacement) (xs : List Module) (k : ℕ) (r : Bool) (all : Option ℕ) → xs ≡ g.donor.modules → k < length xs
    → r ≡ (is_transferred g k && is_kept_name g (module_name g.donor k)) → r ≡ false → first_some (twice_at g) (numbered k (drop k xs)) ≡ all
    → first_some (twice_at g) (numbered (k + 1) (drop (k + 1) xs)) ≡ all
twice_next g xs k r all same less is off going =
    let none : Module = record { name = []; parent = None; start = 0 } in
    let x = get_or xs k none in
    let next : k + 1 ≡ suc k = omega arith in
    let rest = first_some (twice_at g) (numbered (suc k) (drop (suc k) xs)) in
    let name : module_name g.donor k ≡ x.name =
    ap (λ (ms : List Module). elim (slice_get ms k) as (λ _. List ℕ) [ Some m ↦ m.name | None ↦ [] ]) (sym same)
    ∙ ap (λ (o : Option Module). elim o as (λ _. List ℕ) [ Some m ↦ m.name | None ↦ [] ]) (slice_get-get_or xs k none less) in
    let test : (is_transferred g k && is_kept_name g x.name) ≡ false = ap (λ (n : List ℕ). is_transferred g k && is_kept_name g n) (sym name) ∙ sym is ∙ off in
    ap (λ (n : ℕ). first_some (twice_at g) (numbered n (drop n xs))) next
    ∙ sym (front_step (twice_at g) k xs none less k
    ∙ ap (λ (b : Bool). elim (cond b (Some k) None) as (λ _. Option ℕ) [ Some y ↦ Some y | None ↦ rest ]) test)
    ∙ going

-- the first that is
pub twice_found : (g : Replacement) (xs : List Module) (k : ℕ) (r : Bool) (all : Option ℕ) → xs ≡ g.donor.modules → k < length xs
    → r ≡ (is_transferred g k && is_kept_name g (module_name g.donor k)) → r ≡ true → first_some (twice_at g) (numbered k (drop k xs)) ≡ all → Some k ≡ all
twice_found g xs k r all same less is on going =
    let none : Module = record { name = []; parent = None; start = 0 } in
    let x = get_or xs k none in
    let rest = first_some (twice_at g) (numbered (suc k) (drop (suc k) xs)) in
    let name : module_name g.donor k ≡ x.name =
    ap (λ (ms : List Module). elim (slice_get ms k) as (λ _. List ℕ) [ Some m ↦ m.name | None ↦ [] ]) (sym same)
    ∙ ap (λ (o : Option Module). elim o as (λ _. List ℕ) [ Some m ↦ m.name | None ↦ [] ]) (slice_get-get_or xs k none less) in
    let test : (is_transferred g k && is_kept_name g x.name) ≡ true = ap (λ (n : List ℕ). is_transferred g k && is_kept_name g n) (sym name) ∙ sym is ∙ on in
    sym (front_step (twice_at g) k xs none less k ∙ ap (λ (b : Bool). elim (cond b (Some k) None) as (λ _. Option ℕ) [ Some y ↦ Some y | None ↦ rest ]) test) ∙ going

-- ---- places

pub places_are : (count n : ℕ) (keys ks places : List ℕ) → length places ≡ n → n ≡ count → ((k : ℕ) → k < n → get_or places k 0 ≡ place_among k ks) → ks ≡ keys → ArePlacesOf count keys places
places_are count n keys ks places size is at same =
    record { size = size ∙ is; at = λ k less. at k (omega (arith, less, is)) ∙ ap (place_among k) same }

pub both_count : {A B : Type 0} (f : B → A) (xs front : List A) (ys back : List B) → front ≡ xs → back ≡ ys → length front + length back ≡ length (xs ++ map f ys)
both_count f xs front ys back same other =
    let a = ap length same in
    let b = ap length other in
    let c = length-append xs (map f ys) in
    let d = length-map ys f in omega (arith, a, b, c, d)
