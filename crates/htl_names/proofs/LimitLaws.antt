-- A tally has the lengths of the lists of items, and the loop over the limits finds the first that is exceeded.
use Rattle.std.proofs.Common.{◌≡◌, ◌+◌, ◌*◌, ◌-◌, ◌^◌, ℕ, min, List, [], ◌∷◌, length, map, fold, refl, sym, ◌∙◌, ap, ap₂, arith, mul_assoc, ◌≤◌, ◌<◌, suc, sum, get_or, length-append, flat_map}
use Rattle.htl_names.proofs.Words.{one-mul, fold-append, sum_by-cons, get_or_from_slice_get, slice_get_within, slice_get-get_or, greatest, modules_of, PlainProgram, PlainModule, PlainMode, NameFault, Limits, NameBroken, IsKept, IsFirstOf, symbols_of, counts, most_invokes, limits, choices, capped, no_modes, no_tally, with_mode, with_module, with_program, chosen, selected, placed, IsTally, product_capped, modes_of, ModeTally, ModuleTally, Tally}
use Rattle.htl_names.specs.declared.fault.NameFault.TheVariants as fault

-- ---- folds

-- a count to which each step adds the length of a part has the length of all parts
module _ {A B T : Type 0} (count : T → ℕ) (step : T → A → T) (part : A → List B) (grows : (t : T) (x : A) → count (step t x) ≡ capped (count t + length (part x))) where
  grown : (t : T) (xs : List A) → capped (count (fold step t xs)) ≡ capped (count t + length (flat_map part xs))
  grown t [] = omega arith
  grown t (x ∷ xs) = omega (arith, grows t x, grown (step t x) xs, length-append (part x) (flat_map part xs))

  counted : (t : T) (xs : List A) (u : T) → u ≡ fold step t xs → count t ≡ 0 → capped (count u) ≡ capped (length (flat_map part xs))
  counted t xs u is none = omega (arith, none, grown t xs, ap (λ (v : T). count v) is)

-- a field that each step folds over a part is folded over all parts
module _ {A B T U : Type 0} (field : T → U) (step : T → A → T) (inner : U → B → U) (part : A → List B) (grows : (t : T) (x : A) → field (step t x) ≡ fold inner (field t) (part x)) where
  along : (t : T) (xs : List A) → field (fold step t xs) ≡ fold inner (field t) (flat_map part xs)
  along t [] = refl
  along t (x ∷ xs) = along (step t x) xs ∙ ap (λ (u : U). fold inner u (flat_map part xs)) (grows t x) ∙ sym (fold-append inner (field t) (part x) (flat_map part xs))

  folded : (t : T) (xs : List A) (u : T) → u ≡ fold step t xs → field u ≡ fold inner (field t) (flat_map part xs)
  folded t xs u is = ap field is ∙ along t xs

most_of_modes : (t : ModeTally) (xs : List PlainMode) → (fold with_mode t xs).most_invokes ≡ greatest t.most_invokes (map (λ (x : PlainMode). length x.invokes) xs)
most_of_modes t [] = refl
most_of_modes t (x ∷ xs) = most_of_modes (with_mode t x) xs

-- ---- root selections

chosen_all : (n : ℕ) (xs : List PlainModule) → capped (fold chosen n xs) ≡ capped (n * choices xs)
chosen_all n [] = omega arith
chosen_all n (x ∷ xs) =
    chosen_all (chosen n x) xs ∙ product_capped (n * length x.modes) (2 ^ 64 - 1) (choices xs) ∙ ap capped (mul_assoc n (length x.modes) (choices xs))

pub placed_all : (n : ℕ) (xs : List PlainModule) → capped (fold placed n xs) ≡ capped (n + sum (map (λ (x : PlainModule). most_invokes x.modes) xs))
placed_all n [] = omega arith
placed_all n (x ∷ xs) =
    let all = sum_by-cons (λ (m : ℕ). m) (most_invokes x.modes) (map (λ (y : PlainModule). most_invokes y.modes) xs) in
    omega (arith, placed_all (placed n x) xs, most_of_modes no_modes x.modes, all)

some_chosen : (xs : List PlainModule) → min (length xs) 1 * choices xs ≡ elim xs [ [] ↦ 0 | y ∷ ys ↦ choices (y ∷ ys) ]
some_chosen [] = refl
some_chosen (x ∷ xs) = let one : min (suc (length xs)) 1 ≡ 1 = omega arith in ap (λ (n : ℕ). n * choices (x ∷ xs)) one ∙ one-mul (choices (x ∷ xs))

pub selected_all : (xs : List PlainModule) → capped (selected xs) ≡ capped (elim xs [ [] ↦ 0 | y ∷ ys ↦ choices (y ∷ ys) ])
selected_all xs = chosen_all (min (length xs) 1) xs ∙ ap capped (some_chosen xs)

-- ---- the tally of a tree

pub tallied : (ps : List PlainProgram) (t : Tally) → t ≡ fold with_program no_tally ps → IsTally ps t
tallied ps t is =
    let us = modules_of ps in
    let modules = folded (λ (t : Tally). t.of_modules) with_program with_module (λ p. p.modules) (λ t p. refl) no_tally ps t is in
    let modes = folded (λ (t : ModuleTally). t.of_modes) with_module with_mode (λ u. u.modes) (λ t u. refl) no_tally.of_modules us t.of_modules modules in
    record {
      comms = counted (λ (t : Tally). t.comms) with_program (λ p. p.comms) (λ t p. refl) no_tally ps t is refl;
      modules = counted (λ (t : Tally). t.modules) with_program (λ p. p.modules) (λ t p. refl) no_tally ps t is refl;
      modes = counted (λ (t : ModuleTally). t.modes) with_module (λ u. u.modes) (λ t u. refl) no_tally.of_modules us t.of_modules modules refl;
      ports = counted (λ (t : ModeTally). t.ports) with_mode (λ m. m.ports) (λ t m. refl) no_modes (modes_of us) t.of_modules.of_modes modes refl;
      tasks = counted (λ (t : ModuleTally). t.tasks) with_module (λ u. u.tasks) (λ t u. refl) no_tally.of_modules us t.of_modules modules refl;
      invokes = counted (λ (t : ModeTally). t.invokes) with_mode (λ m. m.invokes) (λ t m. refl) no_modes (modes_of us) t.of_modules.of_modes modes refl;
      switches = counted (λ (t : ModeTally). t.switches) with_mode (λ m. m.switches) (λ t m. refl) no_modes (modes_of us) t.of_modules.of_modes modes refl;
      most_invokes = ap (λ (t : ModeTally). capped t.most_invokes) modes ∙ ap capped (most_of_modes no_modes (modes_of us));
    }

-- ---- the first limit that is exceeded

-- the counts before place n are within their limits
module _ (ps : List PlainProgram) (n : ℕ) (before : (k : ℕ) → k < n → get_or (counts (symbols_of ps) ps) k 0 ≤ get_or limits k 0) where
  none_before : (k : ℕ) (f : NameFault) → k < n → NameBroken ps Limits k f → ⊥
  none_before k f below broken =
      let over = broken.4 in
      omega (arith, over, before k below, get_or_from_slice_get (counts (symbols_of ps) ps) k broken.0 0 broken.2, get_or_from_slice_get limits k broken.1 0 broken.3)

  pub none_exceeded : 11 ≤ n → IsKept ps Limits
  none_exceeded past k f broken = none_before k f (omega (arith, past, slice_get_within limits k broken.1 broken.3)) broken

  pub exceeded : n < 11 → (count limit told : ℕ) → capped count ≡ capped (get_or (counts (symbols_of ps) ps) n 0) → limit ≡ get_or limits n 0 → limit ≤ 4096 → limit < count → told ≡ min count (2 ^ 32 - 1)
      → IsFirstOf ps Limits (fault.Limit (n + 1) told)
  exceeded inside count limit told counted is small over same =
      let cs = counts (symbols_of ps) ps in
      let which : n + 1 ≡ suc n = omega arith in
      let what : told ≡ min (get_or cs n 0) (2 ^ 32 - 1) = omega arith in
      (n, (get_or cs n 0, get_or limits n 0, slice_get-get_or cs n 0 inside, slice_get-get_or limits n 0 inside, omega arith, ap₂ fault.Limit which what), none_before)
