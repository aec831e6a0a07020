-- The invocation that stands for another, step by step.
use Rattle.std.proofs.Common.{◌≡◌, ◌≤◌, ◌<◌, ◌-◌, ℕ, zero, suc, true, false, cond, List, ◌∷◌, length, drop, drop-cons, get_or, replicate, Option, Some, None, refl, sym, ◌∙◌, ap, arith}
use Rattle.htl_model.proofs.Words.{slice_get_within, slice_get-get_or, drop-length, Inv, Tables, is_concrete, itself_or, followed, child, child_from, chosen_in, is_child, AreChildrenFrom, slice_get}

module _ (t : Tables) (modes : List (Option ℕ)) (k : ℕ) where
  pub chosen_past : (steps : ℕ) → length t.invs ≤ k → chosen_in steps t modes k ≡ None
  chosen_past zero far = refl
  chosen_past (suc steps) far = grind (arith, slice_get_within)

  at_step : (steps : ℕ) (i : Inv) → slice_get t.invs k ≡ Some i → chosen_in (suc steps) t modes k ≡ cond (is_concrete t i) (Some k) (followed (λ n. chosen_in steps t modes n) (child t modes k))
  at_step steps i at = ap (λ o. itself_or t k o (followed (λ n. chosen_in steps t modes n) (child t modes k))) at

  pub chosen_here : (steps : ℕ) (i : Inv) → 0 < steps → slice_get t.invs k ≡ Some i → is_concrete t i ≡ true → chosen_in steps t modes k ≡ Some k
  chosen_here zero i some at concrete = absurd (omega arith)
  chosen_here (suc steps) i some at concrete = at_step steps i at ∙ ap (λ b. cond b (Some k) (followed (λ n. chosen_in steps t modes n) (child t modes k))) concrete

  pub chosen_next : (steps : ℕ) (i : Inv) → slice_get t.invs k ≡ Some i → is_concrete t i ≡ false → chosen_in (suc steps) t modes k ≡ followed (λ n. chosen_in steps t modes n) (child t modes k)
  chosen_next steps i at abstract = at_step steps i at ∙ ap (λ b. cond b (Some k) (followed (λ n. chosen_in steps t modes n) (child t modes k))) abstract

  pub chosen_none : (steps : ℕ) (i : Inv) → slice_get t.invs k ≡ Some i → is_concrete t i ≡ false → child t modes k ≡ None → chosen_in steps t modes k ≡ None
  chosen_none zero i at abstract none = refl
  chosen_none (suc steps) i at abstract none = chosen_next steps i at abstract ∙ ap (followed (λ n. chosen_in steps t modes n)) none

  pub chosen_less : (steps n : ℕ) (i : Inv) → 0 < steps → slice_get t.invs k ≡ Some i → is_concrete t i ≡ false → child t modes k ≡ Some n
      → chosen_in steps t modes k ≡ chosen_in (steps - 1) t modes n
  chosen_less zero n i some at abstract next = absurd (omega arith)
  chosen_less (suc steps) n i some at abstract next = grind (arith, chosen_next)

  -- one refinement further down
  pub chosen_down : (steps n : ℕ) (i : Inv) (whole : Option ℕ) → 0 < steps → slice_get t.invs k ≡ Some i → is_concrete t i ≡ false → child t modes k ≡ Some n
      → chosen_in steps t modes k ≡ whole → chosen_in (steps - 1) t modes n ≡ whole
  chosen_down steps n i whole some at abstract next is = sym (chosen_less steps n i some at abstract next) ∙ is

-- what stands at a place of the list of invocations
pub inv_stands : (t : Tables) (invs : List Inv) (k : ℕ) (x : Inv) → invs ≡ t.invs → k < length invs → x ≡ get_or invs k x → slice_get t.invs k ≡ Some x
inv_stands t invs k x same below is = ap (λ (xs : List Inv). slice_get xs k) (sym same) ∙ slice_get-get_or invs k x below ∙ ap Some (sym is)

-- ---- the table of children

pub get_none : (n k : ℕ) → get_or (replicate {A = Option ℕ} n None) k None ≡ None
get_none zero k = refl
get_none (suc n) zero = refl
get_none (suc n) (suc k) = get_none n k

-- behind the last invocation there are no children
pub children_none : (t : Tables) (modes : List (Option ℕ)) (invs : List Inv) (size : ℕ) → invs ≡ t.invs → AreChildrenFrom t modes (replicate size None) (length invs)
children_none t modes invs size same k = grind (arith, get_none, drop-length)

-- one invocation more, towards the front
pub children_more : (t : Tables) (modes old new : List (Option ℕ)) (invs : List Inv) (n : ℕ) (x : Inv) → invs ≡ t.invs → n < length invs → x ≡ get_or invs n x
    → ((k : ℕ) → get_or new k None ≡ cond (is_child t modes k x) (Some n) (get_or old k None))
    → AreChildrenFrom t modes old (suc n) → AreChildrenFrom t modes new n
children_more t modes old new invs n x same below at note are k = grind (arith, drop-cons)
