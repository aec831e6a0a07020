-- The first item that passes a test, and the fields of a line.
use Rattle.std.proofs.Common.{inl, inr, ◌≡◌, ◌+◌, ◌-◌, ◌<◌, ◌≤◌, ℕ, suc, Bool, true, false, cond, List, [], ◌∷◌, length, take, drop, Some, None, refl, sym, ap, ◌∙◌, subst, arith}
use Rattle.htl_script.proofs.Words.{slice_get, nat_lt, position_from, position_or_len, All, cases_Bool, ltb-false, none-some, same_Some, position-Some, position_or_len_is, fails_before_first, slice_split_none, slice_split_first, position_from-zero, is_space, fields_of}

-- the item that a search finds
pub found_item : {A : Type 0} (p : A → Bool) (xs : List A) (k i : ℕ) → position_from p k xs ≡ Some i
    → (x : A) × (k ≤ i) × (slice_get xs (i - k) ≡ Some x) × (p x ≡ true)
found_item p [] k i e = absurd (none-some i e)
found_item p (x ∷ xs) k i e =
    elim (cases_Bool (p x)) [
      | inl hit ↦
          let here : k ≡ i = same_Some k i (sym (ap (λ (b : Bool). cond b (Some k) (position_from p (k + 1) xs)) hit) ∙ e) in
          let first : i - k ≡ 0 = omega arith in
          (x, omega arith, rw first refl, hit)
      | inr missed ↦
          let later = found_item p xs (k + 1) i (sym (ap (λ (b : Bool). cond b (Some k) (position_from p (k + 1) xs)) missed) ∙ e) in
          let above : k + 1 ≤ i = later.1 in
          let next : i - k ≡ suc (i - (k + 1)) = omega arith in
          (later.0, omega arith, rw next later.2, later.3)
    ]

-- a search that finds nothing
pub none_found : (p : ℕ → Bool) (xs : List ℕ) → position_from p 0 xs ≡ None → All (λ x. p x ≡ false) xs
none_found p xs e = λ k d below.
    let past : length xs ≤ position_or_len p xs =
    elim (cases_Bool (nat_lt (position_or_len p xs) (length xs))) [
      | inl hit ↦ absurd (none-some _ (sym (position_from-zero p xs ∙ e) ∙ ap (λ (b : Bool). cond b (Some (position_or_len p xs)) None) hit))
      | inr missed ↦ ltb-false _ _ missed
    ]
    in fails_before_first p xs k d (omega arith)

-- a text without a space is one field
pub fields_of-one : (text : List ℕ) → position_from is_space 0 text ≡ None → fields_of text ≡ text ∷ []
fields_of-one text e = slice_split_none is_space text (none_found is_space text e)

-- the first field, and what follows the space behind it
pub fields_of-cut : (text : List ℕ) (i : ℕ) → position_from is_space 0 text ≡ Some i
    → (i < length text) × (fields_of text ≡ take i text ∷ fields_of (drop (i + 1) text))
fields_of-cut text i e =
    let found = position-Some is_space text i 0 (position_from-zero is_space text ∙ e) in
    let at : position_or_len is_space text ≡ i = position_or_len_is is_space text i 0 (omega (arith, found.0)) found.2 (λ below. found.1) in (
      found.0,
      subst (λ (n : ℕ). fields_of text ≡ take n text ∷ fields_of (drop (n + 1) text)) at
          (slice_split_first is_space text 0 (omega (arith, found.0))),
    )
