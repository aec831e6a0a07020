-- The flags of a set, as a list.
use Rattle.std.proofs.Common.{◌≡◌, ℕ, zero, suc, ◌+◌, ◌-◌, ◌<◌, Bool, true, false, cond, eqb, List, ◌++◌, length, get_or, set, replicate, refl, sym, ap, ◌∙◌, arith, inl, inr, get_or-set_same, get_or-set_other}
use Rattle.htl_smach.proofs.Words.{cases_lt, nat_tests, ext_get_or, length-append, length-replicate, length-set, has_bit, flags_from, flags, IsPut, none_marked}
use Rattle.htl_smach.proofs.Joined.{get_left, get_right}

length-from : (row k n : ℕ) → length (flags_from row k n) ≡ n
length-from row k zero = refl
length-from row k (suc n) = ap suc (length-from row (suc k) n)

get-from : (row k n p : ℕ) → p < n → get_or (flags_from row k n) p false ≡ has_bit row (k + p)
get-from row k zero p h = absurd (omega arith)
get-from row k (suc n) zero h = ap (has_bit row) (let e : k ≡ k + 0 = omega arith in e)
get-from row k (suc n) (suc p) h = get-from row (suc k) n p (omega arith) ∙ ap (has_bit row) (let e : suc k + p ≡ k + suc p = omega arith in e)

pub length-flags : (n row : ℕ) → length (flags n row) ≡ n
length-flags n row = length-from row 0 n

pub flag_at : (n row p : ℕ) → p < n → get_or (flags n row) p false ≡ has_bit row p
flag_at n row p h = get-from row 0 n p h ∙ ap (has_bit row) (let e : 0 + p ≡ p = omega arith in e)

-- a list that holds the bits is that of the flags
flags_are : (n row : ℕ) (bs : List Bool) → length bs ≡ n → ((p : ℕ) → p < n → has_bit row p ≡ get_or bs p false) → flags n row ≡ bs
flags_are n row bs len each =
    ext_get_or false (flags n row) bs (length-flags n row ∙ sym len)
    (λ p h. flag_at n row p (omega (arith, length-flags n row)) ∙ each p (omega (arith, length-flags n row)))

pub flags_put : (n old new p : ℕ) → p < n → IsPut old new p true → flags n new ≡ set (flags n old) p true
flags_put n old new p below put =
    flags_are n new (set (flags n old) p true) (length-set (flags n old) p true ∙ length-flags n old) (λ q h. put q ∙ by_place q h)
  where
    by_test : (q : ℕ) (b : Bool) → eqb q p ≡ b → q < n → cond b true (has_bit old q) ≡ get_or (set (flags n old) p true) q false
    by_test q true e h =
        let is : q ≡ p = grind (arith, nat_tests) in
        sym (ap (λ k. get_or (set (flags n old) p true) k false) is ∙ get_or-set_same (flags n old) p true false (omega (arith, length-flags n old)))
    by_test q false e h =
        sym (get_or-set_other (flags n old) p q true false (λ f. let z : ⊥ = grind (arith, nat_tests) in z) ∙ flag_at n old q h)

    by_place : (q : ℕ) → q < n → cond (eqb q p) true (has_bit old q) ≡ get_or (set (flags n old) p true) q false
    by_place q h = by_test q (eqb q p) refl h

pub flags_more : (n k old new : ℕ) → ((q : ℕ) → q < n → has_bit new q ≡ has_bit old q) → ((j : ℕ) → j < k → has_bit new (n + j) ≡ false)
    → flags (n + k) new ≡ flags n old ++ replicate k false
flags_more n k old new before none =
    flags_are (n + k) new (flags n old ++ replicate k false)
    (omega (arith, length-append (flags n old) (replicate k false), length-flags n old, length-replicate k false))
    (λ p h. elim (cases_lt p n) [
      | inl l ↦ before p l ∙ sym (get_left (flags n old) (replicate k false) p false (omega (arith, length-flags n old)) ∙ flag_at n old p l)
      | inr l ↦
          let j = p - n in
          let isf : length (flags n old) + j ≡ p = omega (arith, length-flags n old) in
          ap (has_bit new) (sym (omega arith)) ∙ none j (omega arith)
          ∙ sym (ap (λ q. get_or (flags n old ++ replicate k false) q false) (sym isf) ∙ get_right (flags n old) (replicate k false) j false ∙ none_marked k j)
    ])
