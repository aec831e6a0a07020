-- The blocks of a phase, one by one.
use Rattle.std.proofs.Common.{◌≡◌, ℕ, zero, suc, ◌+◌, ◌≤◌, ◌<◌, true, List, [], ◌∷◌, length, Option, Some, None, IfSome, refl, sym, ap, ◌∙◌, subst, arith, add-one}
use Rattle.htl_espell.proofs.Words.{Tables, EInstr, EFault, next_offset, phase_offsets, holds, OffsetsFit, block_chain, read, Block, blocks_from, branch_on, fault_of, either, block_faults, count_from, count_all, left_from, left_next, left_falls, IsOffset, next_is_offset, next_after, IsLater, phase_departure, block_of}

enough_blocks : (t : Tables) (code : List EInstr) (m phase f g : ℕ) (next at : Option ℕ) → IsOffset t m phase next → left_from t m phase next ≤ f → left_from t m phase next ≤ g →
    blocks_from f t code m phase next at ≡ blocks_from g t code m phase next at
enough_blocks t code m phase zero zero next at h p q = refl
enough_blocks t code m phase zero (suc g) None at h p q = refl
enough_blocks t code m phase (suc f) zero None at h p q = refl
enough_blocks t code m phase (suc f) (suc g) None at h p q = refl
enough_blocks t code m phase zero (suc g) (Some o) at h p q = absurd (omega (arith, left_falls t m phase o h))
enough_blocks t code m phase (suc f) zero (Some o) at h p q = absurd (omega (arith, left_falls t m phase o h))
enough_blocks t code m phase (suc f) (suc g) (Some o) None h p q = refl
enough_blocks t code m phase (suc f) (suc g) (Some o) (Some a) h p q =
    let falls = left_falls t m phase o h in
    ap (λ bs. record { offset = o; address = a } ∷ bs)
    (enough_blocks t code m phase f g (next_offset t m phase (suc o)) (branch_on t code m phase o a) (next_is_offset t m phase (suc o)) (omega arith) (omega arith))

-- how many offsets there are from a block on
abbrev pub left_of : Tables → ℕ → ℕ → Option (ℕ × ℕ) → ℕ
left_of t m phase None = 0
left_of t m phase (Some b) = count_from b.0 (phase_offsets t m phase)

-- the blocks from one on
abbrev pub blocks_at : Tables → List EInstr → ℕ → ℕ → Option (ℕ × ℕ) → List Block
blocks_at t code m phase None = []
blocks_at t code m phase (Some b) = blocks_from (count_from b.0 (phase_offsets t m phase)) t code m phase (Some b.0) (Some b.1)

abbrev pub IsBlock : Tables → ℕ → ℕ → Option (ℕ × ℕ) → Type 0
IsBlock t m phase block = IfSome block (λ b. holds b.0 (phase_offsets t m phase) ≡ true)

blocks_are : (t : Tables) (code : List EInstr) (m phase f : ℕ) (next at : Option ℕ) → IsOffset t m phase next → left_from t m phase next ≤ f → blocks_from f t code m phase next at ≡ blocks_at t code m phase (block_of next at)
blocks_are t code m phase zero None at h p = refl
blocks_are t code m phase (suc f) None at h p = refl
blocks_are t code m phase zero (Some o) None h p = refl
blocks_are t code m phase (suc f) (Some o) None h p = refl
blocks_are t code m phase f (Some o) (Some a) h p = enough_blocks t code m phase f (count_from o (phase_offsets t m phase)) (Some o) (Some a) h p (omega arith)

block_there : (t : Tables) (m phase : ℕ) (next at : Option ℕ) → IsOffset t m phase next → IsBlock t m phase (block_of next at)
block_there t m phase None at h = tt
block_there t m phase (Some o) None h = tt
block_there t m phase (Some o) (Some a) h = h

left_is : (t : Tables) (m phase : ℕ) (next at : Option ℕ) → left_of t m phase (block_of next at) ≤ left_from t m phase next
left_is t m phase None at = omega arith
left_is t m phase (Some o) None = omega arith
left_is t m phase (Some o) (Some a) = omega arith

block_first : (t : Tables) (code : List EInstr) (m phase o a : ℕ) → holds o (phase_offsets t m phase) ≡ true →
    blocks_at t code m phase (Some (o, a)) ≡ record { offset = o; address = a } ∷ blocks_at t code m phase (block_of (next_offset t m phase (suc o)) (branch_on t code m phase o a))
block_first t code m phase o a h = by_count (count_from o (phase_offsets t m phase)) (left_falls t m phase o h)
  where
    by_count : (n : ℕ) → left_from t m phase (next_offset t m phase (suc o)) < n →
        blocks_from n t code m phase (Some o) (Some a) ≡ record { offset = o; address = a } ∷ blocks_at t code m phase (block_of (next_offset t m phase (suc o)) (branch_on t code m phase o a))
    by_count zero l = absurd (omega arith)
    by_count (suc n) l = ap (λ bs. record { offset = o; address = a } ∷ bs) (blocks_are t code m phase n (next_offset t m phase (suc o)) (branch_on t code m phase o a) (next_is_offset t m phase (suc o)) (omega arith))

-- ---- the loop over blocks

-- no block so far departs, and the rest is as at first
pub record IsChecking (t : Tables) (code : List EInstr) (m phase : ℕ) (whole : Option EFault) (block : Option (ℕ × ℕ)) : Type 0 where
  pub rest : block_faults t code m phase (blocks_at t code m phase block) ≡ whole
  pub there : IsBlock t m phase block

pub checking_starts : (t : Tables) (code : List EInstr) (m phase : ℕ) (next first : Option ℕ) (block : Option (ℕ × ℕ)) → next ≡ next_offset t m phase 0 → block ≡ block_of next first →
    IsChecking t code m phase (phase_departure t code m phase first) block
checking_starts t code m phase next first block next_is block_is =
    let few = left_next t m phase 0 in
    let all = count_all 0 (phase_offsets t m phase) in
    let same : block_of (next_offset t m phase 0) first ≡ block = ap (λ n. block_of n first) (sym next_is) ∙ sym block_is in
    subst (IsChecking t code m phase (phase_departure t code m phase first)) same
    (record {
      rest = ap (block_faults t code m phase) (sym (blocks_are t code m phase (length (phase_offsets t m phase)) (next_offset t m phase 0) first (next_is_offset t m phase 0) (omega arith)));
      there = block_there t m phase (next_offset t m phase 0) first (next_is_offset t m phase 0);
    })

module _ (t : Tables) (code : List EInstr) (m phase o a : ℕ) (whole : Option EFault) (block : Option (ℕ × ℕ)) (h : IsChecking t code m phase whole block) (is : block ≡ Some (o, a)) where
  offset_there : holds o (phase_offsets t m phase) ≡ true
  offset_there = subst (IsBlock t m phase) is h.there

  first_and_rest : either (fault_of (read code a (block_chain t m phase o))) (block_faults t code m phase (blocks_at t code m phase (block_of (next_offset t m phase (suc o)) (branch_on t code m phase o a)))) ≡ whole
  first_and_rest = sym (ap (block_faults t code m phase) (ap (blocks_at t code m phase) is ∙ block_first t code m phase o a offset_there)) ∙ h.rest

  pub checking_more : (next target : Option ℕ) (new : Option (ℕ × ℕ)) → next ≡ next_offset t m phase (o + 1) → fault_of (read code a (block_chain t m phase o)) ≡ None → target ≡ branch_on t code m phase o a → new ≡ block_of next target →
      IsChecking t code m phase whole new
  checking_more next target new next_is fine target_is new_is =
      let next' : next_offset t m phase (suc o) ≡ next = ap (next_offset t m phase) (sym (add-one o)) ∙ sym next_is in
      let same : block_of (next_offset t m phase (suc o)) (branch_on t code m phase o a) ≡ new = ap (λ n. block_of n (branch_on t code m phase o a)) next' ∙ ap (block_of next) (sym target_is) ∙ sym new_is in
      subst (IsChecking t code m phase whole) same
      (record {
        rest = sym (ap (λ f. either f (block_faults t code m phase (blocks_at t code m phase (block_of (next_offset t m phase (suc o)) (branch_on t code m phase o a))))) fine) ∙ first_and_rest;
        there = block_there t m phase (next_offset t m phase (suc o)) (branch_on t code m phase o a) (next_is_offset t m phase (suc o));
      })

  pub checking_departs : (e : EFault) → fault_of (read code a (block_chain t m phase o)) ≡ Some e → Some e ≡ whole
  checking_departs e departs =
      sym (ap (λ f. either f (block_faults t code m phase (blocks_at t code m phase (block_of (next_offset t m phase (suc o)) (branch_on t code m phase o a))))) departs) ∙ first_and_rest

  pub checking_falls : (next target : Option ℕ) (new : Option (ℕ × ℕ)) → next ≡ next_offset t m phase (o + 1) → new ≡ block_of next target → left_of t m phase new < left_of t m phase block
  checking_falls next target new next_is new_is =
      let falls = left_falls t m phase o offset_there in
      let less = left_is t m phase next target in
      let same : left_from t m phase next ≡ left_from t m phase (next_offset t m phase (suc o)) = ap (left_from t m phase) (next_is ∙ ap (next_offset t m phase) (add-one o)) in
      let now : left_of t m phase new ≡ left_of t m phase (block_of next target) = ap (left_of t m phase) new_is in
      let before : left_of t m phase block ≡ count_from o (phase_offsets t m phase) = ap (left_of t m phase) is in
      omega arith

-- the next offset isn't before
pub next_not_before : (t : Tables) (m phase o : ℕ) (next : Option ℕ) → OffsetsFit t → next ≡ next_offset t m phase (o + 1) → IfSome next (λ p. o ≤ p)
next_not_before t m phase o next fit is = by_next next (next_after t m phase o next fit is)
  where
    by_next : (n : Option ℕ) → IsLater o n → IfSome n (λ p. o ≤ p)
    by_next None h = tt
    by_next (Some p) h = h.0
