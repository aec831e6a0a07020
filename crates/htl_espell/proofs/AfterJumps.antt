-- Chains of plain jumps of which it is known where they lead.
use Rattle.std.proofs.Common.{◌≡◌, ◌≤◌, ◌+◌, ◌-◌, arith, ℕ, zero, suc, Bool, true, false, eqb, List, Option, Some, None, get_or, replicate, refl, sym, ap, subst, ◌∙◌}
use Rattle.htl_espell.proofs.Words.{slice_get, eqb-true, eq-eqb, EInstr, jump_to, resolve, resolved, arrive, fault_of, JumpChain, jump_at, after_jumps, no_chain, AreJumpChains, place_of}
use Rattle.htl_ecode.specs.declared.instr.EInstr.TheVariants as I
use Rattle.htl_espell.proofs.Jumping.{arrived, arrive_by_jump, resolve_by_jump}

jumps_to : (code : List EInstr) (at target : ℕ) → slice_get code at ≡ Some (I.Jump target) → jump_at code at ≡ Some target
jumps_to code at target there = ap (λ (o : Option EInstr). elim o as (λ _. Option ℕ) [ Some i ↦ jump_to i | None ↦ None ]) there

-- one chain behind another
pub after_jumps_joined : (code : List EInstr) (n m from at anchor : ℕ) → after_jumps code from n ≡ Some at → after_jumps code at m ≡ Some anchor → after_jumps code from (n + m) ≡ Some anchor
after_jumps_joined code zero m from at anchor e f =
    let same : from ≡ at = cc in
    let count : m ≡ zero + m = omega arith in
    subst (λ k. after_jumps code from k ≡ Some anchor) count (ap (λ x. after_jumps code x m) same ∙ f)
after_jumps_joined code (suc n) m from at anchor e f =
    let count : suc (n + m) ≡ suc n + m = omega arith in
    subst (λ k. after_jumps code from k ≡ Some anchor) count (by (jump_at code from) e (λ x g. after_jumps_joined code n m x at anchor g f))
  where
    by : (o : Option ℕ) → elim o as (λ _. Option ℕ) [ Some x ↦ after_jumps code x n | None ↦ None ] ≡ Some at → ((x : ℕ) → after_jumps code x n ≡ Some at → after_jumps code x (n + m) ≡ Some anchor)
        → elim o as (λ _. Option ℕ) [ Some x ↦ after_jumps code x (n + m) | None ↦ None ] ≡ Some anchor
    by (Some x) g later = later x g
    by None g later = cc

-- one jump more at the end
pub after_jumps_more : (code : List EInstr) (n from at target : ℕ) → after_jumps code from n ≡ Some at → slice_get code at ≡ Some (I.Jump target) → after_jumps code from (n + 1) ≡ Some target
after_jumps_more code n from at target e there =
    after_jumps_joined code n 1 from at target e (ap (λ (o : Option ℕ). elim o as (λ _. Option ℕ) [ Some x ↦ after_jumps code x 0 | None ↦ None ]) (jumps_to code at target there))

-- jumps that are passed over at once
pub resolve_skipped : (code : List EInstr) (from n left at place : ℕ) → after_jumps code at n ≡ Some place → n ≤ left → place_of (resolve code from (left - n) place) ≡ place_of (resolve code from left at)
resolve_skipped code from zero left at place e few =
    let same : at ≡ place = cc in
    let all : left - 0 ≡ left = omega arith in
    ap (λ k. place_of (resolve code from k place)) all ∙ ap (λ a. place_of (resolve code from left a)) (sym same)
resolve_skipped code from (suc n) zero at place e few = absurd (omega arith)
resolve_skipped code from (suc n) (suc left) at place e few = by (slice_get code at) refl e (λ x g. resolve_skipped code from n left x place g (omega arith))
  where
    by_jump : (i : EInstr) (j : Option ℕ) → slice_get code at ≡ Some i → jump_to i ≡ j → elim j as (λ _. Option ℕ) [ Some x ↦ after_jumps code x n | None ↦ None ] ≡ Some place
        → ((x : ℕ) → after_jumps code x n ≡ Some place → place_of (resolve code from (left - n) place) ≡ place_of (resolve code from left x)) → place_of (resolve code from (suc left - suc n) place) ≡ place_of (resolve code from (suc left) at)
    by_jump i None there leads e later = cc
    by_jump i (Some x) there leads e later =
        let less : suc left - suc n ≡ left - n = omega arith in
        ap (λ k. place_of (resolve code from k place)) less ∙ later x e ∙ resolve_by_jump code from left at x i there leads

    by : (o : Option EInstr) → slice_get code at ≡ o
        → elim (elim o as (λ _. Option ℕ) [ Some i ↦ jump_to i | None ↦ None ]) as (λ _. Option ℕ) [ Some x ↦ after_jumps code x n | None ↦ None ] ≡ Some place
        → ((x : ℕ) → after_jumps code x n ≡ Some place → place_of (resolve code from (left - n) place) ≡ place_of (resolve code from left x)) → place_of (resolve code from (suc left - suc n) place) ≡ place_of (resolve code from (suc left) at)
    by None there e later = cc
    by (Some i) there e later = by_jump i (jump_to i) there refl e later

-- the same in the middle of a chain
pub resolve_passed : (code : List EInstr) (from left rest at place : ℕ) → rest ≤ left → after_jumps code at (left - rest) ≡ Some place → place_of (resolve code from left at) ≡ place_of (resolved code from)
    → place_of (resolve code from rest place) ≡ place_of (resolved code from)
resolve_passed code from left rest at place few chains is =
    let back : rest ≡ left - (left - rest) = omega arith in
    ap (λ k. place_of (resolve code from k place)) back ∙ resolve_skipped code from (left - rest) left at place chains (omega arith) ∙ is

pub after_jumps_passed : (code : List EInstr) (from n left rest at place : ℕ) → left ≤ n → rest ≤ left → after_jumps code from (n - left) ≡ Some at → after_jumps code at (left - rest) ≡ Some place → after_jumps code from (n - rest) ≡ Some place
after_jumps_passed code from n left rest at place most few before after =
    let sum : (n - left) + (left - rest) ≡ n - rest = omega arith in
    subst (λ k. after_jumps code from k ≡ Some place) sum (after_jumps_joined code (n - left) (left - rest) from at place before after)

-- where at most as many jumps lead to an anchor as may come, it is arrived at
pub chains_in : (code : List EInstr) (referrer anchor from n left at : ℕ) → after_jumps code at n ≡ Some anchor → n ≤ left → None ≡ fault_of (arrive code referrer anchor from left at)
chains_in code referrer anchor from zero left at e few = arrived code referrer anchor from left at (let same : at ≡ anchor = cc in same)
chains_in code referrer anchor from (suc n) left at e few = by_test (eqb at anchor) refl (λ x g. chains_in code referrer anchor from n (left - 1) x g (omega arith))
  where
    by_jump : (o : Option EInstr) → slice_get code at ≡ o → (at ≡ anchor → ⊥) → ((x : ℕ) → after_jumps code x n ≡ Some anchor → None ≡ fault_of (arrive code referrer anchor from (left - 1) x))
        → elim (elim o as (λ _. Option ℕ) [ Some i ↦ jump_to i | None ↦ None ]) as (λ _. Option ℕ) [ Some x ↦ after_jumps code x n | None ↦ None ] ≡ Some anchor
        → None ≡ fault_of (arrive code referrer anchor from left at)
    by_jump None there away later g = cc
    by_jump (Some (I.Jump x)) there away later g =
        later x g
        ∙ arrive_by_jump code referrer anchor from left at x away there (omega arith)
    by_jump (Some (I.CallWrite a b)) there away later g = cc
    by_jump (Some (I.CallRead a b)) there away later g = cc
    by_jump (Some (I.Release a)) there away later g = cc
    by_jump (Some (I.Future a b c)) there away later g = cc
    by_jump (Some (I.JumpIf a b)) there away later g = cc
    by_jump (Some (I.IfMode a b)) there away later g = cc
    by_jump (Some (I.Enter a)) there away later g = cc
    by_jump (Some I.Leave) there away later g = cc
    by_jump (Some (I.Fork a)) there away later g = cc
    by_jump (Some I.Return) there away later g = cc

    other : eqb at anchor ≡ false → at ≡ anchor → ⊥
    other e same = let no : true ≡ false = sym (eq-eqb at anchor same) ∙ e in cc

    by_test : (b : Bool) → eqb at anchor ≡ b → ((x : ℕ) → after_jumps code x n ≡ Some anchor → None ≡ fault_of (arrive code referrer anchor from (left - 1) x))
        → None ≡ fault_of (arrive code referrer anchor from left at)
    by_test true g later = arrived code referrer anchor from left at (eqb-true at anchor g)
    by_test false g later = by_jump (slice_get code at) refl (other g) later e

-- ---- what is held

-- nothing is held
pub no_chains : (code : List EInstr) (n : ℕ) → AreJumpChains code (replicate n no_chain)
no_chains code n j = subst (λ (x : JumpChain). after_jumps code x.place x.jumps ≡ Some x.anchor) (sym (filled n j)) refl
  where
    filled : (n j : ℕ) → get_or (replicate n no_chain) j no_chain ≡ no_chain
    filled zero j = refl
    filled (suc n) zero = refl
    filled (suc n) (suc j) = filled n j
