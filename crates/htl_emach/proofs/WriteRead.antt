-- The blocks of the write phase and of the read phase: what they pass, hold and set.
use Rattle.std.proofs.Common.{◌≡◌, ℕ, suc, ◌+◌, ◌-◌, ◌<◌, ◌≤◌, Bool, true, false, cond, ◌&&◌, eqb, List, [], ◌∷◌, ◌++◌, length, slice_get, map, Option, Some, None, Ok, refl, sym, ap, ◌∙◌, subst, arith, inl, inr}
use Rattle.htl_emach.proofs.Words.{Inv, End, joined, numbered, Tables, release, ECode, EInstr, counts, meets, ends_in, places_at, next_offset, phase_offsets, holds, Requirement, Exactly, NextBlock, all_do, waits_for, call_of, calls_of, release_of, releases, calls, block_chain, Step, read, steps_of, passed_by, target_of, blocks, block_at, block_path, IsLeast, least_is, kept_are, instrs_of, ModeReads, IsBlockPhase, spelled_stands, spelled_links, Trigger, Calendar, goes, with_trigger, Ends, IsAllowed, AreAllowed, HasOutput, HasInput, trigger_at, next_block, calendar_replay}
use Rattle.htl_ecode.specs.declared.instr.EInstr.TheVariants as I
use Rattle.htl_ecode.proofs.Spelled as spelled
use Rattle.htl_emach.proofs.{Blocks.GoesOn, Blocks.IsBlock, Blocks.block_ends, Triggers.IsQuiet, Triggers.AreQuiet, Triggers.set_next, Triggers.calls_quiet, Triggers.chain_sets}
use Rattle.htl_emach.proofs.Effects.{calendar_after, replay_kept, allowed_kept, allowed_instrs, AllAllowed, WantsAllowed, requirements_more, do_more, do_cond, do_numbered, with_next}

-- a block of module k at an offset of mode m
pub record BlockIs (t : Tables) (code : ECode) (m p o a k : ℕ) : Type 0 where
  pub path : List ℕ
  pub is : block_path t code m p o ≡ path
  pub ends : (holds runs : ℕ → Bool) → Ends code.instrs (goes holds runs) a path
  pub allowed : AreAllowed t code.instrs p k path
  pub sets : (s : ℕ) (c : Calendar) → calendar_replay t code (s + o) k path c ≡ with_next p k (next_block t code m p s (suc o)) c

-- ---- a chain of quiet instructions, a trigger and a return is a block

module _ (code : List EInstr) (holds runs : ℕ → Bool) where
  quiet_goes : (w : Requirement) → IsQuiet w → GoesOn code holds runs w
  quiet_goes (Exactly (I.CallWrite a b)) q = λ z. refl
  quiet_goes (Exactly (I.CallRead a b)) q = λ z. refl
  quiet_goes (Exactly (I.Release a)) q = λ z. refl
  quiet_goes _ q = absurd q

  quiet_block : (xs : List Requirement) (y : Requirement) (ys : List Requirement) → AreQuiet xs → IsBlock code holds runs (y ∷ ys) → IsBlock code holds runs (xs ++ y ∷ ys)
  quiet_block [] y ys q b = b
  quiet_block (x ∷ []) y ys q b = (quiet_goes x q.0, b)
  quiet_block (x ∷ z ∷ xs) y ys q b = (quiet_goes x q.0, quiet_block (z ∷ xs) y ys q.1 b)

  pub ended_block : (xs : List Requirement) (o p : ℕ) (n : Option ℕ) → AreQuiet xs → IsBlock code holds runs (xs ++ (waits_for o p n ++ Exactly I.Return ∷ []))
  ended_block xs o p None q = quiet_block xs (Exactly I.Return) [] q refl
  ended_block xs o p (Some o1) q = quiet_block xs (NextBlock (o1 - o) p) (Exactly I.Return ∷ []) q (tt, refl)

-- ---- what may stand

offset_wants : (t : Tables) (p k o : ℕ) (f : ℕ → EInstr) (n j : ℕ) (ends : List End) → j + length ends ≤ n → ((i : ℕ) → i < n → IsAllowed t p k (f i)) → WantsAllowed t p k (all_do (map f (places_at t o j ends)))
offset_wants t p k o f n j [] h g = tt
offset_wants t p k o f n j (e ∷ ends) h g = by_test (meets t o e) (offset_wants t p k o f n (suc j) ends (omega (arith, h)) g)
  where
    by_test : (b : Bool) → WantsAllowed t p k (all_do (map f (places_at t o (suc j) ends))) → WantsAllowed t p k (all_do (map f (cond b (j ∷ places_at t o (suc j) ends) (places_at t o (suc j) ends))))
    by_test true rest = (g j (omega (arith, h)), rest)
    by_test false rest = rest

last_wants : (t : Tables) (p k o q : ℕ) (n : Option ℕ) → WantsAllowed t p k (waits_for o q n ++ Exactly I.Return ∷ [])
last_wants t p k o q None = (tt, tt)
last_wants t p k o q (Some o1) = (tt, (tt, tt))

pub block_wants : (t : Tables) (k m p o : ℕ) → IsBlockPhase p → WantsAllowed t p k (block_chain t m p o)
block_wants t k m p o phase =
    requirements_more t p k (all_do (calls t m p o)) (waits_for o p (next_offset t m p (suc o)) ++ Exactly I.Return ∷ [])
    (do_more t p k (joined (calls_of t m p o) (numbered 0 t.invs)) (cond (eqb p 1) [] (releases t m o))
    (do_numbered t p k (calls_of t m p o) 0 t.invs (λ i x e. do_cond t p k (counts t m x) (map (call_of p (0 + i)) (places_at t o 0 (ends_in p x))) [] (of_inv phase i x e) tt))
    (do_cond t p k (eqb p 1) [] (releases t m o) tt
    (do_numbered t p k (release_of t m o) 0 t.invs (λ i x e. do_cond t p k (counts t m x && eqb (release t x) o) (I.Release (0 + i) ∷ []) [] (tt, tt) tt))))
    (last_wants t p k o p (next_offset t m p (suc o)))
  where
    of_inv : IsBlockPhase p → (i : ℕ) (x : Inv) → slice_get t.invs i ≡ Some x → WantsAllowed t p k (all_do (map (call_of p (0 + i)) (places_at t o 0 (ends_in p x))))
    of_inv (inl one) i x e =
        let same : 0 + i ≡ i = omega arith in
        subst (λ q. WantsAllowed t q k (all_do (map (call_of q (0 + i)) (places_at t o 0 (ends_in q x))))) (sym one)
        (offset_wants t 1 k o (I.CallWrite (0 + i)) (length x.writes) 0 x.writes (omega arith) (λ j less. (refl, subst (λ n. HasOutput t n j) (sym same) (x, e, less))))
    of_inv (inr three) i x e =
        let same : 0 + i ≡ i = omega arith in
        subst (λ q. WantsAllowed t q k (all_do (map (call_of q (0 + i)) (places_at t o 0 (ends_in q x))))) (sym three)
        (offset_wants t 3 k o (I.CallRead (0 + i)) (length x.reads) 0 x.reads (omega arith) (λ j less. (refl, subst (λ n. HasInput t n j) (sym same) (x, e, less))))

-- ---- the trigger that is set

-- the trigger for the next block is that of the block that stands there
sets_next : (t : Tables) (code : ECode) (m p s o k : ℕ) (c : Calendar) (n x : Option ℕ) → ((o1 : ℕ) → n ≡ Some o1 → (o < o1) × ((a : ℕ) × (block_at t code m p o1 ≡ Some a) × (x ≡ Some a))) →
    set_next (s + o) k p o n x c ≡ with_next p k (elim n as (λ _. Option Trigger) [ Some q ↦ trigger_at (s + q) (block_at t code m p q) | None ↦ None ]) c
sets_next t code m p s o k c None x h = refl
sets_next t code m p s o k c (Some o1) x h =
    let g = h o1 refl in
    let when : s + o + (o1 - o) ≡ s + o1 = omega (arith, g.0) in
    ap (λ z. with_trigger p k (trigger_at (s + o + (o1 - o)) z) c) g.1.2
    ∙ ap (λ n. with_trigger p k (Some (record { at = n; target = g.1.0 })) c) when
    ∙ sym (ap (λ z. with_next p k (trigger_at (s + o1) z) c) g.1.1)

passed_allowed : (t : Tables) (code : List EInstr) (p k a : ℕ) (ws : List Requirement) (ss : List Step) → read code a ws ≡ Ok ss → WantsAllowed t p k ws → AreAllowed t code p k (passed_by ss)
passed_allowed t code p k a ws ss e h = allowed_kept t code p k (passed_by ss) (subst (AllAllowed t p k) (sym (kept_are code ws a ss e)) (allowed_instrs t p k ws ss h))

passed_does : (t : Tables) (code : ECode) (at k a : ℕ) (ws : List Requirement) (ss : List Step) (c : Calendar) → read code.instrs a ws ≡ Ok ss → calendar_replay t code at k (passed_by ss) c ≡ calendar_after t code at k (instrs_of ws ss) c
passed_does t code at k a ws ss c e = replay_kept t code at k (passed_by ss) c ∙ ap (λ is. calendar_after t code at k is c) (kept_are code.instrs ws a ss e)

-- a block at an offset of its phase
pub phase_block : (t : Tables) (code : ECode) (m p o k : ℕ) → IsBlockPhase p → ModeReads t code m → holds o (phase_offsets t m p) ≡ true → (a : ℕ) × (block_at t code m p o ≡ Some a) × BlockIs t code m p o a k
phase_block t code m p o k phase r there =
    let b : spelled.Stands t code.instrs m p o (blocks t code m p) = spelled_stands t code m p o phase r there in
    let e : read code.instrs b.address (block_chain t m p o) ≡ Ok b.reads.0 = b.reads.1 in
    let next : (o1 : ℕ) → next_offset t m p (suc o) ≡ Some o1 → (o < o1) × ((a : ℕ) × (block_at t code m p o1 ≡ Some a) × (target_of p (block_chain t m p o) b.reads.0 ≡ Some a)) =
    λ o1 n.
    let least : IsLeast (suc o) (phase_offsets t m p) (Some o1) = subst (IsLeast (suc o) (phase_offsets t m p)) n (least_is (suc o) (phase_offsets t m p)) in
    let b1 : spelled.Stands t code.instrs m p o1 (blocks t code m p) = spelled_stands t code m p o1 phase r least.1 in
    let to : target_of p (block_chain t m p o) (steps_of (read code.instrs b.address (block_chain t m p o))) ≡ target_of p (block_chain t m p o) b.reads.0 = ap (λ z. target_of p (block_chain t m p o) (steps_of z)) e in
    (least.0, (b1.address, b1.found, sym to ∙ sym (spelled_links t code m p o o1 b.address phase r there b.found n) ∙ b1.found)) in (
      b.address,
      b.found,
      record {
        path = passed_by b.reads.0;
        is = ap (λ (x : Option ℕ). elim x as (λ _. List ℕ) [ Some y ↦ passed_by (steps_of (read code.instrs y (block_chain t m p o))) | None ↦ [] ]) b.found ∙ ap (λ z. passed_by (steps_of z)) e;
        ends = λ hs rs. block_ends code.instrs hs rs (block_chain t m p o) b.address b.reads.0 (ended_block code.instrs hs rs (all_do (calls t m p o)) o p (next_offset t m p (suc o)) (calls_quiet t m p o)) e;
        allowed = passed_allowed t code.instrs p k b.address (block_chain t m p o) b.reads.0 e (block_wants t k m p o phase);
        sets = λ s c. passed_does t code (s + o) k b.address (block_chain t m p o) b.reads.0 c e ∙ chain_sets t code code.instrs (s + o) k m p o b.address b.reads.0 c e
            ∙ sets_next t code m p s o k c (next_offset t m p (suc o)) (target_of p (block_chain t m p o) b.reads.0) next;
      },
    )
