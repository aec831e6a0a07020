-- The code that is made for tables spells them.
use Rattle.std.proofs.Common.{◌≡◌, ℕ, zero, suc, ◌+◌, ◌<◌, true, List, [], ◌∷◌, ◌++◌, length, slice_get, Option, Some, None, Result, Ok, refl, sym, ap, ◌∙◌, subst, arith, append_assoc, append-nil, inl, inr}
use Rattle.htl_ecode.proofs.Words.{length-append, up_to, Tables, get_list_to, ECode, EInstr, EFault, phase_offsets, next_offset, Requirement, AtAnchor, all_do, enter_calls, enter_chain, waits_for, turn, begin_chain, block_chain, asks_of, tests_of, decide_chain, bind, arrives, Step, Reached, read, steps_of, target_of, blocks_from, branch_on, first_target, fault_of, either, block_faults, enter_fault, begin_fault, phase_fault, decide_fault, mode_fault, departure_before, departure, entered, block_begun, decided, laid, blocks_code, phase_code, begin_place, writes_place, reads_place, decide_place, first_block, begin_code, decide_code, mode_code, mode_place, enter_places, layout, cases_below}
use Rattle.htl_ecode.specs.declared.instr.EInstr.TheVariants as I
use Rattle.htl_ecode.proofs.Spelled.{has_wait, goes_on, has_wait_more, waits_there}
use Rattle.htl_ecode.proofs.Standing.{StandAt, stand_first, stand_second, stand_between, arrives_here, arrives_by_jump, laid_steps, AreLaid, read_laid, laid_target}
use Rattle.htl_ecode.proofs.Laying.{enter_no_jumps, do_laid, laid_do, block_laid, begin_laid, decide_laid, block_single, begin_single, laid_length, begin_length, decide_length}

-- a chain that was laid, with nothing behind it
read_whole : (code : List EInstr) (to : ℕ → ℕ) (ws : List Requirement) (a : ℕ) → StandAt code a (laid to a ws) → AreLaid ws → read code a ws ≡ Ok (laid_steps to a ws)
read_whole code to ws a h well =
    ap (read code a) (sym (append-nil ws)) ∙ read_laid code to ws [] a [] h well refl ∙ ap (λ ss. Ok ss) (append-nil (laid_steps to a ws))

target_whole : (code : List EInstr) (to : ℕ → ℕ) (p : ℕ) (ws : List Requirement) (a : ℕ) → StandAt code a (laid to a ws) → AreLaid ws → has_wait p ws ≡ true → target_of p ws (steps_of (read code a ws)) ≡ Some (to p)
target_whole code to p ws a h well e =
    ap (λ r. target_of p ws (steps_of r)) (read_whole code to ws a h well)
    ∙ ap (target_of p ws) (sym (append-nil (laid_steps to a ws)))
    ∙ laid_target to p ws a [] well e

-- ---- blocks

module _ (t : Tables) (code : List EInstr) (m phase : ℕ) where
  pub blocks_stand : (fuel a : ℕ) (o b : Option ℕ) → StandAt code a (blocks_code fuel t m phase a o) → ((x : ℕ) → o ≡ Some x → b ≡ Some a) →
      block_faults t code m phase (blocks_from fuel t code m phase o b) ≡ None
  blocks_stand zero a o b h at = refl
  blocks_stand (suc fuel) a None b h at = refl
  blocks_stand (suc fuel) a (Some o) b h at =
      let ws = block_chain t m phase o in
      let behind = a + length ws in
      let next = next_offset t m phase (suc o) in
      let front : StandAt code a (laid (λ p. behind) a ws) = stand_first code a (laid (λ p. behind) a ws) (blocks_code fuel t m phase behind next) h in
      let back : StandAt code (a + length (laid (λ p. behind) a ws)) (blocks_code fuel t m phase behind next) = stand_second code a (laid (λ p. behind) a ws) (blocks_code fuel t m phase behind next) h in
      let rest : StandAt code behind (blocks_code fuel t m phase behind next) = subst (λ n. StandAt code (a + n) (blocks_code fuel t m phase behind next)) (laid_length (λ p. behind) a ws (block_single t m phase o)) back in
      let well = block_laid t m phase o in
      let ih : block_faults t code m phase (blocks_from fuel t code m phase next (branch_on t code m phase o a)) ≡ None =
      blocks_stand fuel behind next (branch_on t code m phase o a) rest (λ x e. target_whole code (λ p. behind) phase ws a front well (goes_on t m phase o x e)) in
      ap (λ z. block_faults t code m phase (blocks_from (suc fuel) t code m phase (Some o) z)) (at o refl)
      ∙ ap (λ r. either (fault_of r) (block_faults t code m phase (blocks_from fuel t code m phase next (branch_on t code m phase o a)))) (read_whole code (λ p. behind) ws a front well)
      ∙ ih

-- ---- the places of a mode

-- the lists of a mode stand at their places
pub record ModeStands (t : Tables) (code : List EInstr) (enters : List ℕ) (a m : ℕ) : Type 0 where
  pub enter : StandAt code a (enter_calls t m)
  pub begin : StandAt code (begin_place t a m) (begin_code t a m)
  pub writes : StandAt code (writes_place t a m) (phase_code t m 1 (writes_place t a m))
  pub reads : StandAt code (reads_place t a m) (phase_code t m 3 (reads_place t a m))
  pub decide : StandAt code (decide_place t a m) (decide_code t enters a m)
  pub jump : slice_get code (decide_place t a m + length (decide_code t enters a m)) ≡ Some (I.Jump (begin_place t a m))

pub begin_code_length : (t : Tables) (a m : ℕ) → length (begin_code t a m) ≡ length (begin_chain t 0 m)
begin_code_length t a m =
    laid_length (first_block (writes_place t a m) (reads_place t a m)) (begin_place t a m) (begin_chain t (decide_place t a m) m) (begin_single t (decide_place t a m) m)
    ∙ begin_length t (decide_place t a m) 0 m

mode_stands : (t : Tables) (code : List EInstr) (enters : List ℕ) (a m : ℕ) → StandAt code a (mode_code t enters a m) → ModeStands t code enters a m
mode_stands t code enters a m h =
    let five = decide_code t enters a m ++ I.Jump (begin_place t a m) ∷ [] in
    let four = phase_code t m 3 (reads_place t a m) ++ five in
    let three = phase_code t m 1 (writes_place t a m) ++ four in
    let two = begin_code t a m ++ three in
    let from_begin : StandAt code (begin_place t a m) two = stand_second code a (enter_calls t m) two h in
    let from_writes : StandAt code (writes_place t a m) three =
    subst (λ n. StandAt code (begin_place t a m + n) three) (begin_code_length t a m) (stand_second code (begin_place t a m) (begin_code t a m) three from_begin) in
    let from_reads : StandAt code (reads_place t a m) four = stand_second code (writes_place t a m) (phase_code t m 1 (writes_place t a m)) four from_writes in
    let from_decide : StandAt code (decide_place t a m) five = stand_second code (reads_place t a m) (phase_code t m 3 (reads_place t a m)) five from_reads in
    let last = stand_second code (decide_place t a m) (decide_code t enters a m) (I.Jump (begin_place t a m) ∷ []) from_decide in
    record {
      enter = stand_first code a (enter_calls t m) two h;
      begin = stand_first code (begin_place t a m) (begin_code t a m) three from_begin;
      writes = stand_first code (writes_place t a m) (phase_code t m 1 (writes_place t a m)) four from_writes;
      reads = stand_first code (reads_place t a m) (phase_code t m 3 (reads_place t a m)) five from_reads;
      decide = stand_first code (decide_place t a m) (decide_code t enters a m) (I.Jump (begin_place t a m) ∷ []) from_decide;
      jump = last.0;
    }

-- ---- the chains of a mode

-- an anchor that is reached
anchor_read : (code : List EInstr) (a x : ℕ) (xs : List ℕ) → arrives code a x a ≡ Ok xs → read code a (AtAnchor x ∷ []) ≡ Ok (record { passed = xs; target = x; side = [] } ∷ [])
anchor_read code a x xs e =
    ap (λ (r : Result (List ℕ) EFault). bind (bind r (λ ys. Ok (record { step = record { passed = ys; target = x; side = [] }; next = x }))) (λ (y : Reached). bind (read code y.next []) (λ ss. Ok (y.step ∷ ss)))) e

none_of : (r : Result (List Step) EFault) (ss : List Step) → r ≡ Ok ss → fault_of r ≡ None
none_of r ss e = ap (λ z. fault_of z) e

pub either_both : (a b : Option EFault) → a ≡ None → b ≡ None → either a b ≡ None
either_both None b p q = q
either_both (Some f) b p q = absurd (let z : ⊥ = cc in z)

module _ (t : Tables) (code : ECode) (a m : ℕ) (stands : ModeStands t code.instrs code.enter a m) (enter_is : entered code m ≡ a) (begin_is : block_begun code m ≡ begin_place t a m)
    (decide_is : decided code m ≡ decide_place t a m) where
  enters_none : enter_fault t code m ≡ None
  enters_none =
      let begin = begin_place t a m in
      let js = enter_calls t m in
      let first : StandAt code.instrs a (laid (λ p. 0) a (all_do js)) = subst (StandAt code.instrs a) (sym (laid_do (λ p. 0) a js)) stands.enter in
      let at : read code.instrs begin (AtAnchor begin ∷ []) ≡ Ok (record { passed = []; target = begin; side = [] } ∷ []) = anchor_read code.instrs begin begin [] (arrives_here code.instrs begin begin) in
      let at' : read code.instrs (a + length (laid (λ p. 0) a (all_do js))) (AtAnchor begin ∷ []) ≡ Ok (record { passed = []; target = begin; side = [] } ∷ []) =
      ap (λ n. read code.instrs (a + length n) (AtAnchor begin ∷ [])) (laid_do (λ p. 0) a js) ∙ at in
      ap (λ x. fault_of (read code.instrs x (enter_chain t (block_begun code m) m))) enter_is
      ∙ ap (λ x. fault_of (read code.instrs a (enter_chain t x m))) begin_is
      ∙ none_of _ _ (read_laid code.instrs (λ p. 0) (all_do js) (AtAnchor begin ∷ []) a _ first (do_laid js (enter_no_jumps t m)) at')

  abbrev first_to : ℕ → ℕ
  first_to = first_block (writes_place t a m) (reads_place t a m)

  begins_none : begin_fault t code m ≡ None
  begins_none =
      ap (λ x. fault_of (read code.instrs x (begin_chain t (decided code m) m))) begin_is
      ∙ ap (λ x. fault_of (read code.instrs (begin_place t a m) (begin_chain t x m))) decide_is
      ∙ none_of _ _ (read_whole code.instrs first_to (begin_chain t (decide_place t a m) m) (begin_place t a m) stands.begin (begin_laid t (decide_place t a m) m))

  first_is : (p : ℕ) → has_wait p (begin_chain t (decide_place t a m) m) ≡ true → first_target t code m p ≡ Some (first_to p)
  first_is p h =
      ap (λ x. target_of p (begin_chain t x m) (steps_of (read code.instrs (block_begun code m) (begin_chain t x m)))) decide_is
      ∙ ap (λ x. target_of p (begin_chain t (decide_place t a m) m) (steps_of (read code.instrs x (begin_chain t (decide_place t a m) m)))) begin_is
      ∙ target_whole code.instrs first_to p (begin_chain t (decide_place t a m) m) (begin_place t a m) stands.begin (begin_laid t (decide_place t a m) m) h

  writes_none : phase_fault t code m 1 ≡ None
  writes_none =
      let next = next_offset t m 1 0 in
      let rest = waits_for 0 3 (next_offset t m 3 0) ++ turn t (decide_place t a m) m in
      blocks_stand t code.instrs m 1 (length (phase_offsets t m 1)) (writes_place t a m) next (first_target t code m 1) stands.writes
      (λ x e. first_is 1 (waits_there 1 0 x next rest e))

  reads_none : phase_fault t code m 3 ≡ None
  reads_none =
      let next = next_offset t m 3 0 in
      let rest = turn t (decide_place t a m) m in
      blocks_stand t code.instrs m 3 (length (phase_offsets t m 3)) (reads_place t a m) next (first_target t code m 3) stands.reads
      (λ x e. first_is 3 (has_wait_more 3 (waits_for 0 1 (next_offset t m 1 0)) (waits_for 0 3 next ++ rest) (waits_there 3 0 x next rest e)))

  decides_none : decide_fault t code m ≡ None
  decides_none =
      let begin = begin_place t a m in
      let place = decide_place t a m in
      let ws = asks_of t m ++ tests_of t begin code.enter m in
      let by = arrives_by_jump code.instrs (place + length (laid (λ p. 0) place ws)) begin (place + length (laid (λ p. 0) place ws)) stands.jump in
      let at = anchor_read code.instrs (place + length (laid (λ p. 0) place ws)) begin by.0 by.1 in
      ap (λ x. fault_of (read code.instrs x (decide_chain t (block_begun code m) code.enter m))) decide_is
      ∙ ap (λ x. fault_of (read code.instrs place (decide_chain t x code.enter m))) begin_is
      ∙ ap (λ zs. fault_of (read code.instrs place zs)) (sym (append_assoc (asks_of t m) (tests_of t begin code.enter m) (AtAnchor begin ∷ [])))
      ∙ none_of _ _ (read_laid code.instrs (λ p. 0) ws (AtAnchor begin ∷ []) place _ stands.decide (decide_laid t begin code.enter m) at)

  pub mode_none : mode_fault t code m ≡ None
  mode_none =
      either_both (enter_fault t code m) _ enters_none
      (either_both (begin_fault t code m) _ begins_none
      (either_both (phase_fault t code m 1) _ writes_none
      (either_both (phase_fault t code m 3) (decide_fault t code m) reads_none decides_none)))

-- ---- all modes

pub mode_length : (t : Tables) (enters others : List ℕ) (a m : ℕ) → length (mode_code t enters a m) ≡ length (mode_code t others a m)
mode_length t enters others a m =
    let jump = I.Jump (begin_place t a m) ∷ [] in
    let ends : length (decide_code t enters a m ++ jump) ≡ length (decide_code t others a m ++ jump) =
    length-append (decide_code t enters a m) jump ∙ ap (λ n. n + 1) (decide_length t (λ p. 0) (decide_place t a m) (begin_place t a m) enters others m) ∙ sym (length-append (decide_code t others a m) jump) in
    same_front (enter_calls t m) _ _ (same_front (begin_code t a m) _ _ (same_front (phase_code t m 1 (writes_place t a m)) _ _ (same_front (phase_code t m 3 (reads_place t a m)) _ _ ends)))
  where
    same_front : (xs ys zs : List EInstr) → length ys ≡ length zs → length (xs ++ ys) ≡ length (xs ++ zs)
    same_front xs ys zs e = length-append xs ys ∙ ap (λ n. length xs + n) e ∙ sym (length-append xs zs)

-- the modes below n are as long as the place of mode n
pub modes_length : (t : Tables) (enters : List ℕ) (n : ℕ) → length (up_to (λ m. mode_code t enters (mode_place t m) m) n) ≡ mode_place t n
modes_length t enters zero = refl
modes_length t enters (suc n) =
    length-append (up_to (λ m. mode_code t enters (mode_place t m) m) n) (mode_code t enters (mode_place t n) n)
    ∙ ap (λ k. k + length (mode_code t enters (mode_place t n) n)) (modes_length t enters n)
    ∙ ap (λ k. mode_place t n + k) (mode_length t enters [] (mode_place t n) n)

-- what stands before and after one part of a list in parts
pub part_of : {A : Type 0} (f : ℕ → List A) (n m : ℕ) → m < n → (ys : List A) × (up_to f n ≡ up_to f m ++ (f m ++ ys))
part_of f zero m h = absurd (omega arith)
part_of f (suc n) m h =
    elim (cases_below m n h) [
      | inl q ↦
          let r = part_of f n m q in
          (r.0 ++ f n, ap (λ xs. xs ++ f n) r.1 ∙ append_assoc (up_to f m) (f m ++ r.0) (f n) ∙ ap (λ xs. up_to f m ++ xs) (append_assoc (f m) r.0 (f n)))
      | inr q ↦ ([], ap (λ k. up_to f n ++ f k) (sym q) ∙ ap (λ k. up_to f k ++ f m) (sym q) ∙ ap (λ xs. up_to f m ++ xs) (sym (append-nil (f m))))
    ]

mode_stands_in : (t : Tables) (m : ℕ) → m < length t.modes → ModeStands t (layout t).instrs (layout t).enter (mode_place t m) m
mode_stands_in t m h =
    let enters = enter_places t (length t.modes) in
    let f : ℕ → List EInstr = λ k. mode_code t enters (mode_place t k) k in
    let p = part_of f (length t.modes) m h in
    let at : StandAt (up_to f m ++ (f m ++ p.0)) (length (up_to f m)) (f m) = stand_between (up_to f m) (f m) p.0 in
    let at' : StandAt (layout t).instrs (length (up_to f m)) (f m) = subst (λ xs. StandAt xs (length (up_to f m)) (f m)) (sym p.1) at in
    mode_stands t (layout t).instrs enters (mode_place t m) m (subst (λ k. StandAt (layout t).instrs k (f m)) (modes_length t enters m) at')

modes_none : (t : Tables) (n : ℕ) → ((m : ℕ) → m < n → m < length t.modes) → departure_before t (layout t) n ≡ None
modes_none t zero below = refl
modes_none t (suc n) below =
    let h : n < length t.modes = below n (omega arith) in
    either_both (departure_before t (layout t) n) (mode_fault t (layout t) n) (modes_none t n (λ m g. below m (omega arith)))
    (mode_none t (layout t) (mode_place t n) n (mode_stands_in t n h) (get_list_to (mode_place t) (length t.modes) n 0 h)
    (get_list_to (λ m. begin_place t (mode_place t m) m) (length t.modes) n 0 h) (get_list_to (λ m. decide_place t (mode_place t m) m) (length t.modes) n 0 h))

-- the code that is made for any tables departs from them nowhere
pub layout_departs_not : (t : Tables) → departure t (layout t) ≡ None
layout_departs_not t = modes_none t (length t.modes) (λ m h. h)
