-- The addresses of the write phase and of the read phase do what their blocks ask for.
use Rattle.std.proofs.Common.{arith, ◌≡◌, ℕ, suc, ◌-◌, ◌*◌, Bool, true, false, cond, ◌&&◌, ◌||◌, eqb, List, [], ◌∷◌, ◌++◌, length, map, slice_get, zero, ◌<◌, Option, Some, None, Result, Ok, inl, inr, refl, sym, ap, ◌∙◌}
use Rattle.htl_runs.proofs.Words.{Inv, End, Stay, State, joined, numbered, up_to, Tables, comm_period, offsets, release, stay_of, ECode, EInstr, EFault, counts, counted_in, places_at, next_offset, phase_offsets, holds, Requirement, Exactly, NextBlock, EndOfRound, SwitchJump, ModeJump, AtAnchor, all_do, call_of, calls_of, release_of, releases, calls, waits_for, block_chain, Step, Reached, reach, read, steps_of, passed_by, blocks, Done, on, chain_path, block_path, due_path, writes_done, reads_done, Jumps, reach_is, anchor_is, read_is, IsBlockPhase, spelled_stands, no_block, Content, effect, want_effect, effects, wanted_writes, wanted_reads, all_writes, all_reads, effect_at, or_parts}
use Rattle.htl_model.specs.declared.parts.End.TheVariants as E
use Rattle.htl_ecode.specs.declared.instr.EInstr.TheVariants as I
use Rattle.htl_ecode.proofs.Spelled.{ModeReads, Stands}
use Rattle.htl_runs.proofs.values.InstantValues.{effects_more}

-- the world after the instructions at these addresses
abbrev pub replay : Tables → List EInstr → List ℕ → Content → Content
replay t code [] w = w
replay t code (a ∷ xs) w = replay t code xs (effect_at t (slice_get code a) w)

module _ (t : Tables) (code : List EInstr) where
  pub replay_more : (xs ys : List ℕ) (w : Content) → replay t code (xs ++ ys) w ≡ replay t code ys (replay t code xs w)
  replay_more [] ys w = refl
  replay_more (x ∷ xs) ys w = replay_more xs ys (effect_at t (slice_get code x) w)

  pub jumps_do_nothing : (a b : ℕ) (xs : List ℕ) (w : Content) → Jumps code a xs b → replay t code xs w ≡ w
  jumps_do_nothing a b [] w p = refl
  jumps_do_nothing a b (x ∷ xs) w p = grind (arith, jumps_do_nothing p.1.0 b xs w p.1.2)

  pub one_does : (a b : ℕ) (xs : List ℕ) (i : EInstr) (w : Content) → Jumps code a xs b → slice_get code b ≡ Some i → replay t code (xs ++ b ∷ []) w ≡ effect t i w
  one_does a b xs i w p at = grind (arith, replay_more, jumps_do_nothing)

  pub same_effect : (i j : EInstr) (w : Content) → i ≡ j → effect t i w ≡ effect t j w
  same_effect i j w e = ap (λ z. effect t z w) e

  pub reached_does : (a : ℕ) (x : Requirement) (y : Reached) (w : Content) → reach code a x ≡ Ok y → replay t code y.step.passed w ≡ want_effect t x w
  reached_does a (Exactly j) y w e =
      let r = reach_is code a (Exactly j) y tt e in
      ap (λ zs. replay t code zs w) r.passed ∙ one_does a r.place r.jumps r.instr w r.leads r.stands ∙ same_effect r.instr j w r.meets.0
  reached_does a (NextBlock d p) y w e =
      let r = reach_is code a (NextBlock d p) y tt e in
      ap (λ zs. replay t code zs w) r.passed ∙ one_does a r.place r.jumps r.instr w r.leads r.stands ∙ same_effect r.instr (I.Future d p y.step.target) w r.meets.0
  reached_does a (EndOfRound d x) y w e =
      let r = reach_is code a (EndOfRound d x) y tt e in
      ap (λ zs. replay t code zs w) r.passed ∙ one_does a r.place r.jumps r.instr w r.leads r.stands ∙ same_effect r.instr (I.Future d 2 y.step.target) w r.meets.0
  reached_does a (SwitchJump k m x) y w e =
      let r = reach_is code a (SwitchJump k m x) y tt e in
      ap (λ zs. replay t code zs w) r.passed ∙ one_does a r.place r.jumps r.instr w r.leads r.stands ∙ same_effect r.instr (I.JumpIf k y.step.target) w r.meets.0
  reached_does a (ModeJump q) y w e =
      let r = reach_is code a (ModeJump q) y tt e in
      ap (λ zs. replay t code zs w) r.passed ∙ one_does a r.place r.jumps r.instr w r.leads r.stands ∙ same_effect r.instr (I.IfMode q y.step.target) w r.meets.0
  reached_does a (AtAnchor x) y w e = jumps_do_nothing a x y.step.passed w (anchor_is code a x y e).0

  -- the addresses passed by a chain do to the world what the chain requires
  pub chain_does : (ws : List Requirement) (a : ℕ) (ss : List Step) (w : Content) → read code a ws ≡ Ok ss → replay t code (passed_by ss) w ≡ effects t ws w
  chain_does [] a ss w e = grind arith
  chain_does (x ∷ xs) a ss w e =
      let r = read_is code a x xs ss e in
      ap (λ zs. replay t code (passed_by zs) w) r.is
      ∙ replay_more r.first.step.passed (passed_by r.rest) w
      ∙ ap (λ z. replay t code (passed_by r.rest) z) (reached_does a x r.first w r.reaches)
      ∙ chain_does xs r.first.next r.rest (want_effect t x w) r.then

waits_do_nothing : (t : Tables) (o p : ℕ) (n : Option ℕ) (w : Content) → effects t (waits_for o p n ++ Exactly I.Return ∷ []) w ≡ w
waits_do_nothing t o p None w = refl
waits_do_nothing t o p (Some x) w = refl

-- ---- at an offset that is none of the mode's the chain does nothing

holds_more : (o : ℕ) (xs ys : List ℕ) → holds o (xs ++ ys) ≡ (holds o xs || holds o ys)
holds_more o [] ys = refl
holds_more o (x ∷ xs) ys = grind (arith, holds_more o xs ys)

idle_ends : (t : Tables) (o k : ℕ) (ends : List End) → holds o (offsets t ends) ≡ false → places_at t o k ends ≡ []
idle_ends t o k [] h = refl
idle_ends t o k (E.Port p ∷ ends) h = idle_ends t o (suc k) ends h
idle_ends t o k (E.Comm c n ∷ ends) h =
    let e = or_parts (eqb (n * comm_period t c) o) (holds o (offsets t ends)) h in
    ap (λ b. cond b (k ∷ places_at t o (suc k) ends) (places_at t o (suc k) ends)) e.0 ∙ idle_ends t o (suc k) ends e.1

idle_calls : (t : Tables) (m p o k : ℕ) (xs : List Inv) → holds o (joined (counted_in t m p) xs) ≡ false → joined (calls_of t m p o) (numbered k xs) ≡ []
idle_calls t m p o k [] h = refl
idle_calls t m p o k (x ∷ xs) h =
    let e = or_parts (holds o (counted_in t m p x)) (holds o (joined (counted_in t m p) xs)) (sym (holds_more o (counted_in t m p x) (joined (counted_in t m p) xs)) ∙ h) in
    ap (λ zs. zs ++ joined (calls_of t m p o) (numbered (suc k) xs)) (item (counts t m x) (eqb p 1) e.0) ∙ idle_calls t m p o (suc k) xs e.1
  where
    item : (b c : Bool) → holds o (cond b (cond c (offsets t x.writes) (release t x ∷ offsets t x.reads)) []) ≡ false →
        ◌≡◌ {A = List EInstr} (cond b (map (call_of p k) (places_at t o 0 (cond c x.writes x.reads))) []) []
    item true true e = ap (λ js. map (call_of p k) js) (idle_ends t o 0 x.writes e)
    item true false e = ap (λ js. map (call_of p k) js) (idle_ends t o 0 x.reads (or_parts (eqb (release t x) o) (holds o (offsets t x.reads)) e).1)
    item false c e = refl

idle_releases : (t : Tables) (m p o k : ℕ) (xs : List Inv) → eqb p 1 ≡ false → holds o (joined (counted_in t m p) xs) ≡ false → joined (release_of t m o) (numbered k xs) ≡ []
idle_releases t m p o k [] reads h = refl
idle_releases t m p o k (x ∷ xs) reads h =
    let e = or_parts (holds o (counted_in t m p x)) (holds o (joined (counted_in t m p) xs)) (sym (holds_more o (counted_in t m p x) (joined (counted_in t m p) xs)) ∙ h) in
    let now : holds o (cond (counts t m x) (release t x ∷ offsets t x.reads) []) ≡ false = ap (λ c. holds o (cond (counts t m x) (cond c (offsets t x.writes) (release t x ∷ offsets t x.reads)) [])) (sym reads) ∙ e.0 in
    ap (λ zs. zs ++ joined (release_of t m o) (numbered (suc k) xs)) (item (counts t m x) now) ∙ idle_releases t m p o (suc k) xs reads e.1
  where
    item : (b : Bool) → holds o (cond b (release t x ∷ offsets t x.reads) []) ≡ false → ◌≡◌ {A = List EInstr} (cond (b && eqb (release t x) o) (I.Release k ∷ []) []) []
    item true e = ap (λ b. cond b (I.Release k ∷ []) []) (or_parts (eqb (release t x) o) (holds o (offsets t x.reads)) e).0
    item false e = refl

-- at another offset nothing is called or released
pub no_calls : (t : Tables) (m p o : ℕ) → holds o (phase_offsets t m p) ≡ false → calls t m p o ≡ []
no_calls t m p o h = grind (arith, idle_calls, idle_releases)

idle_chain : (t : Tables) (m p o : ℕ) (w : Content) → holds o (phase_offsets t m p) ≡ false → effects t (block_chain t m p o) w ≡ w
idle_chain t m p o w h = grind (arith, no_calls, waits_do_nothing)

-- ---- the path of a block does what its chain requires

pub block_does : (t : Tables) (code : ECode) (m p o : ℕ) (w : Content) → IsBlockPhase p → ModeReads t code m → replay t code.instrs (block_path t code m p o) w ≡ effects t (block_chain t m p o) w
block_does t code m p o w phase r = by_offset (holds o (phase_offsets t m p)) refl
  where
    by_offset : (b : Bool) → holds o (phase_offsets t m p) ≡ b → replay t code.instrs (block_path t code m p o) w ≡ effects t (block_chain t m p o) w
    by_offset true h =
        let s : Stands t code.instrs m p o (blocks t code m p) = spelled_stands t code m p o phase r h in
        ap (λ z. replay t code.instrs (elim z [ Some a ↦ chain_path code a (block_chain t m p o) | None ↦ [] ]) w) s.found
        ∙ ap (λ z. replay t code.instrs (passed_by (steps_of z)) w) s.reads.1
        ∙ chain_does t code.instrs (block_chain t m p o) s.address s.reads.0 w s.reads.1
    by_offset false h = grind (arith, no_block, idle_chain)

-- ---- all modules

abbrev pub addresses : List Done → List ℕ
addresses ds = map (λ d. d.address) ds

pub addresses_on : (k : ℕ) (xs : List ℕ) → addresses (on k xs) ≡ xs
addresses_on k [] = refl
addresses_on k (x ∷ xs) = ap (λ z. x ∷ z) (addresses_on k xs)

pub addresses_more : (xs ys : List Done) → addresses (xs ++ ys) ≡ addresses xs ++ addresses ys
addresses_more [] ys = refl
addresses_more (x ∷ xs) ys = ap (λ z. x.address ∷ z) (addresses_more xs ys)

module _ (t : Tables) (code : ECode) (reads : (m : ℕ) → m < length t.modes → ModeReads t code m) where
  writes_of_stay : (now : ℕ) (o : Option Stay) → ((y : Stay) → o ≡ Some y → y.mode < length t.modes) → (w : Content) → replay t code.instrs (due_path t code 1 now o) w ≡ effects t (wanted_writes t now o) w
  writes_of_stay now None real w = refl
  writes_of_stay now (Some y) real w = block_does t code y.mode 1 (now - y.start) w (inl refl) (reads y.mode (real y refl))

  reads_of_stay : (now : ℕ) (o : Option Stay) → ((y : Stay) → o ≡ Some y → y.mode < length t.modes) → (w : Content) → replay t code.instrs (due_path t code 3 now o) w ≡ effects t (wanted_reads t now o) w
  reads_of_stay now None real w = refl
  reads_of_stay now (Some y) real w = block_does t code y.mode 3 (now - y.start) w (inr refl) (reads y.mode (real y refl))

  module _ (now : ℕ) (x : State) (real : (k : ℕ) (y : Stay) → stay_of x.stays k ≡ Some y → y.mode < length t.modes) where
    writes_to : (n : ℕ) (w : Content) → replay t code.instrs (addresses (up_to (writes_done t code now x) n)) w ≡ effects t (up_to (λ k. wanted_writes t now (stay_of x.stays k)) n) w
    writes_to zero w = refl
    writes_to (suc n) w =
        ap (λ xs. replay t code.instrs xs w) (addresses_more (up_to (writes_done t code now x) n) (writes_done t code now x n))
        ∙ replay_more t code.instrs (addresses (up_to (writes_done t code now x) n)) (addresses (writes_done t code now x n)) w
        ∙ ap (λ xs. replay t code.instrs xs (replay t code.instrs (addresses (up_to (writes_done t code now x) n)) w)) (addresses_on n (due_path t code 1 now (stay_of x.stays n)))
        ∙ ap (λ z. replay t code.instrs (due_path t code 1 now (stay_of x.stays n)) z) (writes_to n w)
        ∙ writes_of_stay now (stay_of x.stays n) (λ y e. real n y e) (effects t (up_to (λ k. wanted_writes t now (stay_of x.stays k)) n) w)
        ∙ sym (effects_more t (up_to (λ k. wanted_writes t now (stay_of x.stays k)) n) (wanted_writes t now (stay_of x.stays n)) w)

    reads_to : (n : ℕ) (w : Content) → replay t code.instrs (addresses (up_to (reads_done t code now x) n)) w ≡ effects t (up_to (λ k. wanted_reads t now (stay_of x.stays k)) n) w
    reads_to zero w = refl
    reads_to (suc n) w =
        ap (λ xs. replay t code.instrs xs w) (addresses_more (up_to (reads_done t code now x) n) (reads_done t code now x n))
        ∙ replay_more t code.instrs (addresses (up_to (reads_done t code now x) n)) (addresses (reads_done t code now x n)) w
        ∙ ap (λ xs. replay t code.instrs xs (replay t code.instrs (addresses (up_to (reads_done t code now x) n)) w)) (addresses_on n (due_path t code 3 now (stay_of x.stays n)))
        ∙ ap (λ z. replay t code.instrs (due_path t code 3 now (stay_of x.stays n)) z) (reads_to n w)
        ∙ reads_of_stay now (stay_of x.stays n) (λ y e. real n y e) (effects t (up_to (λ k. wanted_reads t now (stay_of x.stays k)) n) w)
        ∙ sym (effects_more t (up_to (λ k. wanted_reads t now (stay_of x.stays k)) n) (wanted_reads t now (stay_of x.stays n)) w)

    -- the addresses of the write phase do the writes, those of the read phase the reads
    pub write_phase : (w : Content) → replay t code.instrs (addresses (up_to (writes_done t code now x) (length t.modules))) w ≡ effects t (all_writes t now x.stays) w
    write_phase w = writes_to (length t.modules) w

    pub read_phase : (w : Content) → replay t code.instrs (addresses (up_to (reads_done t code now x) (length t.modules))) w ≡ effects t (all_reads t now x.stays) w
    read_phase w = reads_to (length t.modules) w
