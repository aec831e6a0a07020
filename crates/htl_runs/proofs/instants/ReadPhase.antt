-- The addresses of the read phase do to the S machine what its blocks ask for.
use Rattle.std.proofs.Common.{arith, ◌≡◌, ℕ, zero, suc, ◌-◌, ◌<◌, Bool, true, false, List, [], ◌∷◌, ◌++◌, length, slice_get, Option, Some, None, Result, Ok, inr, refl, sym, ap, ◌∙◌}
use Rattle.htl_runs.proofs.Words.{Event, Stay, State, up_to, Tables, AreInRange, state, stay_of, Round, ECode, EInstr, EFault, next_offset, phase_offsets, holds, Requirement, Exactly, NextBlock, EndOfRound, SwitchJump, ModeJump, AtAnchor, waits_for, all_do, block_chain, Step, Reached, reach, read, steps_of, passed_by, blocks, Done, chain_path, block_path, due_path, reads_done, Jumps, reach_is, anchor_is, read_is, spelled_stands, no_block, phase_path, wanted_reads, all_reads, s_machine_does, s_machine_at, s_machine_replay, s_machine_want, s_machine_all, standing_at}
use Rattle.htl_ecode.specs.declared.instr.EInstr.TheVariants as I
use Rattle.htl_ecode.proofs.Spelled.{ModeReads, Stands}
use Rattle.htl_runs.proofs.values.PhasePaths.{no_calls, addresses, addresses_on, addresses_more}

-- by addresses alone
abbrev pub s_machine_path : List EInstr → List ℕ → Round → Round
s_machine_path code [] r = r
s_machine_path code (a ∷ xs) r = s_machine_path code xs (s_machine_at (slice_get code a) r)

pub s_machine_addresses : (code : ECode) (ds : List Done) (r : Round) → s_machine_replay code ds r ≡ s_machine_path code.instrs (addresses ds) r
s_machine_addresses code [] r = refl
s_machine_addresses code (d ∷ ds) r = s_machine_addresses code ds (s_machine_at (slice_get code.instrs d.address) r)

pub all_more : (xs ys : List Requirement) (r : Round) → s_machine_all (xs ++ ys) r ≡ s_machine_all ys (s_machine_all xs r)
all_more [] ys r = refl
all_more (x ∷ xs) ys r = all_more xs ys (s_machine_want x r)

module _ (code : List EInstr) where
  path_more : (xs ys : List ℕ) (r : Round) → s_machine_path code (xs ++ ys) r ≡ s_machine_path code ys (s_machine_path code xs r)
  path_more [] ys r = refl
  path_more (x ∷ xs) ys r = path_more xs ys (s_machine_at (slice_get code x) r)

  jumps_leave : (a b : ℕ) (xs : List ℕ) (r : Round) → Jumps code a xs b → s_machine_path code xs r ≡ r
  jumps_leave a b [] r p = refl
  jumps_leave a b (x ∷ xs) r p = ap (λ o. s_machine_path code xs (s_machine_at o r)) (ap (slice_get code) p.0 ∙ p.1.1) ∙ jumps_leave p.1.0 b xs r p.1.2

  one_acts : (a b : ℕ) (xs : List ℕ) (i : EInstr) (r : Round) → Jumps code a xs b → slice_get code b ≡ Some i → s_machine_path code (xs ++ b ∷ []) r ≡ s_machine_does i r
  one_acts a b xs i r p at = path_more xs (b ∷ []) r ∙ ap (λ z. s_machine_path code (b ∷ []) z) (jumps_leave a b xs r p) ∙ ap (λ o. s_machine_at o r) at

  reached_acts : (a : ℕ) (x : Requirement) (y : Reached) (r : Round) → reach code a x ≡ Ok y → s_machine_path code y.step.passed r ≡ s_machine_want x r
  reached_acts a (Exactly j) y r e =
      let h = reach_is code a (Exactly j) y tt e in
      ap (λ zs. s_machine_path code zs r) h.passed ∙ one_acts a h.place h.jumps h.instr r h.leads h.stands ∙ ap (λ z. s_machine_does z r) h.meets.0
  reached_acts a (NextBlock d p) y r e =
      let h = reach_is code a (NextBlock d p) y tt e in
      ap (λ zs. s_machine_path code zs r) h.passed ∙ one_acts a h.place h.jumps h.instr r h.leads h.stands ∙ ap (λ z. s_machine_does z r) h.meets.0
  reached_acts a (EndOfRound d x) y r e =
      let h = reach_is code a (EndOfRound d x) y tt e in
      ap (λ zs. s_machine_path code zs r) h.passed ∙ one_acts a h.place h.jumps h.instr r h.leads h.stands ∙ ap (λ z. s_machine_does z r) h.meets.0
  reached_acts a (SwitchJump k m x) y r e =
      let h = reach_is code a (SwitchJump k m x) y tt e in
      ap (λ zs. s_machine_path code zs r) h.passed ∙ one_acts a h.place h.jumps h.instr r h.leads h.stands ∙ ap (λ z. s_machine_does z r) h.meets.0
  reached_acts a (ModeJump q) y r e =
      let h = reach_is code a (ModeJump q) y tt e in
      ap (λ zs. s_machine_path code zs r) h.passed ∙ one_acts a h.place h.jumps h.instr r h.leads h.stands ∙ ap (λ z. s_machine_does z r) h.meets.0
  reached_acts a (AtAnchor x) y r e = jumps_leave a x y.step.passed r (anchor_is code a x y e).0

  chain_acts : (ws : List Requirement) (a : ℕ) (ss : List Step) (r : Round) → read code a ws ≡ Ok ss → s_machine_path code (passed_by ss) r ≡ s_machine_all ws r
  chain_acts [] a ss r e = grind arith
  chain_acts (x ∷ xs) a ss r e =
      let d = read_is code a x xs ss e in
      ap (λ zs. s_machine_path code (passed_by zs) r) d.is
      ∙ path_more d.first.step.passed (passed_by d.rest) r
      ∙ ap (λ z. s_machine_path code (passed_by d.rest) z) (reached_acts a x d.first r d.reaches)
      ∙ chain_acts xs d.first.next d.rest (s_machine_want x r) d.then

waits_leave : (o p : ℕ) (n : Option ℕ) (r : Round) → s_machine_all (waits_for o p n ++ Exactly I.Return ∷ []) r ≡ r
waits_leave o p None r = refl
waits_leave o p (Some x) r = refl

-- a read block does what its chain requires
read_block_acts : (t : Tables) (code : ECode) (m o : ℕ) (r : Round) → ModeReads t code m → s_machine_path code.instrs (block_path t code m 3 o) r ≡ s_machine_all (block_chain t m 3 o) r
read_block_acts t code m o r reads = by_offset (holds o (phase_offsets t m 3)) refl
  where
    by_offset : (b : Bool) → holds o (phase_offsets t m 3) ≡ b → s_machine_path code.instrs (block_path t code m 3 o) r ≡ s_machine_all (block_chain t m 3 o) r
    by_offset true h =
        let s : Stands t code.instrs m 3 o (blocks t code m 3) = spelled_stands t code m 3 o (inr refl) reads h in
        ap (λ z. s_machine_path code.instrs (elim z [ Some a ↦ chain_path code a (block_chain t m 3 o) | None ↦ [] ]) r) s.found
        ∙ ap (λ z. s_machine_path code.instrs (passed_by (steps_of z)) r) s.reads.1
        ∙ chain_acts code.instrs (block_chain t m 3 o) s.address s.reads.0 r s.reads.1
    by_offset false h =
        ap (λ z. s_machine_path code.instrs (elim z [ Some a ↦ chain_path code a (block_chain t m 3 o) | None ↦ [] ]) r) (no_block t code m 3 o h)
        ∙ sym (ap (λ js. s_machine_all (all_do js ++ (waits_for o 3 (next_offset t m 3 (suc o)) ++ Exactly I.Return ∷ [])) r) (no_calls t m 3 o h) ∙ waits_leave o 3 (next_offset t m 3 (suc o)) r)

module _ (t : Tables) (code : ECode) (reads : (m : ℕ) → m < length t.modes → ModeReads t code m) where
  reads_of_stay : (now : ℕ) (o : Option Stay) → ((y : Stay) → o ≡ Some y → y.mode < length t.modes) → (r : Round) → s_machine_path code.instrs (due_path t code 3 now o) r ≡ s_machine_all (wanted_reads t now o) r
  reads_of_stay now None real r = refl
  reads_of_stay now (Some y) real r = read_block_acts t code y.mode (now - y.start) r (reads y.mode (real y refl))

  reads_to : (now : ℕ) (x : State) → ((k : ℕ) (y : Stay) → stay_of x.stays k ≡ Some y → y.mode < length t.modes) → (n : ℕ) (r : Round)
      → s_machine_path code.instrs (addresses (up_to (reads_done t code now x) n)) r ≡ s_machine_all (up_to (λ k. wanted_reads t now (stay_of x.stays k)) n) r
  reads_to now x real zero r = refl
  reads_to now x real (suc n) r =
      ap (λ xs. s_machine_path code.instrs xs r) (addresses_more (up_to (reads_done t code now x) n) (reads_done t code now x n))
      ∙ path_more code.instrs (addresses (up_to (reads_done t code now x) n)) (addresses (reads_done t code now x n)) r
      ∙ ap (λ xs. s_machine_path code.instrs xs (s_machine_path code.instrs (addresses (up_to (reads_done t code now x) n)) r)) (addresses_on n (due_path t code 3 now (stay_of x.stays n)))
      ∙ ap (λ z. s_machine_path code.instrs (due_path t code 3 now (stay_of x.stays n)) z) (reads_to now x real n r)
      ∙ reads_of_stay now (stay_of x.stays n) (λ y e. real n y e) (s_machine_all (up_to (λ k. wanted_reads t now (stay_of x.stays k)) n) r)
      ∙ sym (all_more (up_to (λ k. wanted_reads t now (stay_of x.stays k)) n) (wanted_reads t now (stay_of x.stays n)) r)

  -- what the read phase does to the S machine is what is asked for
  pub read_phase_acts : AreInRange t → (es : List Event) (now : ℕ) (r : Round) → s_machine_replay code (phase_path t code es now 3) r ≡ s_machine_all (all_reads t now (state t es now).stays) r
  read_phase_acts range es now r =
      s_machine_addresses code (phase_path t code es now 3) r ∙ reads_to now (state t es now) (λ k y e. (standing_at t range es now).real k y e) (length t.modules) r
