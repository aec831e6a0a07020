-- What the checker answers of a part of a chain.
use Rattle.std.specs.Prelude.{ℕ, ◌-◌, length, List, [], ◌∷◌, Option, Some, None, Result, Ok, Err}
use Rattle.htl_model.specs.{Lists.joined, Lists.numbered, Tables.Tables, Tables.mode_period}
use Rattle.htl_ecode.specs.{declared.instr.EInstr.EInstr, declared.fault.EFault.EFault, Offsets.phase_offsets, Offsets.next_offset, Jumps.Resolved, Jumps.bind, Jumps.arrives, Steps.Met, Steps.Reached, Steps.reach}
use Rattle.htl_ecode.specs.declared.instr.EInstr.TheVariants as I
use Rattle.htl_ecode.specs.{Chains.Requirement, Chains.Exactly, Chains.NextBlock, Chains.EndOfRound, Chains.all_do, Chains.calls, Chains.asks_of, Chains.tests_of, Departure.blocks_from, Departure.block_faults}
use Rattle.htl_espell.specs.Parts.{child_wants}

abbrev pub place_of : Result Resolved EFault → Result ℕ EFault
place_of (Ok l) = Ok l.place
place_of (Err e) = Err e

-- the address after a chain, or its first departure
abbrev pub next_of : List EInstr → ℕ → List Requirement → Result ℕ EFault
next_of code a [] = Ok a
next_of code a (w ∷ ws) = bind (reach code a w) (λ y. next_of code y.next ws)

-- the address after a trigger, and where it leads
abbrev pub ends_of : Result Reached EFault → Result (ℕ × ℕ) EFault
ends_of (Ok y) = Ok (y.next, y.step.target)
ends_of (Err e) = Err e

-- the same, where there is a further offset; else it goes on where it is
abbrev pub waited : List EInstr → ℕ → ℕ → ℕ → Option ℕ → Result (ℕ × Option ℕ) EFault
waited code a from phase None = Ok (a, None)
waited code a from phase (Some o) = bind (reach code a (NextBlock (o - from) phase)) (λ y. Ok (y.next, Some y.step.target))

-- a block: its offset and its address, where both are there
abbrev pub block_of : Option ℕ → Option ℕ → Option (ℕ × ℕ)
block_of (Some o) (Some a) = Some (o, a)
block_of (Some o) None = None
block_of None a = None

-- what is required at an instruction: where it goes on, and its target
abbrev pub next_met : Result Met EFault → Result ℕ EFault
next_met (Ok y) = Ok y.next
next_met (Err e) = Err e

abbrev pub ends_met : Result Met EFault → Result (ℕ × ℕ) EFault
ends_met (Ok y) = Ok (y.next, y.target)
ends_met (Err e) = Err e

-- ---- whole chains, part by part

-- a block: where its trigger leads
abbrev pub block_read : List EInstr → Tables → ℕ → ℕ → ℕ → Option ℕ → ℕ → Result (Option ℕ) EFault
block_read code t m phase o next a =
    bind (next_of code a (all_do (calls t m phase o))) (λ b.
    bind (waited code b o phase next) (λ w.
    bind (next_of code w.0 (Exactly I.Return ∷ [])) (λ c. Ok w.1)))

-- the start of a round: where its first triggers lead
abbrev pub begin_read : List EInstr → Tables → ℕ → ℕ → ℕ → Result (Option ℕ × Option ℕ) EFault
begin_read code t decide m a =
    bind (waited code a 0 1 (next_offset t m 1 0)) (λ w.
    bind (waited code w.0 0 3 (next_offset t m 3 0)) (λ r.
    bind (next_of code r.0 (EndOfRound (mode_period t m) decide ∷ [])) (λ b.
    bind (next_of code b (Exactly I.Return ∷ [])) (λ c. Ok (w.1, r.1)))))

-- the first departure in the blocks of a phase, the first of which stands at an address
abbrev pub phase_departure : Tables → List EInstr → ℕ → ℕ → Option ℕ → Option EFault
phase_departure t code m phase first =
    block_faults t code m phase (blocks_from (length (phase_offsets t m phase)) t code m phase (next_offset t m phase 0) first)

-- what enters a mode
abbrev pub enter_read : List EInstr → Tables → ℕ → ℕ → ℕ → Result (List ℕ) EFault
enter_read code t begin m a =
    bind (next_of code a (Exactly (I.Enter m) ∷ [])) (λ b.
    bind (next_of code b (joined (child_wants m) (numbered 0 t.modules))) (λ c.
    arrives code c begin c))

-- the end of a round
abbrev pub decide_read : List EInstr → Tables → ℕ → List ℕ → ℕ → ℕ → Result (List ℕ) EFault
decide_read code t begin enters m a =
    bind (next_of code a (asks_of t m)) (λ b.
    bind (next_of code b (tests_of t begin enters m)) (λ c.
    arrives code c begin c))
