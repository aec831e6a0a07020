-- The S machine while the read phase of an instant is done: its releases make jobs ready.
use Rattle.std.specs.Prelude.{ℕ, true, List, [], ◌∷◌, slice_get, set, Option, Some, None}
use Rattle.htl_runs.specs.{Common.PosState, Common.Pending, Common.Round, Common.state_of, Common.ECode, Common.EInstr, Common.Requirement, Common.Exactly, Common.Done, frames.LastPositions.position_from}
use Rattle.htl_ecode.specs.declared.instr.EInstr.TheVariants as I

-- a position is made ready, where it is pending
abbrev pub made_ready : PosState → Round → ℕ → Round
made_ready Pending r p = record r { released = set r.released p true }
made_ready _ r p = r

abbrev pub released_to : ℕ → Round → Round
released_to i r = elim (position_from 0 r.jobs i) [ Some p ↦ made_ready (state_of r p) r p | None ↦ r ]

-- what an instruction does to the S machine
abbrev pub s_machine_does : EInstr → Round → Round
s_machine_does (I.Release i) r = released_to i r
s_machine_does _ r = r

abbrev pub s_machine_at : Option EInstr → Round → Round
s_machine_at None r = r
s_machine_at (Some i) r = s_machine_does i r

abbrev pub s_machine_replay : ECode → List Done → Round → Round
s_machine_replay code [] r = r
s_machine_replay code (d ∷ ds) r = s_machine_replay code ds (s_machine_at (slice_get code.instrs d.address) r)

-- what the instructions that a chain requires do to it
abbrev pub s_machine_want : Requirement → Round → Round
s_machine_want (Exactly j) r = s_machine_does j r
s_machine_want _ r = r

abbrev pub s_machine_all : List Requirement → Round → Round
s_machine_all [] r = r
s_machine_all (w ∷ ws) r = s_machine_all ws (s_machine_want w r)
