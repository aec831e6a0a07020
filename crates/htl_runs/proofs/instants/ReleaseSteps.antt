-- The read phase goes on by one instruction, and what it releases is told.
use Rattle.std.proofs.Common.{arith, ◌≡◌, ℕ, List, [], ◌∷◌, slice_get, Option, Some, None, refl, ap, ◌∙◌}
use Rattle.htl_runs.proofs.Words.{PosState, Pending, Round, state_of, ECode, EInstr, Done, position_from, made_ready, released_to, s_machine_does, s_machine_at, s_machine_replay}
use Rattle.htl_ecode.specs.declared.instr.EInstr.TheVariants as I

-- but for flags the round stays
ready_only : (s : PosState) (r : Round) (p : ℕ) → made_ready s r p ≡ record r { released = (made_ready s r p).released }
ready_only Pending r p = refl
ready_only _ r p = refl

released_only : (i : ℕ) (r : Round) → released_to i r ≡ record r { released = (released_to i r).released }
released_only i r = grind (arith, ready_only)

does_only : (i : EInstr) (r : Round) → s_machine_does i r ≡ record r { released = (s_machine_does i r).released }
does_only (I.Release i) r = released_only i r
does_only _ r = refl

pub does_jobs : (i : EInstr) (r : Round) → (s_machine_does i r).jobs ≡ r.jobs
does_jobs i r = ap (λ (z : Round). z.jobs) (does_only i r)

at_only : (o : Option EInstr) (r : Round) → ((s_machine_at o r).jobs ≡ r.jobs) × ((s_machine_at o r).start ≡ r.start)
at_only None r = (refl, refl)
at_only (Some i) r = (does_jobs i r, ap (λ (z : Round). z.start) (does_only i r))

pub replay_only : (code : ECode) (ds : List Done) (r : Round) → ((s_machine_replay code ds r).jobs ≡ r.jobs) × ((s_machine_replay code ds r).start ≡ r.start)
replay_only code [] r = (refl, refl)
replay_only code (d ∷ ds) r = grind (arith, at_only, replay_only code ds (s_machine_at (slice_get code.instrs d.address) r))
