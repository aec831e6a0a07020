-- What the releases of an instant tell the S machine.
use Rattle.std.specs.Prelude.{ℕ, Bool, true, List, [], ◌∷◌, set, Option, Some, None}
use Rattle.htl_runs.specs.{Common.Job, Common.EInstr, Common.Requirement, Common.Exactly, frames.LastPositions.position_from}
use Rattle.htl_ecode.specs.declared.instr.EInstr.TheVariants as I

-- the position of a released invocation is told
abbrev pub raise_at : Option ℕ → List Bool → List Bool
raise_at (Some p) bs = set bs p true
raise_at None bs = bs

abbrev pub tell : List Job → EInstr → List Bool → List Bool
tell jobs (I.Release i) bs = raise_at (position_from 0 jobs i) bs
tell jobs _ bs = bs

abbrev pub raise_want : List Job → Requirement → List Bool → List Bool
raise_want jobs (Exactly j) bs = tell jobs j bs
raise_want jobs _ bs = bs

abbrev pub raise_all : List Job → List Requirement → List Bool → List Bool
raise_all jobs [] bs = bs
raise_all jobs (w ∷ ws) bs = raise_all jobs ws (raise_want jobs w bs)
