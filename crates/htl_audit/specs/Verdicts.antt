-- What an auditor follows of a log, and its verdict.
use Rattle.std.specs.Prelude.{◌≡◌, ℕ, suc, cond, ltb, List, [], take, Option, Some, None, Ok, Err}
use Rattle.std.specs.declared.result.Result.{Result}
use Rattle.htl_model.specs.Tables.{Tables}
use Rattle.htl_audit.specs.{declared.slice.Slice.Slice, declared.slice.LogFault.LogFault, Jobs.BeginningJobs, Legal.any_short, Legal.fault_at, Keeping.Kept, Lines.AreJudged, Lines.AreAllJudged, Lines.BeganBefore}
use Rattle.htl_audit.specs.declared.slice.LogKind.TheVariants as kind

-- before instant `now`: the lines that end before it are judged, up to the first fault; where there is none, it is kept whether a
-- job fell short whose window ended before
pub record LogFollows (t : Tables) (rounds : List BeginningJobs) (now : ℕ) (log : List Slice) (k : Kept) : Type 0 where
  pub judged : AreJudged t rounds now [] log k
  pub short : k.fault ≡ None → k.short ≡ any_short rounds now (take judged.count log)
  pub began : BeganBefore now k

-- the same at the end of a run
pub record LogEnds (rounds : List BeginningJobs) (now : ℕ) (log : List Slice) (k : Kept) : Type 0 where
  pub judged : AreAllJudged rounds now log k
  pub short : k.fault ≡ None → k.short ≡ any_short rounds now (take judged.count log)

-- the numbers of an audit: the jobs whose slices add up to what they take, and the lines
pub record Numbers : Type 0 where
  pub jobs : ℕ
  pub slices : ℕ

-- behind the last line that ends by the end of the run
abbrev pub ended : Kept → ℕ → Result Numbers LogFault
ended k lines =
    cond (ltb k.place lines) (Err (fault_at (suc k.place) kind.Order))
    (cond k.short (Err (fault_at (suc lines) kind.Short)) (Ok (record { jobs = k.done; slices = lines })))

abbrev pub verdict_of : Kept → ℕ → Result Numbers LogFault
verdict_of k lines = elim k.fault [ Some f ↦ Err f | None ↦ ended k lines ]

abbrev pub fault_in : Result Numbers LogFault → Option LogFault
fault_in (Ok n) = None
fault_in (Err f) = Some f
