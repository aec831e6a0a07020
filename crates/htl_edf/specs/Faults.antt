-- What a fault of the scheduler says.
use Rattle.std.specs.Prelude.{ℕ, List, Option, MatchOption, pos}
use Rattle.htl_walk.specs.{declared.job.Job.Job, declared.schedule.SInstr.SInstr, Walk.ScheduleIsAccepted}
use Rattle.htl_edf.specs.{declared.overload.Overload.Overload as Interval, declared.scheduler.EdfFault.EdfFault, declared.scheduler.EdfFault.TheVariants.Overload, declared.scheduler.EdfFault.TheVariants.Memory, Lists.tightened}
use Rattle.htl_edf.specs.Windows.{Windows, Reported, NoOverload}

-- the interval that is reported for windows; None where none is overloaded
abbrev pub IsReport : Windows → Option Interval → Type 0
IsReport v o = MatchOption o (NoOverload v) (λ i. Reported v i.from (pos i.to) i.demand)

-- no S code whatever is accepted for the jobs
abbrev pub NoneIsAccepted : List Job → ℕ → Type 0
NoneIsAccepted js period = (s : List SInstr) → ScheduleIsAccepted js period s → ⊥

-- the reported interval is overloaded and nothing is accepted; want of memory comes only where none is overloaded
abbrev pub Explains : List Job → ℕ → EdfFault → Type 0
Explains js period (Overload a b demand) = Reported (tightened js) a (pos b) demand × NoneIsAccepted js period
Explains js period Memory = NoOverload (tightened js)
