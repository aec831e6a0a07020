-- What a list that begins is given: how long its jobs take, and the instructions of its node.
use Rattle.htl_runs.specs.Common.{ℕ, List, get_or, map, Job, SInstr, Schedule}

-- how long the jobs take, by what is kept of each invocation
abbrev pub kept_lengths : List ℕ → List Job → List ℕ
kept_lengths takes jobs = map (λ (j : Job). get_or takes j.inv 0) jobs

-- the instructions of each schedule
abbrev pub instrs_of : List Schedule → List (List SInstr)
instrs_of schedules = map (λ (s : Schedule). s.instrs) schedules
