-- What the calls of an instant ask for, from what the machine holds before it.
use Rattle.std.proofs.Common.{◌≡◌, ℕ, ◌-◌, ◌≤◌, true, false, ◌&&◌, ltb, [], length, get_or, refl, sym, ap, ◌∙◌, arith}
use Rattle.htl_runs.proofs.Words.{ltb-false, Tables, job_at, job_there, Round, IsTold, no_round, pending_is, Plan, list_walk, count_left_before, Content, SMachineStands, SMachineAt, Records}
use Rattle.htl_smach.specs.Rounds as rounds
use Rattle.htl_runs.proofs.{records.SMachineInstants.s_machine_opens, records.ReleasedBefore.flag_at}

-- no release before the instant is left untold
pub at_told : (p : Plan) (s k now : ℕ) (r : Round) → s ≤ now → SMachineAt p s k (now - s) r → IsTold r now
at_told p s k now r past f q pend =
    let h = pending_is r q pend in
    let here : (job_at p.jobs q).present ≡ true = ap (λ js. (job_at js q).present) (sym f.jobs) ∙ h.present in
    let flag : ((job_at p.jobs q).present && ltb (job_at p.jobs q).release (now - s)) ≡ false =
    sym (flag_at (now - s) p.jobs q (job_at p.jobs q) (job_there p.jobs q here)) ∙ ap (λ bs. get_or bs q false) (sym f.released) ∙ h.told in
    let late : now - s ≤ (job_at p.jobs q).release = ltb-false (job_at p.jobs q).release (now - s) (sym (ap (λ b. b && ltb (job_at p.jobs q).release (now - s)) here) ∙ flag) in
    omega (arith, late, f.start, ap (λ js. (job_at js q).release) f.jobs, past)

pub stands_told : (p : Plan) (s now : ℕ) (r : Round) → s ≤ now → SMachineStands p s now r → IsTold r now
stands_told p s now r past f = at_told p s (count_left_before (now - s) (list_walk p)) now r past (s_machine_opens p s now r f)

-- where there is no list
abbrev pub no_list : Plan
no_list = record { jobs = []; lengths = []; first = record { time = 0; left = [] }; schedule = [] }

-- before the first instant there is none
pub first_s_machine : (r : Round) → r ≡ no_round → rounds.Stands r [] → SMachineAt no_list 0 0 0 r
first_s_machine r none st = grind arith

-- so no record is left, and the world stays
pub first_recorded : (t : Tables) (at : ℕ) (r d : Round) (w v : Content) → r ≡ no_round → rounds.Stands r [] → Records t r w d v [] at → v ≡ w
first_recorded t at r d w v none st rec = (rec no_list 0 0 0 refl (omega arith) (omega arith) (first_s_machine r none st)).1

pub first_left : (t : Tables) (at : ℕ) (r d : Round) (w v : Content) → r ≡ no_round → rounds.Stands r [] → Records t r w d v [] at → SMachineAt no_list 0 0 0 d
first_left t at r d w v none st rec = (rec no_list 0 0 0 refl (omega arith) (omega arith) (first_s_machine r none st)).0

pub first_over : (t : Tables) (at : ℕ) (r d : Round) (w v : Content) → r ≡ no_round → rounds.Stands r [] → Records t r w d v [] at → d.running ≡ false
first_over t at r d w v none st rec = (first_left t at r d w v none st rec).running
