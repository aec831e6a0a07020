-- Tables have the same schedules, whatever functions they have.
use Rattle.htl_edf.proofs.Words.{List, refl, ap, round_length, selection_count_same, Job, abstract_jobs_same, edf_schedule, FunctionsDecideNoPlan}

pub functions_decide_no_plan : FunctionsDecideNoPlan
functions_decide_no_plan t fs =
    record {
      count = selection_count_same t fs;
      round = refl;
      plans = λ sel. ap (λ (js : List Job). edf_schedule js (round_length t)) (abstract_jobs_same t fs sel);
    }
