-- An accepted object is a loaded program.
use Rattle.htl_runs.proofs.Words.{KeptTo, IsAccepted, Object, arith, kept_apart, kept_all, IsLoaded, schedules_of}

pub accepted_is_loaded : (o : Object) → IsAccepted o → IsLoaded o.tables (schedules_of o)
accepted_is_loaded o accepted =
    let rules = kept_all o.tables accepted.spelled.formed.formed in
    let first : KeptTo o.tables 12 = λ r s have need small broken. rules r s have need (omega (arith, small)) broken in
    record { range = accepted.spelled.formed.ranges.tables; kept = kept_apart o.tables 12 first; rules = kept_apart o.tables 16 rules; feasible = accepted.feasible }
