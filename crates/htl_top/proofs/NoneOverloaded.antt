-- An accepted object has no overloaded path, and keeps what is asked of its tables before a worst case is raised.
use Rattle.htl_top.proofs.Vocabulary.{nodes_refused, ready, IsAccepted, Object, NoneOverloaded, instrs_of, ℕ}
use Rattle.htl_plan.proofs.PlanFrame.{keeps_apart}

pub none_overloaded : (o : Object) → IsAccepted o → NoneOverloaded o.tables
none_overloaded o accepted path below a b demand over =
    let t = o.tables in
    let ranges = accepted.spelled.formed.ranges in
    nodes_refused t path a b demand (ready t ranges.tables (keeps_apart o 12 accepted) ranges.frames) below over (instrs_of o.schedules) accepted.feasible
