-- The object and the log of an audit.
use Rattle.std.proofs.Common.{◌≡◌, List, subst}
use Rattle.htl_top.proofs.Vocabulary.{Slice, Object, Streams, IsAuditRun}
use Rattle.htl_top.specs.{Stops.Ended, declared.stop.AuditStop.AuditStop}

-- an auditor's object and log are those that it was given
pub audited_here : (o p : Object) (log slices : List Slice) (old new : Streams) (r : Ended AuditStop) → p ≡ o → slices ≡ log → IsAuditRun slices p old new r → IsAuditRun log o old new r
audited_here o p log slices old new r same is run =
    subst (λ (xs : List Slice). IsAuditRun xs o old new r) is (subst (λ (x : Object). IsAuditRun slices x old new r) same run)
