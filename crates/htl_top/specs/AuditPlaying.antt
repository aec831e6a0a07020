-- The events of a script, as an auditor is told them one by one, and the end of an audit.
use Rattle.std.specs.Prelude.{◌≡◌, ℕ, List, [], ◌∷◌, ◌++◌, Option, None, Some, Ok, Err}
use Rattle.htl_top.specs.{Common.append_known, Common.first_fault, Common.Slice, Common.Rose, Common.AppendsPrefix, Common.Tables, Common.Event, Common.past_of, Common.Ahead, Audited.audited_text, Playing.IsPlaying, Stops.Ended}
use Rattle.htl_audit.specs.Auditing.{Audit, AuditFollows, IsAudited}
use Rattle.htl_model.specs.declared.event.Event.TheVariants as event
use Rattle.htl_top.specs.declared.stop.AuditStop.{AuditStop}
use Rattle.htl_top.specs.declared.stop.AuditStop.TheVariants as audit
use Rattle.htl_top.specs.declared.stop.RunStop.TheVariants as run

-- the auditor behind an event: it follows one more, or its run has ended
abbrev pub IsAuditBehind : Audit → List Event → Event → Type 0
IsAuditBehind a told (event.At to) = AuditFollows a (told ++ event.At to ∷ [])
IsAuditBehind a told (event.Sense c x) = AuditFollows a (told ++ event.Sense c x ∷ [])
IsAuditBehind a told (event.Took i n) = AuditFollows a (told ++ event.Took i n ∷ [])
IsAuditBehind a told (event.End to) = IsAudited a told to

-- the auditor behind the events told: it follows them, or its run has ended where the last is the end
abbrev pub IsAuditTold : Audit → List Event → Option ℕ → Type 0
IsAuditTold a told None = AuditFollows a told
IsAuditTold a told (Some end) = (front : List Event) × (told ≡ front ++ event.End end ∷ []) × IsAudited a front end

-- its machine is told these events as that of a run is, and the auditor with it
pub record IsAuditPlaying (t : Tables) (first now : Audit) (a : Ahead) (known rest old new : Option (List ℕ)) : Type 0 where
  pub run : IsPlaying t first.machine now.machine a known rest old new
  pub told : IsAuditTold now run.told (past_of run.told).end
  pub log : now.log ≡ first.log

-- behind the lines of a run that has ended: what was audited is written where the log has no fault, or a prefix of it; else nothing
abbrev pub IsConcluded : Tables → List Event → ℕ → List Slice → Option (List ℕ) → Option (List ℕ) → ℕ → ℕ → Ended AuditStop → Type 0
IsConcluded t es end log old new before now (Ok done) = (first_fault t es end log ≡ None) × (new ≡ append_known old (audited_text t es end log))
IsConcluded t es end log old new before now (Err (audit.Log f)) = (first_fault t es end log ≡ Some f) × (new ≡ old)
IsConcluded t es end log old new before now (Err (audit.Run s)) =
    (s ≡ run.Write) × Rose before now × (first_fault t es end log ≡ None) × AppendsPrefix old new (audited_text t es end log)
