-- What records do to the world.
use Rattle.htl_runs.specs.Common.{ℕ, zero, suc, cond, List, slice_get, Option, Some, None, Tables, Job, Left, job_at}
use Rattle.htl_emach.specs.Contents.{Content, completed}

abbrev pub complete_at : Tables → List Job → Option ℕ → Content → Content
complete_at t jobs None w = w
complete_at t jobs (Some p) w = completed t (job_at jobs p).inv w

-- a record that finishes a job puts its outputs out
abbrev pub complete_by : Tables → List Job → Option Left → Content → Content
complete_by t jobs None w = w
complete_by t jobs (Some l) w = cond l.finished (complete_at t jobs l.position w) w

-- n records from place k on
abbrev pub run_records : Tables → List Job → List Left → ℕ → ℕ → Content → Content
run_records t jobs ls zero k w = w
run_records t jobs ls (suc n) k w = run_records t jobs ls n (suc k) (complete_by t jobs (slice_get ls k) w)
