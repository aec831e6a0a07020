-- At each instant the jobs of the frame are those so far.
use Rattle.std.proofs.Common.{◌≡◌, ◌+◌, ◌-◌, ◌*◌, ◌/◌, ◌%◌, ◌<◌, arith}
use Rattle.htl_runs.proofs.{Words.div-add-mod, Words.mod-lt, Words.frame_of, Words.state, Words.standing_places, Words.places_ordered, Words.begun_by, Words.FrameJobsStand, frames.PlacedStays.placed_by_modes}
use Rattle.htl_runs.proofs.frames.PlacedJobs.{jobs_of_placing}

pub frame_jobs_so_far : FrameJobsStand
frame_jobs_so_far t es n f range kept some at_frame =
    let h = frame_of t in
    let whole : h * (n / h) + n % h ≡ n = div-add-mod n h in
    let rest : n % h < h = mod-lt n some in
    let m = begun_by t es f n in
    jobs_of_placing t (state t es n).stays f n m (standing_places t es f)
    (placed_by_modes t es n f m range kept at_frame (omega (arith, at_frame, whole)) (omega (arith, at_frame, whole, rest)) (places_ordered t es f (n - f) range kept))
