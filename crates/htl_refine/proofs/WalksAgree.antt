-- Where the modes of two runs agree so far, and the jobs take the same, so do the records of their lists.
use Rattle.std.proofs.Common.{◌≡◌, ◌+◌, get_or, map, take, refl, sym, ◌∙◌, ap, ap₂, arith}
use Rattle.htl_refine.proofs.Words.{get_or_from_slice_get, frame_of, starts, known_by, Job, walks_from, job_at, first_point, work, locality, take_walks, take_forms, FrontsAlike, WalksAgree, frame_modes, frame_places, frame_jobs, frame_at, took, lengths_of, get_taken, map_same, known_rises, job_front, take-map}
use Rattle.htl_refine.proofs.{AlongPath.legs_within, FramesAgree.frames_agree, Fronts.front_there, Fronts.take_work}

-- ---- the first lists

pub fronts_alike : FrontsAlike
fronts_alike f g k n jobs point forms within lists legs =
    let x = first_point f.jobs f.lengths in
    let y = first_point g.jobs g.lengths in
    sym (take_walks f.jobs k f.lists f.legs x)
    ∙ locality n f.jobs g.jobs (take k f.lists) (take k f.legs) x y jobs point (take_forms k f.lists f.legs forms) within
    ∙ ap₂ (λ ss gs. walks_from g.jobs ss gs y) lists legs
    ∙ take_walks g.jobs k g.lists g.legs y

-- ---- the first positions

pub walks_agree : WalksAgree
walks_agree t lists es fs f d k range alike form takes =
    let one = frame_modes t es f in
    let xs = frame_places t one in
    let m = known_by d xs in
    let ps = frame_jobs t one in
    let qs = frame_jobs t (frame_modes t fs f) in
    let is = frames_agree t lists es fs f d k range alike in
    let lengths : take m (lengths_of t es f ps) ≡ take m (lengths_of t fs f qs) =
    take-map (λ (j : Job). took t es j.inv (f + j.release)) m ps
    ∙ map_same (λ (j : Job). took t es j.inv (f + j.release)) (λ (j : Job). took t fs j.inv (f + j.release)) (take m ps) (λ q j e. let r = front_there m ps q j e in takes q j r.1 r.0)
    ∙ ap (map (λ (j : Job). took t fs j.inv (f + j.release))) is.jobs
    ∙ sym (take-map (λ (j : Job). took t fs j.inv (f + j.release)) m qs) in
    let left : take m (work ps (lengths_of t es f ps)) ≡ take m (work qs (lengths_of t fs f qs)) =
    sym (take_work m ps (lengths_of t es f ps)) ∙ ap₂ work is.jobs lengths ∙ take_work m qs (lengths_of t fs f qs) in
    fronts_alike (frame_at t lists es f) (frame_at t lists fs f) k m
    (λ p l. sym (job_front m ps p l) ∙ ap (λ js. job_at js p) is.jobs ∙ job_front m qs p l)
    (record { time = refl; left = λ p l. sym (get_taken m (work ps (lengths_of t es f ps)) p l) ∙ ap (λ ws. get_or ws p 0) left ∙ get_taken m (work qs (lengths_of t fs f qs)) p l })
    form (legs_within (frame_of t) m k xs (starts t) (λ j a l at. known_rises a d xs (omega (arith, get_or_from_slice_get (starts t) j a 0 at, alike.lists j l)))) is.lists is.legs
