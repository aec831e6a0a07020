use Rattle.std.proofs.Common.{◌≡◌, ◌∙◌, sym, ap, subst, take}
use Rattle.htl_walk.proofs.{Words.All, Words.places_in, Words.path_places, Words.placed_jobs, Words.path_jobs, Words.HasTimes, Placing.formed_times}
use Rattle.htl_walk.proofs.placed.frame_jobs.Goals as goal

pub placed_jobs-requires-clause-times : goal.placed_jobs-requires-clause-times
placed_jobs-requires-clause-times c =
    let t = c.args.t.now in
    let path = c.args.path in
    let e : take c.fill_places-count.result c.fill_places-count.new.out ≡ path_places t path = c.fill_places-count.ensures.places ∙ ap (places_in t path) c.requires.frame.rounds in
    subst (λ xs. All HasTimes (placed_jobs t xs)) (sym e) (formed_times (path_jobs t path) c.requires.jobs)
