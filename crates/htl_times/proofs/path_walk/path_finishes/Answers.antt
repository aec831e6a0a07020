use Rattle.std.proofs.Common.{map, sum, subst, sym, ap, ◌∙◌}
use Rattle.std.specs.List.{All}
use Rattle.htl_times.proofs.{BareWalks.bare_jobs, BareWalks.bare_short, BareWalks.bare_worst, BareWalks.times_alone, Words.formed_times, Words.path_jobs, Words.path_places, Words.worst_cases}
use Rattle.htl_times.specs.BareJobs.{HasTimesAlone, IsShort, bare_job}
use Rattle.htl_times.proofs.path_walk.path_finishes.Goals as goal

pub fill_bare-requires-clause-times : goal.fill_bare-requires-clause-times
fill_bare-requires-clause-times c =
    let t = c.args.p.t.now in
    let path = c.args.p.path in
    subst (All (HasTimesAlone t)) (sym c.requires.places) (times_alone t (path_places t path) (formed_times (path_jobs t path) (c.requires.walkable.jobs path c.requires.path)))

pub walk_lists-requires-clause-jobs : goal.walk_lists-requires-clause-jobs
walk_lists-requires-clause-jobs c = c.fill_bare.ensures ∙ ap (map (bare_job c.args.p.t.now)) c.requires.places ∙ bare_jobs c.args.p.t.now (path_places c.args.p.t.now c.args.p.path)

pub sum_worst-requires-clause-short : goal.sum_worst-requires-clause-short
sum_worst-requires-clause-short c =
    let t = c.args.p.t.now in
    let path = c.args.p.path in
    let jobs = c.fill_bare.ensures ∙ ap (map (bare_job t)) c.requires.places ∙ bare_jobs t (path_places t path) in
    subst (All IsShort) (sym jobs) (bare_short (path_jobs t path) (c.requires.walkable.jobs path c.requires.path).each)

pub returns-clause-busy : goal.returns-clause-busy
returns-clause-busy c =
    let t = c.args.p.t.now in
    let path = c.args.p.path in
    let jobs = c.fill_bare.ensures ∙ ap (map (bare_job t)) c.requires.places ∙ bare_jobs t (path_places t path) in
    c.sum_worst.ensures ∙ ap (λ js. sum (worst_cases js)) jobs ∙ ap (λ ns. sum ns) (bare_worst (path_jobs t path))
