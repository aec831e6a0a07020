-- What `go` shows of the jobs of a source, down to the lines.
use Rattle.std.proofs.Common.{ℕ, List, ◌++◌, None, refl, sym, ap, ◌∙◌}
use Rattle.htl_top.proofs.Vocabulary.{built_accepted, built, coded, codes, Jobs, accepted_is_loaded, run_shows, old_alone, jobs_are_found, told_in_time, job_lines_to, schedules_of, text_of, lines_text, value_lines, hyper, whole-script, script_same, GoShowsJobLines, GoTellsJobsInTime, GoJobLinesAreFound}
use Rattle.htl_audit.proofs.{OwnLegal.own_log_is_legal, OwnLines.own_log_is_found}
use Rattle.htl_audit.specs.Own.{own_log}
use Rattle.htl_top.proofs.{Meaning.go_shows, Playing.took_within, SourceNames.source_named, SourceNames.coded_named}
use Rattle.htl_top.specs.JobLaws.{GoTellsALegalLog}

pub go_job_lines : GoShowsJobLines
go_job_lines t es now can =
    go_shows t es now can
    ∙ ap (λ (xs : List ℕ). xs ++ lines_text t (value_lines t es now)) (old_alone (coded t) (schedules_of (built t)) es (hyper t) now)

pub go_in_time : GoTellsJobsInTime
go_in_time t script events end can whole =
    let loaded = accepted_is_loaded (built t) (built_accepted None t can) in
    let are = (whole-script (coded t) script events end (sym (script_same t (codes t) script) ∙ whole)).0 in (
      run_shows (coded t) (schedules_of (built t)) events (built t).ecode Jobs refl end,
      told_in_time (coded t) (schedules_of (built t)) loaded events (took_within (coded t) events are) end,
    )

pub go_lines_found : GoJobLinesAreFound
go_lines_found source t events end tables =
    jobs_are_found (coded t) (coded_named t (source_named source t tables)) (text_of (built t) events Jobs end)
    (job_lines_to (coded t) (schedules_of (built t)) events end) (run_shows (coded t) (schedules_of (built t)) events (built t).ecode Jobs refl end)

pub go_legal_log : GoTellsALegalLog
go_legal_log source t script events end tables can whole =
    let are = (whole-script (coded t) script events end (sym (script_same t (codes t) script) ∙ whole)).0 in (
      own_log (coded t) (schedules_of (built t)) events end,
      own_log_is_found (built t) events Jobs end (coded_named t (source_named source t tables)) refl,
      (own_log_is_legal (built t) events end (built_accepted None t can) (took_within (coded t) events are)).0,
    )
