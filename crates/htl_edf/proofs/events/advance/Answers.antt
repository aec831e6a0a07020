use Rattle.std.proofs.Common.{arith, ◌≡◌, sym, ap, ◌∙◌, ◌+◌, ◌-◌, ◌≤◌, ◌<◌, get_or, ℕ, List, Some, None, length}
use Rattle.htl_edf.proofs.{Words.Job, Words.edf, Words.jobs_of, Words.QuietFrom, Words.tight, Jumps.runs_some, Jumps.left_some, Jumps.runs_none, Jumps.left_none, Jumps.some_chosen}
use Rattle.htl_edf.proofs.ReadyRanks.{lowest_runs, none_runs, quiet_ahead, ahead_after}
use Rattle.htl_edf.proofs.events.advance.Goals as goal
use Rattle.htl_edf.proofs.events.advance.Goals.{then-until-t, else-until-t}

idle : (c : goal.Then-rank-ranks) → edf (tight (jobs_of c.args.ranks.jobs.now)) c.args.t ≡ None
idle c =
    let ranks = c.args.ranks in
    let a = c.args.ahead.now in
    none_runs ranks.jobs.now ranks.by_end.now ranks.by_release.now c.requires.ranked c.args.left.now c.args.t a.until a.ready a.released c.requires.ahead c.requires.lefts c.requires.early
    (λ x l. c.next_bit-rank.ensures.skipped x (omega arith) (omega (arith, l, c.if-rank-ranks.true)))

pub returns-then-rank-ranks-clause-runs : goal.returns-then-rank-ranks-clause-runs
returns-then-rank-ranks-clause-runs c =
    let ranks = c.args.ranks in
    let a = c.args.ahead.now in
    runs_none ranks.jobs.now c.args.t a.until (idle c) c.requires.early (quiet_ahead ranks.jobs.now ranks.by_end.now ranks.by_release.now c.requires.ranked c.args.left.now c.args.t a.until a.ready a.released c.requires.ahead)

pub returns-then-rank-ranks-clause-lefts : goal.returns-then-rank-ranks-clause-lefts
returns-then-rank-ranks-clause-lefts c =
    let ranks = c.args.ranks in
    let a = c.args.ahead.now in
    left_none ranks.jobs.now c.args.left.now c.args.t a.until c.requires.lefts (idle c) c.requires.early
    (quiet_ahead ranks.jobs.now ranks.by_end.now ranks.by_release.now c.requires.ranked c.args.left.now c.args.t a.until a.ready a.released c.requires.ahead)

-- no release lies between t and an earlier event
sooner : (js : List Job) (t u h : ℕ) → h ≤ u → QuietFrom js t u → QuietFrom js t h
sooner js t u h l q = record { quiet = λ p k f. omega (arith, q.quiet p k f) }

runs : (c : goal.After-ahead-1) → edf (tight (jobs_of c.args.ranks.jobs.now)) c.args.t ≡ Some c.position-p.result
runs c =
    let ranks = c.args.ranks in
    let a = c.args.ahead.now in
    let next = c.next_bit-rank.ensures in
    let below : c.next_bit-rank.result < length ranks.jobs.now = omega (arith, next.most, c.if-rank-ranks.false) in
    lowest_runs ranks.jobs.now ranks.by_end.now ranks.by_release.now c.requires.ranked c.args.left.now c.args.t a.until a.ready a.released c.requires.ahead c.requires.lefts c.requires.early
    c.next_bit-rank.result below (next.found below) (λ x l. next.skipped x (omega arith) l)
    ∙ ap Some (sym c.position-p.ensures.is)

-- the event comes after t, when no more than the work left was done, and no later than the next release
bounds : (c : goal.After-ahead-1) → (c.args.t < c.if-until-t.event) × (c.if-until-t.event ≤ c.args.t + get_or c.args.left.now c.position-p.result 0) × (c.if-until-t.event ≤ c.args.ahead.now.until)
bounds c =
    let some = some_chosen c.args.ranks.jobs.now c.args.left.now c.args.t (Some c.position-p.result) c.requires.lefts (sym (runs c)) in
    let early = c.requires.early in
    elim c.if-until-t.branch [ then-until-t b ↦ omega (arith, b, some.1, early) | else-until-t b ↦ omega (arith, b, some.1, early) ]

quiet : (c : goal.After-ahead-1) → QuietFrom c.args.ranks.jobs.now c.args.t c.if-until-t.event
quiet c =
    let ranks = c.args.ranks in
    let a = c.args.ahead.now in
    sooner ranks.jobs.now c.args.t a.until c.if-until-t.event (bounds c).2
    (quiet_ahead ranks.jobs.now ranks.by_end.now ranks.by_release.now c.requires.ranked c.args.left.now c.args.t a.until a.ready a.released c.requires.ahead)

pub returns-clause-runs : goal.returns-clause-runs
returns-clause-runs c =
    let b = bounds c in
    runs_some c.args.ranks.jobs.now c.args.left.now c.args.t c.if-until-t.event c.position-p.result c.requires.lefts (runs c) c.position-p.ensures.within b.0 b.1 (quiet c)

pub returns-clause-lefts : goal.returns-clause-lefts
returns-clause-lefts c =
    let b = bounds c in
    left_some c.args.ranks.jobs.now c.args.left.now c.args.t c.if-until-t.event c.position-p.result c.requires.lefts (runs c) c.position-p.ensures.within c.requires.left_same b.0 b.1 (quiet c)

pub returns-clause-ahead : goal.returns-clause-ahead
returns-clause-ahead c =
    let ranks = c.args.ranks in
    let left = c.args.left.now in
    let a = c.args.ahead.now in
    let p = c.position-p.result in
    let b = bounds c in
    let next = c.next_bit-rank.ensures in
    let below : c.next_bit-rank.result < length ranks.jobs.now = omega (arith, next.most, c.if-rank-ranks.false) in
    ahead_after ranks.jobs.now ranks.by_end.now ranks.by_release.now c.requires.ranked left c.args.t a.until a.ready a.released c.requires.ahead
    c.if-until-t.event c.after_run-ahead.result c.next_bit-rank.result p (get_or left p 0 - (c.if-until-t.event - c.args.t)) c.position-p.ensures.is (omega (arith, b.0)) below
    (omega (arith, c.position-p.ensures.within, c.requires.left_same)) (next.found below) c.after_run-ahead.ensures
