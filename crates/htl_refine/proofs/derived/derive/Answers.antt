use Rattle.std.proofs.Common.{◌≡◌, ◌∙◌, ap, ℕ, List, Option, length, arith}
use Rattle.htl_refine.proofs.{Words.length-map, Words.chosen, Words.Tables, Words.kept_apart, Words.job_of, Words.new_jobs, Words.running_positions, Words.standing, FirstRound.new_are, Inherit.refinement, RootSelection.few_positions}
use Rattle.htl_refine.proofs.derived.derive.Goals as goal

many : (t : Tables) (m : List (Option ℕ)) → length (new_jobs t m 0 0) ≡ length (running_positions t m)
many t m = ap (λ js. length js) (new_are t m) ∙ length-map (standing t m) (job_of t (standing t m)) ∙ length-map (running_positions t m) (chosen t m)

pub derive_begun-requires-clause-kept : goal.derive_begun-requires-clause-kept
derive_begun-requires-clause-kept c = kept_apart c.args.t.now 16 c.requires.kept

pub derive_begun-requires-clause-room : goal.derive_begun-requires-clause-room
derive_begun-requires-clause-room c = omega (arith, many c.args.t.now c.args.s.now.modes, few_positions c.args.t.now c.args.s.now.modes c.requires.selection c.requires.limits)

pub returns-clause-count : goal.returns-clause-count
returns-clause-count c = omega (arith, c.derive_begun.ensures.count, many c.args.t.now c.args.s.now.modes)

pub returns-clause-jobs : goal.returns-clause-jobs
returns-clause-jobs c = c.derive_begun.ensures.jobs ∙ new_are c.args.t.now c.args.s.now.modes

pub returns-clause-refines : goal.returns-clause-refines
returns-clause-refines c = λ sel roots.
    refinement c.args.t.now sel c.args.s.now.modes (record { range = c.keeps_ranges.ensures.ranges; kept = c.requires.kept; selection = c.requires.selection; roots = roots })
