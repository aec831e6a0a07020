use Rattle.std.proofs.Common.{◌≡◌, ℕ, ◌-◌, true, leb, leb-true, List, length, sym, ◌∙◌, arith}
use Rattle.htl_runs.proofs.Words.{list_all, HaveLengths, AreWithinWorst, Round, IsTold, CanBegin, each_at}
use Rattle.htl_platform.proofs.Words.{AllPass-from_list_all}
use Rattle.htl_walk.specs.declared.job.Job.{Job}
use Rattle.htl_part_tests.proofs.schedules.smach_tests.go_on.Goals as goal

-- no release before the instant is untold, and no further position is released before it
can_begin : (r : Round) (at : ℕ) (jobs : List Job) (lengths : List ℕ) → r.start ≡ 100 → IsTold r at → list_all (λ (j : Job). leb (at - 100) j.release) jobs ≡ true → length lengths ≡ length jobs → HaveLengths jobs lengths → AreWithinWorst jobs lengths → CanBegin r (at - r.start) jobs lengths
can_begin r at jobs lengths start told late same least most =
    record {
      told = λ p pending. omega (arith, told p pending);
      later = λ p j here present. omega (arith, start, leb-true (at - 100) j.release (each_at (λ (k : Job). leb (at - 100) k.release ≡ true) jobs (AllPass-from_list_all (λ (k : Job). leb (at - 100) k.release) jobs late) p j here));
      same = same;
      least = least;
      most = most;
    }

pub add-requires-clause-can : goal.add-requires-clause-can
add-requires-clause-can c =
    can_begin c.tell.new.m c.args.at c.args.more.now c.args.lengths.now (c.tell.ensures.start ∙ c.requires.start) c.tell.ensures.told (sym c.none_before.ensures ∙ c.if-not-none_before.false) (omega arith)
    (c.in_range.ensures.some c.if-not-in_range.false) (c.in_range.ensures.worst c.if-not-in_range.false)

pub returns-clause-stands : goal.returns-clause-stands
returns-clause-stands c = λ _ t. c.add.ensures.stands c.args.s.now.instrs t c.tell.ensures.stands
