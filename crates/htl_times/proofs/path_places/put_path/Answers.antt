use Rattle.std.proofs.Common.{◌+◌, ◌++◌, List, take, drop, arith, sym, ap, ◌∙◌, append_assoc}
use Rattle.htl_model.specs.{declared.frame.Place.Place, Frames.places_in, Frames.rounds}
use Rattle.htl_times.proofs.PathRounds.{count_some, mode_within, begins_rise, ends_within, next_round, round_length}
use Rattle.htl_times.proofs.path_places.put_path.Goals as goal

pub nonzero_div-behind : goal.nonzero_div-behind
nonzero_div-behind c =
    count_some c.args.t.now c.keeps_ranges.ensures.ranges c.args.survey.now c.requires.survey c.loop-k.k c.args.path c.loop-k.behind (omega (arith, c.loop-k-test.true, c.requires.survey.count)) c.loop-k.invariant.behind c.loop-k.invariant.some

pub nonzero_div-mode : goal.nonzero_div-mode
nonzero_div-mode c =
    (next_round c.args.t.now c.keeps_ranges.ensures.ranges c.args.survey.now c.requires.survey c.loop-k.k c.args.path c.loop-k.behind (omega (arith, c.loop-k-test.true, c.requires.survey.count)) c.loop-k.invariant.behind c.loop-k.invariant.some).2

pub nonzero_rem-mode : goal.nonzero_rem-mode
nonzero_rem-mode c =
    count_some c.args.t.now c.keeps_ranges.ensures.ranges c.args.survey.now c.requires.survey c.loop-k.k c.args.path c.loop-k.behind (omega (arith, c.loop-k-test.true, c.requires.survey.count)) c.loop-k.invariant.behind c.loop-k.invariant.some

pub bounds-survey-mode : goal.bounds-survey-mode
bounds-survey-mode c =
    omega (
      arith,
      mode_within c.args.t.now c.keeps_ranges.ensures.ranges c.args.survey.now c.requires.survey c.loop-k.k c.args.path c.loop-k.behind (omega (arith, c.loop-k-test.true, c.requires.survey.count)) c.loop-k.invariant.behind c.loop-k.invariant.some,
      c.keeps_ranges.ensures.ranges.few_modes,
    )

pub bounds-survey-mode-in-loop-k : goal.bounds-survey-mode-in-loop-k
bounds-survey-mode-in-loop-k c =
    omega (
      arith,
      mode_within c.args.t.now c.keeps_ranges.ensures.ranges c.args.survey.now c.requires.survey c.loop-k.k c.args.path c.loop-k.behind (omega (arith, c.loop-k-test.true, c.requires.survey.count)) c.loop-k.invariant.behind c.loop-k.invariant.some,
      c.keeps_ranges.ensures.ranges.few_modes,
    )

pub overflow_sub-survey : goal.overflow_sub-survey
overflow_sub-survey c =
    begins_rise c.args.t.now c.keeps_ranges.ensures.ranges c.args.survey.now c.requires.survey c.loop-k.k c.args.path c.loop-k.behind (omega (arith, c.loop-k-test.true, c.requires.survey.count)) c.loop-k.invariant.behind c.loop-k.invariant.some

pub put_round-n-requires-clause-few : goal.put_round-n-requires-clause-few
put_round-n-requires-clause-few c =
    omega (
      arith,
      begins_rise c.args.t.now c.keeps_ranges.ensures.ranges c.args.survey.now c.requires.survey c.loop-k.k c.args.path c.loop-k.behind (omega (arith, c.loop-k-test.true, c.requires.survey.count)) c.loop-k.invariant.behind c.loop-k.invariant.some,
      ends_within c.args.t.now c.keeps_ranges.ensures.ranges c.args.survey.now c.requires.survey c.loop-k.k c.args.path c.loop-k.behind (omega (arith, c.loop-k-test.true, c.requires.survey.count)) c.loop-k.invariant.behind c.loop-k.invariant.some,
    )

pub put_round-n-requires-clause-room : goal.put_round-n-requires-clause-room
put_round-n-requires-clause-room c =
    omega (
      arith,
      c.loop-k.invariant.count,
      c.loop-k.invariant.len,
      c.requires.room,
      c.requires.limits.positions c.args.path,
      round_length c.args.t.now c.keeps_ranges.ensures.ranges c.args.survey.now c.requires.survey c.loop-k.k c.args.path c.loop-k.behind (omega (arith, c.loop-k-test.true, c.requires.survey.count)) c.loop-k.invariant.behind c.loop-k.invariant.some,
    )

pub loop-k-preserved : goal.loop-k-preserved
loop-k-preserved c =
    let s = next_round c.args.t.now c.keeps_ranges.ensures.ranges c.args.survey.now c.requires.survey c.loop-k.k c.args.path c.loop-k.behind (omega (arith, c.loop-k-test.true, c.requires.survey.count)) c.loop-k.invariant.behind c.loop-k.invariant.some in
    let rest = places_in c.args.t.now c.args.path (drop (c.loop-k.k + 1) (rounds c.args.t.now)) in
    record {
      behind = s.1;
      some = s.2;
      front = ap (λ (xs : List Place). xs ++ rest) c.put_round-n.ensures.front ∙ append_assoc (take c.loop-k.n c.loop-k.out) _ rest ∙ ap (λ (xs : List Place). take c.loop-k.n c.loop-k.out ++ xs) (sym s.0) ∙ c.loop-k.invariant.front;
      count = omega (
        arith,
        c.put_round-n.ensures.count,
        c.loop-k.invariant.count,
        round_length c.args.t.now c.keeps_ranges.ensures.ranges c.args.survey.now c.requires.survey c.loop-k.k c.args.path c.loop-k.behind (omega (arith, c.loop-k-test.true, c.requires.survey.count)) c.loop-k.invariant.behind c.loop-k.invariant.some,
      );
      len = c.put_round-n.ensures.len ∙ c.loop-k.invariant.len;
    }
