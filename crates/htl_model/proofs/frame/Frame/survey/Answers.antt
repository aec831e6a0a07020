use Rattle.std.proofs.Common.{◌≡◌, ◌∷◌, [], ◌++◌, List, ℕ, length, take, map, arith, refl, sym, ap, ◌∙◌}
use Rattle.htl_model.proofs.{Words.nil_from_length, Words.flat_map, Words.rounds_at, Words.choices, Words.frame_of, Words.nodes_of, Words.root_modules, FrameLimits.limits_kept}
use Rattle.htl_model.proofs.FrameBuild.{some_roots, no_longer, no_frame, no_starts, no_rounds, no_radices, no_paths, end_is, frame_some, starts_are, starts_told, radices_few, paths_are, ways_some, ways_few}
use Rattle.htl_model.proofs.frame.Frame.survey.Goals as goal

pub returns-then-modules-eq0 : goal.returns-then-modules-eq0
returns-then-modules-eq0 c =
    let t = c.args.t.now in
    let none = nil_from_length (root_modules t) (omega (arith, c.fill_roots-modules.ensures.count, c.if-modules-eq0.true)) in
    record {
      limits = limits_kept t c.keeps_ranges.ensures.ranges c.requires;
      count = sym (ap (λ (xs : List ℕ). length xs) (no_starts t none));
      starts = sym (ap (λ xs. xs ++ frame_of t ∷ []) (no_starts t none) ∙ ap (λ n. n ∷ []) (no_frame t none));
      room = refl;
      round_count = omega arith;
      rounds = sym (no_rounds t none);
      radices = sym (no_radices t none);
      radix_room = refl;
      paths = sym (no_paths t none);
      nodes = sym (ap nodes_of (no_radices t none));
    }

pub hyperperiod-end-requires : goal.hyperperiod-end-requires
hyperperiod-end-requires c =
    let t = c.args.t.now in
    let some = some_roots t c.fill_roots-modules.result c.fill_roots-modules.ensures.count c.if-modules-eq0.false in
    no_longer t c.keeps_ranges.ensures.ranges c.requires some _ c.fill_roots-modules.ensures.roots

pub overflow_cast-paths : goal.overflow_cast-paths
overflow_cast-paths c = omega (arith, c.round_choices-paths.ensures)

pub fill_starts-count-requires-clause-long : goal.fill_starts-count-requires-clause-long
fill_starts-count-requires-clause-long c =
    let t = c.args.t.now in
    let some = some_roots t c.fill_roots-modules.result c.fill_roots-modules.ensures.count c.if-modules-eq0.false in
    omega (arith, end_is t c.keeps_ranges.ensures.ranges c.requires some _ c.hyperperiod-end.result c.fill_roots-modules.ensures.roots c.hyperperiod-end.ensures, frame_some t c.keeps_ranges.ensures.ranges some)

pub fill_starts-count-requires-clause-frame : goal.fill_starts-count-requires-clause-frame
fill_starts-count-requires-clause-frame c =
    let t = c.args.t.now in
    let some = some_roots t c.fill_roots-modules.result c.fill_roots-modules.ensures.count c.if-modules-eq0.false in
    omega (arith, end_is t c.keeps_ranges.ensures.ranges c.requires some _ c.hyperperiod-end.result c.fill_roots-modules.ensures.roots c.hyperperiod-end.ensures, (limits_kept t c.keeps_ranges.ensures.ranges c.requires).frame)

pub fill_starts-count-requires-clause-few : goal.fill_starts-count-requires-clause-few
fill_starts-count-requires-clause-few c =
    let t = c.args.t.now in
    let some = some_roots t c.fill_roots-modules.result c.fill_roots-modules.ensures.count c.if-modules-eq0.false in
    let end = end_is t c.keeps_ranges.ensures.ranges c.requires some _ c.hyperperiod-end.result c.fill_roots-modules.ensures.roots c.hyperperiod-end.ensures in
    omega (arith, ap (λ (xs : List ℕ). length xs) (starts_are t c.keeps_ranges.ensures.ranges c.requires some _ c.hyperperiod-end.result c.fill_roots-modules.ensures.roots end), (limits_kept t c.keeps_ranges.ensures.ranges c.requires).starts)

pub fill_radices-requires-clause-small : goal.fill_radices-requires-clause-small
fill_radices-requires-clause-small c =
    let t = c.args.t.now in
    let some = some_roots t c.fill_roots-modules.result c.fill_roots-modules.ensures.count c.if-modules-eq0.false in
    let end = end_is t c.keeps_ranges.ensures.ranges c.requires some _ c.hyperperiod-end.result c.fill_roots-modules.ensures.roots c.hyperperiod-end.ensures in
    let told = starts_told t c.keeps_ranges.ensures.ranges c.requires some _ c.hyperperiod-end.result c.fill_starts-count.result c.fill_starts-count.new.out c.fill_roots-modules.ensures.roots end c.fill_starts-count.ensures.starts c.fill_starts-count.ensures.count in
    radices_few t c.keeps_ranges.ensures.ranges c.requires some (take c.fill_starts-count.result c.fill_starts-count.new.out) told.2

pub node_count-nodes-requires-clause-some : goal.node_count-nodes-requires-clause-some
node_count-nodes-requires-clause-some c =
    let t = c.args.t.now in
    let some = some_roots t c.fill_roots-modules.result c.fill_roots-modules.ensures.count c.if-modules-eq0.false in
    let end = end_is t c.keeps_ranges.ensures.ranges c.requires some _ c.hyperperiod-end.result c.fill_roots-modules.ensures.roots c.hyperperiod-end.ensures in
    let told = starts_told t c.keeps_ranges.ensures.ranges c.requires some _ c.hyperperiod-end.result c.fill_starts-count.result c.fill_starts-count.new.out c.fill_roots-modules.ensures.roots end c.fill_starts-count.ensures.starts c.fill_starts-count.ensures.count in
    let many : length (take c.fill_starts-count.result c.fill_starts-count.new.out) ≡ c.fill_starts-count.result = ap (λ (xs : List ℕ). length xs) told.2 ∙ sym told.1 in
    ways_some t c.keeps_ranges.ensures.ranges c.requires some (take c.fill_starts-count.result c.fill_radices.new.out)
    (sym (ap (λ n. take n c.fill_radices.new.out) many) ∙ c.fill_radices.ensures.radices ∙ ap (map (λ (a : ℕ). choices t (rounds_at t a))) told.2)

pub node_count-nodes-requires-clause-ways : goal.node_count-nodes-requires-clause-ways
node_count-nodes-requires-clause-ways c =
    let t = c.args.t.now in
    let some = some_roots t c.fill_roots-modules.result c.fill_roots-modules.ensures.count c.if-modules-eq0.false in
    let end = end_is t c.keeps_ranges.ensures.ranges c.requires some _ c.hyperperiod-end.result c.fill_roots-modules.ensures.roots c.hyperperiod-end.ensures in
    let told = starts_told t c.keeps_ranges.ensures.ranges c.requires some _ c.hyperperiod-end.result c.fill_starts-count.result c.fill_starts-count.new.out c.fill_roots-modules.ensures.roots end c.fill_starts-count.ensures.starts c.fill_starts-count.ensures.count in
    let many : length (take c.fill_starts-count.result c.fill_starts-count.new.out) ≡ c.fill_starts-count.result = ap (λ (xs : List ℕ). length xs) told.2 ∙ sym told.1 in
    ways_few t c.keeps_ranges.ensures.ranges c.requires some (take c.fill_starts-count.result c.fill_radices.new.out)
    (sym (ap (λ n. take n c.fill_radices.new.out) many) ∙ c.fill_radices.ensures.radices ∙ ap (map (λ (a : ℕ). choices t (rounds_at t a))) told.2)

pub returns : goal.returns
returns c =
    let t = c.args.t.now in
    let some = some_roots t c.fill_roots-modules.result c.fill_roots-modules.ensures.count c.if-modules-eq0.false in
    let limits = limits_kept t c.keeps_ranges.ensures.ranges c.requires in
    let end = end_is t c.keeps_ranges.ensures.ranges c.requires some _ c.hyperperiod-end.result c.fill_roots-modules.ensures.roots c.hyperperiod-end.ensures in
    let told = starts_told t c.keeps_ranges.ensures.ranges c.requires some _ c.hyperperiod-end.result c.fill_starts-count.result c.fill_starts-count.new.out c.fill_roots-modules.ensures.roots end c.fill_starts-count.ensures.starts c.fill_starts-count.ensures.count in
    let many : length (take c.fill_starts-count.result c.fill_starts-count.new.out) ≡ c.fill_starts-count.result = ap (λ (xs : List ℕ). length xs) told.2 ∙ sym told.1 in
    let radices = sym (ap (λ n. take n c.fill_radices.new.out) many) ∙ c.fill_radices.ensures.radices ∙ ap (map (λ (a : ℕ). choices t (rounds_at t a))) told.2 in
    let rounds = c.fill_rounds-round_count.ensures.rounds ∙ ap (flat_map (rounds_at t)) told.2 in
    record {
      limits = limits;
      count = told.1;
      starts = told.0;
      room = c.fill_starts-count.ensures.len;
      round_count = omega (arith, c.fill_rounds-round_count.ensures.few, c.fill_rounds-round_count.ensures.len);
      rounds = rounds;
      radices = radices;
      radix_room = c.fill_radices.ensures.len;
      paths = omega (arith, c.round_choices-paths.ensures, ap (choices t) rounds, paths_are t c.keeps_ranges.ensures.ranges c.requires some, limits.choices);
      nodes = c.node_count-nodes.ensures.count ∙ ap nodes_of radices;
    }
