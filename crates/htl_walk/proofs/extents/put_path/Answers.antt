use Rattle.std.proofs.Common.{◌+◌, ◌/◌, ◌%◌, ◌++◌, get_or, refl, length, take, drop, arith, sym, ap, ◌∙◌, append_assoc}
use Rattle.htl_walk.proofs.{Words.length-append, Words.modes_of, Words.invs_of, Words.places_of, Words.places_in, ExtentLaws.found}
use Rattle.htl_model.proofs.PlaceSteps.{place_next, round_at}
use Rattle.htl_walk.proofs.extents.put_path.Goals as goal

pub nonzero_div-path : goal.nonzero_div-path
nonzero_div-path c =
    let t = c.args.t.now in
    let modes = modes_of t (round_at c.args.rounds.now c.loop-k.k).unit in
    let count = c.extent_at-modes.result.count in
    let behind = c.loop-k.behind in
    (place_next t c.args.rounds.now c.loop-k.k c.args.path behind count (get_or modes (c.args.path / (behind / count) % count) 0) (omega arith) c.loop-k.invariant.behind c.loop-k.invariant.some
    (found t c.args.extents.now (round_at c.args.rounds.now c.loop-k.k).unit c.extent_at-modes.result c.requires.extents c.extent_at-modes.ensures) refl).2

pub put_round-n-requires-clause-room : goal.put_round-n-requires-clause-room
put_round-n-requires-clause-room c =
    let rounds = c.args.rounds.now in
    let s = place_next c.args.t.now rounds c.loop-k.k c.args.path c.loop-k.behind c.extent_at-modes.result.count c.mode_at-mode.result (omega arith) c.loop-k.invariant.behind c.loop-k.invariant.some (found c.args.t.now c.args.extents.now (round_at rounds c.loop-k.k).unit c.extent_at-modes.result c.requires.extents c.extent_at-modes.ensures) c.mode_at-mode.ensures in
    let front = places_of (round_at rounds c.loop-k.k).at (invs_of c.args.t.now c.mode_at-mode.result) in
    let rest = places_in c.args.t.now c.args.path (drop (c.loop-k.k + 1) rounds) in
    omega (arith, c.loop-k.invariant.count, c.loop-k.invariant.len, c.requires.room, ap (λ (xs : _). length xs) s.0 ∙ length-append front rest)

pub loop-k-preserved : goal.loop-k-preserved
loop-k-preserved c =
    let rounds = c.args.rounds.now in
    let s = place_next c.args.t.now rounds c.loop-k.k c.args.path c.loop-k.behind c.extent_at-modes.result.count c.mode_at-mode.result (omega arith) c.loop-k.invariant.behind c.loop-k.invariant.some (found c.args.t.now c.args.extents.now (round_at rounds c.loop-k.k).unit c.extent_at-modes.result c.requires.extents c.extent_at-modes.ensures) c.mode_at-mode.ensures in
    let front = places_of (round_at rounds c.loop-k.k).at (invs_of c.args.t.now c.mode_at-mode.result) in
    let rest = places_in c.args.t.now c.args.path (drop (c.loop-k.k + 1) rounds) in
    record {
      behind = s.1;
      some = s.2;
      front = ap (λ (xs : _). xs ++ rest) c.put_round-n.ensures.front ∙ append_assoc (take c.loop-k.n c.loop-k.out) front rest ∙ ap (λ (xs : _). take c.loop-k.n c.loop-k.out ++ xs) (sym s.0) ∙ c.loop-k.invariant.front;
      count = omega (arith, c.put_round-n.ensures.count, c.loop-k.invariant.count, ap (λ (xs : _). length xs) s.0 ∙ length-append front rest);
      len = c.put_round-n.ensures.len ∙ c.loop-k.invariant.len;
    }
