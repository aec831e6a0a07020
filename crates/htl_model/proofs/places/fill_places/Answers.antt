use Rattle.std.proofs.Common.{◌+◌, ◌++◌, length, take, drop, arith, sym, ap, ◌∙◌, append_assoc}
use Rattle.htl_model.proofs.{Words.length-append, Words.invs_of, Words.places_of, Words.places_in, PlaceSteps.place_next, PlaceSteps.round_at}
use Rattle.htl_model.proofs.places.fill_places.Goals as goal

pub put_places-n-requires-clause-room : goal.put_places-n-requires-clause-room
put_places-n-requires-clause-room c =
    let rounds = c.args.rounds.now in
    let s = place_next c.args.t.now rounds c.loop-k.k c.args.path c.loop-k.behind c.mode_count-count.result c.mode_at-mode.result (omega arith) c.loop-k.invariant.behind c.loop-k.invariant.some c.mode_count-count.ensures.count c.mode_at-mode.ensures in
    let front = places_of (round_at rounds c.loop-k.k).at (invs_of c.args.t.now c.mode_at-mode.result) in
    let rest = places_in c.args.t.now c.args.path (drop (c.loop-k.k + 1) rounds) in
    omega (arith, c.loop-k.invariant.count, c.loop-k.invariant.len, c.requires.room, ap (λ (xs : _). length xs) s.0 ∙ length-append front rest)

pub loop-k-preserved : goal.loop-k-preserved
loop-k-preserved c =
    let rounds = c.args.rounds.now in
    let s = place_next c.args.t.now rounds c.loop-k.k c.args.path c.loop-k.behind c.mode_count-count.result c.mode_at-mode.result (omega arith) c.loop-k.invariant.behind c.loop-k.invariant.some c.mode_count-count.ensures.count c.mode_at-mode.ensures in
    let front = places_of (round_at rounds c.loop-k.k).at (invs_of c.args.t.now c.mode_at-mode.result) in
    let rest = places_in c.args.t.now c.args.path (drop (c.loop-k.k + 1) rounds) in
    record {
      behind = s.1;
      some = s.2;
      front = ap (λ (xs : _). xs ++ rest) c.put_places-n.ensures.front ∙ append_assoc (take c.loop-k.n c.loop-k.out) front rest ∙ ap (λ (xs : _). take c.loop-k.n c.loop-k.out ++ xs) (sym s.0) ∙ c.loop-k.invariant.front;
      count = omega (arith, c.put_places-n.ensures.count, c.loop-k.invariant.count, ap (λ (xs : _). length xs) s.0 ∙ length-append front rest);
      len = c.put_places-n.ensures.len ∙ c.loop-k.invariant.len;
    }
