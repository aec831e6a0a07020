use Rattle.std.proofs.Common.{◌≡◌, ◌≤◌, ◌<◌, ◌+◌, ℕ, List, length, get_or, take, drop, add-one, sym, ap, ◌∙◌, arith}
use Rattle.htl_top.proofs.Vocabulary.{drop-cons, drop_all, get_or-take, length-take, count_by, inv_of_mode, modes_of, Tables, Round, count_places, all_zero}
use Rattle.htl_model.specs.Frames as frames
use Rattle.htl_top.proofs.PathPositions.{most_is}
use Rattle.htl_top.proofs.positions.most_positions.Goals as goal

-- a round more
one_more : (t : Tables) (n wide k count : ℕ) (rounds : List Round) (x : Round) (total : ℕ) → count ≤ length rounds → k < count → wide ≡ frames.most_invs t (modes_of t (get_or rounds k x).unit)
    → n + frames.most_positions t (drop k (take count rounds)) ≡ total → n + wide + frames.most_positions t (drop (k + 1) (take count rounds)) ≡ total
one_more t n wide k count rounds x total all less is so_far =
    let some = take count rounds in
    let inside : k < length some = let e = length-take count rounds in omega (arith, e, all, less) in
    let here = ap (frames.most_positions t) (drop-cons some k x inside) in
    let same = ap (λ (r : Round). frames.most_invs t (modes_of t r.unit)) (get_or-take count rounds k x less) in
    rw add-one (omega (arith, here, same, is, so_far))

pub count_invs-requires : goal.count_invs-requires
count_invs-requires c = λ m. all_zero 256 m

pub widest-n-requires-clause-counts : goal.widest-n-requires-clause-counts
widest-n-requires-clause-counts c =
    let invs : c.as_slice.result.now ≡ c.args.t.now.invs = c.as_slice.ensures ∙ ap (λ (t : Tables). t.invs) (sym c.parts.ensures.value) in
    λ m below. c.count_invs.ensures.counts m below ∙ ap (count_by (inv_of_mode m)) invs ∙ sym (count_places (inv_of_mode m) 0 c.args.t.now.invs)

pub returns : goal.returns
returns c =
    let t : Tables = c.args.t.now in
    let past = drop_all c.loop-k.k (take c.args.f.now.round_count c.args.f.now.rounds) (let e = length-take c.args.f.now.round_count c.args.f.now.rounds in omega (arith, e, c.loop-k-test.false)) in
    let none = ap (frames.most_positions t) past in
    omega (arith, none, c.loop-k.invariant, most_is t c.keeps_ranges.ensures.ranges)

pub overflow_add-n : goal.overflow_add-n
overflow_add-n c =
    let next = one_more c.args.t.now c.loop-k.n c.widest-n.result c.loop-k.k c.args.f.now.round_count c.args.f.now.rounds _ _ (omega arith) c.loop-k-test.true c.widest-n.ensures c.loop-k.invariant in
    omega (arith, next, c.requires.limits.most)

pub loop-k-preserved : goal.loop-k-preserved
loop-k-preserved c =
    one_more c.args.t.now c.loop-k.n c.widest-n.result c.loop-k.k c.args.f.now.round_count c.args.f.now.rounds _ _ (omega arith) c.loop-k-test.true c.widest-n.ensures c.loop-k.invariant
