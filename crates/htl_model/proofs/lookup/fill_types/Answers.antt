use Rattle.std.proofs.Common.{◌+◌, ℕ, take, set, length-set, ap, ◌∙◌, length, arith}
use Rattle.htl_model.proofs.{Words.Ty, Words.comm_type, PlaceLaws.types_more, PlaceLaws.rest_same}
use Rattle.htl_model.proofs.lookup.fill_types.Goals as goal

pub loop-k-preserved : goal.loop-k-preserved
loop-k-preserved c =
    let reads = c.as_slice-reads.result.now in
    let k = c.loop-k.k in
    let f : ℕ → Ty = comm_type c.args.t.now in (
      length-set c.loop-k.types k c.comm_type.result ∙ c.loop-k.invariant.0,
      ap (λ (y : Ty). take (k + 1) (set c.loop-k.types k y)) c.comm_type.ensures
          ∙ types_more f reads c.loop-k.types k 0 c.loop-k-test.true (omega (arith, c.loop-k.invariant.0, c.requires, ap length c.as_slice-reads.ensures, c.loop-k-test.true)) c.loop-k.invariant.1,
      rest_same c.loop-k.types _ k _ c.loop-k.invariant.2,
    )
