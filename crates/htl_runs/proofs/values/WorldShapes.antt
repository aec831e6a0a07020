-- Where each value of a world is of its type, the world has a place for each.
use Rattle.std.proofs.Common.{sym, ◌∙◌, arith}
use Rattle.htl_runs.proofs.Words.{slice_get_within, KeptApart, AreInRange, Tables, IsShaped, has_ends, Content, HasPlaces}

pub has_places : (t : Tables) (w : Content) → AreInRange t → KeptApart t 12 → IsShaped t w → HasPlaces t w
has_places t w range kept s =
    record {
      values = s.values.count;
      inputs = λ i x at. (omega (arith, slice_get_within t.invs i x at, s.input_rows), (s.inputs i x at).count ∙ sym ((has_ends t 12 (omega arith) range kept).reads i x at));
      outputs = λ i x at. omega (arith, slice_get_within t.invs i x at, s.output_rows);
    }
