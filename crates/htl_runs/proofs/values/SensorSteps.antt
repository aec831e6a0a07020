-- Sensors that are set one by one.
use Rattle.std.proofs.Common.{arith, ◌≡◌, ℕ, ◌%◌, Bool, true, false, cond, eqb, List, get_or, set, slice_get, Some, ℤ, pos, sym, subst}
use Rattle.htl_runs.proofs.Words.{Comm, Tables, Content, shown_then, AreShown, HasValues, IsShaped, FitsType, slice_get_within}

-- what is shown fits the types
pub sensors_shaped : (t : Tables) (shows old : List ℤ) (now : ℕ) (w0 w : Content) → HasValues t shows → HasValues t old → IsShaped t w0 → AreShown t shows old now w0 w → IsShaped t w
sensors_shaped t shows old now w0 w ss os h set =
    subst (IsShaped t) (sym set.only)
    (record {
      values = record { count = set.long; fit = λ c x at. subst (FitsType x.ty) (sym (set.below c x (slice_get_within t.comms c x at) at)) (fits c x at) };
      input_rows = h.input_rows;
      inputs = h.inputs;
      output_rows = h.output_rows;
      outputs = h.outputs;
      index = h.index;
    })
  where
    fits : (c : ℕ) (x : Comm) → slice_get t.comms c ≡ Some x → FitsType x.ty (shown_then shows old now w0.values c x)
    fits c x at = grind (arith, pos)
