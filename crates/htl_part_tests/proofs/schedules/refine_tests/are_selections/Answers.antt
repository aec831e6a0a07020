use Rattle.std.proofs.Common.{◌≡◌, ◌∙◌, ℕ, ◌<◌, ◌+◌, List, length, get_or, Some, sym, ap, subst, arith, inl, inr}
use Rattle.htl_runs.proofs.Words.{get_or_from_slice_get, slice_get-get_or, IsSelection, Tables, cases_below}
use Rattle.htl_refine.specs.declared.selection.Selection.{Selection}
use Rattle.htl_part_tests.proofs.schedules.refine_tests.are_selections.Goals as goal

-- selections up to a place, and one more
one_more : (t : Tables) (sels : List Selection) (k : ℕ) (x : Selection) → k < length sels → x ≡ get_or sels k x → IsSelection t x.modes
    → ((n : ℕ) (d : Selection) → n < k → IsSelection t (get_or sels n d).modes) → (n : ℕ) (d : Selection) → n < k + 1 → IsSelection t (get_or sels n d).modes
one_more t sels k x within at is before n d less =
    elim (cases_below n k (omega (arith, less))) [
      | inl below ↦ before n d below
      | inr same ↦
          subst (λ z. IsSelection t (get_or sels z d).modes) (sym same)
          (subst (λ (y : Selection). IsSelection t y.modes) (sym (get_or_from_slice_get sels k x d (slice_get-get_or sels k x within ∙ ap (λ (y : Selection). Some y) (sym at)))) is)
    ]

pub loop-k-preserved : goal.loop-k-preserved
loop-k-preserved c =
    one_more c.args.t.now c.args.sels.now c.loop-k.k c.index-sels-k.result c.loop-k-test.true c.index-sels-k.is (c.is_selection.ensures.0 c.if-not-is_selection.false) c.loop-k.invariant

pub returns : goal.returns
returns c = λ all n d below. c.loop-k.invariant n d (omega (arith, below, c.loop-k-test.false))
