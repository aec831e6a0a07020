-- The rows that were noted in a vector are those of the object.
use Rattle.std.proofs.Common.{◌≡◌, ℕ, ◌<◌, List, ◌++◌, take, length, get_or, Option, None, sym, ap, ◌∙◌, subst}
use Rattle.htl_base.proofs.Words.{take-append_seam}
use Rattle.htl_object.specs.declared.object.Object.{Object}
use Rattle.htl_times.specs.{Busy.IsBusiestOf, Laws.AreNoLater, Response.IsLatestOf, declared.greatest.Greatest.Greatest}
use Rattle.htl_times_top.specs.Answers.{AreTimes}
use Rattle.htl_walk.specs.NodeWalks.{instrs_of}

-- what code reads of a vector's front is what was written there
pub front_is : (A : Type 0) (n : ℕ) (xs ys rest : List A) → ys ≡ take n (xs ++ rest) → length xs ≡ n → ys ≡ xs
front_is A n xs ys rest is same = is ∙ ap (λ (k : ℕ). take k (xs ++ rest)) (sym same) ∙ take-append_seam xs rest

pub AreTimes-noted : (o : Object) (rows noted : List (Option Greatest)) (busiest : Option Greatest) (n : ℕ) → rows ≡ noted → length noted ≡ n → n ≡ length o.tables.invs
    → ((i : ℕ) → i < n → IsLatestOf o.tables (instrs_of o.schedules) i (get_or noted i None)) → AreNoLater o.tables (instrs_of o.schedules) noted → IsBusiestOf o.tables busiest
    → AreTimes o rows busiest
AreTimes-noted o rows noted busiest n same count all latest no_later busy =
    subst (λ (r : List (Option Greatest)). AreTimes o r busiest) (sym same)
    (record {
      count = count ∙ all;
      latest = λ i below. latest i (subst (λ (k : ℕ). i < k) count below);
      no_later = no_later;
      busy = busy;
    })
