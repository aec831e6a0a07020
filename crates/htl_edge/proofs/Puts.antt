-- Texts that are written one after another.
use Rattle.std.proofs.Common.{arith, ◌≡◌, ℕ, List, [], ◌++◌, Option, Result, Ok, Err, sym, ap, ◌∙◌, subst, append_assoc, append-nil}
use Rattle.std.specs.Io.KnownBytes.{append_known}
use Rattle.htl_edge.specs.Content.{AppendsPrefix, Puts}
use Rattle.htl_edge.proofs.Fronts.{append_known-nil, append_known-append}

-- nothing was written yet
pub append_known-start : (old : Option (List ℕ)) → old ≡ append_known old []
append_known-start old = sym (append_known-nil old)

-- one more text
pub append_known-more : (old mid new : Option (List ℕ)) (first second : List ℕ) → mid ≡ append_known old first → new ≡ append_known mid second → new ≡ append_known old (first ++ second)
append_known-more old mid new first second before after =
    after ∙ ap (λ (known : Option (List ℕ)). append_known known second) before ∙ append_known-append old first second

-- a prefix of what comes next, or of what comes first
pub AppendsPrefix-more : (old mid new : Option (List ℕ)) (first second later : List ℕ) → mid ≡ append_known old first → AppendsPrefix mid new second → AppendsPrefix old new (first ++ (second ++ later))
AppendsPrefix-more old mid new first second later before part =
    let back = part.1.0 in
    let whole : first ++ (second ++ later) ≡ (first ++ part.0) ++ (back ++ later) =
    ap (λ (xs : List ℕ). first ++ (xs ++ later)) part.1.1
    ∙ ap (λ (xs : List ℕ). first ++ xs) (append_assoc part.0 back later)
    ∙ sym (append_assoc first part.0 (back ++ later)) in
    (first ++ part.0, (back ++ later, whole), append_known-more old mid new first part.0 before part.2)

-- the second of two texts fails or is written
pub Puts-second : {T : Type 0} {E : Type 0} (old mid new : Option (List ℕ)) (before between now : ℕ) (first second : List ℕ) (result : Result T E)
    → mid ≡ append_known old first → between ≡ before → Puts mid new between now second result → Puts old new before now (first ++ second) result
Puts-second old mid new before between now first second (Ok x) was same puts = record {
  whole = append_known-more old mid new first second was puts.whole;
  part = tt;
  cause = record { later = omega (arith, same, puts.cause.later); kept = puts.cause.kept ∙ same; refused = tt };
}
Puts-second old mid new before between now first second (Err e) was same puts = record {
  whole = tt;
  part = subst (λ (xs : List ℕ). AppendsPrefix old new (first ++ xs)) (append-nil second) (AppendsPrefix-more old mid new first second [] was puts.part);
  cause = record {
    later = omega (arith, same, puts.cause.later);
    kept = tt;
    refused = omega (arith, same, puts.cause.refused);
  };
}

-- a text in the middle fails
pub Puts-failed : {T S E F : Type 0} (old mid new : Option (List ℕ)) (before between now : ℕ) (first second later : List ℕ) (e : E) (f : F)
    → mid ≡ append_known old first → between ≡ before → Puts {T = S} mid new between now second (Err e)
    → Puts {T = T} old new before now (first ++ (second ++ later)) (Err f)
Puts-failed old mid new before between now first second later e f was same puts = record {
  whole = tt;
  part = AppendsPrefix-more old mid new first second later was puts.part;
  cause = record {
    later = omega (arith, same, puts.cause.later);
    kept = tt;
    refused = omega (arith, same, puts.cause.refused);
  };
}
