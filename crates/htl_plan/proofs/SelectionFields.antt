-- Lines by their fields.
use Rattle.std.proofs.Common.{◌≡◌, ◌≤◌, ℕ, List, [], ◌∷◌, length, None, refl, ap, ◌∙◌, arith}
use Rattle.htl_plan.proofs.Words.{length-slice_split, is_space, fields_of, named_by}

-- four fields or more
pub named_by-many : (text rest last word unit mode more : List ℕ) → fields_of text ≡ word ∷ fields_of rest → fields_of rest ≡ unit ∷ fields_of last
    → fields_of last ≡ mode ∷ fields_of more → named_by (fields_of text) ≡ None
named_by-many text rest last word unit mode more first second third =
    let all : fields_of text ≡ word ∷ unit ∷ mode ∷ fields_of more = first ∙ ap (λ (fs : List (List ℕ)). word ∷ fs) (second ∙ ap (λ (fs : List (List ℕ)). unit ∷ fs) third) in
    ap named_by all ∙ four (fields_of more) (omega (arith, length-slice_split is_space more))
  where
    four : (fields : List (List ℕ)) → 1 ≤ length fields → named_by (word ∷ unit ∷ mode ∷ fields) ≡ None
    four [] some = absurd (omega (arith, some))
    four (field ∷ fields) some = refl
