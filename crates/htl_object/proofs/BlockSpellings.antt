-- Items with equal ones written once, by their spellings: the numbers are the same, and the blocks are those of the spellings.
use Rattle.std.proofs.Common.{◌≡◌, ◌+◌, ℕ, Bool, true, false, ◌||◌, not, cond, List, [], ◌∷◌, ◌++◌, map, All, refl, ap, ◌∙◌}
use Rattle.htl_object.proofs.Words.{map-append, All-head, All-tail, All-push, list_any, bytes_eq, with_block, blocks_from, number_in, numbers_from}

-- two that fit are the same exactly where their spellings are
module _ {A : Type 0} (same : A → A → Bool) (spell : A → List ℕ) (fits : A → Type 0) (agree : (a b : A) → fits a → fits b → same a b ≡ bytes_eq (spell a) (spell b)) where
  pub any_spelled : (x : A) (bs : List A) → fits x → All fits bs → list_any (same x) bs ≡ list_any (bytes_eq (spell x)) (map spell bs)
  any_spelled x [] f all = refl
  any_spelled x (b ∷ bs) f all =
      ap (λ (c : Bool). c || list_any (same x) bs) (agree x b f (All-head fits b bs all))
      ∙ ap (λ (c : Bool). bytes_eq (spell x) (spell b) || c) (any_spelled x bs f (All-tail fits b bs all))

  pub number_spelled : (x : A) (bs : List A) → fits x → All fits bs → number_in same bs x ≡ number_in bytes_eq (map spell bs) (spell x)
  number_spelled x [] f all = refl
  number_spelled x (b ∷ bs) f all =
      ap (λ (c : Bool). cond (not c) (1 + number_in same bs x) 0) (agree x b f (All-head fits b bs all))
      ∙ ap (λ (n : ℕ). cond (not (bytes_eq (spell x) (spell b))) (1 + n) 0) (number_spelled x bs f (All-tail fits b bs all))

  pub with_block_spelled : (x : A) (bs : List A) → fits x → All fits bs → map spell (with_block same bs x) ≡ with_block bytes_eq (map spell bs) (spell x)
  with_block_spelled x bs f all =
      by (list_any (same x) bs) ∙ ap (λ (c : Bool). cond c (map spell bs) (map spell bs ++ spell x ∷ [])) (any_spelled x bs f all)
    where
      by : (c : Bool) → map spell (cond c bs (bs ++ x ∷ [])) ≡ cond c (map spell bs) (map spell bs ++ spell x ∷ [])
      by true = refl
      by false = map-append spell bs (x ∷ [])

  with_block_fits : (x : A) (bs : List A) → fits x → All fits bs → All fits (with_block same bs x)
  with_block_fits x bs f all = by (list_any (same x) bs)
    where
      by : (c : Bool) → All fits (cond c bs (bs ++ x ∷ []))
      by true = all
      by false = All-push fits bs x all f

  pub numbers_spelled : (bs xs : List A) → All fits bs → All fits xs → numbers_from same bs xs ≡ numbers_from bytes_eq (map spell bs) (map spell xs)
  numbers_spelled bs [] found all = refl
  numbers_spelled bs (x ∷ xs) found all =
      let f = All-head fits x xs all in
      ap (λ (n : ℕ). n ∷ numbers_from same (with_block same bs x) xs) (number_spelled x bs f found)
      ∙ ap (λ (ns : List ℕ). number_in bytes_eq (map spell bs) (spell x) ∷ ns)
      (numbers_spelled (with_block same bs x) xs (with_block_fits x bs f found) (All-tail fits x xs all)
      ∙ ap (λ (ts : List (List ℕ)). numbers_from bytes_eq ts (map spell xs)) (with_block_spelled x bs f found))

  pub blocks_spelled : (bs xs : List A) → All fits bs → All fits xs → map spell (blocks_from same bs xs) ≡ blocks_from bytes_eq (map spell bs) (map spell xs)
  blocks_spelled bs [] found all = refl
  blocks_spelled bs (x ∷ xs) found all =
      let f = All-head fits x xs all in
      blocks_spelled (with_block same bs x) xs (with_block_fits x bs f found) (All-tail fits x xs all)
      ∙ ap (λ (ts : List (List ℕ)). blocks_from bytes_eq ts (map spell xs)) (with_block_spelled x bs f found)
