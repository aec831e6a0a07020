-- One round of a loop that goes up a list.
use Rattle.std.proofs.Common.{◌≡◌, ◌+◌, ◌<◌, ℕ, Bool, List, [], ◌∷◌, ◌++◌, length, map, take, drop, get_or, Option, All, ap, sym, subst, ◌∙◌, append_assoc}
use Rattle.htl_object.proofs.Words.{flat_map, take_more, drop_more, map_more, flat_map_more, All-push, append_known, Puts, with_block, blocks_from, number_in, numbers_from}
use Rattle.htl_object.proofs.Appends.{PutsBut, appends, puts_same}

module _ {X : Type 0} (xs : List X) (i : ℕ) (x : X) (lt : i < length xs) (is : x ≡ get_or xs i x) where
  next : take i xs ++ x ∷ [] ≡ take (i + 1) xs
  next = ap (λ (y : X). take i xs ++ y ∷ []) is ∙ sym (take_more xs i x lt)

  left : x ∷ drop (i + 1) xs ≡ drop i xs
  left = ap (λ (y : X). y ∷ drop (i + 1) xs) is ∙ sym (drop_more xs i x lt)

  pub kept : (keeps : X → Type 0) → All keeps (take i xs) → keeps x → All keeps (take (i + 1) xs)
  kept keeps before k = subst (All keeps) next (All-push keeps (take i xs) x before k)

  pub put : (spelling : X → List ℕ) (old mid new : Option (List ℕ)) → Puts (flat_map spelling (take i xs)) old mid → Puts (spelling x) mid new → Puts (flat_map spelling (take (i + 1) xs)) old new
  put spelling old mid new before one =
      let all = flat_map_more spelling [] (take i xs) x ∙ ap (λ (ys : List X). flat_map spelling ys) next in
      puts_same _ _ old new all (appends (flat_map spelling (take i xs)) (spelling x) old mid new before one)

  -- the number of one more block
  pub numbered : {A : Type 0} (same : A → A → Bool) (f : X → A) (w : ℕ → List ℕ) (bs cs : List A) (old mid new : Option (List ℕ)) (whole : List ℕ) → cs ≡ with_block same bs (f x)
      → PutsBut (flat_map w (numbers_from same bs (map f (drop i xs)))) whole old mid → Puts (w (number_in same bs (f x))) mid new
      → PutsBut (flat_map w (numbers_from same cs (map f (drop (i + 1) xs)))) whole old new
  numbered {A} same f w bs cs old mid new whole stands before one later all e =
      let then : List A → List ℕ = λ ds. flat_map w (numbers_from same ds (map f (drop (i + 1) xs))) in
      let number : List ℕ = w (number_in same bs (f x)) in
      let left_is : flat_map w (numbers_from same bs (map f (drop i xs))) ≡ number ++ then cs =
      ap (λ (ys : List X). flat_map w (numbers_from same bs (map f ys))) (sym left) ∙ ap (λ (ds : List A). number ++ then ds) (sym stands) in
      before later all
      (ap (λ (zs : List ℕ). append_known mid (zs ++ later)) left_is ∙ ap (append_known mid) (append_assoc number (then cs) later) ∙ one (then cs ++ later) all e)

  pub blocked : {A : Type 0} (same : A → A → Bool) (f : X → A) (bs cs whole : List A) → cs ≡ with_block same bs (f x) → blocks_from same bs (map f (drop i xs)) ≡ whole
      → blocks_from same cs (map f (drop (i + 1) xs)) ≡ whole
  blocked {A} same f bs cs whole stands before =
      ap (λ (ds : List A). blocks_from same ds (map f (drop (i + 1) xs))) stands ∙ ap (λ (ys : List X). blocks_from same bs (map f ys)) left ∙ before

-- the field of one more item, where the loop reads the item at its place
pub mapped : {X Y : Type 0} (f : X → Y) (xs : List X) (i : ℕ) (d : X) (mid new : List Y) → i < length xs → mid ≡ map f (take i xs) → new ≡ mid ++ f (get_or xs i d) ∷ [] → new ≡ map f (take (i + 1) xs)
mapped {X} {Y} f xs i d mid new lt before e = e ∙ ap (λ (z : List Y). z ++ f (get_or xs i d) ∷ []) before ∙ sym (map_more f xs i d lt)
