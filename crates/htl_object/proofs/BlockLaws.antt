-- Items with equal ones written once: the numbers and the blocks say the items.
use Rattle.std.proofs.Common.{◌≡◌, ◌≤◌, ◌<◌, ℕ, zero, suc, max, ◌+◌, Bool, true, false, ◌||◌, not, cond, List, [], ◌∷◌, ◌++◌, length, map, get_or, inl, inr, refl, sym, ap, subst, ◌∙◌, arith, append_assoc, append-nil}
use Rattle.htl_object.proofs.Words.{false≢true, cases_lt, length-append, list_any, count_from, with_block, blocks_from, number_in, numbers_from}

module _ {A : Type 0} (same : A → A → Bool) where
  -- blocks that are found stay in front
  pub blocks_from-front : (bs xs : List A) → (more : List A) × (blocks_from same bs xs ≡ bs ++ more)
  blocks_from-front bs [] = ([], sym (append-nil bs))
  blocks_from-front bs (x ∷ xs) = by (λ ds. blocks_from-front ds xs) (list_any (same x) bs) refl
    where
      by : ((ds : List A) → (more : List A) × (blocks_from same ds xs ≡ ds ++ more)) → (b : Bool) → list_any (same x) bs ≡ b → (more : List A) × (blocks_from same bs (x ∷ xs) ≡ bs ++ more)
      by go true e =
          let (more, is) = go bs in
          (more, ap (λ (c : Bool). blocks_from same (cond c bs (bs ++ x ∷ [])) xs) e ∙ is)
      by go false e =
          let (more, is) = go (bs ++ x ∷ []) in
          (x ∷ more, ap (λ (c : Bool). blocks_from same (cond c bs (bs ++ x ∷ [])) xs) e ∙ is ∙ append_assoc bs (x ∷ []) more)

  module _ (equal : (x y : A) → same x y ≡ true → x ≡ y) where
    at : (x b : A) (bs : List A) (c : Bool) → same x b ≡ c → number_in same (b ∷ bs) x ≡ cond (not c) (1 + number_in same bs x) 0
    at x b bs c e = ap (λ (t : Bool). cond (not t) (1 + number_in same bs x) 0) e

    behind : (x b : A) (bs : List A) (any : Bool) → same x b ≡ false → list_any (same x) (b ∷ bs) ≡ any → list_any (same x) bs ≡ any
    behind x b bs any e h = sym (ap (λ (c : Bool). c || list_any (same x) bs) e) ∙ h

    ahead : (x b : A) (bs : List A) → same x b ≡ true → list_any (same x) (b ∷ bs) ≡ true
    ahead x b bs e = ap (λ (c : Bool). c || list_any (same x) bs) e

    -- an item that is among the blocks is the one at its number
    pub found : (d x : A) (bs : List A) → list_any (same x) bs ≡ true → (get_or bs (number_in same bs x) d ≡ x) × (number_in same bs x < length bs)
    found d x [] any = absurd (false≢true any)
    found d x (b ∷ bs) any = by (found d x bs) (same x b) refl
      where
        by : (list_any (same x) bs ≡ true → (get_or bs (number_in same bs x) d ≡ x) × (number_in same bs x < length bs)) → (c : Bool) → same x b ≡ c
            → (get_or (b ∷ bs) (number_in same (b ∷ bs) x) d ≡ x) × (number_in same (b ∷ bs) x < length (b ∷ bs))
        by go true e =
            let first : number_in same (b ∷ bs) x ≡ 0 = at x b bs true e in
            (ap (λ (n : ℕ). get_or (b ∷ bs) n d) first ∙ sym (equal x b e), omega (arith, first))
        by go false e =
            let (is, less) = go (behind x b bs true e any) in
            let later : number_in same (b ∷ bs) x ≡ suc (number_in same bs x) = omega (arith, at x b bs false e) in
            (ap (λ (n : ℕ). get_or (b ∷ bs) n d) later ∙ is, omega (arith, later, less))

    -- one that isn't has the next number
    pub absent : (x : A) (bs : List A) → list_any (same x) bs ≡ false → number_in same bs x ≡ length bs
    absent x [] none = refl
    absent x (b ∷ bs) none = by (absent x bs) (same x b) refl
      where
        by : (list_any (same x) bs ≡ false → number_in same bs x ≡ length bs) → (c : Bool) → same x b ≡ c → number_in same (b ∷ bs) x ≡ length (b ∷ bs)
        by go true e = absurd (false≢true (sym none ∙ ahead x b bs e))
        by go false e = omega (arith, at x b bs false e, go (behind x b bs false e none))

    present : (x : A) (bs : List A) → number_in same bs x < length bs → list_any (same x) bs ≡ true
    present x bs less = by (list_any (same x) bs) refl
      where
        by : (c : Bool) → list_any (same x) bs ≡ c → list_any (same x) bs ≡ true
        by true e = e
        by false e = absurd (omega (arith, less, absent x bs e))

    -- what is found stays at its place
    stays : (x : A) (bs more : List A) → list_any (same x) bs ≡ true → number_in same (bs ++ more) x ≡ number_in same bs x
    stays x [] more any = absurd (false≢true any)
    stays x (b ∷ bs) more any = by (stays x bs more) (same x b) refl
      where
        by : (list_any (same x) bs ≡ true → number_in same (bs ++ more) x ≡ number_in same bs x) → (c : Bool) → same x b ≡ c → number_in same (b ∷ (bs ++ more)) x ≡ number_in same (b ∷ bs) x
        by go true e = at x b (bs ++ more) true e ∙ sym (at x b bs true e)
        by go false e = omega (arith, at x b (bs ++ more) false e, at x b bs false e, go (behind x b bs true e any))

    get_or-front : (d : A) (bs more : List A) (n : ℕ) → n < length bs → get_or (bs ++ more) n d ≡ get_or bs n d
    get_or-front d [] more n less = absurd (omega (arith, less))
    get_or-front d (b ∷ bs) more zero less = refl
    get_or-front d (b ∷ bs) more (suc n) less = get_or-front d bs more n (omega (arith, less))

    get_or-last : (d x : A) (bs more : List A) → get_or (bs ++ x ∷ more) (length bs) d ≡ x
    get_or-last d x [] more = refl
    get_or-last d x (b ∷ bs) more = get_or-last d x bs more

    pub with_block-new : (x : A) (bs : List A) → list_any (same x) bs ≡ false → with_block same bs x ≡ bs ++ x ∷ []
    with_block-new x bs none = ap (λ (c : Bool). cond c bs (bs ++ x ∷ [])) none

    pub with_block-old : (x : A) (bs : List A) → list_any (same x) bs ≡ true → with_block same bs x ≡ bs
    with_block-old x bs any = ap (λ (c : Bool). cond c bs (bs ++ x ∷ [])) any

    -- the block at an item's number, once the item has its block, is the item
    one_said : (d x : A) (bs xs : List A) → get_or (blocks_from same (with_block same bs x) xs) (number_in same bs x) d ≡ x
    one_said d x bs xs = by (list_any (same x) bs) refl
      where
        by : (b : Bool) → list_any (same x) bs ≡ b → get_or (blocks_from same (with_block same bs x) xs) (number_in same bs x) d ≡ x
        by true e =
            let (is, less) = found d x bs e in
            let (more, front) = blocks_from-front bs xs in
            ap (λ (zs : List A). get_or (blocks_from same zs xs) (number_in same bs x) d) (with_block-old x bs e)
            ∙ ap (λ (zs : List A). get_or zs (number_in same bs x) d) front
            ∙ get_or-front d bs more (number_in same bs x) less ∙ is
        by false e =
            let (more, front) = blocks_from-front (bs ++ x ∷ []) xs in
            ap (λ (zs : List A). get_or (blocks_from same zs xs) (number_in same bs x) d) (with_block-new x bs e)
            ∙ ap (λ (zs : List A). get_or zs (number_in same bs x) d) (front ∙ append_assoc bs (x ∷ []) more)
            ∙ ap (λ (n : ℕ). get_or (bs ++ x ∷ more) n d) (absent x bs e)
            ∙ get_or-last d x bs more

    -- the blocks and the numbers say the items
    pub said : (d : A) (bs xs : List A) → map (λ n. get_or (blocks_from same bs xs) n d) (numbers_from same bs xs) ≡ xs
    said d bs [] = refl
    said d bs (x ∷ xs) =
        ap (λ (y : A). y ∷ map (λ n. get_or (blocks_from same (with_block same bs x) xs) n d) (numbers_from same (with_block same bs x) xs)) (one_said d x bs xs)
        ∙ ap (λ (ys : List A). x ∷ ys) (said d (with_block same bs x) xs)

    -- ---- what writing makes may stand

    -- one item's number and the blocks behind it
    pub record Step (x : A) (bs : List A) : Type 0 where
      pub within : number_in same bs x ≤ length bs
      pub counts : max (length bs) (suc (number_in same bs x)) ≡ length (with_block same bs x)
      pub short : length (with_block same bs x) ≤ suc (length bs)

    pub step : (x : A) (bs : List A) → Step x bs
    step x bs = by (list_any (same x) bs) refl
      where
        by : (b : Bool) → list_any (same x) bs ≡ b → Step x bs
        by true e =
            let less : number_in same bs x < length bs = (found x x bs e).1 in
            let same_len : length (with_block same bs x) ≡ length bs = ap (λ (zs : List A). length zs) (with_block-old x bs e) in
            record { within = omega (arith, less); counts = omega (arith, less, same_len); short = omega (arith, same_len) }
        by false e =
            let last : number_in same bs x ≡ length bs = absent x bs e in
            let more : length (with_block same bs x) ≡ length bs + 1 = ap (λ (zs : List A). length zs) (with_block-new x bs e) ∙ length-append bs (x ∷ []) in
            record { within = omega (arith, last); counts = omega (arith, last, more); short = omega (arith, more) }

    pub length-numbers : (bs xs : List A) → length (numbers_from same bs xs) ≡ length xs
    length-numbers bs [] = refl
    length-numbers bs (x ∷ xs) = ap suc (length-numbers (with_block same bs x) xs)

    -- there are as many blocks as the numbers say
    pub length-blocks : (bs xs : List A) → length (blocks_from same bs xs) ≡ count_from (length bs) (numbers_from same bs xs)
    length-blocks bs [] = refl
    length-blocks bs (x ∷ xs) =
        length-blocks (with_block same bs x) xs
        ∙ ap (λ (c : ℕ). count_from c (numbers_from same (with_block same bs x) xs)) (sym (step x bs).counts)

    -- ---- the other way: numbers that may stand, and blocks that are new

    abbrev pub Steps : ℕ → List ℕ → Type 0
    Steps c [] = Unit {0}
    Steps c (n ∷ ns) = (n ≤ c) × Steps (max c (suc n)) ns

    abbrev pub News : List A → List A → Type 0
    News found [] = Unit {0}
    News found (b ∷ rest) = (list_any (same b) found ≡ false) × News (found ++ b ∷ []) rest

    -- each block is found at its own place
    abbrev pub Apart : A → List A → Type 0
    Apart d bs = (k : ℕ) → k < length bs → number_in same bs (get_or bs k d) ≡ k

    pub count_from-least : (c : ℕ) (ns : List ℕ) → c ≤ count_from c ns
    count_from-least c [] = omega arith
    count_from-least c (n ∷ ns) = let more = count_from-least (max c (suc n)) ns in omega (arith, more)

    module _ (itself : (x : A) → same x x ≡ true) where
      last_in : (x : A) (bs : List A) → list_any (same x) bs ≡ false → number_in same (bs ++ x ∷ []) x ≡ length bs
      last_in x [] none = at x x [] true (itself x)
      last_in x (b ∷ bs) none = by (last_in x bs) (same x b) refl
        where
          by : (list_any (same x) bs ≡ false → number_in same (bs ++ x ∷ []) x ≡ length bs) → (c : Bool) → same x b ≡ c → number_in same (b ∷ (bs ++ x ∷ [])) x ≡ length (b ∷ bs)
          by go true e = absurd (false≢true (sym none ∙ ahead x b bs e))
          by go false e = omega (arith, at x b (bs ++ x ∷ []) false e, go (behind x b bs false e none))

      Apart-more : (d b : A) (bs : List A) → Apart d bs → list_any (same b) bs ≡ false → Apart d (bs ++ b ∷ [])
      Apart-more d b bs apart new k less =
          elim (cases_lt k (length bs)) [
            | inl lt ↦
                (let here : number_in same bs (get_or bs k d) ≡ k = apart k lt in
                let any = present (get_or bs k d) bs (omega (arith, here, lt)) in
                ap (number_in same (bs ++ b ∷ [])) (get_or-front d bs (b ∷ []) k lt) ∙ stays (get_or bs k d) bs (b ∷ []) any ∙ here)
            | inr le ↦
                (let last : k ≡ length bs = omega (arith, le, less, length-append bs (b ∷ [])) in
                ap (λ (n : ℕ). number_in same (bs ++ b ∷ []) (get_or (bs ++ b ∷ []) n d)) last
                ∙ ap (number_in same (bs ++ b ∷ [])) (get_or-last d b bs [])
                ∙ last_in b bs new ∙ sym last)
          ]

      -- what the numbers and the blocks say
      abbrev pub items_of : A → List A → List ℕ → List A
      items_of d bs ns = map (λ n. get_or bs n d) ns

      pub record Back (d : A) (found rest : List A) (ns : List ℕ) : Type 0 where
        pub numbers : numbers_from same found (items_of d (found ++ rest) ns) ≡ ns
        pub blocks : blocks_from same found (items_of d (found ++ rest) ns) ≡ found ++ rest

      back_old : (d : A) (found rest : List A) (n : ℕ) (ns : List ℕ) → Apart d found → n < length found → Back d found rest ns → Back d found rest (n ∷ ns)
      back_old d found rest n ns apart less h =
          let x = get_or (found ++ rest) n d in
          let is : x ≡ get_or found n d = get_or-front d found rest n less in
          let number : number_in same found x ≡ n = ap (number_in same found) is ∙ apart n less in
          let stay : with_block same found x ≡ found = with_block-old x found (present x found (omega (arith, number, less))) in
          let xs = items_of d (found ++ rest) ns in
          record {
            numbers = ap (λ (m : ℕ). m ∷ numbers_from same (with_block same found x) xs) number
                ∙ ap (λ (bs : List A). n ∷ numbers_from same bs xs) stay ∙ ap (λ (ms : List ℕ). n ∷ ms) h.numbers;
            blocks = ap (λ (bs : List A). blocks_from same bs xs) stay ∙ h.blocks;
          }

      back_new : (d b : A) (found rest : List A) (n : ℕ) (ns : List ℕ) → list_any (same b) found ≡ false → n ≡ length found → Back d (found ++ b ∷ []) rest ns → Back d found (b ∷ rest) (n ∷ ns)
      back_new d b found rest n ns new last h =
          let x = get_or (found ++ b ∷ rest) n d in
          let is : x ≡ b = ap (λ (m : ℕ). get_or (found ++ b ∷ rest) m d) last ∙ get_or-last d b found rest in
          let all : (found ++ b ∷ []) ++ rest ≡ found ++ b ∷ rest = append_assoc found (b ∷ []) rest in
          let number : number_in same found x ≡ n = ap (number_in same found) is ∙ absent b found new ∙ sym last in
          let put : with_block same found x ≡ found ++ b ∷ [] = ap (with_block same found) is ∙ with_block-new b found new in
          let xs = items_of d (found ++ b ∷ rest) ns in
          record {
            numbers = ap (λ (m : ℕ). m ∷ numbers_from same (with_block same found x) xs) number
                ∙ ap (λ (bs : List A). n ∷ numbers_from same bs xs) put
                ∙ ap (λ (bs : List A). n ∷ numbers_from same (found ++ b ∷ []) (items_of d bs ns)) (sym all)
                ∙ ap (λ (ms : List ℕ). n ∷ ms) h.numbers;
            blocks = ap (λ (bs : List A). blocks_from same bs xs) put
                ∙ ap (λ (bs : List A). blocks_from same (found ++ b ∷ []) (items_of d bs ns)) (sym all)
                ∙ h.blocks ∙ all;
          }

      -- Numbers that may stand and new blocks, as many as the numbers say, are those of the items that they say.
      pub back : (d : A) (found rest : List A) (ns : List ℕ) → Apart d found → Steps (length found) ns → News found rest
          → length found + length rest ≡ count_from (length found) ns → Back d found rest ns
      back d found [] [] apart steps news count = record { numbers = refl; blocks = sym (append-nil found) }
      back d found (b ∷ rest) [] apart steps news count = absurd (omega (arith, count))
      back d found rest (n ∷ ns) apart steps news count =
          elim (cases_lt n (length found)) [
            | inl lt ↦
                (let same_count : max (length found) (suc n) ≡ length found = omega (arith, lt) in
                back_old d found rest n ns apart lt
                (back d found rest ns apart (subst (λ (c : ℕ). Steps c ns) same_count steps.1) news (count ∙ ap (λ (c : ℕ). count_from c ns) same_count)))
            | inr le ↦ back_at d found rest n ns apart (omega (arith, le, steps.0)) steps.1 news count (λ cs more a s w c. back d cs more ns a s w c)
          ]
        where
          back_at : (d : A) (found rest : List A) (n : ℕ) (ns : List ℕ) → Apart d found → n ≡ length found → Steps (max (length found) (suc n)) ns → News found rest
              → length found + length rest ≡ count_from (max (length found) (suc n)) ns
              → ((cs more : List A) → Apart d cs → Steps (length cs) ns → News cs more → length cs + length more ≡ count_from (length cs) ns → Back d cs more ns)
              → Back d found rest (n ∷ ns)
          back_at d found [] n ns apart last steps news count go = absurd (omega (arith, count, last, count_from-least (max (length found) (suc n)) ns))
          back_at d found (b ∷ rest) n ns apart last steps news count go =
              let more : length (found ++ b ∷ []) ≡ length found + 1 = length-append found (b ∷ []) in
              let next : max (length found) (suc n) ≡ length (found ++ b ∷ []) = omega (arith, last, more) in
              let all : length (found ++ b ∷ []) + length rest ≡ length found + suc (length rest) = omega (arith, more) in
              back_new d b found rest n ns news.0 last
              (go (found ++ b ∷ []) rest (Apart-more d b found apart news.0) (subst (λ (c : ℕ). Steps c ns) next steps) news.1
              (all ∙ count ∙ ap (λ (c : ℕ). count_from c ns) next))
