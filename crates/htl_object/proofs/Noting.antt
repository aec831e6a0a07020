-- What is noted of the items before, with one item more.
use Rattle.std.proofs.Common.{◌≡◌, ◌<◌, ◌≤◌, ◌&&◌, ◌||◌, ◌+◌, ◌-◌, ℕ, zero, suc, Bool, true, false, cond, List, [], ◌∷◌, ◌++◌, length, get_or, replicate, Option, Some, None, refl, sym, ◌∙◌, ap, subst, arith}
use Rattle.std.specs.Prelude.{◌==◌, slice_get, count_by}
use Rattle.htl_object.proofs.Words.{list_any, list_any-append, or-false, nat_tests, sum_by-cons, Inv, CountsMode, IsNoted, IsAdded, InvNotes, none_marked}

-- one item more of which a test is asked
pub any_more : {A : Type 0} (p : A → Bool) (xs : List A) (x : A) → list_any p (xs ++ x ∷ []) ≡ (list_any p xs || p x)
any_more p xs x = list_any-append p xs (x ∷ []) ∙ ap (λ b. list_any p xs || b) (or-false (p x))

count_step : {A : Type 0} (p : A → Bool) (x : A) (xs : List A) → count_by p (x ∷ xs) ≡ cond (p x) 1 0 + count_by p xs
count_step p x xs = sum_by-cons (λ y. cond (p y) 1 0) x xs

count_more : {A : Type 0} (p : A → Bool) (xs : List A) (x : A) → p x ≡ true → count_by p (xs ++ x ∷ []) ≡ count_by p xs + 1
count_more p [] x e = count_step p x [] ∙ ap (λ b. cond b 1 0 + 0) e
count_more p (y ∷ ys) x e =
    let later : count_by p (ys ++ x ∷ []) ≡ count_by p ys + 1 = count_more p ys x e in
    let whole : count_by p (y ∷ (ys ++ x ∷ [])) ≡ cond (p y) 1 0 + count_by p (ys ++ x ∷ []) = count_step p y (ys ++ x ∷ []) in
    let part : count_by p (y ∷ ys) ≡ cond (p y) 1 0 + count_by p ys = count_step p y ys in
    let sum : cond (p y) 1 0 + count_by p (ys ++ x ∷ []) ≡ count_by p (y ∷ ys) + 1 = omega (arith, later, part) in
    whole ∙ sum

-- ---- invocations

end_is : (xs : List Inv) (x : Inv) → slice_get (xs ++ x ∷ []) (length xs) ≡ Some x
end_is [] x = refl
end_is (y ∷ ys) x = end_is ys x

len_is : (xs : List Inv) (x : Inv) → length (xs ++ x ∷ []) ≡ suc (length xs)
len_is [] x = refl
len_is (y ∷ ys) x = ap suc (len_is ys x)

last_is : (xs : List Inv) (x : Inv) → slice_get (xs ++ x ∷ []) (length (xs ++ x ∷ []) - 1) ≡ Some x
last_is xs x =
    let e = len_is xs x in
    let k : length (xs ++ x ∷ []) - 1 ≡ length xs = omega (arith, e) in
    ap (slice_get (xs ++ x ∷ [])) k ∙ end_is xs x

item_of : (xs : List Inv) (x : Inv) (k : ℕ) (i : Inv) (m : ℕ) → ((k : ℕ) (i : Inv) → slice_get xs k ≡ Some i → i.mode ≤ m) → x.mode ≡ m → slice_get (xs ++ x ∷ []) k ≡ Some i → i.mode ≤ m
item_of [] x zero i m most is at = let same : x ≡ i = cc in let equal : x.mode ≡ i.mode = ap (λ (y : Inv). y.mode) same in omega arith
item_of [] x (suc k) i m most is at = cc
item_of (y ∷ ys) x zero i m most is at = most zero i at
item_of (y ∷ ys) x (suc k) i m most is at = item_of ys x k i m (λ k i h. most (suc k) i h) is at

equal : (a b : ℕ) → a ≡ b → (a == b) ≡ true
equal a b e = grind (arith, nat_tests)

other : (a b : ℕ) → a < b → (a == b) ≡ false
other a b h = grind (arith, nat_tests)

pub inv_more : (old new : InvNotes) (before : List Inv) (x : Inv) → CountsMode old before → IsAdded old new x.task → x.mode ≡ old.mode → IsNoted new (before ++ x ∷ [])
inv_more old new before x counts added is =
    let here : x.mode ≡ new.mode = is ∙ sym added.mode in
    record {
      last = ap (λ (o : Option Inv). elim o as (λ _. ℕ) [ Some i ↦ i.mode | None ↦ 0 ]) (last_is before x) ∙ here;
      counts = record {
        most = λ k i at. item_of before x k i new.mode (λ k i h. subst (λ (m : ℕ). i.mode ≤ m) (sym added.mode) (counts.most k i h)) here at;
        count =
            subst (λ (m : ℕ). count_by (λ (i : Inv). i.mode == m) (before ++ x ∷ []) ≡ new.count) (sym added.mode)
            (count_more (λ (i : Inv). i.mode == old.mode) before x (equal x.mode old.mode is) ∙ ap (λ n. n + 1) counts.count ∙ sym added.count);
        invoked = λ t few.
            subst (λ (m : ℕ). get_or new.invoked t false ≡ list_any (λ (i : Inv). (i.mode == m) && (i.task == t)) (before ++ x ∷ [])) (sym added.mode)
            (added.invoked t few ∙ ap (λ b. b || (x.task == t)) (counts.invoked t few)
            ∙ ap (λ b. list_any (λ (i : Inv). (i.mode == old.mode) && (i.task == t)) before || (b && (x.task == t))) (sym (equal x.mode old.mode is))
            ∙ sym (any_more (λ (i : Inv). (i.mode == old.mode) && (i.task == t)) before x));
      };
    }

-- a later mode has no invocation yet
none_counted : (m : ℕ) (xs : List Inv) → ((k : ℕ) (i : Inv) → slice_get xs k ≡ Some i → i.mode < m) → count_by (λ (i : Inv). i.mode == m) xs ≡ 0
none_counted m [] below = refl
none_counted m (x ∷ xs) below =
    let later : count_by (λ (i : Inv). i.mode == m) xs ≡ 0 = none_counted m xs (λ k i at. below (suc k) i at) in
    count_step (λ (i : Inv). i.mode == m) x xs ∙ ap (λ b. cond b 1 0 + count_by (λ (i : Inv). i.mode == m) xs) (other x.mode m (below 0 x refl)) ∙ omega (arith, later)

none_invoked : (m t : ℕ) (xs : List Inv) → ((k : ℕ) (i : Inv) → slice_get xs k ≡ Some i → i.mode < m) → list_any (λ (i : Inv). (i.mode == m) && (i.task == t)) xs ≡ false
none_invoked m t [] below = refl
none_invoked m t (x ∷ xs) below =
    ap (λ b. (b && (x.task == t)) || list_any (λ (i : Inv). (i.mode == m) && (i.task == t)) xs) (other x.mode m (below 0 x refl))
    ∙ none_invoked m t xs (λ k i at. below (suc k) i at)

below_later : (notes : InvNotes) (before : List Inv) (m : ℕ) → CountsMode notes before → notes.mode < m → (k : ℕ) (i : Inv) → slice_get before k ≡ Some i → i.mode < m
below_later notes before m counts less k i at = let most = counts.most k i at in omega arith

pub later_counted : (notes : InvNotes) (before : List Inv) (m : ℕ) → CountsMode notes before → notes.mode < m → 0 ≡ count_by (λ (i : Inv). i.mode == m) before
later_counted notes before m counts less = sym (none_counted m before (below_later notes before m counts less))

pub later_turned : (old new : InvNotes) (before : List Inv) → CountsMode old before → old.mode < new.mode → new.count ≡ 0 → new.invoked ≡ replicate 4096 false → CountsMode new before
later_turned old new before counts less none empty =
    record {
      most = λ k i at. (let below = below_later old before new.mode counts less k i at in omega arith);
      count = none_counted new.mode before (below_later old before new.mode counts less) ∙ sym none;
      invoked = λ t few. ap (λ (marks : List Bool). get_or marks t false) empty ∙ none_marked 4096 t ∙ sym (none_invoked new.mode t before (below_later old before new.mode counts less));
    }
