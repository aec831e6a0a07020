-- What one owner owns stands in one run of the list, where owners don't fall.
use Rattle.std.proofs.Common.{◌≡◌, ◌≤◌, ◌<◌, ◌⊎◌, inl, inr, ℕ, zero, suc, ◌+◌, Bool, true, false, cond, eqb, List, [], ◌∷◌, ◌++◌, length, map, drop, get_or, slice_get, Some, refl, sym, ◌∙◌, ap, subst, arith, append-nil, length-drop}
use Rattle.std.proofs.lemmas.List.{get_or-drop}
use Rattle.htl_patch.proofs.Words.{IsNonDecreasing, slice_get_within, slice_get-get_or, get_or_from_slice_get, places_from, is_owner, owned_by, place_among, ne_eqb, from_map}
use Rattle.htl_patch.proofs.{ChildLaws.places_end, Members.Has, Members.same_or, Members.place_get, Members.places_nothing}

-- nothing stands before the first place
pub owned_first : (m k : ℕ) (xs : List ℕ) → places_from (is_owner m) k xs ≡ places_from (is_owner m) (k + place_among m xs) (drop (place_among m xs) xs)
owned_first m k [] = refl
owned_first m k (x ∷ xs) = by (eqb x m) refl (owned_first m (suc k) xs)
  where
    by : (b : Bool) → eqb x m ≡ b → places_from (is_owner m) (suc k) xs ≡ places_from (is_owner m) (suc k + place_among m xs) (drop (place_among m xs) xs)
        → cond b (k ∷ places_from (is_owner m) (suc k) xs) (places_from (is_owner m) (suc k) xs)
        ≡ places_from (is_owner m) (k + cond b 0 (suc (place_among m xs))) (drop (cond b 0 (suc (place_among m xs))) (x ∷ xs))
    by true e later =
        let same : k ≡ k + 0 = omega arith in
        ap (λ (n : ℕ). n ∷ places_from (is_owner m) (suc n) xs) same
        ∙ sym (ap (λ (b : Bool). cond b ((k + 0) ∷ places_from (is_owner m) (suc (k + 0)) xs) (places_from (is_owner m) (suc (k + 0)) xs)) e)
    by false e later =
        let same : suc k + place_among m xs ≡ k + suc (place_among m xs) = omega arith in
        later ∙ ap (λ (n : ℕ). places_from (is_owner m) n (drop (place_among m xs) xs)) same

-- the list from the first place on is all
pub owned_from : (m from : ℕ) (xs : List ℕ) → from ≡ place_among m xs → places_from (is_owner m) from (drop from xs) ≡ owned_by xs m
owned_from m from xs is =
    let zeroed : 0 + place_among m xs ≡ place_among m xs = omega arith in
    ap (λ (n : ℕ). places_from (is_owner m) n (drop n xs)) is
    ∙ ap (λ (n : ℕ). places_from (is_owner m) n (drop (place_among m xs) xs)) (sym zeroed)
    ∙ sym (owned_first m 0 xs)

has_among : (m : ℕ) (xs : List ℕ) → place_among m xs < length xs → Has xs m
has_among m [] less = absurd (omega (arith, less))
has_among m (x ∷ xs) less = by (same_or x m) less (has_among m xs)
  where
    by : ((eqb x m ≡ true) × (x ≡ m)) ⊎ ((eqb x m ≡ false) × (x ≡ m → ⊥)) → cond (eqb x m) 0 (suc (place_among m xs)) < length (x ∷ xs) → (place_among m xs < length xs → Has xs m) → Has (x ∷ xs) m
    by (inl s) less later = (0, ap (λ (n : ℕ). Some n) s.1)
    by (inr s) less later =
        let low : suc (place_among m xs) < length (x ∷ xs) = subst (λ (b : Bool). cond b 0 (suc (place_among m xs)) < length (x ∷ xs)) s.0 less in
        let r = later (omega (arith, low)) in (suc r.0, r.1)

-- behind the run nothing follows
pub owned_past : (m k : ℕ) (xs : List ℕ) → IsNonDecreasing xs → place_among m xs ≤ k → k < length xs → (get_or xs k 0 ≡ m → ⊥) → places_from (is_owner m) k (drop k xs) ≡ []
owned_past m k xs rises least less other =
    places_nothing (is_owner m) k (drop k xs) (λ x h. (let is : get_or xs (k + h.0) 0 ≡ x = sym (get_or-drop k xs h.0 0) ∙ get_or_from_slice_get (drop k xs) h.0 x 0 h.1 in
    let size = length-drop k xs in
    let inside = slice_get_within (drop k xs) h.0 x h.1 in
    let within : k + h.0 < length xs = omega (arith, size, inside) in
    let first = get_or_from_slice_get xs (place_among m xs) m 0 (place_get xs m (has_among m xs (omega (arith, least, less)))) in
    let one = rises (place_among m xs) k 0 least less in
    let two = rises k (k + h.0) 0 (omega arith) within in
    ne_eqb x m (λ same. other (omega (arith, first, one, two, is, same)))))

-- a number stands in front, or is the image of one behind
abbrev Part : ℕ → List ℕ → List ℕ → ℕ → ℕ → Type 0
Part h ys zs k x = (slice_get zs k ≡ Some x) ⊎ ((l y : ℕ) × (k ≡ length zs + l) × (slice_get ys l ≡ Some y) × (h + y ≡ x))

-- owners of both, those behind above those in front
pub rise_both : (h : ℕ) (xs ys : List ℕ) → IsNonDecreasing xs → IsNonDecreasing ys → ((x : ℕ) → Has xs x → x < h) → IsNonDecreasing (xs ++ map (λ (y : ℕ). h + y) ys)
rise_both h xs ys p q low i j d le within =
    let all = xs ++ map (λ (y : ℕ). h + y) ys in
    let a = slice_get-get_or all i d (omega (arith, le, within)) in
    let b = slice_get-get_or all j d within in
    by (part xs i (get_or all i d) a) (part xs j (get_or all j d) b)
  where
    part : (zs : List ℕ) (k x : ℕ) → slice_get (zs ++ map (λ (y : ℕ). h + y) ys) k ≡ Some x → Part h ys zs k x
    part [] k x e = let r = from_map (λ (y : ℕ). h + y) ys k x e in inr (k, r.0, omega arith, r.1, r.2)
    part (z ∷ zs) zero x e = inl e
    part (z ∷ zs) (suc k) x e = elim (part zs k x e) [ inl a ↦ inl a | inr b ↦ inr (b.0, b.1, omega (arith, b.2), b.3, b.4) ]

    by : {x y : ℕ} → Part h ys xs i x → Part h ys xs j y → x ≤ y
    by {x} {y} (inl a) (inl b) =
        let e = get_or_from_slice_get xs i x 0 a in
        let f = get_or_from_slice_get xs j y 0 b in
        let r = p i j 0 le (slice_get_within xs j y b) in
        omega (arith, e, f, r)
    by {x} {y} (inl a) (inr b) = let l = low x (i, a) in omega (arith, l, b.4)
    by {x} {y} (inr a) (inl b) = let w = slice_get_within xs j y b in absurd (omega (arith, w, le, a.2))
    by {x} {y} (inr a) (inr b) =
        let e = get_or_from_slice_get ys a.0 a.1 0 a.3 in
        let f = get_or_from_slice_get ys b.0 b.1 0 b.3 in
        let r = q a.0 b.0 0 (omega (arith, le, a.2, b.2)) (slice_get_within ys b.0 b.1 b.3) in
        omega (arith, e, f, r, a.4, b.4)

-- a slot of the run comes before its end
pub owned_stop : (m first k : ℕ) (xs found all : List ℕ) → IsNonDecreasing xs → first ≡ place_among m xs → first ≤ k → k ≤ length xs → ((k < length xs) → get_or xs k 0 ≡ m → ⊥)
    → found ++ places_from (is_owner m) k (drop k xs) ≡ all → found ≡ all
owned_stop m first k xs found all rises is least most other going =
    elim (split k (length xs) most) [
      | inl less ↦ sym (append-nil found) ∙ ap (λ (ys : List ℕ). found ++ ys) (sym (owned_past m k xs rises (omega (arith, is, least)) less (other less))) ∙ going
      | inr all_done ↦ sym (append-nil found) ∙ ap (λ (ys : List ℕ). found ++ ys) (sym (places_end (is_owner m) xs k all_done)) ∙ going
    ]
  where
    split : (a b : ℕ) → a ≤ b → (a < b) ⊎ (b ≤ a)
    split a b le = grind arith

pub among_most : (m : ℕ) (xs : List ℕ) → place_among m xs ≤ length xs
among_most m [] = omega arith
among_most m (x ∷ xs) = by (eqb x m) (among_most m xs)
  where
    by : (b : Bool) → place_among m xs ≤ length xs → cond b 0 (suc (place_among m xs)) ≤ length (x ∷ xs)
    by true le = omega arith
    by false le = omega (arith, le)
