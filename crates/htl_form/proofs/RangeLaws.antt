-- The invocations of one mode stand together in the list.
use Rattle.std.proofs.Common.{◌≡◌, ◌<◌, ◌≤◌, ◌⊎◌, ℕ, zero, suc, ◌+◌, ◌-◌, Bool, true, false, cond, eqb, List, length, get_or, take, Some, sym, ◌∙◌, ap, subst, arith, inl, inr}
use Rattle.htl_form.proofs.Words.{slice_get, count_by, count_by_more_yes, sum_by-take-le, get_or_from_slice_get, Inv, AreInRange, IsStartOf, Tables, precedes_itself, IsRangeOf, AreMarked, eq-eqb, cases_lt, item_at, cases_le}

-- the starts don't fall
pub starts_rise : (t : Tables) (m b e : ℕ) → IsStartOf t m b → IsStartOf t (m + 1) e → b ≤ e
starts_rise t m b e s f = elim (cases_le b e) [ inl h ↦ h | inr h ↦ absurd (no h) ]
  where
    no : e < b → ⊥
    no h =
        let long = s.within in
        let item = item_at t.invs e (omega arith) in
        omega (arith, s.below e item.0 h item.1, f.above e item.0 (omega arith) item.1)

-- n items in a row that pass are at most all that do
row_counts : (p : Inv → Bool) (xs : List Inv) (b n : ℕ) → b + n ≤ length xs → ((q : ℕ) (i : Inv) → q < n → slice_get xs (b + q) ≡ Some i → p i ≡ true) → n ≤ count_by p (take (b + n) xs)
row_counts p xs b zero within each = omega arith
row_counts p xs b (suc n) within each =
    let before : n ≤ count_by p (take (b + n) xs) = row_counts p xs b n (omega arith) (λ q i less at. each q i (omega arith) at) in
    let item = item_at xs (b + n) (omega arith) in
    let last : p (get_or xs (b + n) item.0) ≡ true = ap p (get_or_from_slice_get xs (b + n) item.0 item.0 item.1) ∙ each n item.0 (omega arith) item.1 in
    let more : count_by p (take (b + n + 1) xs) ≡ count_by p (take (b + n) xs) + 1 = count_by_more_yes p xs (b + n) item.0 (omega arith) last in
    let same : b + n + 1 ≡ b + suc n = omega arith in
    let all : count_by p (take (b + suc n) xs) ≡ count_by p (take (b + n) xs) + 1 = ap (λ k. count_by p (take k xs)) (sym same) ∙ more in
    omega arith

-- between two starts stand the invocations of one mode
pub range_is : (t : Tables) (m b e : ℕ) → AreInRange t → IsStartOf t m b → IsStartOf t (m + 1) e → IsRangeOf t m b (e - b)
range_is t m b e r s f =
    let rise : b ≤ e = starts_rise t m b e s f in
    let end : b + (e - b) ≡ e = omega arith in
    let inside : (q : ℕ) (i : Inv) → q < e - b → slice_get t.invs (b + q) ≡ Some i → i.mode ≡ m =
    λ q i less at. (let low = s.above (b + q) i (omega arith) at in let high = f.below (b + q) i (omega arith) at in omega arith) in
    let long = f.within in
    let some : e - b ≤ count_by (λ i. eqb i.mode m) (take (b + (e - b)) t.invs) =
    row_counts (λ i. eqb i.mode m) t.invs b (e - b) (omega arith) (λ q i less at. eq-eqb i.mode m (inside q i less at)) in
    let part : count_by (λ i. eqb i.mode m) (take (b + (e - b)) t.invs) ≤ count_by (λ i. eqb i.mode m) t.invs =
    sum_by-take-le (λ (i : Inv). cond (eqb i.mode m) 1 0) t.invs (b + (e - b)) in
    let few = r.few_in_mode m in
    record {
      within = omega arith;
      few = omega arith;
      inside = inside;
      outside = λ k i at is. (
        elim (cases_lt k b) [ inl less ↦ absurd (omega (arith, s.below k i less at)) | inr h ↦ h ],
        elim (cases_lt k e) [ inl less ↦ omega arith | inr h ↦ absurd (omega (arith, f.above k i h at)) ],
      );
    }

-- one mode more whose invocations are marked
pub marked_more : (t : Tables) (m base n : ℕ) (old new : List Bool) → IsRangeOf t m base n → AreMarked t base n old new
    → ((k : ℕ) (i : Inv) → slice_get t.invs k ≡ Some i → i.mode < m → get_or old k false ≡ precedes_itself t k)
    → (k : ℕ) (i : Inv) → slice_get t.invs k ≡ Some i → i.mode < m + 1 → get_or new k false ≡ precedes_itself t k
marked_more t m base n old new w marked before k i at below =
    elim (order k) [
      | inl h ↦ marked.below k h ∙ before k i at (not_here (λ e. (let o = w.outside k i at e in omega (arith, o.0))))
      | inr (inl h) ↦
          let is : base + (k - base) ≡ k = omega (arith, h.0) in
          subst (λ z. get_or new z false ≡ precedes_itself t z) is (marked.inside (k - base) (omega (arith, h.0, h.1)))
      | inr (inr h) ↦ marked.above k h ∙ before k i at (not_here (λ e. (let o = w.outside k i at e in omega (arith, o.1))))
    ]
  where
    order : (k : ℕ) → (k < base) ⊎ (((base ≤ k) × (k < base + n)) ⊎ (base + n ≤ k))
    order k = grind arith

    not_here : (i.mode ≡ m → ⊥) → i.mode < m
    not_here apart = omega arith
