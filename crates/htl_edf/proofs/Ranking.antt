-- Items in order, from a sort.
use Rattle.std.proofs.Common.{◌≡◌, ℕ, ◌/◌, ◌%◌, ◌<◌, ◌≤◌, true, eqb, List, length, get_or, sym, ap, ◌∙◌, arith, ⊎_elim, eq-eqb, eqb-true, nat_cmp}
use Rattle.htl_edf.proofs.Words.{IsDistinct, list_any, IsPermutation, IsSorted, IsNonDecreasing, get_or_default, All-permutation, list_any-IsPermutation, IsNonDecreasingBy-from_sort, list_any_at, Any-from_list_any, IsDistinct-from_apart, IsDistinct-IsPermutation, IsStrictlyIncreasing-from_distinct, sorted_from_strictly_increasing, below_from_sorted, item, number_of, time_of, AreInOrder, eqb_flips, cases_lt, ne_eqb}

pub time_in : (t n : ℕ) → n < 128 → item t n / 128 ≡ t
time_in t n l = omega (arith, l)

pub number_in : (t n : ℕ) → n < 128 → item t n % 128 ≡ n
number_in t n l = omega (arith, l)

module _ (count : ℕ) (time : ℕ → ℕ) (olds items : List ℕ)
    (few : count ≤ 128) (len : length olds ≡ count) (are : (q : ℕ) → q < count → get_or olds q 0 ≡ item (time q) q)
    (same : IsPermutation olds items) (long : length items ≡ length olds) (sorted : IsSorted nat_cmp items) where
  -- what an item of the list is
  abbrev IsItem : ℕ → Type 0
  IsItem x = (x % 128 < count) × (x / 128 ≡ time (x % 128))

  old_item : (q d : ℕ) → q < length olds → IsItem (get_or olds q d)
  old_item q d l =
      let below : q < count = omega (arith, l, len) in
      let is : get_or olds q d ≡ item (time q) q = get_or_default olds q d 0 l ∙ are q below in
      let number : get_or olds q d % 128 ≡ q = ap (λ x. x % 128) is ∙ number_in (time q) q (omega (arith, below, few)) in
      (omega (arith, number, below), ap (λ x. x / 128) is ∙ time_in (time q) q (omega (arith, below, few)) ∙ ap time (sym number))

  new_item : (n : ℕ) → n < count → IsItem (get_or items n 0)
  new_item n l = All-permutation IsItem olds items same (λ q d h. old_item q d h) n 0 (omega (arith, l, len, long))

  apart : IsDistinct eqb olds
  apart = IsDistinct-from_apart eqb olds (λ i j d less l.
      let a = get_or_default olds i d 0 (omega (arith, less, l)) ∙ are i (omega (arith, less, l, len)) in
      let b = get_or_default olds j d 0 l ∙ are j (omega (arith, l, len)) in
      ne_eqb (get_or olds i d) (get_or olds j d) (λ e. omega (
        arith,
        few,
        len,
        less,
        l,
        sym (number_in (time i) i (omega (arith, less, l, len, few))) ∙ ap (λ x. x % 128) (sym a ∙ e ∙ b) ∙ number_in (time j) j (omega (arith, l, len, few)),
      )))

  rising : (m n : ℕ) → m < n → n < count → get_or items m 0 < get_or items n 0
  rising m n less l =
      let up : IsNonDecreasing items = IsNonDecreasingBy-from_sort (λ x. x) items sorted in
      below_from_sorted items m n 0 (sorted_from_strictly_increasing items (IsStrictlyIncreasing-from_distinct items up (IsDistinct-IsPermutation eqb eqb_flips olds items same apart))) less (omega (arith, l, len, long))

  found : (q : ℕ) → q < count → (n : ℕ) × (n < count) × (number_of items n ≡ q)
  found q l =
      let is = λ (x : ℕ). eqb (x % 128) q in
      let old : list_any is olds ≡ true = list_any_at is olds q 0 (omega (arith, l, len)) (eq-eqb _ _ (ap (λ x. x % 128) (are q l) ∙ number_in (time q) q (omega (arith, l, few)))) in
      let some = Any-from_list_any is items (sym (list_any-IsPermutation is olds items same) ∙ old) in
      (some.0, omega (arith, some.2, len, long), ap (λ x. x % 128) (get_or_default items some.0 0 some.1 some.2 ∙ some.3) ∙ eqb-true _ _ some.4)

  pub sorted_in_order : AreInOrder count time items
  sorted_in_order = record { len = long ∙ len; within = λ n l. (new_item n l).0; times = λ n l. (new_item n l).1; all = found; rises = rising }

-- two places with one number are one place
pub one_place : (count : ℕ) (time : ℕ → ℕ) (items : List ℕ) → AreInOrder count time items → (m n : ℕ) → m < count → n < count → number_of items m ≡ number_of items n → m ≡ n
one_place count time items o m n lm ln e =
    let times : time_of items m ≡ time_of items n = o.times m lm ∙ ap time e ∙ sym (o.times n ln) in
    ⊎_elim
    (λ (l : m < n). let r = o.rises m n l ln in omega (arith, r, times, e))
    (λ (l : n ≤ m). ⊎_elim (λ (k : n < m). let r = o.rises n m k lm in omega (arith, r, times, e)) (λ (k : m ≤ n). omega (arith, l, k)) (cases_lt n m))
    (cases_lt m n)
