-- Predecessors as numbers by their bits.
use Rattle.std.proofs.Common.{◌≡◌, ℕ, zero, suc, ◌+◌, ◌*◌, ◌/◌, ◌%◌, ◌<◌, ◌≤◌, Bool, true, false, ◌&&◌, eqb, ltb, List, [], ◌∷◌, ◌++◌, length, map, take, set, get_or, add-one, Option, Some, None, refl, sym, ap, ◌∙◌, arith, inl, inr}
use Rattle.htl_walk.proofs.Words.{bit_at, list_any, nat_tests, take-suc, get_or_past, map-append, take_more_set, bit_at-suc, bit_at_lowest, Inv, has_bit, cell, of_bool, feeds_at, writes_to, is_from, AreInRange, Tables, task_worst, release, window_end, same_row, has_no_bit, row_of_reads, row_of_none, Job, is_fed_by, mask, absent_job, job_of, inv_of, reads_of, AreWriters, job_with, cases_lt, and_none, slice_get}

-- ---- the bits of a mask

low_bit : (b : Bool) (m : ℕ) → eqb ((of_bool b + 2 * m) % 2) 1 ≡ b
low_bit true m = let e : (1 + 2 * m) % 2 ≡ 1 = omega arith in ap (λ n. eqb n 1) e
low_bit false m = let e : (0 + 2 * m) % 2 ≡ 0 = omega arith in ap (λ n. eqb n 1) e

pub halved : (b : Bool) (m : ℕ) → (of_bool b + 2 * m) / 2 ≡ m
halved true m = omega arith
halved false m = omega arith

-- bit q of a mask is what the list has there
pub mask_bit : (bs : List Bool) (q : ℕ) → has_bit (mask bs) q ≡ get_or bs q false
mask_bit [] zero = has_no_bit 0
mask_bit [] (suc q) = has_no_bit (suc q)
mask_bit (b ∷ bs) zero = ap (λ n. eqb n 1) (bit_at_lowest (of_bool b + 2 * mask bs)) ∙ low_bit b (mask bs)
mask_bit (b ∷ bs) (suc q) = grind (arith, bit_at-suc, halved, mask_bit bs q)

pub mask_is : (row : ℕ) (bs : List Bool) → ((q : ℕ) → has_bit row q ≡ get_or bs q false) → row ≡ mask bs
mask_is row bs h = same_row row (mask bs) (λ q. h q ∙ sym (mask_bit bs q))

-- what is mapped at a place, where the default is mapped to the default
pub get_mapped : {A : Type 0} (f : A → Bool) (xs : List A) (d : A) (q : ℕ) → f d ≡ false → get_or (map f xs) q false ≡ f (get_or xs q d)
get_mapped f (x ∷ xs) d zero e = refl
get_mapped f (x ∷ xs) d (suc q) e = get_mapped f xs d q e
get_mapped f [] d _ e = sym e

-- ---- the job of a position

-- all positions were noted
pub writers_all : (t : Tables) (standing : List (Option ℕ)) (n : ℕ) (table : List ℕ) → n ≡ length standing
    → ((p r : ℕ) → p < length table → cell table p r ≡ (ltb r n && writes_to (inv_of t (get_or standing r None)) p)) → AreWriters t standing table
writers_all t standing n table is says p r within = grind (arith, cases_lt, get_or_past, and_none)

abbrev made : Tables → ℕ → Inv → ℕ → Job
made t k i preds = record { present = true; inv = k; release = release t i; end = window_end t i; worst = task_worst t i.task; preds = preds }

module _ (t : Tables) (standing : List (Option ℕ)) (table : List ℕ) (r : AreInRange t) (len : length t.ports ≤ length table) (writers : AreWriters t standing table) where
  -- a position is a predecessor where its invocation feeds the other
  row_is : (k : ℕ) (i : Inv) → slice_get t.invs k ≡ Some i → (q : ℕ) → list_any (is_from table q) i.reads ≡ is_fed_by t k (get_or standing q None)
  row_is k i at q = by_standing (get_or standing q None) refl
    where
      by_inv : (n : ℕ) (o : Option Inv) → get_or standing q None ≡ Some n → slice_get t.invs n ≡ o → list_any (is_from table q) i.reads ≡ feeds_at o (slice_get t.invs k)
      by_inv n (Some x) stands here =
          row_of_reads t r x i n k here at table q len (λ p within. writers p q within ∙ ap (λ o. writes_to (inv_of t o) p) stands ∙ ap (λ o. writes_to o p) here)
          ∙ ap (λ o. feeds_at (Some x) o) (sym at)
      by_inv n None stands none =
          row_of_none t r i k at table q len (λ p within. writers p q within ∙ ap (λ o. writes_to (inv_of t o) p) stands ∙ ap (λ o. writes_to o p) none)

      by_standing : (o : Option ℕ) → get_or standing q None ≡ o → list_any (is_from table q) i.reads ≡ is_fed_by t k o
      by_standing None stands = row_of_none t r i k at table q len (λ p within. writers p q within ∙ ap (λ o. writes_to (inv_of t o) p) stands)
      by_standing (Some n) stands = by_inv n (slice_get t.invs n) stands refl

  preds_is : (k : ℕ) (i : Inv) (preds : ℕ) → slice_get t.invs k ≡ Some i → ((q : ℕ) → has_bit preds q ≡ list_any (is_from table q) i.reads) → preds ≡ mask (map (is_fed_by t k) standing)
  preds_is k i preds at bits = mask_is preds (map (is_fed_by t k) standing) (λ q. bits q ∙ row_is k i at q ∙ sym (get_mapped (is_fed_by t k) standing None q refl))

  pub job_is : (o : Option ℕ) (preds : ℕ) → ((q : ℕ) → has_bit preds q ≡ list_any (is_from table q) (reads_of (inv_of t o))) → job_with t o preds ≡ job_of t standing o
  job_is None preds bits = refl
  job_is (Some k) preds bits = by (slice_get t.invs k) refl bits
    where
      by : (o : Option Inv) → slice_get t.invs k ≡ o → ((q : ℕ) → has_bit preds q ≡ list_any (is_from table q) (reads_of o))
          → elim o as (λ _. Job) [ None ↦ absent_job | Some i ↦ made t k i preds ] ≡ elim o as (λ _. Job) [ None ↦ absent_job | Some i ↦ made t k i (mask (map (is_fed_by t k) standing)) ]
      by None at bits = refl
      by (Some i) at bits = ap (made t k i) (preds_is k i preds at bits)

-- one position more is filled
pub front_more : (f : Option ℕ → Job) (out : List Job) (standing : List (Option ℕ)) (p : ℕ) (j : Job) → p < length out → p < length standing → take p out ≡ map f (take p standing)
    → j ≡ f (get_or standing p None) → take (p + 1) (set out p j) ≡ map f (take (p + 1) standing)
front_more f out standing p j within below front is =
    take_more_set out p j within ∙ ap (λ xs. xs ++ j ∷ []) front ∙ ap (λ x. map f (take p standing) ++ x ∷ []) is
    ∙ sym (ap (λ n. map f (take n standing)) (add-one p) ∙ ap (map f) (take-suc standing p None below) ∙ map-append f (take p standing) (get_or standing p None ∷ []))
