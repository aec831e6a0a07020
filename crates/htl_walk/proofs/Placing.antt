-- The jobs of a path from those of its positions.
use Rattle.std.proofs.Common.{◌≡◌, ℕ, zero, suc, ◌+◌, ◌≤◌, ◌<◌, ◌^◌, Bool, true, false, cond, ◌&&◌, eqb, min, List, [], ◌∷◌, ◌++◌, length, map, take, set, get_or, add-one, Option, Some, None, refl, sym, ap, ◌∙◌, arith}
use Rattle.htl_walk.proofs.Words.{All, bit_at, bit_and, take-suc, bit_at_and, All-from_get_or, take_more_set, map-append, get_or-map, length-map, Place, Inv, has_bit, Tables, task_worst, release, window_end, same_row, has_no_bit, Job, absent_job, mask, is_fed_by, job_of, jobs_standing, job_in, placed, placed_job, placed_jobs, standing_of, begins_with, moved, HasTimes, AreWellFormed, slice_get}
use Rattle.htl_walk.proofs.{Masks.mask_bit, Starts.no_place, Starts.get_map}

-- ---- bits

both_bits : (a b : ℕ) → a ≤ 1 → b ≤ 1 → eqb (min a b) 1 ≡ (eqb a 1 && eqb b 1)
both_bits (suc (suc a)) b l m = absurd (omega (arith, l))
both_bits a (suc (suc b)) l m = absurd (omega (arith, m))
both_bits _ _ l m = refl

pub has_bit_and : (a b q : ℕ) → has_bit (bit_and a b) q ≡ (has_bit a q && has_bit b q)
has_bit_and a b q = ap (λ n. eqb n 1) (bit_at_and a b q) ∙ both_bits (bit_at a q) (bit_at b q) (omega arith) (omega arith)

tests : (f : Option ℕ → Bool) (a : ℕ) (xs : List Place) (q : ℕ)
    → (get_or (map f (standing_of xs)) q false && begins_with a xs q) ≡ get_or (map (λ (y : Place). eqb y.at a && f y.inv) xs) q false
tests f a (x ∷ xs) zero = grind arith
tests f a (x ∷ xs) (suc q) = tests f a xs q
tests f a [] _ = refl

same_preds : (f : Option ℕ → Bool) (a row : ℕ) (xs : List Place) → ((q : ℕ) → has_bit row q ≡ begins_with a xs q)
    → bit_and (mask (map f (standing_of xs))) row ≡ mask (map (λ (y : Place). eqb y.at a && f y.inv) xs)
same_preds f a row xs bits =
    same_row (bit_and (mask (map f (standing_of xs))) row) (mask (map (λ (y : Place). eqb y.at a && f y.inv) xs))
    (λ q.
    has_bit_and (mask (map f (standing_of xs))) row q
    ∙ ap (λ b. b && has_bit row q) (mask_bit (map f (standing_of xs)) q)
    ∙ ap (λ b. get_or (map f (standing_of xs)) q false && b) (bits q)
    ∙ tests f a xs q
    ∙ sym (mask_bit (map (λ (y : Place). eqb y.at a && f y.inv) xs) q))

-- ---- one position

module _ (t : Tables) (xs : List Place) where
  -- the job of what stands at a position, moved to its round
  pub moved_is : (x : Place) (row : ℕ) → ((q : ℕ) → has_bit row q ≡ begins_with x.at xs q) → moved x.at row (job_of t (standing_of xs) x.inv) ≡ placed_job t xs x
  moved_is x row bits = go x.inv
    where
      none : bit_and 0 row ≡ 0
      none = same_row (bit_and 0 row) 0 (λ q. has_bit_and 0 row q ∙ no_left q)
        where
          no_left : (q : ℕ) → (has_bit 0 q && has_bit row q) ≡ has_bit 0 q
          no_left q = ap (λ b. b && has_bit row q) (has_no_bit q) ∙ sym (has_no_bit q)

      absent : moved x.at row absent_job ≡ absent_job
      absent = ap (λ n. let j : Job = record { present = false; inv = 0; release = 0; end = 0; worst = 0; preds = n } in j) none

      inner : (k : ℕ) (o : Option Inv)
          → moved x.at row (elim o as (λ _. Job) [
            | None ↦ absent_job
            | Some i ↦ record { present = true; inv = k; release = release t i; end = window_end t i; worst = task_worst t i.task; preds = mask (map (is_fed_by t k) (standing_of xs)) }
          ])
          ≡ job_in t xs x.at k o
      inner k None = absent
      inner k (Some i) =
          ap (λ n. let j : Job = record { present = true; inv = k; release = x.at + release t i; end = x.at + window_end t i; worst = task_worst t i.task; preds = n } in j)
          (same_preds (is_fed_by t k) x.at row xs bits)

      go : (o : Option ℕ) → moved x.at row (job_of t (standing_of xs) o) ≡ placed t xs x.at o
      go None = absent
      go (Some k) = inner k (slice_get t.invs k)

-- the fields of the job before it is moved
pub fields_small : (a row : ℕ) (j : Job) (k : Job) → moved a row j ≡ k → HasTimes k → j.present ≡ true → (a + j.release < 2 ^ 64) × (a + j.end < 2 ^ 64)
fields_small a row j k e times here = grind arith

-- one position more is filled
pub front_next : (f : Place → Job) (out : List Job) (xs : List Place) (p : ℕ) (j : Job) → p < length out → p < length xs → take p out ≡ map f (take p xs) → j ≡ f (get_or xs p no_place)
    → take (p + 1) (set out p j) ≡ map f (take (p + 1) xs)
front_next f out xs p j within below front is =
    take_more_set out p j within ∙ ap (λ ys. ys ++ j ∷ []) front ∙ ap (λ x. map f (take p xs) ++ x ∷ []) is
    ∙ sym (ap (λ n. map f (take n xs)) (add-one p) ∙ ap (map f) (take-suc xs p no_place below) ∙ map-append f (take p xs) (get_or xs p no_place ∷ []))

-- the job at a position of those without rounds
pub job_before : (t : Tables) (standing : List (Option ℕ)) (xs : List Place) (jobs : List Job) (p : ℕ) (n : ℕ) → standing ≡ standing_of xs → n ≡ length xs → take n jobs ≡ jobs_standing t standing → p < length xs → n ≤ length jobs
    → get_or jobs p absent_job ≡ job_of t (standing_of xs) (get_or xs p no_place).inv
job_before t standing xs jobs p n e m f l k =
    sym (taken n jobs p absent_job (omega (arith, m, l)) k) ∙ ap (λ js. get_or js p absent_job) (f ∙ ap (jobs_standing t) e)
    ∙ get_or-map (job_of t (standing_of xs)) (standing_of xs) p None absent_job (omega (arith, l, length-map xs (λ (x : Place). x.inv)))
    ∙ ap (job_of t (standing_of xs)) (get_map (λ (x : Place). x.inv) xs p None l)
  where
    taken : (n : ℕ) (xs : List Job) (p : ℕ) (d : Job) → p < n → n ≤ length xs → get_or (take n xs) p d ≡ get_or xs p d
    taken zero xs p d l k = absurd (omega (arith, l))
    taken (suc n) [] p d l k = absurd (omega (arith, k))
    taken (suc n) (x ∷ xs) zero d l k = refl
    taken (suc n) (x ∷ xs) (suc p) d l k = taken n xs p d (omega (arith, l)) (omega (arith, k))

-- ---- in the terms of the code

pub place_is : (t : Tables) (xs : List Place) (standing : List (Option ℕ)) (jobs : List Job) (p row : ℕ) → take (length xs) standing ≡ standing_of xs
    → take (length (take (length xs) standing)) jobs ≡ jobs_standing t (take (length xs) standing) → p < length xs → length xs ≤ length jobs → ((q : ℕ) → has_bit row q ≡ begins_with (get_or xs p no_place).at xs q)
    → moved (get_or xs p no_place).at row (get_or jobs p absent_job) ≡ placed_job t xs (get_or xs p no_place)
place_is t xs standing jobs p row e f l k bits =
    let some : length (take (length xs) standing) ≡ length xs = ap (λ (os : List (Option ℕ)). length os) e ∙ length-map xs (λ (y : Place). y.inv) in
    ap (moved (get_or xs p no_place).at row) (job_before t (take (length xs) standing) xs jobs p (length (take (length xs) standing)) e some f l (omega (arith, some, k)))
    ∙ moved_is t xs (get_or xs p no_place) row bits

pub place_small : (t : Tables) (xs : List Place) (standing : List (Option ℕ)) (jobs : List Job) (p row : ℕ) → All HasTimes (placed_jobs t xs) → take (length xs) standing ≡ standing_of xs
    → take (length (take (length xs) standing)) jobs ≡ jobs_standing t (take (length xs) standing) → p < length xs → length xs ≤ length jobs → ((q : ℕ) → has_bit row q ≡ begins_with (get_or xs p no_place).at xs q)
    → (get_or jobs p absent_job).present ≡ true → ((get_or xs p no_place).at + (get_or jobs p absent_job).release < 2 ^ 64) × ((get_or xs p no_place).at + (get_or jobs p absent_job).end < 2 ^ 64)
place_small t xs standing jobs p row times e f l k bits =
    let g = times p absent_job (omega (arith, l, length-map xs (placed_job t xs))) in
    let at : get_or (placed_jobs t xs) p absent_job ≡ placed_job t xs (get_or xs p no_place) = get_map (placed_job t xs) xs p absent_job l in
    fields_small (get_or xs p no_place).at row (get_or jobs p absent_job) (get_or (placed_jobs t xs) p absent_job) (place_is t xs standing jobs p row e f l k bits ∙ sym at) g

-- well-formed jobs have such times
pub formed_times : (js : List Job) → AreWellFormed js → All HasTimes js
formed_times js good = All-from_get_or HasTimes js absent_job (λ p l. let g = good.each p absent_job l in (omega (arith, g.window, g.small), omega (arith, g.small)))
