-- The positions of a frame once a list of it has begun.
use Rattle.std.proofs.Common.{◌≡◌, ℕ, zero, suc, ◌+◌, ◌-◌, ◌%◌, ◌≤◌, ◌<◌, Bool, true, false, cond, eqb, List, Option, [], ◌∷◌, ◌++◌, length, take, drop, refl, sym, ap, ap₂, ◌∙◌, subst, arith, length-append}
use Rattle.htl_machine.proofs.Words.{drop-take, frame_of, Tables, Job, HaveLengths, AreWithinWorst, CanBegin, Round, round_begun, added, new_jobs, list_begun, CanStart, IsNumbering, IsPath, IsAtFirst, kept_lengths, Path}

drop_front : {A : Type 0} (xs ys : List A) → drop (length xs) (xs ++ ys) ≡ ys
drop_front [] ys = refl
drop_front (x ∷ xs) ys = drop_front xs ys

-- what comes behind the first positions
behind : {A : Type 0} (from end : ℕ) (out front new : List A) → from ≡ length front → end ≡ from + length new → take end out ≡ front ++ new → take (end - from) (drop from out) ≡ new
behind from end out front new same size are =
    let many : end - from ≡ length new = omega (arith, size) in
    ap (λ k. take k (drop from out)) many ∙ sym (drop-take from (length new) out) ∙ ap₂ (λ k n. drop k (take n out)) same (sym size) ∙ ap (drop (length front)) are ∙ drop_front front new

-- behind a frame's start
module _ (t : Tables) (modes ms : List (Option ℕ)) (takes : List ℕ) (at frame count from end : ℕ) (old out : List Job) (r : Round) (noted : ms ≡ modes) (ticks : frame ≡ frame_of t) (more : eqb (at % frame) 0 ≡ false)
    (many : count ≡ length r.jobs) (are : take count old ≡ r.jobs) (kept : from ≡ cond (eqb (at % frame) 0) 0 count) (size : end ≡ from + length (new_jobs t ms (at % frame) from))
    (made : take end out ≡ take from old ++ new_jobs t ms (at % frame) from) where
  from_is : from ≡ count
  from_is = kept ∙ ap (λ b. cond b 0 count) more

  front_is : take from old ≡ r.jobs
  front_is = ap (λ k. take k old) from_is ∙ are

  own : new_jobs t ms (at % frame) from ≡ new_jobs t modes (at % frame_of t) (length r.jobs)
  own = ap (λ z. new_jobs t z (at % frame) from) noted ∙ ap (λ f. new_jobs t modes (at % f) from) ticks ∙ ap (new_jobs t modes (at % frame_of t)) (from_is ∙ many)

  pub later_jobs : take (end - from) (drop from out) ≡ new_jobs t modes (at % frame_of t) (length r.jobs)
  later_jobs = behind from end out r.jobs (new_jobs t ms (at % frame) from) (from_is ∙ many) size (made ∙ ap (λ js. js ++ new_jobs t ms (at % frame) from) front_is) ∙ own

  pub later_can : CanStart t modes takes at r → (r.start ≤ at) × CanBegin r (at - r.start) (take (end - from) (drop from out)) (kept_lengths takes (take (end - from) (drop from out)))
  later_can can =
      let h = can.more (not_zero (at % frame_of t) (sym (ap (λ f. eqb (at % f) 0) ticks) ∙ more)) in
      (h.0, subst (λ js. CanBegin r (at - r.start) js (kept_lengths takes js)) (sym later_jobs) h.1)
    where
      not_zero : (a : ℕ) → eqb a 0 ≡ false → 0 < a
      not_zero zero e = absurd (let z : ⊥ = cc in z)
      not_zero (suc a) e = omega arith

  pub later_begun : (d : Round) → d ≡ added r at (take (end - from) (drop from out)) (kept_lengths takes (take (end - from) (drop from out))) → d ≡ list_begun t modes takes at r
  later_begun d is =
      let first = new_jobs t modes (at % frame_of t) 0 in
      let new = new_jobs t modes (at % frame_of t) (length r.jobs) in
      is ∙ ap (λ js. added r at js (kept_lengths takes js)) later_jobs
      ∙ sym (ap (λ b. cond b (round_begun at first (kept_lengths takes first)) (added r at new (kept_lengths takes new))) (sym (ap (λ f. eqb (at % f) 0) ticks) ∙ more))

  pub later_all : (d : Round) → d ≡ added r at (take (end - from) (drop from out)) (kept_lengths takes (take (end - from) (drop from out))) → (take end out ≡ d.jobs) × (end ≡ length d.jobs)
  later_all d is =
      let new = take (end - from) (drop from out) in
      let all : take end out ≡ d.jobs =
      made ∙ ap₂ (λ (xs ys : List Job). xs ++ ys) front_is (own ∙ sym later_jobs) ∙ sym (ap (λ (z : Round). z.jobs) is) in
      (all, omega (arith, size, from_is, many, ap length (own ∙ sym later_jobs), ap (λ (z : Round). length z.jobs) is, length-append r.jobs new))

-- at a frame's start
module _ (t : Tables) (modes ms : List (Option ℕ)) (takes : List ℕ) (at frame count from end : ℕ) (old out : List Job) (r : Round) (noted : ms ≡ modes) (ticks : frame ≡ frame_of t) (begins : at % frame ≡ 0)
    (kept : from ≡ cond (eqb (at % frame) 0) 0 count) (size : end ≡ from + length (new_jobs t ms (at % frame) from)) (made : take end out ≡ take from old ++ new_jobs t ms (at % frame) from) where
  from_none : from ≡ 0
  from_none = kept ∙ ap (λ a. cond (eqb a 0) 0 count) begins

  all_new : take end out ≡ new_jobs t ms (at % frame) from
  all_new = made ∙ ap (λ k. take k old ++ new_jobs t ms (at % frame) from) from_none

  firsts : new_jobs t ms (at % frame) from ≡ new_jobs t modes (at % frame_of t) 0
  firsts = ap (λ z. new_jobs t z (at % frame) from) noted ∙ ap (λ f. new_jobs t modes (at % f) from) ticks ∙ ap (new_jobs t modes (at % frame_of t)) from_none

  first_jobs : take (end - from) (drop from out) ≡ new_jobs t modes (at % frame_of t) 0
  first_jobs = behind from end out [] (new_jobs t ms (at % frame) from) from_none size all_new ∙ firsts

  pub first_can : CanStart t modes takes at r → let js = take (end - from) (drop from out) in HaveLengths js (kept_lengths takes js) × AreWithinWorst js (kept_lengths takes js)
  first_can can = subst (λ js. HaveLengths js (kept_lengths takes js) × AreWithinWorst js (kept_lengths takes js)) (sym first_jobs) (can.first (sym (ap (λ f. at % f) ticks) ∙ begins))

  pub first_begun : (d : Round) → d ≡ round_begun at (take (end - from) (drop from out)) (kept_lengths takes (take (end - from) (drop from out))) → d ≡ list_begun t modes takes at r
  first_begun d is =
      let first = new_jobs t modes (at % frame_of t) 0 in
      let new = new_jobs t modes (at % frame_of t) (length r.jobs) in
      is ∙ ap (λ js. round_begun at js (kept_lengths takes js)) first_jobs
      ∙ sym (ap (λ a. cond (eqb a 0) (round_begun at first (kept_lengths takes first)) (added r at new (kept_lengths takes new))) (sym (ap (λ f. at % f) ticks) ∙ begins))

  pub first_all : (d : Round) → d ≡ round_begun at (take (end - from) (drop from out)) (kept_lengths takes (take (end - from) (drop from out))) → (take end out ≡ d.jobs) × (end ≡ length d.jobs)
  first_all d is =
      let same = firsts ∙ sym first_jobs ∙ sym (ap (λ (z : Round). z.jobs) is) in
      (all_new ∙ same, omega (arith, size, from_none, ap length same))

-- the positions have room
pub room_there : (t : Tables) (modes ms : List (Option ℕ)) (takes : List ℕ) (at frame count from : ℕ) (r : Round) → ms ≡ modes → frame ≡ frame_of t → count ≡ length r.jobs → from ≡ cond (eqb (at % frame) 0) 0 count
    → length (list_begun t modes takes at r).jobs ≤ 128 → from + length (new_jobs t ms (at % frame) from) ≤ 128
room_there t modes ms takes at frame count from r noted ticks many kept few = by (eqb (at % frame_of t) 0) refl
  where
    first : List Job
    first = new_jobs t modes (at % frame_of t) 0

    new : List Job
    new = new_jobs t modes (at % frame_of t) (length r.jobs)

    jobs : Bool → List Job
    jobs b = (cond b (round_begun at first (kept_lengths takes first)) (added r at new (kept_lengths takes new))).jobs

    own : (k : ℕ) → from ≡ k → new_jobs t ms (at % frame) from ≡ new_jobs t modes (at % frame_of t) k
    own k is = ap (λ z. new_jobs t z (at % frame) from) noted ∙ ap (λ f. new_jobs t modes (at % f) from) ticks ∙ ap (new_jobs t modes (at % frame_of t)) is

    by : (b : Bool) → eqb (at % frame_of t) 0 ≡ b → from + length (new_jobs t ms (at % frame) from) ≤ 128
    by true e =
        let none : from ≡ 0 = kept ∙ ap (λ f. cond (eqb (at % f) 0) 0 count) ticks ∙ ap (λ b. cond b 0 count) e in
        omega (arith, few, none, ap length (own 0 none), ap (λ b. length (jobs b)) e)
    by false e =
        let all : from ≡ length r.jobs = kept ∙ ap (λ f. cond (eqb (at % f) 0) 0 count) ticks ∙ ap (λ b. cond b 0 count) e ∙ many in
        omega (arith, few, all, ap length (own (length r.jobs) all), ap (λ b. length (jobs b)) e, length-append r.jobs new)

-- so a run stands in its frame
pub stands_on : (t : Tables) (p : Path) (jobs : List Job) → IsNumbering t p.numbering → length p.modes.modes ≡ length t.modules → length jobs ≤ 128 → (take p.count p.jobs ≡ jobs) × (p.count ≡ length jobs) → (p.first ≡ true → IsAtFirst t p) → IsPath t p jobs
stands_on t p jobs numbering modes few all first = record { numbering = numbering; modes = modes; few = omega (arith, all.1, few); many = all.1; are = all.0; first = first }
