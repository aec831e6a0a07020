-- Legal logs line by line: in order of time, never more ticks than a job takes, and all of them where its window ended.
use Rattle.std.proofs.Common.{◌≡◌, ◌≤◌, ◌<◌, ◌⊎◌, inl, inr, ℕ, zero, suc, ◌+◌, ◌-◌, Bool, true, false, cond, not, ◌&&◌, ◌||◌, eqb, leb, ltb, List, [], ◌∷◌, ◌++◌, length, get_or, take, slice_get, Some, None, refl, sym, ap, ◌∙◌, arith, ap₂}
use Rattle.htl_audit.proofs.Words.{take-length, eqb-true, eqb-false, ltb-true, ltb-false, lt-ltb, and_from, or_parts, leb-false, slice_get_cases, none-some, Job, precedes, Slice, ended, ending, BeginningJobs, lies_in, ticks, job_length, is_done, is_free, is_over, is_short, any_job, last_end, slice_is_out_of_order, line_fault, IsLegalIn, order}
use Rattle.htl_audit.proofs.{JobTests.all_at_0, JobTests.IsJobOf, JobTests.none_passes, JobTests.next_counts, Judging.applied, Judging.ticks_more, Judging.IsKept, Judging.kept_line, Passing.get_before, Summing.last_more}
use Rattle.htl_smach.proofs.RoundRecords.{take_more_get}
use Rattle.std.proofs.{lemmas.List.take_all, lemmas.Bool.not-false}

-- ---- the lines that end before an instant

module _ (r : BeginningJobs) (j : Job) where
  pub ended_less : (n : ℕ) (xs : List Slice) → ticks r j (ended n xs) ≤ ticks r j xs
  ended_less n [] = omega arith
  ended_less n (x ∷ xs) = by (ltb x.to n) (ended_less n xs)
    where
      by : (b : Bool) → ticks r j (ended n xs) ≤ ticks r j xs → ticks r j (cond b (x ∷ ended n xs) (ended n xs)) ≤ ticks r j (x ∷ xs)
      by true next = omega (arith, next)
      by false next = omega (arith, next)

  -- all lines in front of a place are among them, where these end before
  pub ended_front : (n k : ℕ) (xs : List Slice) → ((i : ℕ) (x : Slice) → i < k → slice_get xs i ≡ Some x → x.to < n) → ticks r j (take k xs) ≤ ticks r j (ended n xs)
  ended_front n zero xs early = omega arith
  ended_front n (suc k) [] early = omega arith
  ended_front n (suc k) (x ∷ xs) early =
      let here : ended n (x ∷ xs) ≡ x ∷ ended n xs = ap (λ (b : Bool). cond b (x ∷ ended n xs) (ended n xs)) (lt-ltb x.to n (early 0 x (omega arith) refl)) in
      omega (arith, ap (ticks r j) here, ended_front n k xs (λ i y less at. early (suc i) y (omega (arith, less)) at))

  -- where the job's own lines end before, they are all that count
  pub ended_all : (n : ℕ) (xs : List Slice) → ((i : ℕ) (x : Slice) → slice_get xs i ≡ Some x → lies_in r j x ≡ true → x.to < n) → ticks r j (ended n xs) ≡ ticks r j xs
  ended_all n [] own = refl
  ended_all n (x ∷ xs) own = by (ltb x.to n) (lies_in r j x) refl refl (ended_all n xs (λ i y at. own (suc i) y at))
    where
      by : (b c : Bool) → ltb x.to n ≡ b → lies_in r j x ≡ c → ticks r j (ended n xs) ≡ ticks r j xs → ticks r j (cond b (x ∷ ended n xs) (ended n xs)) ≡ cond (lies_in r j x) (x.to - x.from) 0 + ticks r j xs
      by true c e f next = omega (arith, next)
      by false true e f next = absurd (omega (arith, own 0 x refl f, ltb-false x.to n e))
      by false false e f next = omega (arith, next, ap (λ (b : Bool). cond b (x.to - x.from) 0) f)

  pub ended_next : (n : ℕ) (xs : List Slice) → ticks r j (ended (suc n) xs) ≡ ticks r j (ended n xs) + ticks r j (ending n xs)
  ended_next n [] = refl
  ended_next n (x ∷ xs) =
      omega (arith, ticks_if (ltb x.to (suc n)) (ended (suc n) xs), ticks_if (ltb x.to n) (ended n xs), ticks_if (eqb x.to n) (ending n xs), next_counts x.to n (cond (lies_in r j x) (x.to - x.from) 0), ended_next n xs)
    where
      ticks_if : (b : Bool) (ys : List Slice) → ticks r j (cond b (x ∷ ys) ys) ≡ cond b (cond (lies_in r j x) (x.to - x.from) 0) 0 + ticks r j ys
      ticks_if true ys = refl
      ticks_if false ys = omega arith

  -- a line of the job, where these have ticks of it
  pub ended_some : (n : ℕ) (xs : List Slice) → 0 < ticks r j (ended n xs) → (k : ℕ) × (x : Slice) × (slice_get xs k ≡ Some x) × (x.to < n) × (lies_in r j x ≡ true)
  ended_some n [] some = absurd (omega (arith, some))
  ended_some n (x ∷ xs) some = by (ltb x.to n) refl (lies_in r j x) refl some (λ more. ended_some n xs more)
    where
      later : ((k : ℕ) × (y : Slice) × (slice_get xs k ≡ Some y) × (y.to < n) × (lies_in r j y ≡ true)) → (k : ℕ) × (y : Slice) × (slice_get (x ∷ xs) k ≡ Some y) × (y.to < n) × (lies_in r j y ≡ true)
      later f = (suc f.0, f.1, f.2, f.3, f.4)

      by : (b : Bool) → ltb x.to n ≡ b → (c : Bool) → lies_in r j x ≡ c → 0 < ticks r j (cond b (x ∷ ended n xs) (ended n xs))
          → (0 < ticks r j (ended n xs) → (k : ℕ) × (y : Slice) × (slice_get xs k ≡ Some y) × (y.to < n) × (lies_in r j y ≡ true))
          → (k : ℕ) × (y : Slice) × (slice_get (x ∷ xs) k ≡ Some y) × (y.to < n) × (lies_in r j y ≡ true)
      by true e true f some next = (0, x, refl, ltb-true x.to n e, f)
      by true e false f some next = later (next (omega (arith, some, ap (λ (b : Bool). cond b (x.to - x.from) 0) f)))
      by false e c f some next = later (next some)

-- ---- those that end at it

pub ending_at : (n : ℕ) (xs : List Slice) (m : ℕ) (x : Slice) → slice_get (ending n xs) m ≡ Some x → (k : ℕ) × (slice_get xs k ≡ Some x) × (x.to ≡ n)
ending_at n [] m x at = absurd (none-some x at)
ending_at n (y ∷ ys) m x at = by (eqb y.to n) refl m at (λ q e. let r = ending_at n ys q x e in (suc r.0, r.1, r.2))
  where
    by : (b : Bool) → eqb y.to n ≡ b → (m : ℕ) → slice_get (cond b (y ∷ ending n ys) (ending n ys)) m ≡ Some x
        → ((q : ℕ) → slice_get (ending n ys) q ≡ Some x → (k : ℕ) × (slice_get (y ∷ ys) k ≡ Some x) × (x.to ≡ n)) → (k : ℕ) × (slice_get (y ∷ ys) k ≡ Some x) × (x.to ≡ n)
    by true e zero at next = let one : y ≡ x = cc in (0, at, sym (ap (λ (z : Slice). z.to) one) ∙ eqb-true y.to n e)
    by true e (suc m) at next = next m at
    by false e m at next = next m at

pub none_ending : (n : ℕ) (xs : List Slice) → ((i : ℕ) (x : Slice) → slice_get xs i ≡ Some x → x.to ≡ n → ⊥) → ending n xs ≡ []
none_ending n [] other = refl
none_ending n (x ∷ xs) other = by (eqb x.to n) refl (none_ending n xs (λ i y at. other (suc i) y at))
  where
    by : (b : Bool) → eqb x.to n ≡ b → ending n xs ≡ [] → cond b (x ∷ ending n xs) (ending n xs) ≡ []
    by true e next = absurd (other 0 x refl (eqb-true x.to n e))
    by false e next = next

-- lines that end one after the other
abbrev pub AreOrdered : List Slice → Type 0
AreOrdered xs = (i k : ℕ) (x y : Slice) → i < k → slice_get xs i ≡ Some x → slice_get xs k ≡ Some y → (x.to ≤ y.from) × (y.from < y.to)

few_ending : (n : ℕ) (xs : List Slice) → AreOrdered xs → length (ending n xs) ≤ 1
few_ending n [] ordered = omega arith
few_ending n (x ∷ xs) ordered = by (eqb x.to n) refl (few_ending n xs (λ i k y z less. ordered (suc i) (suc k) y z (omega (arith, less))))
  where
    by : (b : Bool) → eqb x.to n ≡ b → length (ending n xs) ≤ 1 → length (cond b (x ∷ ending n xs) (ending n xs)) ≤ 1
    by false e next = next
    by true e next =
        let none = none_ending n xs (λ i y at to. let o = ordered 0 (suc i) x y (omega arith) refl at in omega (arith, o.0, o.1, to, eqb-true x.to n e)) in
        omega (arith, ap (λ (zs : List Slice). length zs) none)

-- ---- a legal log

module _ (rounds : List BeginningJobs) (now : ℕ) (log : List Slice) (legal : IsLegalIn rounds now log) where
  pub kept : (i : ℕ) (x : Slice) → slice_get log i ≡ Some x → IsKept rounds now (take i log) x
  kept i x at = kept_line rounds now (take i log) x (legal.lines i x at)

  -- its lines end one after the other
  pub ordered : AreOrdered log
  ordered i zero x y less at_x at_y = absurd (omega (arith, less))
  ordered i (suc k) x y less at_x at_y =
      let z = get_before log k y at_y in
      let own = kept (suc k) y at_y in
      let end : last_end (take (suc k) log) ≡ z.0.to = ap last_end (take_more_get log k z.0 z.1) ∙ last_more (take k log) z.0 in
      elim (order i k less) [
        | inl earlier ↦ (let next = ordered i k x z.0 earlier at_x z.1 in (omega (arith, next.0, next.1, end, own.order), own.room))
        | inr same ↦
            (let one : Some x ≡ Some z.0 = sym at_x ∙ ap (slice_get log) same ∙ z.1 in
            let is : x ≡ z.0 = cc in
            (omega (arith, end, own.order, ap (λ (u : Slice). u.to) is), own.room))
      ]

  pub one_ending : (n : ℕ) → length (ending n log) ≤ 1
  one_ending n = few_ending n log ordered

  -- none ends at the first instant
  pub none_first : ending 0 log ≡ []
  none_first = none_ending 0 log (λ i x at to. let own = kept i x at in omega (arith, own.room, to))

  -- ---- one job

  module _ (r : BeginningJobs) (p : ℕ) (j : Job) (is : IsJobOf rounds r p j) where
    pub never_over : (i : ℕ) → ticks r j (take i log) ≤ job_length r p
    never_over zero = omega arith
    never_over (suc i) = by (slice_get_cases log i).1 (never_over i)
      where
        not_over : (x : Slice) → slice_get log i ≡ Some x → lies_in r j x ≡ true → ticks r j (take i log ++ x ∷ []) ≤ job_length r p
        not_over x at e =
            ltb-false (job_length r p) (ticks r j (take i log ++ x ∷ []))
            (ap (λ b. b && is_over r (take i log ++ x ∷ []) (p, j)) (sym e) ∙ none_passes (λ r j. lies_in r j.1 x && is_over r (take i log ++ x ∷ []) j) rounds r p j (kept i x at).most is)

        one : (x : Slice) → slice_get log i ≡ Some x → (b : Bool) → lies_in r j x ≡ b → ticks r j (take i log) ≤ job_length r p → ticks r j (take (suc i) log) ≤ job_length r p
        one x at true e next = omega (arith, ap (ticks r j) (take_more_get log i x at), not_over x at e)
        one x at false e next =
            omega (arith, ap (ticks r j) (take_more_get log i x at), ticks_more r j (take i log) x, ap (λ (b : Bool). cond b (x.to - x.from) 0) e, next)

        by : ((x : Slice) × (i < length log) × (slice_get log i ≡ Some x) × (get_or log i x ≡ x)) ⊎ ((length log ≤ i) × (slice_get log i ≡ None)) → ticks r j (take i log) ≤ job_length r p → ticks r j (take (suc i) log) ≤ job_length r p
        by (inl c) next = one c.0 c.2 (lies_in r j c.0) refl next
        by (inr c) next = omega (arith, ap (ticks r j) (take_all (suc i) log (omega (arith, c.0)) ∙ sym (take_all i log c.0)), next)

    pub never_more : ticks r j log ≤ job_length r p
    never_more = omega (arith, ap (ticks r j) (take-length log), never_over (length log))

    -- where its window ended by the end, it has all its ticks
    pub window_done : j.present ≡ true → r.start + j.end < now → ticks r j log ≡ job_length r p
    window_done here late =
        let enough : ltb (ticks r j log) (job_length r p) ≡ false =
        ap₂ (λ a b. a && b && ltb (ticks r j log) (job_length r p)) (sym here) (sym (lt-ltb (r.start + j.end) now late)) ∙ none_passes (λ r j. is_short now r log j) rounds r p j legal.whole is in
        omega (arith, ltb-false (ticks r j log) (job_length r p) enough, never_more)

    -- a predecessor has all its ticks before each line of the job
    pub waited : (k : ℕ) (x : Slice) → slice_get log k ≡ Some x → lies_in r j x ≡ true → (q : ℕ) (h : Job) → slice_get r.jobs q ≡ Some h → precedes q j ≡ true → h.present ≡ true → ticks r h (take k log) ≡ job_length r q
    waited k x at e q h at_q before here =
        let none : not (is_free r (take k log) j) ≡ false =
        ap (λ b. b && not (is_free r (take k log) j)) (sym e) ∙ none_passes (λ r j. lies_in r j.1 x && not (is_free r (take k log) j.1)) rounds r p j (kept k x at).free is in
        let test = all_at_0 (λ (z : ℕ × Job). not (precedes z.0 j && z.1.present) || is_done r (take k log) z) r.jobs (not-false (is_free r (take k log) j) none) q h at_q in
        eqb-true (ticks r h (take k log)) (job_length r q)
        (applied (precedes q j && h.present) (is_done r (take k log) (q, h)) test (and_from (precedes q j) h.present before here))
