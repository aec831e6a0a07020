-- The slices of a run, instant by instant, and the ticks that a job has of those before an instant.
use Rattle.std.proofs.Common.{◌≡◌, ◌≤◌, ◌<◌, ◌⊎◌, inl, inr, ℕ, zero, suc, ◌+◌, ◌*◌, ◌/◌, true, false, cond, not, ◌&&◌, ◌||◌, leb, List, [], ◌∷◌, ◌++◌, length, take, slice_get, Some, None, refl, sym, ap, ap₂, ◌∙◌, subst, arith}
use Rattle.htl_audit.proofs.Words.{div-add-mod, mod-lt, mul-div-le, mul-div_cancel_left, le-ltb, lt-leb, cases_eq, false_from_ne_true, take-append-le, slice_get_within, none-some, take-append_seam, up_to, Job, first_point, none_at_first, rounds_are, up_to_last, Slice, BeginningJobs, lies_in, ticks, is_free, is_over, any_job, last_end, slice_is_out_of_order, line_fault, get_either, times_grow}
use Rattle.htl_audit.specs.declared.slice.LogKind.TheVariants as kind
use Rattle.htl_audit.proofs.{ClosedSlices.closed, ClosedSlices.one_closed, ClosedSlices.given, ClosedSlices.given_first, FrameSlices.frame_slices_at, FrameSlices.none_past, Judging.lies, Judging.rest, Judging.ticks_both, Judging.no_ticks}
use Rattle.htl_audit.proofs.OwnTicks.{Plan, walk_of, IsSound, audited, IsOwn, own, ticks_now}

-- ---- lists of at most one item, end to end

pub record IsCut {A : Type 0} (f : ℕ → List A) (n i : ℕ) (x : A) : Type 0 where
  pub now : ℕ
  pub below : now < n
  pub here : f now ≡ x ∷ []
  pub front : take i (up_to f n) ≡ up_to f now

single : {A : Type 0} (xs : List A) (m : ℕ) (x : A) → length xs ≤ 1 → slice_get xs m ≡ Some x → (m ≡ 0) × (xs ≡ x ∷ [])
single [] m x few at = absurd (none-some x at)
single (y ∷ []) zero x few at = let one : y ≡ x = cc in (refl, ap (λ z. z ∷ []) one)
single (y ∷ []) (suc m) x few at = absurd (none-some x at)
single (y ∷ z ∷ ys) m x few at = absurd (omega (arith, few))

pub cut : {A : Type 0} (f : ℕ → List A) → ((k : ℕ) → length (f k) ≤ 1) → (n i : ℕ) (x : A) → slice_get (up_to f n) i ≡ Some x → IsCut f n i x
cut f few zero i x at = absurd (none-some x at)
cut {A} f few (suc n) i x at = by (get_either (up_to f n) (f n) i x at) (λ e. cut f few n i x e)
  where
    by : (slice_get (up_to f n) i ≡ Some x) ⊎ ((m : ℕ) × (i ≡ length (up_to f n) + m) × (slice_get (f n) m ≡ Some x)) → (slice_get (up_to f n) i ≡ Some x → IsCut f n i x) → IsCut f (suc n) i x
    by (inl e) next =
        let c = next e in
        let within = slice_get_within (up_to f n) i x e in
        record { now = c.now; below = omega (arith, c.below); here = c.here; front = take-append-le i (up_to f n) (f n) (omega (arith, within)) ∙ c.front }
    by (inr e) next =
        let s = single (f n) e.0 x (few n) e.2 in
        let place : i ≡ length (up_to f n) = omega (arith, e.1, s.0) in
        record { now = n; below = omega arith; here = s.1; front = ap (λ k. take k (up_to f n ++ f n)) place ∙ take-append_seam (up_to f n) (f n) }

pub last_early : (a : ℕ) (log : List Slice) → ((i : ℕ) (x : Slice) → slice_get log i ≡ Some x → x.to ≤ a) → last_end log ≤ a
last_early a [] h = omega arith
last_early a (x ∷ []) h = h 0 x refl
last_early a (x ∷ y ∷ xs) h = last_early a (y ∷ xs) (λ i z at. h (suc i) z at)

-- ---- multiples of a period

pub same_round : (period a m : ℕ) → 0 < period → period * a ≤ m → m < period * a + period → period * (m / period) ≡ period * a
same_round period a m some first last = grind arith

pub mod_below : (period m : ℕ) → 0 < period → m < period * (m / period) + period
mod_below period m some = omega (arith, div-add-mod m period, mod-lt m some)

-- ---- a line that breaks no rule

pub keeps : (rounds : List BeginningJobs) (now : ℕ) (log : List Slice) (x : Slice) → x.from < x.to → last_end log ≤ x.from → x.to < now → any_job (λ r j. lies_in r j.1 x) rounds ≡ true
    → (any_job (λ r j. lies_in r j.1 x && is_over r (log ++ x ∷ []) j) rounds ≡ true → ⊥) → (any_job (λ r j. lies_in r j.1 x && not (is_free r log j.1)) rounds ≡ true → ⊥) → line_fault rounds now log x ≡ None
keeps rounds now log x room order soon lies over early =
    let sorted : slice_is_out_of_order now log x ≡ false =
    ap₂ (λ a b. a || b || leb now x.to) (lt-leb x.to x.from room) (le-ltb x.from (last_end log) order) ∙ lt-leb now x.to soon in
    ap (λ b. cond b (Some kind.Order) (rest (any_job (λ r j. lies_in r j.1 x) rounds) (any_job (λ r j. lies_in r j.1 x && is_over r (log ++ x ∷ []) j) rounds) (any_job (λ r j. lies_in r j.1 x && not (is_free r log j.1)) rounds))) sorted
    ∙ ap (λ a. rest a (any_job (λ r j. lies_in r j.1 x && is_over r (log ++ x ∷ []) j) rounds) (any_job (λ r j. lies_in r j.1 x && not (is_free r log j.1)) rounds)) lies
    ∙ ap₂ (λ b c. rest true b c) (false_from_ne_true (any_job (λ r j. lies_in r j.1 x && is_over r (log ++ x ∷ []) j) rounds) over) (false_from_ne_true (any_job (λ r j. lies_in r j.1 x && not (is_free r log j.1)) rounds) early)

-- ---- a run in frames

-- when the frame of an instant began, where each has h ticks
abbrev pub start_of : ℕ → ℕ → ℕ
start_of h n = h * (n / h)

-- each frame begins at a multiple of its ticks, and meets
pub record IsRun (plan : ℕ → Plan) (h : ℕ) : Type 0 where
  pub some : 0 < h
  pub sound : (s : ℕ) → start_of h s ≡ s → IsSound (plan s) h

module _ (plan : ℕ → Plan) (h : ℕ) (run : IsRun plan h) where
  pub again : (n : ℕ) → start_of h (start_of h n) ≡ start_of h n
  again n = ap (λ z. h * z) (mul-div_cancel_left (n / h) run.some)

  -- ---- the slices of an instant

  abbrev pub at : ℕ → List Slice
  at now = frame_slices_at plan h now

  first_at : at 0 ≡ []
  first_at = ap (up_to (λ k. closed (plan (k * h)).jobs (k * h) 0 (walk_of (plan (k * h))))) (none_at_first h run.some)

  turned : (k : ℕ) → h * k ≡ k * h
  turned k = grind arith

  -- a frame that is over has no more
  past : (m k : ℕ) → k < m / h → closed (plan (k * h)).jobs (k * h) (suc m) (walk_of (plan (k * h))) ≡ []
  past m k less =
      let whole : start_of h (k * h) ≡ k * h = ap (start_of h) (sym (turned k)) ∙ ap (λ z. h * z) (mul-div_cancel_left k run.some) ∙ turned k in
      let over : k * h + h ≤ m = omega (arith, times_grow h (suc k) (m / h) less, mul-div-le m h, one_more h k) in
      none_past (plan (k * h)).jobs (k * h) (suc m) (walk_of (plan (k * h))) (λ i l e. omega (arith, (run.sound (k * h) whole).inside i l e, over))
    where
      one_more : (p a : ℕ) → p * suc a ≡ a * p + p
      one_more p a = grind arith

  pub later_at : (m : ℕ) → at (suc m) ≡ closed (plan (start_of h m)).jobs (start_of h m) (suc m) (walk_of (plan (start_of h m)))
  later_at m =
      let of : ℕ → List Slice = λ f. closed (plan f).jobs f (suc m) (walk_of (plan f)) in
      ap (up_to (λ k. closed (plan (k * h)).jobs (k * h) (suc m) (walk_of (plan (k * h))))) (rounds_are h m run.some)
      ∙ up_to_last (λ k. closed (plan (k * h)).jobs (k * h) (suc m) (walk_of (plan (k * h)))) (m / h) (past m)
      ∙ ap of (sym (turned (m / h)))

  pub few : (now : ℕ) → length (at now) ≤ 1
  few zero = let e = ap (λ (xs : List Slice). length xs) first_at in omega (arith, e)
  few (suc m) =
      let r = plan (start_of h m) in
      subst (λ (xs : List Slice). length xs ≤ 1) (sym (later_at m)) (one_closed r.jobs (start_of h m) (suc m) r.schedule (first_point r.jobs r.lengths))

  -- a slice of an instant, with the start of its frame
  pub record IsAt (now : ℕ) (x : Slice) : Type 0 where
    pub before : ℕ
    pub next : now ≡ suc before
    pub own : IsOwn (plan (start_of h before)) (start_of h before) (suc before) x
    pub room : x.from < x.to
    pub to : x.to ≡ now
    pub start : start_of h before ≤ x.from

  pub is_at : (now i : ℕ) (x : Slice) → slice_get (at now) i ≡ Some x → IsAt now x
  is_at zero i x e = absurd (none-some x (ap (λ (xs : List Slice). slice_get xs i) (sym first_at) ∙ e))
  is_at (suc m) i x e =
      let s = start_of h m in
      let o = own (plan s) s h (run.sound s (again m)) (suc m) i x (ap (λ (xs : List Slice). slice_get xs i) (sym (later_at m)) ∙ e) in
      let c = o.from in
      let from : s + c.slice.0 ≡ x.from = ap (λ (z : Slice). z.from) c.is in
      let to : s + c.slice.1 ≡ x.to = ap (λ (z : Slice). z.to) c.is in
      record { before = m; next = refl; own = o; room = omega (arith, from, to, o.room); to = omega (arith, to, o.ends, c.then); start = omega (arith, from) }

  -- ---- the ticks of the job at a position of a frame

  module _ (s : ℕ) (whole : start_of h s ≡ s) (p : ℕ) (j : Job) (job : slice_get (plan s).jobs p ≡ Some j) (here : j.present ≡ true) where
    -- a slice that ends at an instant of another frame isn't the job's
    pub elsewhere : (m : ℕ) (x : Slice) → x.from < x.to → x.to ≡ suc m → lies_in (audited (plan s) s) j x ≡ true → start_of h m ≡ s
    elsewhere m x room to e =
        let l = lies (audited (plan s) s) j x e in
        let end = (run.sound s whole).ends p j job here in
        same_round h (s / h) m run.some (omega (arith, l.from, room, to, whole)) (omega (arith, l.to, to, end, whole)) ∙ whole

    -- at each instant the frame's own slices are all that count
    ticks_at : (now : ℕ) → ticks (audited (plan s) s) j (at now) ≡ ticks (audited (plan s) s) j (closed (plan s).jobs s now (walk_of (plan s)))
    ticks_at zero =
        let r = plan s in
        ap (ticks (audited r s) j) first_at
        ∙ sym
        (no_ticks (audited r s) j (closed r.jobs s 0 (walk_of r))
        (λ i x e l.
        let o = own r s h (run.sound s whole) 0 i x e in
        omega (arith, o.room, o.ends, o.from.then)))
    ticks_at (suc m) = by (cases_eq (start_of h m) s)
      where
        by : (start_of h m ≡ s) ⊎ (start_of h m ≡ s → ⊥)
            → ticks (audited (plan s) s) j (at (suc m)) ≡ ticks (audited (plan s) s) j (closed (plan s).jobs s (suc m) (walk_of (plan s)))
        by (inl same) = ap (ticks (audited (plan s) s) j) (later_at m ∙ ap (λ z. closed (plan z).jobs z (suc m) (walk_of (plan z))) same)
        by (inr other) =
            let r = plan s in
            no_ticks (audited r s) j (at (suc m)) (λ i x e l. let a = is_at (suc m) i x e in other (elsewhere m x a.room a.to l))
            ∙ sym
            (no_ticks (audited r s) j (closed r.jobs s (suc m) (walk_of r))
            (λ i x e l.
            let o = own r s h (run.sound s whole) (suc m) i x e in
            let from : s + o.from.slice.0 ≡ x.from = ap (λ (z : Slice). z.from) o.from.is in
            let to : s + o.from.slice.1 ≡ x.to = ap (λ (z : Slice). z.to) o.from.is in
            other (elsewhere m x (omega (arith, from, to, o.room)) (omega (arith, to, o.ends, o.from.then)) l)))

    -- the ticks so far are those of the frame's records
    pub ticks_before : (n : ℕ) → ticks (audited (plan s) s) j (up_to at n) ≡ given p s n (walk_of (plan s))
    ticks_before zero = sym (given_first p s (walk_of (plan s)))
    ticks_before (suc n) =
        let r = plan s in
        omega (arith, ticks_both (audited r s) j (up_to at n) (at n), ticks_before n, ticks_at n, ticks_now r s h (run.sound s whole) p j job here n)
