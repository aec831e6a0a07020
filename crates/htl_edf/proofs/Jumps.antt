-- The event scheduler's steps over lists.
use Rattle.std.proofs.Common.{arith, ◌≡◌, ℕ, zero, suc, pos, ◌-ℤ◌, ◌+◌, ◌-◌, ◌<◌, ◌≤◌, length, get_or, set, List, leb, ltb, eqb, ◌&&◌, cond, true, false, sym, ap, ◌∙◌, refl, Option, Some, None, subst, IfSome, get_or-set_same, get_or-set_other, eq-eqb, ne_eqb, ◌⊎◌, inl, inr}
use Rattle.htl_edf.proofs.Words.{cases_eq, has_bit, has_no_bit, absent_job, Tight, jobs_of, HoldsAfter, AreTightened, LeftAt, QuietFrom, Job}
use Rattle.htl_edf.specs.{Tight.release_at, Tight.end_at, Tight.tight, Edf.earliest, Edf.edf, Edf.left}
use Rattle.htl_edf.proofs.{Tightening.greatest_skipped, Tightening.least_skipped, Ticks.earliest-same, Ticks.jump, Ticks.jump_runs, Ticks.wait, Ticks.wait_idles, Ticks.chosen, Ticks.Quiet, Ticks.left_start}

pub edf_from_list : (js : List Job) (ls : List ℕ) (t : ℕ) → LeftAt js ls t → earliest (λ q. leb (release_at (jobs_of js) (length js) q) t && ltb 0 (get_or ls q 0)) (end_at (jobs_of js) (length js)) (length js) ≡ edf (tight (jobs_of js)) t
unfolding tight edf
edf_from_list js ls t h = earliest-same (λ q. leb (release_at (jobs_of js) (length js) q) t && ltb 0 (get_or ls q 0)) (λ q. leb (release_at (jobs_of js) (length js) q) t && ltb 0 (left (tight (jobs_of js)) t q)) (end_at (jobs_of js) (length js)) (length js) (λ q l. ap (λ x. leb (release_at (jobs_of js) (length js) q) t && ltb 0 x) (h.lefts q l))

pub some_chosen : (js : List Job) (ls : List ℕ) (t : ℕ) (o : Option ℕ) → LeftAt js ls t → o ≡ edf (tight (jobs_of js)) t → IfSome o (λ p. (p < length js) × (0 < get_or ls p 0))
unfolding tight
some_chosen js ls t None h e = tt
some_chosen js ls t (Some p) h e = let c = chosen (tight (jobs_of js)) t p (sym e) in (c.0, omega (arith, h.lefts p c.0, c.2))

quiet_at : (js : List Job) (t h : ℕ) → t ≤ h → QuietFrom js t h → Quiet (tight (jobs_of js)) t (h - t)
unfolding tight
quiet_at js t h l q p k f = omega (arith, q.quiet p k f)

pub runs_some : (js : List Job) (ls : List ℕ) (t h p : ℕ) → LeftAt js ls t → edf (tight (jobs_of js)) t ≡ Some p → p < length js → t < h → h ≤ t + get_or ls p 0 → QuietFrom js t h → (i : ℕ) → t + i < h → edf (tight (jobs_of js)) (t + i) ≡ Some p
runs_some js ls t h p lefts e k l w quiet i b = jump_runs (tight (jobs_of js)) t (h - t) p e (omega (arith, lefts.lefts p k)) (quiet_at js t h (omega arith) quiet) i (omega arith)

pub left_some : (js : List Job) (ls : List ℕ) (t h p : ℕ) → LeftAt js ls t → edf (tight (jobs_of js)) t ≡ Some p → p < length js → length ls ≡ length js → t < h → h ≤ t + get_or ls p 0 → QuietFrom js t h → LeftAt js (set ls p (get_or ls p 0 - (h - t))) h
left_some js ls t h p lefts e k same l w quiet = record { lefts = λ q b. at q b (cases_eq p q) }
  where
    after : (q : ℕ) → left (tight (jobs_of js)) h q + cond (eqb p q) (h - t) 0 ≡ left (tight (jobs_of js)) t q
    after q = let s : t + (h - t) ≡ h = omega arith in
        rw s at (jump (tight (jobs_of js)) t (h - t) p e (omega (arith, lefts.lefts p k)) (quiet_at js t h (omega arith) quiet) (h - t) (omega arith) q)

    at : (q : ℕ) → q < length js → (p ≡ q) ⊎ (p ≡ q → ⊥) → get_or (set ls p (get_or ls p 0 - (h - t))) q 0 ≡ left (tight (jobs_of js)) h q
    at q b (inl is) =
        let a = after p in
        let g = get_or-set_same ls p (get_or ls p 0 - (h - t)) 0 (omega arith) in
        let r : eqb p p ≡ true = eq-eqb p p refl in
        subst (λ x. get_or (set ls p (get_or ls p 0 - (h - t))) x 0 ≡ left (tight (jobs_of js)) h x) is (omega (arith, g, lefts.lefts p k, rw r at a))
    at q b (inr ne) =
        let g = get_or-set_other ls p q (get_or ls p 0 - (h - t)) 0 (λ e. ne (sym e)) in
        let r : eqb p q ≡ false = ne_eqb p q ne in
        omega (arith, g, lefts.lefts q b, rw r at (after q))

pub runs_none : (js : List Job) (t h : ℕ) → edf (tight (jobs_of js)) t ≡ None → t < h → QuietFrom js t h → (i : ℕ) → t + i < h → edf (tight (jobs_of js)) (t + i) ≡ None
runs_none js t h e l quiet i b = wait_idles (tight (jobs_of js)) t (h - t) e (quiet_at js t h (omega arith) quiet) i (omega arith)

pub left_none : (js : List Job) (ls : List ℕ) (t h : ℕ) → LeftAt js ls t → edf (tight (jobs_of js)) t ≡ None → t < h → QuietFrom js t h → LeftAt js ls h
left_none js ls t h lefts e l quiet = record { lefts = λ q b. lefts.lefts q b ∙ sym (let s : t + (h - t) ≡ h = omega arith in rw s at (wait (tight (jobs_of js)) t (h - t) e (quiet_at js t h (omega arith) quiet) (h - t) (omega arith) q)) }

pub left_at_start : (js : List Job) (ls : List ℕ) → ((q : ℕ) → q < length js → get_or ls q 0 ≡ (get_or js q absent_job).worst) → LeftAt js ls 0
unfolding tight
left_at_start js ls h = record { lefts = λ q l. h q l ∙ sym (left_start (tight (jobs_of js)) q) }

-- ---- the windows after as many rounds as there are jobs are the tightened ones

pub are_tightened : (js : List Job) (ts : List Tight) → HoldsAfter js ts (length js) → AreTightened js ts
unfolding tight
are_tightened js ts h = record { releases = h.releases; ends = h.ends }

-- where no position waits for another the windows are the jobs' own
module _ (js : List Job) (none : (q : ℕ) → q < length js → (get_or js q absent_job).preds ≡ 0) where
  free : (p q : ℕ) → q < length js → (jobs_of js).before p q ≡ false
  free p q l = ap (λ n. has_bit n p) (none q l) ∙ has_no_bit p

  free_release : (k q : ℕ) → q < length js → release_at (jobs_of js) k q ≡ (jobs_of js).release q
  free_release zero q l = refl
  free_release (suc k) q l =
      let j = jobs_of js in
      greatest_skipped (λ p. j.before p q) (λ p. release_at j k p + j.worst p) (j.release q) 0 (length js) (omega arith) (λ p a b. free p q l)

  free_end : (k p : ℕ) → p < length js → end_at (jobs_of js) k p ≡ pos ((jobs_of js).end p)
  free_end zero p l = refl
  free_end (suc k) p l =
      let j = jobs_of js in
      least_skipped (λ q. j.before p q) (λ q. end_at j k q -ℤ pos (j.worst q)) (pos (j.end p)) 0 (length js) (omega arith) (λ q a b. free p q b)

  pub holds_free : (ts : List Tight) → HoldsAfter js ts 0 → AreTightened js ts
  holds_free ts h =
      are_tightened js ts (record {
        releases = λ q l. h.releases q l ∙ ap pos (sym (free_release (length js) q l));
        ends = λ q l. h.ends q l ∙ sym (free_end (length js) q l);
      })

pub holds_all : (js : List Job) (ts : List Tight) → AreTightened js ts → HoldsAfter js ts (length js)
unfolding tight
holds_all js ts h = record { releases = h.releases; ends = h.ends }
