-- Windows that are written in turn: each comes to rest where all that it depends on has.
use Rattle.std.proofs.Common.{◌≡◌, ℕ, zero, suc, ◌+◌, ◌<◌, ◌≤◌, Bool, true, false, cond, eqb, List, length, get_or, set, refl, sym, ap, ◌∙◌, arith, pos, ◌-ℤ◌, get_or-set_same, get_or-set_other}
use Rattle.htl_edf.proofs.Words.{ints, has_bit, Job, Tight, jobs_of, no_window, release_at, end_at, HaveReleases, HaveEnds, eqb_apart, eqb-true}
use Rattle.htl_edf.proofs.Tightening.{greatest-same, least-same}

still : (waiting new q r : ℕ) → ((p : ℕ) → has_bit new p ≡ cond (eqb p q) false (has_bit waiting p)) → eqb r q ≡ false → has_bit new r ≡ false → has_bit waiting r ≡ false
still waiting new q r bits e done = sym (bits r ∙ ap (λ b. cond b false (has_bit waiting r)) e) ∙ done

pub releases_more : (js : List Job) (ts : List Tight) (waiting new k q : ℕ) (w : Tight) → HaveReleases js ts waiting k → q < length ts
    → ((p : ℕ) → (jobs_of js).before p q ≡ true → has_bit waiting p ≡ false) → ((p : ℕ) → has_bit new p ≡ cond (eqb p q) false (has_bit waiting p))
    → w.release ≡ pos (release_at (jobs_of js) (suc k) q) → HaveReleases js (set ts q w) new (k + 1)
releases_more js ts waiting new k q w have room free bits is r m below done enough = by (eqb r q) refl
  where
    same : (p m : ℕ) → p < length js → (jobs_of js).before p q ≡ true → k ≤ m → release_at (jobs_of js) k p ≡ release_at (jobs_of js) m p
    same p m l e h = let a = have p k l (free p e) (omega arith) in let b = have p m l (free p e) h in omega (arith, ints, a, b)

    rest : (m : ℕ) → k + 1 ≤ m → release_at (jobs_of js) (suc k) q ≡ release_at (jobs_of js) m q
    rest zero h = absurd (omega arith)
    rest (suc m) h =
        greatest-same (λ p. (jobs_of js).before p q) (λ p. release_at (jobs_of js) k p + (jobs_of js).worst p) (λ p. release_at (jobs_of js) m p + (jobs_of js).worst p) ((jobs_of js).release q) (length js)
        (λ p l e. ap (λ x. x + (jobs_of js).worst p) (same p m l e (omega arith)))

    by : (b : Bool) → eqb r q ≡ b → (get_or (set ts q w) r no_window).release ≡ pos (release_at (jobs_of js) m r)
    by true e =
        let here : r ≡ q = eqb-true r q e in
        ap (λ i. (get_or (set ts q w) i no_window).release) here ∙ ap (λ (t : Tight). t.release) (get_or-set_same ts q w no_window room) ∙ is
        ∙ ap pos (rest m enough) ∙ ap (λ i. pos (release_at (jobs_of js) m i)) (sym here)
    by false e = ap (λ (t : Tight). t.release) (get_or-set_other ts q r w no_window (eqb_apart r q e)) ∙ have r m below (still waiting new q r bits e done) (omega arith)

pub ends_more : (js : List Job) (ts : List Tight) (waiting new k p : ℕ) (w : Tight) → HaveEnds js ts waiting k → p < length ts
    → ((q : ℕ) → q < length js → (jobs_of js).before p q ≡ true → has_bit waiting q ≡ false) → ((q : ℕ) → has_bit new q ≡ cond (eqb q p) false (has_bit waiting q))
    → w.end ≡ end_at (jobs_of js) (suc k) p → HaveEnds js (set ts p w) new (k + 1)
ends_more js ts waiting new k p w have room free bits is r m below done enough = by (eqb r p) refl
  where
    same : (q m : ℕ) → q < length js → (jobs_of js).before p q ≡ true → k ≤ m → end_at (jobs_of js) k q ≡ end_at (jobs_of js) m q
    same q m l e h = sym (have q k l (free q l e) (omega arith)) ∙ have q m l (free q l e) h

    rest : (m : ℕ) → k + 1 ≤ m → end_at (jobs_of js) (suc k) p ≡ end_at (jobs_of js) m p
    rest zero h = absurd (omega arith)
    rest (suc m) h =
        least-same (λ q. (jobs_of js).before p q) (λ q. end_at (jobs_of js) k q -ℤ pos ((jobs_of js).worst q)) (λ q. end_at (jobs_of js) m q -ℤ pos ((jobs_of js).worst q)) (pos ((jobs_of js).end p)) (length js)
        (λ q l e. ap (λ x. x -ℤ pos ((jobs_of js).worst q)) (same q m l e (omega arith)))

    by : (b : Bool) → eqb r p ≡ b → (get_or (set ts p w) r no_window).end ≡ end_at (jobs_of js) m r
    by true e =
        let here : r ≡ p = eqb-true r p e in
        ap (λ i. (get_or (set ts p w) i no_window).end) here ∙ ap (λ (t : Tight). t.end) (get_or-set_same ts p w no_window room) ∙ is
        ∙ rest m enough ∙ ap (λ i. end_at (jobs_of js) m i) (sym here)
    by false e = ap (λ (t : Tight). t.end) (get_or-set_other ts p r w no_window (eqb_apart r p e)) ∙ have r m below (still waiting new p r bits e done) (omega arith)

-- a write of the end alone leaves the releases
pub releases_kept : (ts : List Tight) (p q : ℕ) (w : Tight) → p < length ts → w.release ≡ (get_or ts p no_window).release → (get_or (set ts p w) q no_window).release ≡ (get_or ts q no_window).release
releases_kept ts p q w room is = by (eqb q p) refl
  where
    by : (b : Bool) → eqb q p ≡ b → (get_or (set ts p w) q no_window).release ≡ (get_or ts q no_window).release
    by true e =
        let here : q ≡ p = eqb-true q p e in
        ap (λ i. (get_or (set ts p w) i no_window).release) here ∙ ap (λ (t : Tight). t.release) (get_or-set_same ts p w no_window room) ∙ is ∙ ap (λ i. (get_or ts i no_window).release) (sym here)
    by false e = ap (λ (t : Tight). t.release) (get_or-set_other ts p q w no_window (eqb_apart q p e))
