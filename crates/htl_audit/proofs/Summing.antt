-- What is kept once one more line keeps the rules.
use Rattle.std.proofs.Common.{◌≡◌, ◌≢◌, ℕ, zero, suc, ◌+◌, ◌-◌, ◌≤◌, ◌<◌, Bool, true, false, cond, not, ◌&&◌, ◌||◌, eqb, leb, ltb, List, [], ◌∷◌, ◌++◌, length, set, Some, None, refl, sym, ◌∙◌, ap, ap₂, subst, arith}
use Rattle.htl_audit.proofs.Words.{slice_get, eqb-true, and_parts, or_parts, eq-eqb, leb-false, ltb-false, get_or-set_same, get_or-set_other, length-set, length-append, of_bool, numbered, Tables, Job, Slice, BeginningJobs, lies_in, ticks, is_done, last_end, how_many, jobs_done, Kept, has_job, sum_at, length_at, start_at, is_inside, is_free_at, ticks_of, kind_of, with_slice, IsIn, IsCurrent, HasJob, AreSummed, none-some, marked_within, eqb_less}
use Rattle.htl_audit.specs.Legal as rules
use Rattle.htl_audit.proofs.Judging.{lies, ticks_more, lies_current, lies_inside, none_broken, in_order}
use Rattle.std.proofs.lemmas.Bool.{not-false}

-- ---- counts

-- a count of items with places, where one item's test changes to b and all others stay
pub count_same : {A : Type 0} (f g : ℕ × A → Bool) (q : ℕ) (js : List A) → ((d : ℕ) (j : A) → slice_get js d ≡ Some j → f (q + d, j) ≡ g (q + d, j)) → how_many f (numbered q js) ≡ how_many g (numbered q js)
count_same f g q [] h = refl
count_same f g q (j ∷ js) h =
    let here : f (q, j) ≡ g (q, j) = subst (λ z. f (z, j) ≡ g (z, j)) (let z : q + 0 ≡ q = omega arith in z) (h 0 j refl) in
    ap₂ (λ b n. cond b 1 0 + n) here
    (count_same f g (suc q) js (λ d i at. subst (λ z. f (z, i) ≡ g (z, i)) (let z : q + suc d ≡ suc q + d = omega arith in z) (h (suc d) i at)))

count_one : {A : Type 0} (f g : ℕ × A → Bool) (b : Bool) (q : ℕ) (js : List A) (d : ℕ) (j : A) → slice_get js d ≡ Some j → f (q + d, j) ≡ false → g (q + d, j) ≡ b
    → ((e : ℕ) (i : A) → e ≢ d → slice_get js e ≡ Some i → f (q + e, i) ≡ g (q + e, i)) → how_many g (numbered q js) ≡ how_many f (numbered q js) + of_bool b
count_one f g b q [] d j at off on same = absurd (none-some j at)
count_one f g b q (h ∷ js) zero j at off on same =
    let one : h ≡ j = cc in
    let was : f (q, h) ≡ false = ap (λ z. f (q, z)) one ∙ subst (λ z. f (z, j) ≡ false) (let z : q + 0 ≡ q = omega arith in z) off in
    let is : g (q, h) ≡ b = ap (λ z. g (q, z)) one ∙ subst (λ z. g (z, j) ≡ b) (let z : q + 0 ≡ q = omega arith in z) on in
    let later : how_many f (numbered (suc q) js) ≡ how_many g (numbered (suc q) js) =
    count_same f g (suc q) js (λ e i here. subst (λ z. f (z, i) ≡ g (z, i)) (let z : q + suc e ≡ suc q + e = omega arith in z) (same (suc e) i (λ z. let y : ⊥ = cc in y) here)) in
    let a : cond {A = ℕ} (g (q, h)) 1 0 ≡ of_bool b = ap (λ z. cond {A = ℕ} z 1 0) is ∙ number b in
    let c : cond {A = ℕ} (f (q, h)) 1 0 ≡ 0 = ap (λ z. cond {A = ℕ} z 1 0) was in
    omega (arith, later, a, c)
  where
    number : (b : Bool) → cond {A = ℕ} b 1 0 ≡ of_bool b
    number true = refl
    number false = refl
count_one f g b q (h ∷ js) (suc d) j at off on same =
    let here : f (q, h) ≡ g (q, h) = subst (λ z. f (z, h) ≡ g (z, h)) (let z : q + 0 ≡ q = omega arith in z) (same 0 h (λ z. let y : ⊥ = cc in y) refl) in
    let rest : how_many g (numbered (suc q) js) ≡ how_many f (numbered (suc q) js) + of_bool b =
    count_one f g b (suc q) js d j at (subst (λ z. f (z, j) ≡ false) (let z : q + suc d ≡ suc q + d = omega arith in z) off)
    (subst (λ z. g (z, j) ≡ b) (let z : q + suc d ≡ suc q + d = omega arith in z) on)
    (λ e i other here. subst (λ z. f (z, i) ≡ g (z, i)) (let z : q + suc e ≡ suc q + e = omega arith in z) (same (suc e) i (λ z. other (down e d z)) here)) in
    let a : cond {A = ℕ} (f (q, h)) 1 0 ≡ cond {A = ℕ} (g (q, h)) 1 0 = ap (λ z. cond {A = ℕ} z 1 0) here in
    omega (arith, rest, a)
  where
    down : (e d : ℕ) → suc e ≡ suc d → e ≡ d
    down e d z = omega (arith, z)

-- the same over rounds
abbrev pub passes : List Slice → BeginningJobs → ℕ × Job → Bool
passes log r j = j.1.present && is_done r log j

pub done_same : (rounds : List BeginningJobs) (log new : List Slice) → ((n : ℕ) (r : BeginningJobs) (p : ℕ) (j : Job) → slice_get rounds n ≡ Some r → slice_get r.jobs p ≡ Some j → passes log r (p, j) ≡ passes new r (p, j))
    → jobs_done rounds log ≡ jobs_done rounds new
done_same [] log new h = refl
done_same (r ∷ rs) log new h =
    ap₂ (λ a b. a + b) (count_same (passes log r) (passes new r) 0 r.jobs (λ d j at. subst (λ z. passes log r (z, j) ≡ passes new r (z, j)) (let z : d ≡ 0 + d = omega arith in z) (h 0 r d j refl at)))
    (done_same rs log new (λ n s p j at is. h (suc n) s p j at is))

done_one : (rounds : List BeginningJobs) (log new : List Slice) (b : Bool) (n : ℕ) (r : BeginningJobs) (p : ℕ) (j : Job) → slice_get rounds n ≡ Some r → slice_get r.jobs p ≡ Some j → passes log r (p, j) ≡ false → passes new r (p, j) ≡ b
    → ((m : ℕ) (s : BeginningJobs) (q : ℕ) (h : Job) → slice_get rounds m ≡ Some s → slice_get s.jobs q ≡ Some h → (m ≡ n → q ≡ p → ⊥) → passes log s (q, h) ≡ passes new s (q, h))
    → jobs_done rounds new ≡ jobs_done rounds log + of_bool b
done_one [] log new b n r p j at is off on same = absurd (none-some r at)
done_one (x ∷ rs) log new b zero r p j at is off on same =
    let one : x ≡ r = cc in
    let here : how_many (passes new x) (numbered 0 x.jobs) ≡ how_many (passes log x) (numbered 0 x.jobs) + of_bool b =
    subst (λ (z : BeginningJobs). how_many (passes new z) (numbered 0 z.jobs) ≡ how_many (passes log z) (numbered 0 z.jobs) + of_bool b) (sym one)
    (count_one (passes log r) (passes new r) b 0 r.jobs p j is (subst (λ z. passes log r (z, j) ≡ false) (let z : p ≡ 0 + p = omega arith in z) off)
    (subst (λ z. passes new r (z, j) ≡ b) (let z : p ≡ 0 + p = omega arith in z) on)
    (λ e i other here. subst (λ z. passes log r (z, i) ≡ passes new r (z, i)) (let z : e ≡ 0 + e = omega arith in z) (same 0 r e i at here (λ m q. other q)))) in
    let later : jobs_done rs log ≡ jobs_done rs new = done_same rs log new (λ m s q h there here. same (suc m) s q h there here (λ z y. let w : ⊥ = cc in w)) in
    omega (arith, here, later)
done_one (x ∷ rs) log new b (suc n) r p j at is off on same =
    let here : how_many (passes log x) (numbered 0 x.jobs) ≡ how_many (passes new x) (numbered 0 x.jobs) =
    count_same (passes log x) (passes new x) 0 x.jobs (λ d i there. subst (λ z. passes log x (z, i) ≡ passes new x (z, i)) (let z : d ≡ 0 + d = omega arith in z) (same 0 x d i refl there (λ z y. let w : ⊥ = cc in w))) in
    let later : jobs_done rs new ≡ jobs_done rs log + of_bool b =
    done_one rs log new b n r p j at is off on (λ m s q h there here other. same (suc m) s q h there here (λ z y. other (down m n z) y)) in
    omega (arith, here, later)
  where
    down : (e d : ℕ) → suc e ≡ suc d → e ≡ d
    down e d z = omega (arith, z)

-- ---- one more line

pub last_more : (log : List Slice) (x : Slice) → last_end (log ++ x ∷ []) ≡ x.to
last_more (y ∷ z ∷ ys) x = last_more (z ∷ ys) x
last_more _ x = refl

-- what a line says that keeps the rules
pub record Keeps (t : Tables) (now : ℕ) (k : Kept) (x : Slice) : Type 0 where
  pub some : x.from < x.to
  pub order : k.end ≤ x.from
  pub ends : x.to < now
  pub inside : is_inside t k.roster x ≡ true
  pub room : sum_at k.sums x.inv + ticks_of x ≤ length_at k.roster x.inv
  pub free : is_free_at t k.roster k.sums x.inv ≡ true

pub keeps : (t : Tables) (now : ℕ) (k : Kept) (x : Slice) → kind_of t now k x ≡ None → Keeps t now k x
keeps t now k x e =
    let n =
    none_broken (leb x.to x.from || ltb x.from k.end || leb now x.to) (is_inside t k.roster x) (ltb (length_at k.roster x.inv) (sum_at k.sums x.inv + ticks_of x)) (not (is_free_at t k.roster k.sums x.inv)) e in
    let o = in_order now k.end x n.0 in
    record { some = o.0; order = o.1; ends = o.2; inside = n.1; room = ltb-false (length_at k.roster x.inv) (sum_at k.sums x.inv + ticks_of x) n.2; free = not-false (is_free_at t k.roster k.sums x.inv) n.3 }

module _ (t : Tables) (rounds : List BeginningJobs) (log : List Slice) (k : Kept) (s : AreSummed t rounds log k) (x : Slice) (now : ℕ) (keep : Keeps t now k x) (later : start_at k.roster x.inv < x.to) where
  new_sums : List ℕ
  new_sums = set k.sums x.inv (sum_at k.sums x.inv + ticks_of x)

  there : x.inv < length k.sums
  unfolding new_sums
  there = let h = (and_parts (has_job k.roster x.inv) _ (and_parts (has_job k.roster x.inv && _) _ keep.inside).0).0 in omega (arith, s.room, marked_within k.roster.stands x.inv h)

  -- the ticks of a current job
  summed : (r : BeginningJobs) (p : ℕ) (j : Job) → IsIn rounds r p j → IsCurrent t k.roster r p j → ticks r j (log ++ x ∷ []) ≡ sum_at (set k.sums x.inv (sum_at k.sums x.inv + ticks_of x)) j.inv
  summed r p j i c = by (eqb x.inv j.inv) refl
    where
      by : (b : Bool) → eqb x.inv j.inv ≡ b → ticks r j (log ++ x ∷ []) ≡ sum_at (set k.sums x.inv (sum_at k.sums x.inv + ticks_of x)) j.inv
      by true e =
          let same : x.inv ≡ j.inv = eqb-true x.inv j.inv e in
          ticks_more r j log x ∙ ap₂ (λ m b. m + cond b (x.to - x.from) 0) (s.sums r p j i c ∙ ap (sum_at k.sums) (sym same)) (lies_inside t rounds k.roster s.kept x later r p j i c same ∙ keep.inside)
          ∙ sym (get_or-set_same k.sums x.inv (sum_at k.sums x.inv + ticks_of x) 0 there)
          ∙ ap (λ n. sum_at (set k.sums x.inv (sum_at k.sums x.inv + ticks_of x)) n) same
      by false e =
          let out : lies_in r j x ≡ false = not_in (j.present) (leb (r.start + j.release) x.from) (leb x.to (r.start + j.end)) (eqb x.inv j.inv) e in
          ticks_more r j log x ∙ ap (λ b. ticks r j log + cond b (x.to - x.from) 0) out ∙ (let z : ticks r j log + 0 ≡ ticks r j log = omega arith in z) ∙ s.sums r p j i c
          ∙ sym (get_or-set_other k.sums x.inv j.inv (sum_at k.sums x.inv + ticks_of x) 0 (λ z. differ z))
        where
          not_in : (a c d b : Bool) → b ≡ false → (a && b && c && d) ≡ false
          not_in false c d b e = refl
          not_in true c d false e = refl
          not_in true c d true e = absurd (let z : ⊥ = cc in z)

          differ : j.inv ≡ x.inv → ⊥
          differ z = let y : eqb x.inv j.inv ≡ true = eq-eqb x.inv j.inv (sym z) in let w : true ≡ false = sym y ∙ e in cc

  -- a job in whose window the line doesn't lie stays as it was
  unchanged : (r : BeginningJobs) (p : ℕ) (j : Job) → lies_in r j x ≡ false → passes log r (p, j) ≡ passes (log ++ x ∷ []) r (p, j)
  unchanged r p j e =
      ap (λ n. j.present && eqb n (rules.job_length r p)) (sym (ticks_more r j log x ∙ ap (λ b. ticks r j log + cond b (x.to - x.from) 0) e ∙ (let z : ticks r j log + 0 ≡ ticks r j log = omega arith in z)))

  pub done_more : jobs_done rounds (log ++ x ∷ []) ≡ k.done + of_bool (eqb (sum_at k.sums x.inv + ticks_of x) (length_at k.roster x.inv))
  done_more =
      let h = s.kept.has x.inv (and_parts (has_job k.roster x.inv) _ (and_parts (has_job k.roster x.inv && _) _ keep.inside).0).0 in
      done_one rounds log (log ++ x ∷ []) (eqb (sum_at k.sums x.inv + ticks_of x) (length_at k.roster x.inv)) h.is.number h.round h.position h.job h.is.at h.is.job (off h) (on h) (others h)
      ∙ ap (λ n. n + of_bool (eqb (sum_at k.sums x.inv + ticks_of x) (length_at k.roster x.inv))) (sym s.done)
    where
      off : (h : HasJob t rounds k.roster x.inv) → passes log h.round (h.position, h.job) ≡ false
      off h =
          let sum : ticks h.round h.job log ≡ sum_at k.sums x.inv = s.sums h.round h.position h.job h.is h.current ∙ ap (sum_at k.sums) h.inv in
          let len : rules.job_length h.round h.position ≡ length_at k.roster x.inv = h.current.length ∙ ap (length_at k.roster) h.inv in
          ap (λ b. b && is_done h.round log (h.position, h.job)) h.is.present ∙ ap₂ (λ m n. eqb m n) sum len
          ∙ eqb_less (sum_at k.sums x.inv) (length_at k.roster x.inv) (omega (arith, keep.room, keep.some))

      on : (h : HasJob t rounds k.roster x.inv) → passes (log ++ x ∷ []) h.round (h.position, h.job) ≡ eqb (sum_at k.sums x.inv + ticks_of x) (length_at k.roster x.inv)
      on h =
          let sum : ticks h.round h.job (log ++ x ∷ []) ≡ sum_at k.sums x.inv + ticks_of x =
          summed h.round h.position h.job h.is h.current ∙ ap (λ n. sum_at (set k.sums x.inv (sum_at k.sums x.inv + ticks_of x)) n) h.inv ∙ get_or-set_same k.sums x.inv (sum_at k.sums x.inv + ticks_of x) 0 there in
          let len : rules.job_length h.round h.position ≡ length_at k.roster x.inv = h.current.length ∙ ap (length_at k.roster) h.inv in
          ap (λ b. b && is_done h.round (log ++ x ∷ []) (h.position, h.job)) h.is.present ∙ ap₂ (λ m n. eqb m n) sum len

      others : (h : HasJob t rounds k.roster x.inv) (m : ℕ) (r : BeginningJobs) (q : ℕ) (j : Job) → slice_get rounds m ≡ Some r → slice_get r.jobs q ≡ Some j → (m ≡ h.is.number → q ≡ h.position → ⊥)
          → passes log r (q, j) ≡ passes (log ++ x ∷ []) r (q, j)
      others h m r q j at is other = by (lies_in r j x) refl
        where
          by : (b : Bool) → lies_in r j x ≡ b → passes log r (q, j) ≡ passes (log ++ x ∷ []) r (q, j)
          by false e = unchanged r q j e
          by true e =
              let c = lies_current t rounds k.roster s.kept x later r q j (record { number = m; at = at; job = is }) e in
              let mine : IsIn rounds r q j = record { number = m; at = at; job = is; present = c.0.present } in
              let one = s.kept.once r h.round q h.position j h.job mine h.is c.1 h.current (sym (lies r j x e).inv ∙ sym h.inv) in
              absurd (other one.0 one.1)

  pub summed_more : AreSummed t rounds (log ++ x ∷ []) (with_slice x k)
  summed_more =
      record {
        kept = s.kept;
        place = ap suc s.place ∙ (let z : suc (length log) ≡ length (log ++ x ∷ []) = omega (arith, length-append log (x ∷ [])) in z);
        end = sym (last_more log x);
        room = length-set k.sums x.inv (sum_at k.sums x.inv + ticks_of x) ∙ s.room;
        sums = summed;
        done = sym done_more;
      }
