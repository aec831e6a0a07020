-- The auditor judges the next line by what it keeps as the definition does by all lines before.
use Rattle.std.proofs.Common.{◌≡◌, ℕ, zero, suc, ◌+◌, ◌-◌, ◌≤◌, ◌<◌, inl, inr, Bool, true, false, cond, not, ◌&&◌, ◌||◌, eqb, leb, ltb, List, [], ◌∷◌, ◌++◌, Option, Some, None, refl, sym, ◌∙◌, ap, ap₂, subst, arith}
use Rattle.htl_audit.proofs.Words.{slice_get, eqb-true, leb-true, and_from, and_parts, or_parts, eq-eqb, leb-false, ltb-false, Inv, feeds, feeds_at, Tables, Job, precedes, Slice, LogKind, BeginningJobs, lies_in, ticks, is_done, is_free, is_over, any_job, last_end, slice_is_out_of_order, line_fault, Roster, Kept, has_job, sum_at, length_at, start_at, release_at, end_at, is_inside, is_full, is_clear_of, is_free_from, is_free_at, ticks_of, kind_of, IsIn, IsCurrent, AreKept, AreSummed, none-some, same_truth, list_all, numbered, false_from_ne_true}
use Rattle.htl_audit.specs.declared.slice.LogKind.TheVariants as kind
use Rattle.htl_audit.specs.Legal as rules
use Rattle.htl_audit.proofs.JobTests.{all_at_0, all_pass_0, IsJobOf, job_found, job_there}

-- ---- one job and one slice

-- what a slice in a window says
pub record Lies (r : BeginningJobs) (j : Job) (x : Slice) : Type 0 where
  pub present : j.present ≡ true
  pub inv : x.inv ≡ j.inv
  pub from : r.start + j.release ≤ x.from
  pub to : x.to ≤ r.start + j.end

pub lies : (r : BeginningJobs) (j : Job) (x : Slice) → lies_in r j x ≡ true → Lies r j x
lies r j x e =
    let a = and_parts (j.present && eqb x.inv j.inv && leb (r.start + j.release) x.from) (leb x.to (r.start + j.end)) e in
    let b = and_parts (j.present && eqb x.inv j.inv) (leb (r.start + j.release) x.from) a.0 in
    let c = and_parts j.present (eqb x.inv j.inv) b.0 in
    record { present = c.0; inv = eqb-true x.inv j.inv c.1; from = leb-true (r.start + j.release) x.from b.1; to = leb-true x.to (r.start + j.end) a.1 }

-- the first broken rule behind that of order
abbrev pub rest : Bool → Bool → Bool → Option LogKind
rest a b c = cond (not a) (Some kind.Outside) (cond b (Some kind.Over) (cond c (Some kind.Before) None))

-- what a job waits for, by positions
abbrev waits_for : BeginningJobs → List Slice → Job → ℕ × Job → Bool
waits_for r log j h = not (precedes h.0 j && h.1.present) || is_done r log h

-- the test of the invocations, as a test of each
free_is_all : (t : Tables) (o : Roster) (sums : List ℕ) (i n : ℕ) (xs : List Inv) → is_free_from t o sums i n xs ≡ list_all (λ (z : ℕ × Inv). is_clear_of t o sums i z.0) (numbered n xs)
free_is_all t o sums i n [] = refl
free_is_all t o sums i n (x ∷ xs) = ap (λ b. is_clear_of t o sums i n && b) (free_is_all t o sums i (suc n) xs)

pub implied : (a b : Bool) → (a ≡ true → b ≡ true) → (not a || b) ≡ true
implied true b f = f refl
implied false b f = refl

pub applied : (a b : Bool) → (not a || b) ≡ true → a ≡ true → b ≡ true
applied true b e f = e
applied false b e f = absurd (let z : ⊥ = cc in z)

-- the ticks of two stretches, and with one slice more
pub ticks_both : (r : BeginningJobs) (j : Job) (xs ys : List Slice) → ticks r j (xs ++ ys) ≡ ticks r j xs + ticks r j ys
ticks_both r j [] ys = omega arith
ticks_both r j (x ∷ xs) ys = omega (arith, ticks_both r j xs ys)

pub ticks_more : (r : BeginningJobs) (j : Job) (log : List Slice) (x : Slice) → ticks r j (log ++ x ∷ []) ≡ ticks r j log + cond (lies_in r j x) (x.to - x.from) 0
ticks_more r j log x = omega (arith, ticks_both r j log (x ∷ []))

-- without a slice of the job there are none
pub no_ticks : (r : BeginningJobs) (j : Job) (xs : List Slice) → ((i : ℕ) (x : Slice) → slice_get xs i ≡ Some x → lies_in r j x ≡ true → ⊥) → ticks r j xs ≡ 0
no_ticks r j [] out = refl
no_ticks r j (x ∷ xs) out = ap₂ (λ b n. cond b (x.to - x.from) 0 + n) (false_from_ne_true (lies_in r j x) (out 0 x refl)) (no_ticks r j xs (λ i y at. out (suc i) y at))

-- ---- the rules, one behind the other

-- what a line in order says
pub in_order : (now end : ℕ) (x : Slice) → (leb x.to x.from || ltb x.from end || leb now x.to) ≡ false → (x.from < x.to) × (end ≤ x.from) × (x.to < now)
in_order now end x e =
    let two = or_parts (leb x.to x.from || ltb x.from end) (leb now x.to) e in
    let ends = or_parts (leb x.to x.from) (ltb x.from end) two.0 in
    (leb-false x.to x.from ends.0, ltb-false x.from end ends.1, leb-false now x.to two.1)

-- out of order is broken alike, and the other rules count where a line is in order
pub order_first : (a b : Bool) (p q : Option LogKind) → a ≡ b → (a ≡ false → p ≡ q) → cond a (Some kind.Order) p ≡ cond b (Some kind.Order) q
order_first true b p q e same = ap (λ c. cond c (Some kind.Order) q) e
order_first false b p q e same = same refl ∙ ap (λ c. cond c (Some kind.Order) q) e

-- the rules behind that of being in a window count where a line is in one
rest_first : (a b c d e f : Bool) → a ≡ d → (d ≡ true → (b ≡ e) × (c ≡ f)) → rest a b c ≡ rest d e f
rest_first a b c true e f is same = let two = same refl in ap (λ z. rest z b c) is ∙ ap₂ (λ y z. rest true y z) two.0 two.1
rest_first a b c false e f is same = ap (λ z. rest z b c) is

-- where none is broken
pub none_broken : (o a b c : Bool) → cond o (Some kind.Order) (rest a b c) ≡ None → (o ≡ false) × (a ≡ true) × (b ≡ false) × (c ≡ false)
none_broken true a b c n = absurd (none-some kind.Order (sym n))
none_broken false false b c n = absurd (none-some kind.Outside (sym n))
none_broken false true true c n = absurd (none-some kind.Over (sym n))
none_broken false true false true n = absurd (none-some kind.Before (sym n))
none_broken false true false false n = (refl, refl, refl, refl)

-- a line that breaks no rule
pub record IsKept (rounds : List BeginningJobs) (now : ℕ) (before : List Slice) (x : Slice) : Type 0 where
  pub room : x.from < x.to
  pub order : last_end before ≤ x.from
  pub soon : x.to < now
  pub inside : any_job (λ r j. lies_in r j.1 x) rounds ≡ true
  pub most : any_job (λ r j. lies_in r j.1 x && is_over r (before ++ x ∷ []) j) rounds ≡ false
  pub free : any_job (λ r j. lies_in r j.1 x && not (is_free r before j.1)) rounds ≡ false

pub kept_line : (rounds : List BeginningJobs) (now : ℕ) (before : List Slice) (x : Slice) → line_fault rounds now before x ≡ None → IsKept rounds now before x
kept_line rounds now before x e =
    let k =
    none_broken (slice_is_out_of_order now before x) (any_job (λ r j. lies_in r j.1 x) rounds) (any_job (λ r j. lies_in r j.1 x && is_over r (before ++ x ∷ []) j) rounds)
    (any_job (λ r j. lies_in r j.1 x && not (is_free r before j.1)) rounds) e in
    let o = in_order now (last_end before) x k.0 in
    record { room = o.0; order = o.1; soon = o.2; inside = k.1; most = k.2; free = k.3 }

module _ (t : Tables) (rounds : List BeginningJobs) (o : Roster) (kept : AreKept t rounds o) (x : Slice) (later : start_at o x.inv < x.to) where
  -- a job in whose window the slice lies is current
  pub lies_current : (r : BeginningJobs) (p : ℕ) (j : Job) → IsJobOf rounds r p j → lies_in r j x ≡ true → IsIn rounds r p j × IsCurrent t o r p j
  lies_current r p j is e =
      let l = lies r j x e in
      let i : IsIn rounds r p j = record { number = is.number; at = is.at; job = is.job; present = l.present } in
      elim (kept.only r p j i) [
        | inl c ↦ (i, c)
        | inr past ↦ absurd (omega (arith, past, l.to, later, ap (start_at o) l.inv))
      ]

  -- the slice lies in the window of a current job exactly where it does in that of its invocation
  pub lies_inside : (r : BeginningJobs) (p : ℕ) (j : Job) → IsIn rounds r p j → IsCurrent t o r p j → x.inv ≡ j.inv → lies_in r j x ≡ is_inside t o x
  lies_inside r p j i c e =
      let a : (j.present && eqb x.inv j.inv) ≡ has_job o x.inv =
      and_from j.present (eqb x.inv j.inv) i.present (eq-eqb x.inv j.inv e) ∙ sym (ap (has_job o) e ∙ c.stands) in
      let b : leb (r.start + j.release) x.from ≡ leb (start_at o x.inv + release_at t x.inv) x.from =
      ap₂ (λ m n. leb (m + n) x.from) (c.start ∙ ap (start_at o) (sym e)) (c.release ∙ ap (release_at t) (sym e)) in
      let d : leb x.to (r.start + j.end) ≡ leb x.to (start_at o x.inv + end_at t x.inv) =
      ap₂ (λ m n. leb x.to (m + n)) (c.start ∙ ap (start_at o) (sym e)) (c.end ∙ ap (end_at t) (sym e)) in
      ap₂ (λ m n. m && n) (ap₂ (λ m n. m && n) a b) d

  inside_is : any_job (λ r j. lies_in r j.1 x) rounds ≡ is_inside t o x
  inside_is = same_truth _ _ there back
    where
      there : any_job (λ r j. lies_in r j.1 x) rounds ≡ true → is_inside t o x ≡ true
      there e =
          let f = job_found (λ r j. lies_in r j.1 x) rounds e in
          let c = lies_current f.round f.position f.job f.is f.passes in
          sym (lies_inside f.round f.position f.job c.0 c.1 (lies f.round f.job x f.passes).inv) ∙ f.passes

      back : is_inside t o x ≡ true → any_job (λ r j. lies_in r j.1 x) rounds ≡ true
      back e =
          let s = (and_parts (has_job o x.inv) (leb (start_at o x.inv + release_at t x.inv) x.from) (and_parts (has_job o x.inv && leb (start_at o x.inv + release_at t x.inv) x.from) (leb x.to (start_at o x.inv + end_at t x.inv)) e).0).0 in
          let h = kept.has x.inv s in
          job_there (λ r j. lies_in r j.1 x) rounds h.round h.position h.job (record { number = h.is.number; at = h.is.at; job = h.is.job })
          (lies_inside h.round h.position h.job h.is h.current (sym h.inv) ∙ e)

  -- where it lies in a window, a test of the jobs in whose windows it lies is a test of the invocation's job
  tested : (test : BeginningJobs → ℕ × Job → Bool) (b : Bool) → is_inside t o x ≡ true → ((r : BeginningJobs) (p : ℕ) (j : Job) → IsIn rounds r p j → IsCurrent t o r p j → x.inv ≡ j.inv → test r (p, j) ≡ b)
      → any_job (λ r j. lies_in r j.1 x && test r j) rounds ≡ b
  tested test b e same = same_truth _ _ there back
    where
      there : any_job (λ r j. lies_in r j.1 x && test r j) rounds ≡ true → b ≡ true
      there g =
          let f = job_found (λ r j. lies_in r j.1 x && test r j) rounds g in
          let two = and_parts (lies_in f.round f.job x) (test f.round (f.position, f.job)) f.passes in
          let c = lies_current f.round f.position f.job f.is two.0 in
          sym (same f.round f.position f.job c.0 c.1 (lies f.round f.job x two.0).inv) ∙ two.1

      back : b ≡ true → any_job (λ r j. lies_in r j.1 x && test r j) rounds ≡ true
      back g =
          let s = (and_parts (has_job o x.inv) (leb (start_at o x.inv + release_at t x.inv) x.from) (and_parts (has_job o x.inv && leb (start_at o x.inv + release_at t x.inv) x.from) (leb x.to (start_at o x.inv + end_at t x.inv)) e).0).0 in
          let h = kept.has x.inv s in
          job_there (λ r j. lies_in r j.1 x && test r j) rounds h.round h.position h.job (record { number = h.is.number; at = h.is.at; job = h.is.job })
          (and_from (lies_in h.round h.job x) (test h.round (h.position, h.job)) (lies_inside h.round h.position h.job h.is h.current (sym h.inv) ∙ e)
          (same h.round h.position h.job h.is h.current (sym h.inv) ∙ g))

  module _ (log : List Slice) (sums : List ℕ) (ticked : (r : BeginningJobs) (p : ℕ) (j : Job) → IsIn rounds r p j → IsCurrent t o r p j → ticks r j log ≡ sum_at sums j.inv) where
    over_is : is_inside t o x ≡ true → any_job (λ r j. lies_in r j.1 x && is_over r (log ++ x ∷ []) j) rounds ≡ ltb (length_at o x.inv) (sum_at sums x.inv + ticks_of x)
    over_is e = tested (λ r j. is_over r (log ++ x ∷ []) j) (ltb (length_at o x.inv) (sum_at sums x.inv + ticks_of x)) e same
      where
        same : (r : BeginningJobs) (p : ℕ) (j : Job) → IsIn rounds r p j → IsCurrent t o r p j → x.inv ≡ j.inv → ltb (rules.job_length r p) (ticks r j (log ++ x ∷ [])) ≡ ltb (length_at o x.inv) (sum_at sums x.inv + ticks_of x)
        same r p j i c g =
            ap₂ (λ m n. ltb m n) (c.length ∙ ap (length_at o) (sym g))
            (ticks_more r j log x ∙ ap₂ (λ m b. m + cond b (x.to - x.from) 0) (ticked r p j i c ∙ ap (sum_at sums) (sym g)) (lies_inside r p j i c g ∙ e))

    -- a job's slices add up to what it takes, by the rounds and by what is kept
    full_is : (r : BeginningJobs) (p : ℕ) (j : Job) → IsIn rounds r p j → IsCurrent t o r p j → is_done r log (p, j) ≡ is_full o sums j.inv
    full_is r p j i c = ap₂ (λ m n. eqb m n) (ticked r p j i c) c.length

    free_is : (r : BeginningJobs) (p : ℕ) (j : Job) → IsIn rounds r p j → IsCurrent t o r p j → is_free r log j ≡ is_free_at t o sums j.inv
    free_is r p j i c = same_truth _ _ there back
      where
        there : is_free r log j ≡ true → is_free_at t o sums j.inv ≡ true
        there e =
            free_is_all t o sums j.inv 0 t.invs
            ∙ all_pass_0 (λ (z : ℕ × Inv). is_clear_of t o sums j.inv z.0) t.invs (λ n y at. implied (has_job o n && feeds t n j.inv) (is_full o sums n) (λ g. one n (and_parts (has_job o n) (feeds t n j.inv) g)))
          where
            one : (n : ℕ) → (has_job o n ≡ true) × (feeds t n j.inv ≡ true) → is_full o sums n ≡ true
            one n two =
                let m = kept.mates r p j n i c two.0 two.1 in
                let h = m.1 in
                let d = kept.together r p m.0 j h i m.3 (ap (λ z. feeds t z j.inv) m.2 ∙ two.1) c in
                let pre : precedes m.0 j ≡ true = kept.before r p m.0 j h i m.3 ∙ ap (λ z. feeds t z j.inv) m.2 ∙ two.1 in
                let done : is_done r log (m.0, h) ≡ true = applied (precedes m.0 j && h.present) (is_done r log (m.0, h)) (all_at_0 (waits_for r log j) r.jobs e m.0 h m.3.job) (and_from (precedes m.0 j) h.present pre m.3.present) in
                ap (is_full o sums) (sym m.2) ∙ sym (full_is r m.0 h m.3 d) ∙ done

        back : is_free_at t o sums j.inv ≡ true → is_free r log j ≡ true
        back e = all_pass_0 (waits_for r log j) r.jobs (λ q h at. implied (precedes q j && h.present) (is_done r log (q, h)) (λ g. one q h at (and_parts (precedes q j) h.present g)))
          where
            full : (n : ℕ) → has_job o n ≡ true → feeds t n j.inv ≡ true → is_full o sums n ≡ true
            full n s f = by (slice_get t.invs n) refl
              where
                by : (y : Option Inv) → slice_get t.invs n ≡ y → is_full o sums n ≡ true
                by (Some y) at = applied (has_job o n && feeds t n j.inv) (is_full o sums n) (all_at_0 (λ (z : ℕ × Inv). is_clear_of t o sums j.inv z.0) t.invs (sym (free_is_all t o sums j.inv 0 t.invs) ∙ e) n y at) (and_from (has_job o n) (feeds t n j.inv) s f)
                by None at = absurd (let z : false ≡ true = sym (ap (λ (y : Option Inv). feeds_at y (slice_get t.invs j.inv)) at) ∙ f in cc)

            one : (q : ℕ) (h : Job) → slice_get r.jobs q ≡ Some h → (precedes q j ≡ true) × (h.present ≡ true) → is_done r log (q, h) ≡ true
            one q h at two =
                let m : IsIn rounds r q h = record { number = i.number; at = i.at; job = at; present = two.1 } in
                let fed : feeds t h.inv j.inv ≡ true = sym (kept.before r p q j h i m) ∙ two.0 in
                let d = kept.together r p q j h i m fed c in
                full_is r q h m d ∙ full h.inv d.stands fed

    before_is : is_inside t o x ≡ true → any_job (λ r j. lies_in r j.1 x && not (is_free r log j.1)) rounds ≡ not (is_free_at t o sums x.inv)
    before_is e = tested (λ r j. not (is_free r log j.1)) (not (is_free_at t o sums x.inv)) e (λ r p j i c g. ap not (free_is r p j i c ∙ ap (is_free_at t o sums) (sym g)))

    rest_is : rest (any_job (λ r j. lies_in r j.1 x) rounds) (any_job (λ r j. lies_in r j.1 x && is_over r (log ++ x ∷ []) j) rounds) (any_job (λ r j. lies_in r j.1 x && not (is_free r log j.1)) rounds)
        ≡ rest (is_inside t o x) (ltb (length_at o x.inv) (sum_at sums x.inv + ticks_of x)) (not (is_free_at t o sums x.inv))
    rest_is =
        rest_first (any_job (λ r j. lies_in r j.1 x) rounds) (any_job (λ r j. lies_in r j.1 x && is_over r (log ++ x ∷ []) j) rounds) (any_job (λ r j. lies_in r j.1 x && not (is_free r log j.1)) rounds)
        (is_inside t o x) (ltb (length_at o x.inv) (sum_at sums x.inv + ticks_of x)) (not (is_free_at t o sums x.inv)) inside_is (λ e. (over_is e, before_is e))

-- the line breaks the same rule, if any
pub kind_is : (t : Tables) (rounds : List BeginningJobs) (now : ℕ) (log : List Slice) (k : Kept) (x : Slice) → AreSummed t rounds log k → (x.from < x.to → k.end ≤ x.from → start_at k.roster x.inv < x.to)
    → line_fault rounds now log x ≡ kind_of t now k x
kind_is t rounds now log k x s later =
    order_first (slice_is_out_of_order now log x) (leb x.to x.from || ltb x.from k.end || leb now x.to) _ _ (ap (λ z. leb x.to x.from || ltb x.from z || leb now x.to) (sym s.end))
    (λ e. let o = in_order now (last_end log) x e in rest_is t rounds k.roster s.kept x (later o.0 (omega (arith, o.1, s.end))) log k.sums s.sums)
