-- Dominance: an accepted schedule serves all jobs that refine those for which it was accepted.
use Rattle.std.proofs.Common.{◌≡◌, ℕ, ◌≤◌, ◌<◌, true, false, List, [], ◌∷◌, get_or, slice_get, take, Some, sym, ap, ◌∙◌, subst, arith, inl, inr}
use Rattle.htl_walk.proofs.Words.{All, Job, SInstr, Dispatch, Idle, End, precedes, Point, job_at, next_point, point_at, walk_from, walk, work, work_after, first_point, slices, DoneBy, InOrder, AreDone, IsMet, Meets, ScheduleIsAccepted, worst_cases, direct, through, LeadsTo, RefinesJob, Refines, HasWork, HaveLengths, AreWithinWorst, Dominance, each_at, cases_eq, cases_lt}
use Rattle.htl_walk.proofs.{Steps.left_falls, Steps.left_other, Ahead.Ahead, Ahead.ahead_next, Ahead.ahead_last, Finishes.finish_ahead, Slices.slices_start, Slices.slices_other, Slices.slices_within}
use Rattle.htl_walk.proofs.{Work.job_there, Work.job_is, Work.job_cases, Work.absent_precedes, Work.worst_at, Work.work_present, Work.work_some, Predecessors.Settled, Predecessors.settled_back}

-- where some work of a position is done, its predecessors are done
abbrev pub IsOrderly : List Job → Point → Type 0
IsOrderly ks y = (r q : ℕ) → get_or y.left r 0 < (job_at ks r).worst → precedes q (job_at ks r) ≡ true → get_or y.left q 0 ≡ 0

orderly_next : (ks : List Job) (i : SInstr) (is : List SInstr) (y : Point) → IsOrderly ks y → InOrder ks (i ∷ is) y → IsOrderly ks (next_point ks i y)
orderly_next ks (Dispatch p h) is y o d r q a b =
    elim (cases_eq p r) [
      | inl e ↦
          let z : get_or y.left q 0 ≡ 0 = d.0 q (subst (λ k. precedes q (job_at ks k) ≡ true) (sym e) b) in
          omega (arith, left_falls ks (Dispatch p h) y q)
      | inr n ↦
          let same : get_or (next_point ks (Dispatch p h) y).left r 0 ≡ get_or y.left r 0 = left_other y.left p r (work_after y.time (get_or y.left p 0) (job_at ks p).release h) n in
          let z : get_or y.left q 0 ≡ 0 = o r q (omega arith) b in
          omega (arith, left_falls ks (Dispatch p h) y q)
    ]
orderly_next ks _ is y o d r q a b = o r q a b

module _ (ks : List Job) (busy : (q r : ℕ) → precedes q (job_at ks r) ≡ true → 0 < (job_at ks r).worst) where
  all_done : (y : Point) (q p : ℕ) → IsOrderly ks y → AreDone ks (job_at ks p) y → LeadsTo ks q p → get_or y.left q 0 ≡ 0
  all_done y q p o d (direct _ _ e) = d q e
  all_done y q p o d (through _ r _ a b) =
      let z : get_or y.left r 0 ≡ 0 = all_done y r p o d b in
      all_done y q r o (λ s e. o r s (let w : 0 < (job_at ks r).worst = busy s r e in omega arith) e) a

  chain_settled : (js : List Job) (is : List SInstr) (x y : Point) (p q : ℕ) (s : ℕ × ℕ) → Ahead js ks x y → IsOrderly ks y → InOrder ks is y → LeadsTo ks q p
      → slice_get (slices (walk_from js is x) p) 0 ≡ Some s → Settled js is x q s.0
  chain_settled js [] x y p q s a u o b e = cc
  chain_settled js (Dispatch r h ∷ is) x y p q s a u o b e =
      elim (cases_eq r p) [
        | inl z ↦
            let done : get_or y.left q 0 ≡ 0 = all_done y q p u (subst (λ k. AreDone ks (job_at ks k) y) z o.0) b in
            inl (omega (arith, a.left q))
        | inr n ↦
            let f : slice_get (slices (walk_from js is (next_point js (Dispatch r h) x)) p) 0 ≡ Some s = sym (ap (λ l. slice_get l 0) (slices_other js r h is x p n)) ∙ e in
            settled_back js (Dispatch r h) is x q s.0 (slices_start js is (next_point js (Dispatch r h) x) p s f)
            (chain_settled js is (next_point js (Dispatch r h) x) (next_point ks (Dispatch r h) y) p q s (ahead_next js ks (Dispatch r h) x y a) (orderly_next ks (Dispatch r h) is y u o) o.1 b f)
      ]
  chain_settled js (Idle h ∷ is) x y p q s a u o b e =
      settled_back js (Idle h) is x q s.0 (slices_start js is (next_point js (Idle h) x) p s e)
      (chain_settled js is (next_point js (Idle h) x) (next_point ks (Idle h) y) p q s (ahead_next js ks (Idle h) x y a) (orderly_next ks (Idle h) is y u o) o b e)
  chain_settled js (End ∷ is) x y p q s a u o b e =
      settled_back js End is x q s.0 (slices_start js is x p s e)
      (chain_settled js is x y p q s (ahead_next js ks End x y a) (orderly_next ks End is y u o) o b e)

-- the work of jobs js with these lengths is no more than that of ks with the worst cases, position by position
record AsksLess (js ks : List Job) (ns : List ℕ) : Type 0 where
  lengths : (p : ℕ) → get_or (work js ns) p 0 ≤ get_or (work ks (worst_cases ks)) p 0
  release : (p : ℕ) → 0 < get_or (work js ns) p 0 → (job_at js p).release ≤ (job_at ks p).release
  some : (p : ℕ) → (job_at js p).present ≡ true → 0 < get_or (work js ns) p 0
  known : (p : ℕ) → (job_at js p).present ≡ true → (job_at ks p).present ≡ true
  end : (p : ℕ) → (job_at js p).present ≡ true → (job_at ks p).end ≤ (job_at js p).end
  preds : (p q : ℕ) → (job_at js p).present ≡ true → precedes q (job_at js p) ≡ true → LeadsTo ks q p
  full : (p : ℕ) → (job_at ks p).worst ≤ get_or (work ks (worst_cases ks)) p 0
  busy : (q r : ℕ) → precedes q (job_at ks r) ≡ true → 0 < (job_at ks r).worst

ahead_at_first : (js ks : List Job) (ns : List ℕ) → AsksLess js ks ns → Ahead js ks (first_point js ns) (first_point ks (worst_cases ks))
ahead_at_first js ks ns l = record { time = omega arith; left = l.lengths; release = l.release }

meets : (js ks : List Job) (ns : List ℕ) (period : ℕ) (s : List SInstr) → AsksLess js ks ns → ScheduleIsAccepted ks period s → Meets js ns s
meets js ks ns period s l a p j at there =
    let x = first_point js ns in
    let y = first_point ks (worst_cases ks) in
    let is_j : job_at js p ≡ j = job_is js p j at in
    let here : (job_at js p).present ≡ true = ap (λ k. k.present) is_j ∙ there in
    let ahead : Ahead js ks x y = ahead_at_first js ks ns l in
    let known : (job_at ks p).present ≡ true = l.known p here in
    let met : IsMet ks (walk ks (worst_cases ks) s) p (job_at ks p) = a.meets p (job_at ks p) (job_there ks p known) known in
    let done : DoneBy (walk js ns s) p (job_at ks p).end = finish_ahead js ks s x y p (job_at ks p).end ahead (l.some p here) met.finishes in
    let done' : DoneBy (walk js ns s) p (job_at js p).end = (done.0, done.1, omega (arith, done.2, l.end p here)) in
    subst (IsMet js (walk js ns s) p) is_j
    (record {
      finishes = done';
      within = slices_within js s x p (job_at js p).end done';
      after = λ q z b c e.
          elim (chain_settled ks l.busy js s x y p q z ahead (λ r m less _. absurd (omega (arith, less, l.full r))) a.order (l.preds p q here b) e) [
            | inl none ↦ let some : 0 < get_or x.left q 0 = l.some q c in absurd (omega arith)
            | inr d ↦ d
          ];
    })

-- ---- refined jobs ask less

module _ (js ks : List Job) (ns : List ℕ) (all : All HasWork ks) (refined : Refines js ks) (least : HaveLengths js ns) (most : AreWithinWorst js ns) where
  busy_at : (q r : ℕ) → precedes q (job_at ks r) ≡ true → 0 < (job_at ks r).worst
  busy_at q r e = elim (job_cases ks r) [
    | inl h ↦ let w = each_at HasWork ks all r (job_at ks r) h in omega (arith, w.worst)
    | inr h ↦ absurd (let f : true ≡ false = sym e ∙ ap (precedes q) h ∙ absent_precedes q in cc)
  ]

  full_at : (p : ℕ) → (job_at ks p).worst ≤ get_or (work ks (worst_cases ks)) p 0
  full_at p = elim (job_cases ks p) [
    | inl h ↦
        omega (arith, work_present ks (worst_cases ks) p (job_at ks p) h (each_at HasWork ks all p (job_at ks p) h).present, worst_at ks p (job_at ks p) h)
    | inr h ↦ omega (arith, ap (λ j. j.worst) h)
  ]

  refined_at : (p : ℕ) → (job_at js p).present ≡ true → (k : Job) × (slice_get ks p ≡ Some k) × RefinesJob ks p (job_at js p) k
  refined_at p e = refined.each p (job_at js p) (job_there js p e) e

  lengths_at : (p : ℕ) → get_or (work js ns) p 0 ≤ get_or (work ks (worst_cases ks)) p 0
  lengths_at p = grind (arith, cases_lt, work_some, refined_at, work_present, job_there, job_is, full_at)

  asks_less : AsksLess js ks ns
  asks_less = record {
    lengths = lengths_at;
    release = λ p h.
        let r = refined_at p (work_some js ns p h) in
        omega (arith, r.2.release, ap (λ j. j.release) (job_is ks p r.0 r.1));
    some = λ p e.
        omega (arith, work_present js ns p (job_at js p) (job_there js p e) e, least p (job_at js p) (job_there js p e) e);
    known = λ p e. let r = refined_at p e in ap (λ j. j.present) (job_is ks p r.0 r.1) ∙ r.2.present;
    end = λ p e. let r = refined_at p e in omega (arith, r.2.end, ap (λ j. j.end) (job_is ks p r.0 r.1));
    preds = λ p q e f. let r = refined_at p e in r.2.preds q f;
    full = full_at;
    busy = busy_at;
  }

pub dominance : Dominance
dominance js ks ns s period all refined least most accepted =
    let less : AsksLess js ks ns = asks_less js ks ns all refined least most in
    let ahead : (k : ℕ) → Ahead js ks (point_at js ns s k) (point_at ks (worst_cases ks) s k) =
    λ k. ahead_last js ks (take k s) (first_point js ns) (first_point ks (worst_cases ks)) (ahead_at_first js ks ns less) in
    record {
      time = λ k. (ahead k).time;
      left = λ k p. (ahead k).left p;
      meets = meets js ks ns period s less accepted;
    }
