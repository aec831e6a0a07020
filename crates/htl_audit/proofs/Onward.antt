-- From one instant to a later one: what was judged stays, and the lines between are judged behind it.
use Rattle.std.proofs.Common.{◌≡◌, ℕ, zero, suc, ◌+◌, ◌-◌, ◌≤◌, ◌<◌, ◌⊎◌, inl, inr, Bool, true, false, cond, not, ◌&&◌, ◌||◌, leb, ltb, List, [], ◌∷◌, ◌++◌, take, drop, Some, None, refl, sym, ◌∙◌, ap, subst, arith, length}
use Rattle.htl_audit.proofs.Words.{slice_get, length-drop, Tables, Slice, LogFault, Agree, AreEarly, BeginningJobs, Kept, judged_to, line_fault, lies_in, any_job, is_over, is_free, last_end, slice_is_out_of_order, IsNext, AreJudged, IsLate, BeganBefore, AreSummed, none-some, leb-false}
use Rattle.htl_audit.proofs.{Agreeing.fault_alike, Judging.kept_line, Lines.lines_judged}
use Rattle.htl_base.proofs.Places.{from_take}
use Rattle.std.proofs.Math.Seq.{take-add}

-- ---- lists

pub get_drop : (xs : List Slice) (n d : ℕ) → slice_get (drop n xs) d ≡ slice_get xs (n + d)
get_drop xs zero d = ap (slice_get xs) (let z : d ≡ 0 + d = omega arith in z)
get_drop [] (suc n) d = refl
get_drop (x ∷ xs) (suc n) d = get_drop xs n d ∙ ap (slice_get (x ∷ xs)) (let z : suc (n + d) ≡ suc n + d = omega arith in z)

-- the lines were judged that end before `now`, by the rounds that begin before it or, where a round begins just then, before `at`
module _ (t : Tables) (rounds : List BeginningJobs) (now at : ℕ) (near : now ≤ suc at) (log : List Slice) (k : Kept) (f : AreJudged t rounds now [] log k) (others : List BeginningJobs) (later : ℕ) (agree : Agree at rounds others)
    (order : now ≤ later) where
  pub early : (n : ℕ) → n ≤ f.count → AreEarly at (take n log)
  early n h i x here =
      let g = from_take log n i x here in
      let two = f.keep i x (omega (arith, g.0, h)) g.1 in
      omega (arith, (kept_line rounds now (take i log) x two.0).room, two.1, near)

  -- the lines that were judged keep the rules then too
  pub kept_then : (i : ℕ) (x : Slice) → i < f.count → slice_get log i ≡ Some x → (line_fault others later ([] ++ take i log) x ≡ None) × (x.to < later)
  kept_then i x below here =
      let two = f.keep i x below here in
      (sym (fault_alike at (take i log) (early i (omega (arith, below))) rounds others now later x agree order (omega (arith, two.1, near)) two.1) ∙ two.0, omega (arith, two.1, order))

  -- a fault stays the first
  pub first_stays : (g : LogFault) → k.fault ≡ Some g
      → (x : Slice) × (slice_get log f.count ≡ Some x) × (x.to < later) × (line_fault others later (take f.count log) x ≡ Some g.kind) × (g.line ≡ suc (length (take f.count log)))
  first_stays g e =
      let n = subst (λ o. IsNext t rounds now ([] ++ take f.count log) (slice_get log f.count) k o) e f.next in
      (n.0, n.1, omega (arith, n.2, order), sym (fault_alike at (take f.count log) (early f.count (omega arith)) rounds others now later n.0 agree order (omega (arith, n.2, near)) n.2) ∙ n.3, n.4)

  pub fault_stays : (g : LogFault) → k.fault ≡ Some g → AreJudged t others later [] log k
  fault_stays g e =
      record { count = f.count; few = f.few; keep = kept_then; next = subst (λ o. IsNext t others later ([] ++ take f.count log) (slice_get log f.count) k o) (sym e) (first_stays g e) }

  -- without one, the lines between are judged behind those that were
  pub lines_between : (bound : ℕ) → AreSummed t others (take f.count log) k → k.fault ≡ None → BeganBefore bound k → IsLate bound k (drop f.count log)
      → (j : AreJudged t others later [] log (judged_to t later (drop f.count log) k)) × (f.count ≤ j.count)
  lines_between bound s fresh began late = joined (lines_judged t others later bound (take f.count log) (drop f.count log) k s fresh began late)
    where
      joined : AreJudged t others later (take f.count log) (drop f.count log) (judged_to t later (drop f.count log) k)
          → (j : AreJudged t others later [] log (judged_to t later (drop f.count log) k)) × (f.count ≤ j.count)
      joined j = (
        record {
          count = f.count + j.count;
          few = omega (arith, j.few, f.few, length-drop f.count log);
          keep = λ i x below here. by i x below here (split i f.count);
          next =
              subst (λ o. IsNext t others later ([] ++ take (f.count + j.count) log) o (judged_to t later (drop f.count log) k) (judged_to t later (drop f.count log) k).fault) (get_drop log f.count j.count)
              (subst (λ z. IsNext t others later z (slice_get (drop f.count log) j.count) (judged_to t later (drop f.count log) k) (judged_to t later (drop f.count log) k).fault) (sym (take-add f.count j.count log)) j.next);
        },
        (let z : f.count ≤ f.count + j.count = omega arith in z),
      )
        where
          split : (i n : ℕ) → (i < n) ⊎ (n ≤ i)
          split i n = grind arith

          by : (i : ℕ) (x : Slice) → i < f.count + j.count → slice_get log i ≡ Some x → (i < f.count) ⊎ (f.count ≤ i) → (line_fault others later ([] ++ take i log) x ≡ None) × (x.to < later)
          by i x below here (inl h) = kept_then i x h here
          by i x below here (inr h) =
              let whole : f.count + (i - f.count) ≡ i = omega (arith, h) in
              let there : slice_get (drop f.count log) (i - f.count) ≡ Some x = get_drop log f.count (i - f.count) ∙ ap (slice_get log) whole ∙ here in
              let two = j.keep (i - f.count) x (omega (arith, below, h)) there in
              (ap (λ z. line_fault others later z x) (ap (λ n. take n log) (sym whole) ∙ take-add f.count (i - f.count) log) ∙ two.0, two.1)
