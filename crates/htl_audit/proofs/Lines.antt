-- The lines up to an instant are judged as the definition judges them.
use Rattle.std.proofs.Common.{◌≡◌, ℕ, zero, suc, ◌≤◌, ◌<◌, inl, inr, Bool, true, false, cond, ltb, List, [], ◌∷◌, ◌++◌, length, take, Option, Some, None, IfSome, refl, sym, ◌∙◌, ap, subst, arith}
use Rattle.htl_audit.proofs.Words.{slice_get, append_assoc, append-nil, Tables, Slice, LogKind, LogFault, BeginningJobs, line_fault, fault_at, Kept, start_at, kind_of, with_slice, with_kind, judged, judged_to, AreSummed, IsNext, AreJudged, IsLate, BeganBefore, ltb-false, ltb-true}
use Rattle.htl_audit.proofs.{Judging.kind_is, Summing.Keeps, Summing.keeps, Summing.summed_more}

-- behind a fault nothing is judged
stopped : (t : Tables) (now : ℕ) (xs : List Slice) (k : Kept) (f : LogFault) → k.fault ≡ Some f → judged_to t now xs k ≡ k
stopped t now [] k f e = refl
stopped t now (x ∷ xs) k f e = ap (λ (o : Option LogFault). elim o as (λ _. Kept) [ Some g ↦ k | None ↦ cond (ltb x.to now) (judged_to t now xs (judged t now x k)) k ]) e

module _ (t : Tables) (rounds : List BeginningJobs) (now bound : ℕ) where
  -- nothing is judged
  none_judged : (log xs : List Slice) (k : Kept) → AreSummed t rounds log k → k.fault ≡ None → IfSome (slice_get xs 0) (λ x. now ≤ x.to) → AreJudged t rounds now log xs k
  none_judged log xs k s fresh later =
      record {
        count = 0;
        few = omega arith;
        keep = λ i x below at. absurd (omega (arith, below));
        next = subst (λ o. IsNext t rounds now (log ++ []) (slice_get xs 0) k o) (sym fresh) (subst (λ z. AreSummed t rounds z k) (sym (append-nil log)) s, later);
      }

  -- one more in front
  one_more : (log : List Slice) (x : Slice) (xs : List Slice) (k : Kept) → line_fault rounds now log x ≡ None → x.to < now → AreJudged t rounds now (log ++ x ∷ []) xs k → AreJudged t rounds now log (x ∷ xs) k
  one_more log x xs k kept early j =
      record {
        count = suc j.count;
        few = omega (arith, j.few);
        keep = keep;
        next = subst (λ z. IsNext t rounds now z (slice_get xs j.count) k k.fault) (append_assoc log (x ∷ []) (take j.count xs)) j.next;
      }
    where
      keep : (i : ℕ) (y : Slice) → i < suc j.count → slice_get (x ∷ xs) i ≡ Some y → (line_fault rounds now (log ++ take i (x ∷ xs)) y ≡ None) × (y.to < now)
      keep zero y below at =
          let one : x ≡ y = cc in
          (ap (λ z. line_fault rounds now z y) (append-nil log) ∙ ap (line_fault rounds now log) (sym one) ∙ kept, subst (λ (z : Slice). z.to < now) one early)
      keep (suc i) y below at =
          let two = j.keep i y (omega (arith, below)) at in
          (ap (λ z. line_fault rounds now z y) (sym (append_assoc log (x ∷ []) (take i xs))) ∙ two.0, two.1)

  pub lines_judged : (log xs : List Slice) (k : Kept) → AreSummed t rounds log k → k.fault ≡ None → BeganBefore bound k → IsLate bound k xs → AreJudged t rounds now log xs (judged_to t now xs k)
  lines_judged log [] k s fresh began late = none_judged log [] k s fresh tt
  lines_judged log (x ∷ xs) k s fresh began late =
      subst (AreJudged t rounds now log (x ∷ xs)) (sym (ap (λ (o : Option LogFault). elim o as (λ _. Kept) [ Some g ↦ k | None ↦ cond (ltb x.to now) (judged_to t now xs (judged t now x k)) k ]) fresh))
      (by (ltb x.to now) refl (λ s' fresh' late'. lines_judged (log ++ x ∷ []) xs (with_slice x k) s' fresh' began late'))
    where
      later : x.from < x.to → k.end ≤ x.from → start_at k.roster x.inv < x.to
      later some order = elim (began x.inv) [ inl b ↦ elim late [ inl h ↦ omega (arith, h, b) | inr h ↦ omega (arith, h, b, some, order) ] | inr z ↦ omega (arith, z, some) ]

      kind : line_fault rounds now log x ≡ kind_of t now k x
      kind = kind_is t rounds now log k x s later

      late_next : (ys : List Slice) → Keeps t now k x → IsLate bound (with_slice x k) ys
      late_next [] keep = tt
      late_next (y ∷ ys) keep = inr (elim late [ inl h ↦ h | inr h ↦ omega (arith, h, keep.some, keep.order) ])

      by_kind : (o : Option LogKind) → kind_of t now k x ≡ o → x.to < now
          → (AreSummed t rounds (log ++ x ∷ []) (with_slice x k) → k.fault ≡ None → IsLate bound (with_slice x k) xs → AreJudged t rounds now (log ++ x ∷ []) xs (judged_to t now xs (with_slice x k)))
          → AreJudged t rounds now log (x ∷ xs) (judged_to t now xs (with_kind x o k))
      by_kind None e early next =
          let keep = keeps t now k x e in
          one_more log x xs (judged_to t now xs (with_slice x k)) (kind ∙ e) early
          (next (summed_more t rounds log k s x now keep (later keep.some keep.order)) fresh (late_next xs keep))
      by_kind (Some c) e early next =
          let f = fault_at (suc k.place) c in
          let new : Kept = record k { fault = Some f } in
          subst (AreJudged t rounds now log (x ∷ xs)) (sym (stopped t now xs new f refl))
          (record {
            count = 0;
            few = omega arith;
            keep = λ i y below at. absurd (omega (arith, below));
            next = (x, refl, early, ap (λ z. line_fault rounds now z x) (append-nil log) ∙ kind ∙ e, ap suc (s.place ∙ sym (ap length (append-nil log))));
          })

      by : (b : Bool) → ltb x.to now ≡ b
          → (AreSummed t rounds (log ++ x ∷ []) (with_slice x k) → k.fault ≡ None → IsLate bound (with_slice x k) xs → AreJudged t rounds now (log ++ x ∷ []) xs (judged_to t now xs (with_slice x k)))
          → AreJudged t rounds now log (x ∷ xs) (cond b (judged_to t now xs (judged t now x k)) k)
      by false e next = none_judged log (x ∷ xs) k s fresh (ltb-false x.to now e)
      by true e next = by_kind (kind_of t now k x) refl (ltb-true x.to now e) next
