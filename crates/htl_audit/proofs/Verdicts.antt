-- The verdict is the first fault of the log, or none where the log is legal.
use Rattle.std.proofs.Common.{◌≡◌, ℕ, zero, suc, ◌≤◌, ◌<◌, inl, inr, Bool, true, false, cond, not, ◌&&◌, ◌||◌, leb, ltb, List, [], ◌∷◌, ◌++◌, length, take, Option, Some, None, Ok, Err, IfSome, refl, sym, ◌∙◌, ap, subst, arith}
use Rattle.htl_audit.proofs.Words.{slice_get, nat_tests, slice_get_within, none-some, Slice, LogFault, BeginningJobs, line_fault, any_short, fault_at, first_fault_in, jobs_done, last_end, any_job, lies_in, is_over, is_free, Kept, IsLast, le-leb, ltb-false, ltb-true, or_right, item_at}
use Rattle.std.specs.declared.result.Result.{Result}
use Rattle.htl_audit.specs.declared.slice.LogKind.TheVariants as kind
use Rattle.htl_audit.specs.Verdicts.{LogEnds, Numbers, ended, verdict_of, fault_in}
use Rattle.htl_audit.proofs.{FaultLaws.is_fault, FaultLaws.is_legal, Judging.rest}
use Rattle.std.proofs.lemmas.List.{take_all, length-take-le}

module _ (rounds : List BeginningJobs) (now : ℕ) (log : List Slice) (k : Kept) (f : LogEnds rounds now log k) where
  -- a line that doesn't end before `now` is out of order
  late : (before : List Slice) (x : Slice) → now ≤ x.to → line_fault rounds now before x ≡ Some kind.Order
  late before x h = ap (λ b. cond b (Some kind.Order) (rest (any_job (λ r j. lies_in r j.1 x) rounds) (any_job (λ r j. lies_in r j.1 x && is_over r (before ++ x ∷ []) j) rounds) (any_job (λ r j. lies_in r j.1 x && not (is_free r before j.1)) rounds))) (or_right (leb x.to x.from || ltb x.from (last_end before)) (leb now x.to) (le-leb now x.to h))

  found : (o : Option LogFault) → k.fault ≡ o → IsLast rounds now (take f.judged.count log) (slice_get log f.judged.count) k o → first_fault_in rounds now log ≡ fault_in (elim o as (λ _. Result Numbers LogFault) [ Some g ↦ Err g | None ↦ ended k (length log) ])
  found (Some g) e n =
      is_fault rounds now log g
      (inl (record { place = f.judged.count; slice = n.0; at = n.1; earlier = λ i x below at. (f.judged.keep i x below at).0; kind = n.3; line = n.4 ∙ ap suc (length-take-le f.judged.count log f.judged.few) }))
  found None e n = by (ltb k.place (length log)) refl
    where
      placed : k.place ≡ f.judged.count
      placed = n.0 ∙ length-take-le f.judged.count log f.judged.few

      by_short : length log ≤ f.judged.count → (b : Bool) → k.short ≡ b → first_fault_in rounds now log ≡ fault_in (cond b (Err (fault_at (suc (length log)) kind.Short)) (Ok (record { jobs = k.done; slices = length log })))
      by_short all true g =
          let is : any_short rounds now log ≡ true = ap (any_short rounds now) (sym (take_all f.judged.count log all)) ∙ sym (f.short e) ∙ g in
          is_fault rounds now log (fault_at (suc (length log)) kind.Short)
          (inr (record { earlier = λ i x below at. (f.judged.keep i x (omega (arith, below, all)) at).0; short = is; kind = refl; line = refl }))
      by_short all false g =
          let is : any_short rounds now log ≡ false = ap (any_short rounds now) (sym (take_all f.judged.count log all)) ∙ sym (f.short e) ∙ g in
          is_legal rounds now log (record { lines = λ i x at. (f.judged.keep i x (omega (arith, slice_get_within log i x at, all)) at).0; whole = is })

      by : (b : Bool) → ltb k.place (length log) ≡ b
          → first_fault_in rounds now log ≡ fault_in (cond b (Err (fault_at (suc k.place) kind.Order)) (cond k.short (Err (fault_at (suc (length log)) kind.Short)) (Ok (record { jobs = k.done; slices = length log }))))
      by true g =
          let x = item_at log f.judged.count (omega (arith, ltb-true k.place (length log) g, placed)) in
          let last : now ≤ x.0.to = subst (λ o. IfSome o (λ y. now ≤ y.to)) x.1 n.2 in
          is_fault rounds now log (fault_at (suc k.place) kind.Order)
          (inl (record { place = f.judged.count; slice = x.0; at = x.1; earlier = λ i y below at. (f.judged.keep i y below at).0; kind = late (take f.judged.count log) x.0 last; line = ap suc placed }))
      by false g = by_short (omega (arith, ltb-false k.place (length log) g, placed)) k.short refl

  -- the verdict tells the first fault, and none where the log is legal
  pub verdict_is : first_fault_in rounds now log ≡ fault_in (verdict_of k (length log))
  verdict_is = found k.fault refl f.judged.next

  -- a legal log has these numbers
  pub numbers_are : first_fault_in rounds now log ≡ None → (k.done ≡ jobs_done rounds log) × (verdict_of k (length log) ≡ Ok (record { jobs = k.done; slices = length log }))
  numbers_are legal = by k.fault refl f.judged.next (sym verdict_is ∙ legal)
    where
      by : (o : Option LogFault) → k.fault ≡ o → IsLast rounds now (take f.judged.count log) (slice_get log f.judged.count) k o
          → fault_in (elim o as (λ _. Result Numbers LogFault) [ Some g ↦ Err g | None ↦ ended k (length log) ]) ≡ None
          → (k.done ≡ jobs_done rounds log) × (elim o as (λ _. Result Numbers LogFault) [ Some g ↦ Err g | None ↦ ended k (length log) ] ≡ Ok (record { jobs = k.done; slices = length log }))
      by (Some g) e n h = absurd (none-some g (sym h))
      by None e n h = all (ltb k.place (length log)) k.short refl h
        where
          large : (a b : ℕ) → ltb a b ≡ false → b ≤ a
          large a b e = grind (arith, nat_tests)

          all : (b c : Bool) → ltb k.place (length log) ≡ b
              → fault_in (cond {A = Result Numbers LogFault} b (Err (fault_at (suc k.place) kind.Order)) (cond {A = Result Numbers LogFault} c (Err (fault_at (suc (length log)) kind.Short)) (Ok (record { jobs = k.done; slices = length log })))) ≡ None
              → (k.done ≡ jobs_done rounds log) × (cond {A = Result Numbers LogFault} b (Err (fault_at (suc k.place) kind.Order)) (cond {A = Result Numbers LogFault} c (Err (fault_at (suc (length log)) kind.Short)) (Ok (record { jobs = k.done; slices = length log }))) ≡ Ok (record { jobs = k.done; slices = length log }))
          all true c g h = absurd (none-some (fault_at (suc k.place) kind.Order) (sym h))
          all false true g h = absurd (none-some (fault_at (suc (length log)) kind.Short) (sym h))
          all false false g h =
              let end : length log ≤ f.judged.count = omega (arith, large k.place (length log) g, n.0, length-take-le f.judged.count log f.judged.few) in
              (n.1 ∙ ap (jobs_done rounds) (take_all f.judged.count log end), refl)
