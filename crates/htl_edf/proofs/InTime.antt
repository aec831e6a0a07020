-- Where earliest deadline first gives every position its work in time, no interval is overloaded.
use Rattle.std.proofs.Common.{◌≡◌, ℕ, ◌+◌, ◌-◌, ◌<◌, ◌≤◌, sym, ap, ◌∙◌, arith, ⊎_elim, pos, ◌≤ℤ◌, ◌<ℤ◌, List, length, get_or, Option, Some, None, IfSome}
use Rattle.htl_edf.proofs.Words.{cases_lt, same_Some, ints, absent_job, Job, jobs_of, AreWellFormed, end_at, edf, edf_on, left, Served, NoOverload, AreInTime, LeftAt}
use Rattle.htl_edf.specs.Tight.{tight}
use Rattle.htl_edf.proofs.{Optimal.given-mono, Refusal.refused, Ticks.edf_is, Ticks.on_is, Ticks.left_is}

module _ (js : List Job) where
  -- nothing has run yet
  pub in_time_none : (a : ℕ) → AreInTime js a a
  in_time_none a x q l b e = absurd (omega (arith, l, b))

  -- what ran from t to h, if anything did, ended in time
  pub in_time_more : (a t h : ℕ) (o : Option ℕ) → AreInTime js a t → ((i : ℕ) → t + i < h → edf (tight (jobs_of js)) (t + i) ≡ o) → IfSome o (λ p. pos h ≤ℤ end_at (jobs_of js) (length js) p) → AreInTime js a h
  unfolding tight
  in_time_more a t h o before runs due x q l b e = ⊎_elim
      (λ early. before x q l early e)
      (λ (late : t ≤ x).
      let s : t + (x - t) ≡ x = omega (arith, late) in
      let is : o ≡ Some q = sym (runs (x - t) (omega (arith, b, s))) ∙ ap (edf (tight (jobs_of js))) s ∙ e in
      here o is due)
      (cases_lt x t)
    where
      here : (r : Option ℕ) → r ≡ Some q → IfSome r (λ p. pos h ≤ℤ end_at (jobs_of js) (length js) p) → pos x <ℤ end_at (jobs_of js) (length js) q
      here (Some p) f d = omega (arith, ints, b, ap (end_at (jobs_of js) (length js)) (same_Some p q f), d)
      here None f d = absurd (cc)

  pub in_time_joined : (a b c : ℕ) → AreInTime js a b → AreInTime js b c → AreInTime js a c
  in_time_joined a b c first second x q l m e = ⊎_elim (λ h. first x q l h e) (λ h. second x q h m e) (cases_lt x b)

  -- all is done in time
  pub none_overloaded : AreWellFormed js → (T : ℕ) (ls : List ℕ) → AreInTime js 0 T → LeftAt js ls T → length ls ≡ length js → ((q : ℕ) → q < length ls → get_or ls q 0 ≡ 0) → NoOverload (tight (jobs_of js))
  unfolding tight
  none_overloaded good T ls in_time lefts long done a b m over =
      let v = tight (jobs_of js) in
      let is = edf_is v in
      let none : (q : ℕ) → q < length js → left v T q ≡ 0 = λ q l. sym (lefts.lefts q l) ∙ done q (omega (arith, l, long)) in
      let served : Served v (edf_on v) T = record {
        all = λ q l. omega (arith, left_is v T q, none q l);
        within = λ x q l e.
            let r = is.ready x q e in (
              r.1,
              ⊎_elim
                  (λ early. in_time x q (omega arith) early (on_is v x q e))
                  (λ late. absurd (omega (arith, r.2, left_is v T q, none q l, given-mono (edf_on v) q T x late)))
                  (cases_lt x T),
            );
      } in
      refused v (edf_on v) T a b m (λ q l. (good.each q absent_job l).some) is.one served over
