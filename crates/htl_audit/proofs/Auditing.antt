-- The calls of an auditor: each carries what it follows, and the verdict tells the first fault.
use Rattle.std.proofs.Common.{◌≡◌, ℕ, suc, ◌<◌, cond, ◌&&◌, eqb, leb, false, List, [], ◌∷◌, ◌++◌, length, Some, None, Result, Ok, Err, IfOk, IfErr, ℤ, refl, sym, ◌∙◌, ap, subst, arith}
use Rattle.htl_audit.proofs.Words.{nat_tests, Event, sense, Tables, reading_of, shown_as, sense_sense, took_sense, AuditTotals, Slice, LogFault, Audit, AuditFollows, IsAudited, all_rounds, Kept, first_fault, jobs_done, Says, LogFollows, LogEnds, Numbers, verdict_of, fault_in}
use Rattle.htl_model.specs.declared.event.Event.TheVariants as V
use Rattle.htl_machine.specs.Calls as machines
use Rattle.htl_audit.proofs.{Growing.rounds_same, Verdicts.verdict_is, Verdicts.numbers_are}

-- ---- the verdict

module _ (t : Tables) (es : List Event) (end : ℕ) (log : List Slice) (k : Kept) (f : LogEnds (all_rounds t es (suc end)) (suc end) log k) where
  pub says_fault : (r : Result AuditTotals LogFault) (at : ℕ) → Says (verdict_of k (length log)) at r → IfErr r (λ g. first_fault t es end log ≡ Some g)
  says_fault r at s = by (verdict_of k (length log)) refl r s
    where
      by : (v : Result Numbers LogFault) → verdict_of k (length log) ≡ v → (r : Result AuditTotals LogFault) → Says v at r → IfErr r (λ g. first_fault t es end log ≡ Some g)
      by (Ok n) e (Ok m) s = tt
      by (Err g) e (Err h) s = verdict_is (all_rounds t es (suc end)) (suc end) log k f ∙ ap fault_in e ∙ ap (λ z. Some z) (sym s)
      by (Ok n) e (Err h) s = absurd s
      by (Err g) e (Ok m) s = absurd s

  pub says_legal : (r : Result AuditTotals LogFault) (at : ℕ) → Says (verdict_of k (length log)) at r
      → IfOk r (λ m. (first_fault t es end log ≡ None) × (m.at ≡ at) × (m.jobs ≡ jobs_done (all_rounds t es (suc end)) log) × (m.slices ≡ length log))
  says_legal r at s = by (verdict_of k (length log)) refl r s
    where
      by : (v : Result Numbers LogFault) → verdict_of k (length log) ≡ v → (r : Result AuditTotals LogFault) → Says v at r
          → IfOk r (λ m. (first_fault t es end log ≡ None) × (m.at ≡ at) × (m.jobs ≡ jobs_done (all_rounds t es (suc end)) log) × (m.slices ≡ length log))
      by (Ok n) e (Ok m) s =
          let legal : first_fault t es end log ≡ None = verdict_is (all_rounds t es (suc end)) (suc end) log k f ∙ ap fault_in e in
          let numbers = numbers_are (all_rounds t es (suc end)) (suc end) log k f legal in
          let one : Ok n ≡ Ok (record { jobs = k.done; slices = length log }) = sym e ∙ numbers.1 in
          let same : n ≡ record { jobs = k.done; slices = length log } = same_ok n (record { jobs = k.done; slices = length log }) one in
          (legal, s.0, s.1 ∙ ap (λ (z : Numbers). z.jobs) same ∙ numbers.0, s.2 ∙ ap (λ (z : Numbers). z.slices) same)
        where
          same_ok : (a b : Numbers) → ◌≡◌ {A = Result Numbers LogFault} (Ok a) (Ok b) → a ≡ b
          same_ok a b e = cc
      by (Err g) e (Err h) s = tt
      by (Ok n) e (Err h) s = absurd s
      by (Err g) e (Ok m) s = absurd s

-- ---- a sensor

pub sense_follows : (a : Audit) (es : List Event) (c : ℕ) (x : ℤ) (m : machines.Seen) → m ≡ record a.machine { run_state = shown_as c x a.machine.run_state } → machines.Follows m (es ++ V.Sense c x ∷ []) → AuditFollows a es
    → AuditFollows (record a { machine = m }) (es ++ V.Sense c x ∷ [])
sense_follows a es c x m is machine f =
    subst (λ z. AuditFollows (record a { machine = z }) fs) (sym is)
    (record {
      machine = subst (λ z. machines.Follows z fs) is machine;
      shown = f.shown;
      takes = λ i u known later. took_sense t es c i u x ∙ f.takes i u known later;
      log = subst (λ rs. LogFollows t rs a.machine.run_state.reading a.log a.kept) (rounds_same t es fs a.machine.run_state.reading senses (λ i u. sym (took_sense t es c i u x))) f.log;
    })
  where
    t : Tables
    t = a.machine.object.tables

    fs : List Event
    fs = es ++ V.Sense c x ∷ []

    early : (d u : ℕ) → u < reading_of 0 es → (eqb d c && leb (reading_of 0 es) u) ≡ false
    early d u h = grind (arith, nat_tests)

    senses : (d u : ℕ) → u < a.machine.run_state.reading → sense t es d u ≡ sense t fs d u
    senses d u h = sym (sense_sense t es c d u x ∙ ap (λ b. cond b x (sense t es d u)) (early d u (omega (arith, f.machine.kept.reading, h))))

-- ---- the verdict of an auditor

module _ (inner a : Audit) (es : List Event) (same : inner ≡ a) (f : IsAudited a es a.machine.run_state.reading) (r : Result AuditTotals LogFault) (at : ℕ) (at_is : at ≡ inner.machine.run_state.reading)
    (s : Says (verdict_of inner.kept (length inner.log)) at r) where
  says : Says (verdict_of a.kept (length a.log)) a.machine.run_state.reading r
  says = subst (λ (z : Audit). Says (verdict_of z.kept (length z.log)) z.machine.run_state.reading r) same (subst (λ n. Says (verdict_of inner.kept (length inner.log)) n r) at_is s)

  pub audited_legal : IfOk r (λ m. (first_fault a.machine.object.tables es a.machine.run_state.reading a.log ≡ None) × (m.at ≡ a.machine.run_state.reading)
      × (m.jobs ≡ jobs_done (all_rounds a.machine.object.tables es (suc a.machine.run_state.reading)) a.log) × (m.slices ≡ length a.log))
  audited_legal = says_legal a.machine.object.tables es a.machine.run_state.reading a.log a.kept f.log r a.machine.run_state.reading says

  pub audited_fault : IfErr r (λ g. first_fault a.machine.object.tables es a.machine.run_state.reading a.log ≡ Some g)
  audited_fault = says_fault a.machine.object.tables es a.machine.run_state.reading a.log a.kept f.log r a.machine.run_state.reading says
