-- An accepted object has no fault, and an object in range has one first fault at most, which is never that of the limits of frames.
use Rattle.std.proofs.Common.{◌≡◌, ◌<◌, ◌⊎◌, ℕ, List, Option, Some, None, sym, ◌∙◌, ap, subst, arith, inl, inr}
use Rattle.htl_load.proofs.Words.{spells_or_departs, departure, EFault, one_law, IsSpelled, AcceptedIsNotRefused, OneFault, NoFrameFault, IsFirstUnfit, ObjectFault, frames_unbroken, Broken, Formed, IsFirstBroken, site_of, FormRule, FrameLimits, Tables, FormFault, Object, one_first_broken, one_path_miss, lists_of, IsFirstFailing, instrs_of, path_jobs, legs, IsPathMiss, first_point, worst_cases, Miss, SInstr, cases_less_same}
use Rattle.htl_load.specs.declared.fault.ObjectFault.TheVariants as fault

departs : (d : Option EFault) (e : EFault) → d ≡ None → d ≡ Some e → ⊥
departs None e p q = cc
departs (Some x) e p q = cc

-- ---- tables that break a rule are not formed, and so on

pub not_formed : (t : Tables) (f : FormFault) → Formed t → IsFirstBroken t f → ⊥
not_formed t f formed b = formed b.law (site_of f b.part) f.have f.need b.broken

not_spelled : (o : Object) (e : EFault) → IsSpelled o → departure o.tables o.ecode ≡ Some e → ⊥
not_spelled o e s h = departs (departure o.tables o.ecode) e ((spells_or_departs o.tables o.ecode).0 s.code) h

pub accepted_is_not_refused : AcceptedIsNotRefused
accepted_is_not_refused o (fault.Malformed m) a h = h
accepted_is_not_refused o (fault.IllFormed f) a h = not_formed o.tables f a.spelled.formed.formed h
accepted_is_not_refused o (fault.Function k) a h = h.1.here (a.spelled.functions k)
accepted_is_not_refused o (fault.ECode e) a h = not_spelled o e a.spelled h.1.1
accepted_is_not_refused o (fault.Schedule path m) a h = h.1.refused (a.feasible path h.1.within)

-- the limits of frames are those of an object in range
pub no_frame_fault : NoFrameFault
no_frame_fault o f range b two =
    let law : b.law ≡ FrameLimits = one_law b.law FrameLimits (sym b.rule ∙ two) (omega arith) in
    frames_unbroken o.tables range.frames (site_of f b.part) f.have f.need (subst (λ (r : FormRule). Broken o.tables r (site_of f b.part) f.have f.need) law b.broken)

-- ---- one first fault

pub one_unfit : (t : Tables) (k n : ℕ) → IsFirstUnfit t k → IsFirstUnfit t n → k ≡ n
one_unfit t k n p q = elim (cases_less_same k n) [
  | inl less ↦ absurd (p.here (q.first k (omega arith) less))
  | inr (inl same) ↦ same
  | inr (inr more) ↦ absurd (q.here (p.first n (omega arith) more))
]

one_departure : (d : Option EFault) (e f : EFault) → d ≡ Some e → d ≡ Some f → e ≡ f
one_departure d e f p q = let both : ◌≡◌ {A = Option EFault} (Some e) (Some f) = sym p ∙ q in cc

one_schedule : (t : Tables) (lists : List (List SInstr)) (j k : ℕ) (m n : Miss) → IsFirstFailing t lists j m → IsFirstFailing t lists k n → ◌≡◌ {A = ObjectFault} (fault.Schedule j m) (fault.Schedule k n)
one_schedule t lists j k m n p q = by (cases_less_same j k)
  where
    by : (j < k) ⊎ (j ≡ k) ⊎ (k < j) → ◌≡◌ {A = ObjectFault} (fault.Schedule j m) (fault.Schedule k n)
    by (inl less) = absurd (p.refused (q.before j less))
    by (inr (inr more)) = absurd (q.refused (p.before k more))
    by (inr (inl same)) =
        let missed : IsPathMiss (path_jobs t k) (lists_of t lists k) (legs t k) 0 (first_point (path_jobs t k) (worst_cases (path_jobs t k))) m =
        subst (λ (path : ℕ). IsPathMiss (path_jobs t path) (lists_of t lists path) (legs t path) 0 (first_point (path_jobs t path) (worst_cases (path_jobs t path))) m) same p.miss in
        ap (λ (path : ℕ). fault.Schedule path m) same
        ∙ ap (fault.Schedule k) (one_path_miss (path_jobs t k) (lists_of t lists k) (legs t k) 0 (first_point (path_jobs t k) (worst_cases (path_jobs t k))) m n missed q.miss)

pub one_fault : OneFault
one_fault o (fault.Malformed m) g range p q = absurd p
one_fault o (fault.IllFormed f) (fault.IllFormed g) range p q = ap fault.IllFormed (one_first_broken o.tables range.tables f g p q)
one_fault o (fault.IllFormed f) (fault.Function k) range p q = absurd (not_formed o.tables f q.0.formed p)
one_fault o (fault.IllFormed f) (fault.ECode e) range p q = absurd (not_formed o.tables f q.0.formed p)
one_fault o (fault.IllFormed f) (fault.Schedule sel m) range p q = absurd (not_formed o.tables f q.0.formed.formed p)
one_fault o (fault.Function k) (fault.IllFormed f) range p q = absurd (not_formed o.tables f p.0.formed q)
one_fault o (fault.Function k) (fault.Function n) range p q = ap fault.Function (one_unfit o.tables k n p.1 q.1)
one_fault o (fault.Function k) (fault.ECode e) range p q = absurd (p.1.here (q.1.0 k))
one_fault o (fault.Function k) (fault.Schedule sel m) range p q = absurd (p.1.here (q.0.functions k))
one_fault o (fault.ECode e) (fault.IllFormed f) range p q = absurd (not_formed o.tables f p.0.formed q)
one_fault o (fault.ECode e) (fault.Function k) range p q = absurd (q.1.here (p.1.0 k))
one_fault o (fault.ECode e) (fault.ECode f) range p q = ap fault.ECode (one_departure (departure o.tables o.ecode) e f p.1.1 q.1.1)
one_fault o (fault.ECode e) (fault.Schedule sel m) range p q = absurd (not_spelled o e q.0 p.1.1)
one_fault o (fault.Schedule sel m) (fault.IllFormed f) range p q = absurd (not_formed o.tables f p.0.formed.formed q)
one_fault o (fault.Schedule sel m) (fault.Function k) range p q = absurd (q.1.here (p.0.functions k))
one_fault o (fault.Schedule sel m) (fault.ECode e) range p q = absurd (not_spelled o e p.0 q.1.1)
one_fault o (fault.Schedule sel m) (fault.Schedule other n) range p q = one_schedule o.tables (instrs_of o.schedules) sel other m n p.1 q.1
one_fault o _ _ range p q = absurd q
