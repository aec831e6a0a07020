-- What a plan answers, by its input.
use Rattle.std.proofs.Common.{◌≡◌, ℕ, List, Option, Some, Ok, Err, refl, sym, ap, ◌∙◌, subst, inl, inr}
use Rattle.htl_top.proofs.Vocabulary.{IfSome, Rose, Object, OfScript, ScriptFault, ScriptKind, Files, Streams, IsBeforeRun, IsOnObject, IsOrMemory, IsPlanned, IsCutPlan, IsBadSelection, Work, Outcome, Done, Script, Read, Write}
use Rattle.htl_top.proofs.{ObjectAnswering.IsWork, ObjectAnswering.IsOfWork, Running.ended_work, Running.not_task, Stops.answered}
use Rattle.htl_plan.specs.SelectionInput.{Input, Whole, Bad, input_of}
use Rattle.htl_top.specs.{Answers.IsUntouched, Planned.IsPlannedOnFile, Planned.IsWholePlan, Stops.Came, Stops.Ended, Stops.ended_as, Stops.object_as, Stops.run_as, declared.stop.RunStop.RunStop}
use Rattle.htl_top.specs.declared.stop.RunStop.TheVariants as stop

module _ (o : Object) (old new : Streams) where
  unwritten_by : (r : Ended RunStop) → IsPlanned o old new r → IsBeforeRun (ended_as run_as r) → new.written ≡ old.written
  unwritten_by (Err stop.Memory) plan early = plan.written
  unwritten_by _ plan early = absurd early

  pub done_plan : (r : Ended RunStop) → ended_as run_as r ≡ Done → IsPlanned o old new r → IsWholePlan o old.rest new.rest old.written new.written
  done_plan (Ok done) e plan = plan
  done_plan (Err stop.Memory) e plan = absurd (let p = e in cc)
  done_plan _ e plan = absurd (let p = e in cc)

  pub faulty_plan : (r : Ended RunStop) (f : ScriptFault) → ended_as run_as r ≡ Script f → IsPlanned o old new r → IsBadSelection o old.rest f × (new.written ≡ old.written)
  faulty_plan (Err (stop.Script g)) f e plan =
      let same : g ≡ f = let p = e in cc in
      (subst (λ (h : ScriptFault). IsBadSelection o old.rest h) same plan.0, plan.1)
  faulty_plan _ f e plan = absurd (let p = e in cc)

  pub read_plan : (r : Ended RunStop) → ended_as run_as r ≡ Read → IsPlanned o old new r → Rose old.read_faults new.read_faults × (new.written ≡ old.written)
  read_plan (Err stop.Read) e plan = plan
  read_plan _ e plan = absurd (let p = e in cc)

  pub write_plan : (r : Ended RunStop) → ended_as run_as r ≡ Write → IsPlanned o old new r → Rose old.write_faults new.write_faults × IsCutPlan o old.rest old.written new.written
  write_plan (Err stop.Write) e plan = plan
  write_plan _ e plan = absurd (let p = e in cc)

-- a plan of an object, by its answer
abbrev pub PlanOf : Work
PlanOf o old new outcome = Came run_as (IsPlanned o old new) outcome

pub plan_answered : (name : Option (List ℕ)) (shelf : Files) (old new : Streams) (outcome : Outcome)
    → Came (object_as run_as) (IsPlannedOnFile name shelf old new) outcome → IsOnObject PlanOf name shelf old new outcome
plan_answered name shelf old new outcome call =
    answered RunStop run_as (λ o. IsPlanned o old new) (IsUntouched old new) name shelf PlanOf old new outcome (λ s. s) (λ o r. r) call

pub planning : IsWork PlanOf
planning = record {
  only = λ o old new outcome plan. subst IsOfWork (sym plan.is) (ended_work plan.result);
  unwritten = λ o old new outcome plan early. unwritten_by o old new plan.result plan.came (subst IsBeforeRun plan.is early);
  unread = λ o old new plan. absurd (not_task plan.result (sym plan.is));
}

-- ---- what an input is

whole_or_bad : (i : Input) (modes : List (Option ℕ)) (line : ℕ) (k : ScriptKind) → i ≡ Whole modes → i ≡ Bad line k → ⊥
whole_or_bad i modes line k p q = cc

same_fault : (i : Input) (f g : ScriptFault) → i ≡ Bad f.line f.kind → i ≡ Bad g.line g.kind → f ≡ g
same_fault i f g p q =
    let both : Bad f.line f.kind ≡ Bad g.line g.kind = sym p ∙ q in
    let parts = fields f.line g.line f.kind g.kind both in
    let make : ℕ → ScriptKind → ScriptFault = λ line kind. record { line = line; kind = kind } in
    ap (λ (line : ℕ). make line f.kind) parts.0 ∙ ap (λ (kind : ScriptKind). make g.line kind) parts.1
  where
    fields : (line other : ℕ) (kind another : ScriptKind) → Bad line kind ≡ Bad other another → (line ≡ other) × (kind ≡ another)
    fields line other kind another e = (cc, cc)

module _ (o : Object) (old new : Streams) (script : List ℕ) where
  given : (P : List ℕ → Type 0) → old.rest ≡ Some script → OfScript old.rest P → P script
  given P told is =
      let same : script ≡ is.0 = subst (λ (rest : Option (List ℕ)). IfSome rest (λ bytes. bytes ≡ is.0)) told is.1 in
      subst P (sym same) is.2

  pub bad_input : (f : ScriptFault) → old.rest ≡ Some script → input_of o.tables script ≡ Bad f.line f.kind → (Rose old.read_faults new.read_faults → ⊥)
      → (Rose old.write_faults new.write_faults → ⊥) → (r : Ended RunStop) → IsPlanned o old new r → IsOrMemory (ended_as run_as r) (Script f)
  bad_input f told bad quiet still (Ok done) plan =
      absurd (whole_or_bad (input_of o.tables script) plan.modes f.line f.kind (given (λ bytes. input_of o.tables bytes ≡ Whole plan.modes) told plan.selected.told) bad)
  bad_input f told bad quiet still (Err (stop.Script g)) plan =
      inl (ap (λ (h : ScriptFault). Script h) (same_fault (input_of o.tables script) g f (given (λ bytes. input_of o.tables bytes ≡ Bad g.line g.kind) told plan.0) bad))
  bad_input f told bad quiet still (Err stop.Read) plan = absurd (quiet plan.0)
  bad_input f told bad quiet still (Err stop.Write) plan = absurd (still plan.0)
  bad_input f told bad quiet still (Err stop.Memory) plan = inr refl

  pub whole_input : (modes : List (Option ℕ)) → old.rest ≡ Some script → input_of o.tables script ≡ Whole modes → (Rose old.read_faults new.read_faults → ⊥)
      → (Rose old.write_faults new.write_faults → ⊥) → (r : Ended RunStop) → IsPlanned o old new r → IsOrMemory (ended_as run_as r) Done
  whole_input modes told whole quiet still (Ok done) plan = inl refl
  whole_input modes told whole quiet still (Err (stop.Script g)) plan =
      absurd (whole_or_bad (input_of o.tables script) modes g.line g.kind whole (given (λ bytes. input_of o.tables bytes ≡ Bad g.line g.kind) told plan.0))
  whole_input modes told whole quiet still (Err stop.Read) plan = absurd (quiet plan.0)
  whole_input modes told whole quiet still (Err stop.Write) plan = absurd (still plan.0)
  whole_input modes told whole quiet still (Err stop.Memory) plan = inr refl
