-- What a run answers, by its script.
use Rattle.std.proofs.Common.{◌≡◌, ℕ, List, Option, Some, Ok, Err, refl, sym, ap, ◌∙◌, subst, inl, inr}
use Rattle.htl_top.proofs.Vocabulary.{IfSome, coded, codes, Shown, Rose, Tables, Event, Object, script_same, OfScript, ScriptFault, ScriptKind, Files, Streams, IsBeforeRun, IsOnObject, IsOrMemory, IsRun, IsWholeRun, IsFaultyRun, IsCutRun, IsWhole, IsBad, Work, Outcome, Done, Faulty, Read, Write, Memory, Task}
use Rattle.htl_script.specs.Script.{Script, Whole, Bad, script_of}
use Rattle.htl_top.proofs.{ObjectAnswering.IsOfWork, ObjectAnswering.IsWork, Stops.answered}
use Rattle.htl_top.specs.{Answers.IsUntouched, Runs.IsRunOnFile, Stops.Came, Stops.Ended, Stops.ended_as, Stops.object_as, Stops.run_as, declared.stop.RunStop.RunStop}
use Rattle.htl_top.specs.declared.stop.RunStop.TheVariants as stop

-- ---- the machine and its object

-- a run of a machine that runs this object and shows this
pub run_here : (show s : Shown) (o p : Object) (old new : Streams) (r : Ended RunStop) → s ≡ show → p ≡ o → IsRun s p.tables p old new r → IsRun show o.tables o old new r
run_here show s o p old new r shows runs run =
    subst (λ (x : Object). IsRun show x.tables x old new r) runs (subst (λ (x : Shown). IsRun x p.tables p old new r) shows run)

-- ---- tables and their functions

told_alike : (rest : Option (List ℕ)) (P Q : List ℕ → Type 0) → ((script : List ℕ) → P script → Q script) → OfScript rest P → OfScript rest Q
told_alike rest P Q f h = (h.0, h.1, f h.0 h.2)

cut_source : (show : Shown) (t : Tables) (o : Object) (old new : Streams) → IsCutRun show (coded t) o old.rest old.written new.written → IsCutRun show t o old.rest old.written new.written
cut_source show t o old new cut = record {
  given = cut.given;
  script = told_alike old.rest (λ s. script_of (coded t) s ≡ cut.given) (λ s. script_of t s ≡ cut.given) (λ s h. script_same t (codes t) s ∙ h) cut.script;
  written = cut.written;
}

-- a script for tables with code is one for the tables
pub IsRun-source : (show : Shown) (t : Tables) (o : Object) (old new : Streams) (r : Ended RunStop) → IsRun show (coded t) o old new r → IsRun show t o old new r
IsRun-source show t o old new (Ok done) run = record {
  events = run.events;
  end = run.end;
  script = told_alike old.rest (λ s. IsWhole (coded t) s run.events run.end) (λ s. IsWhole t s run.events run.end) (λ s h. script_same t (codes t) s ∙ h) run.script;
  read = run.read;
  written = run.written;
}
IsRun-source show t o old new (Err (stop.Script fault)) run = record {
  events = run.events;
  script = told_alike old.rest (λ s. IsBad (coded t) s fault run.events) (λ s. IsBad t s fault run.events) (λ s h. script_same t (codes t) s ∙ h) run.script;
  read = run.read;
  written = run.written;
}
IsRun-source show t o old new (Err stop.Read) run = (run.0, cut_source show t o old new run.1)
IsRun-source show t o old new (Err stop.Write) run = (run.0, cut_source show t o old new run.1)
IsRun-source show t o old new (Err stop.Memory) run = run

-- ---- the answers of a run

pub ended_work : (r : Ended RunStop) → IsOfWork (ended_as run_as r)
ended_work (Ok done) = tt
ended_work (Err (stop.Script f)) = tt
ended_work (Err stop.Read) = tt
ended_work (Err stop.Write) = tt
ended_work (Err stop.Memory) = tt

pub not_task : (r : Ended RunStop) → ended_as run_as r ≡ Task → ⊥
not_task (Err stop.Memory) e = cc
not_task _ e = cc

module _ (show : Shown) (t : Tables) (o : Object) (old new : Streams) where
  unwritten_by : (r : Ended RunStop) → IsRun show t o old new r → IsBeforeRun (ended_as run_as r) → new.written ≡ old.written
  unwritten_by (Err stop.Memory) run early = run.written
  unwritten_by _ run early = absurd early

  pub memory_run : (r : Ended RunStop) → ended_as run_as r ≡ Memory → IsRun show t o old new r → IsUntouched old new
  memory_run (Err stop.Memory) e run = run
  memory_run _ e run = absurd (let p = e in cc)

  pub done_run : (r : Ended RunStop) → ended_as run_as r ≡ Done → IsRun show t o old new r → IsWholeRun show t o old.rest new.rest old.written new.written
  done_run (Ok done) e run = run
  done_run (Err stop.Memory) e run = absurd (let p = e in cc)
  done_run _ e run = absurd (let p = e in cc)

  pub faulty_run : (r : Ended RunStop) (f : ScriptFault) → ended_as run_as r ≡ Faulty f → IsRun show t o old new r → IsFaultyRun show t o old.rest new.rest old.written new.written f
  faulty_run (Err (stop.Script g)) f e run =
      let same : g ≡ f = let p = e in cc in
      subst (λ (h : ScriptFault). IsFaultyRun show t o old.rest new.rest old.written new.written h) same run
  faulty_run _ f e run = absurd (let p = e in cc)

  pub read_run : (r : Ended RunStop) → ended_as run_as r ≡ Read → IsRun show t o old new r
      → Rose old.read_faults new.read_faults × IsCutRun show t o old.rest old.written new.written
  read_run (Err stop.Read) e run = run
  read_run _ e run = absurd (let p = e in cc)

  pub write_run : (r : Ended RunStop) → ended_as run_as r ≡ Write → IsRun show t o old new r
      → Rose old.write_faults new.write_faults × IsCutRun show t o old.rest old.written new.written
  write_run (Err stop.Write) e run = run
  write_run _ e run = absurd (let p = e in cc)

-- a run of an object, by its answer
abbrev pub RunOf : Shown → Work
RunOf show o old new outcome = Came run_as (IsRun show o.tables o old new) outcome

pub run_answered : (show : Shown) (name : Option (List ℕ)) (shelf : Files) (old new : Streams) (outcome : Outcome)
    → Came (object_as run_as) (IsRunOnFile show name shelf old new) outcome → IsOnObject (RunOf show) name shelf old new outcome
run_answered show name shelf old new outcome call =
    answered RunStop run_as (λ o. IsRun show o.tables o old new) (IsUntouched old new) name shelf (RunOf show) old new outcome (λ s. s) (λ o r. r) call

pub running : (show : Shown) → IsWork (RunOf show)
running show = record {
  only = λ o old new outcome run. subst IsOfWork (sym run.is) (ended_work run.result);
  unwritten = λ o old new outcome run early. unwritten_by show o.tables o old new run.result run.came (subst IsBeforeRun run.is early);
  unread = λ o old new run. absurd (not_task run.result (sym run.is));
}

-- ---- of a script that is given

-- a script is whole or has a fault
pub whole_or_bad : (i : Script) (events others : List Event) (end line : ℕ) (k : ScriptKind) → i ≡ Whole events end → i ≡ Bad line k others → ⊥
whole_or_bad i events others end line k p q = cc

same_fault : (line other : ℕ) (kind another : ScriptKind) (events others : List Event) → Bad line kind events ≡ Bad other another others → (line ≡ other) × (kind ≡ another)
same_fault line other kind another events others e = (cc, cc)

-- it has one first fault
pub one_bad : (i : Script) (f g : ScriptFault) (events others : List Event) → i ≡ Bad f.line f.kind events → i ≡ Bad g.line g.kind others → f ≡ g
one_bad i f g events others bad also =
    let same = same_fault f.line g.line f.kind g.kind events others (sym bad ∙ also) in
    let make : ℕ → ScriptKind → ScriptFault = λ line kind. record { line = line; kind = kind } in
    ap (λ (line : ℕ). make line f.kind) same.0 ∙ ap (λ (kind : ScriptKind). make g.line kind) same.1

module _ (show : Shown) (t : Tables) (o : Object) (old new : Streams) (script : List ℕ) (told : old.rest ≡ Some script) where
  pub given : (P : List ℕ → Type 0) → OfScript old.rest P → P script
  given P is =
      let same : script ≡ is.0 = subst (λ (rest : Option (List ℕ)). IfSome rest (λ bytes. bytes ≡ is.0)) told is.1 in
      subst P (sym same) is.2

  pub bad_run : (f : ScriptFault) (events : List Event) → IsBad t script f events → (Rose old.read_faults new.read_faults → ⊥)
      → (Rose old.write_faults new.write_faults → ⊥) → (r : Ended RunStop) → IsRun show t o old new r → IsOrMemory (ended_as run_as r) (Faulty f)
  bad_run f events bad quiet still (Ok done) run =
      absurd (whole_or_bad (script_of t script) run.events events run.end f.line f.kind (given (λ s. IsWhole t s run.events run.end) run.script) bad)
  bad_run f events bad quiet still (Err (stop.Script g)) run =
      inl (ap (λ (h : ScriptFault). Faulty h) (one_bad (script_of t script) g f run.events events (given (λ s. IsBad t s g run.events) run.script) bad))
  bad_run f events bad quiet still (Err stop.Read) run = absurd (quiet run.0)
  bad_run f events bad quiet still (Err stop.Write) run = absurd (still run.0)
  bad_run f events bad quiet still (Err stop.Memory) run = inr refl

  pub whole_run : (events : List Event) (end : ℕ) → IsWhole t script events end → (Rose old.read_faults new.read_faults → ⊥)
      → (Rose old.write_faults new.write_faults → ⊥) → (r : Ended RunStop) → IsRun show t o old new r → IsOrMemory (ended_as run_as r) Done
  whole_run events end whole quiet still (Ok done) run = inl refl
  whole_run events end whole quiet still (Err (stop.Script g)) run =
      absurd (whole_or_bad (script_of t script) events run.events end g.line g.kind whole (given (λ s. IsBad t s g run.events) run.script))
  whole_run events end whole quiet still (Err stop.Read) run = absurd (quiet run.0)
  whole_run events end whole quiet still (Err stop.Write) run = absurd (still run.0)
  whole_run events end whole quiet still (Err stop.Memory) run = inr refl
