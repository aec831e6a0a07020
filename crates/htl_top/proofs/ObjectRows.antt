-- From the answer of a command on an object to its rows, and to those on the object itself.
use Rattle.std.proofs.Common.{◌≡◌, ◌≤◌, ◌<◌, ◌⊎◌, ℕ, List, length, Option, None, Some, refl, sym, subst, inl, inr}
use Rattle.htl_top.proofs.Vocabulary.{append_known, Shown, Rose, AppendsPrefix, RefusesBytes, ObjectFault, PatchFault, Object, Files, Streams, IsGiven, IsOrMemory, check_text, IsReadyFile, IsAcceptedFile, IsOnObject, IsReadyObject, Work, IsPlanned, IsCutPlan, IsBadSelection, IsRun, IsWholeRun, IsFaultyRun, IsCutRun, show_text, HasSlack, NamesNoTask, IsTaskCause, object_bytes, HasPatch, IsDonorFault, IsDonorTold, IsPatchCause, AreFilesOf, IsUntouched, Command, Go, Compile, CompileWith, Run, Check, Plan, Show, Bulk, Slack, Audit, Patch, command_object, second_file, Outcome, Done, Refused, Script, Shelf, Task, Unpatched, Read, Write, Memory, TooLong}
use Rattle.htl_top.proofs.{Auditing.AuditOf, BothFiles.UnhadAs, Calling.DoesOf, Calling.tells, Calling.working, Calling.done_memory, Calling.write_memory, Calling.read_memory, Calling.script_memory, ObjectAnswering.IsWork, Stops.must}
use Rattle.htl_top.proofs.BothFiles as both
use Rattle.htl_top.proofs.PatchedObjects as patched
use Rattle.htl_top.proofs.ObjectAnswering as objects
use Rattle.htl_top.proofs.Patching as patching
use Rattle.htl_top.proofs.{Patching.DonorOf, Patching.PatchingAs, Planning.PlanOf, Planning.bad_input, Planning.done_plan, Planning.faulty_plan, Planning.planning, Planning.read_plan, Planning.whole_input, Planning.write_plan}
use Rattle.htl_top.proofs.{Running.RunOf, Running.bad_run, Running.done_run, Running.faulty_run, Running.not_task, Running.read_run, Running.running, Running.whole_run, Running.write_run, Seen.IsChecked, Seen.IsSeen, Seen.IsShown}
use Rattle.htl_top.proofs.Slacking as slacking
use Rattle.htl_top.proofs.{Slacking.IsSlacked, Slacking.slacking as slack_work, Telling.TextOf, Telling.telling}
use Rattle.htl_top.specs.{Planned.IsWholePlan, Stops.Ended, Stops.donor_as, Stops.ended_as, Stops.run_as, declared.stop.DonorStop.DonorStop}
use Rattle.htl_top.proofs.Telling as texts
use Rattle.htl_top.specs.ObjectRows.{RunRows, CheckRows, ShowRows, SlackRows, PlanRows, PatchRows}

-- ---- the object that is named

module _ (shelf : Files) (old new : Streams) where
  pub long_object : (command : Option Command) (bytes : List ℕ) (outcome : Outcome) → IsGiven (command_object command) shelf.holds shelf.before shelf.after bytes
      → IsSeen command shelf old new outcome → 16777216 < length bytes → IsOrMemory outcome (Shelf (TooLong (length bytes)))
  long_object (Some (Audit name log)) bytes outcome given call long = both.long_object (AuditOf old new) (IsUntouched old new) (Some name) (Some log) shelf bytes given outcome call long
  long_object (Some (Patch name unit mode donor)) bytes outcome given call long = both.long_object (DonorOf unit mode old new) (new.written ≡ old.written) (Some name) (Some donor) shelf bytes given outcome call.1 long
  long_object None bytes outcome given call long = absurd (let e = given.named in cc)
  long_object (Some (Go name)) bytes outcome given call long = absurd (let e = given.named in cc)
  long_object (Some Compile) bytes outcome given call long = absurd (let e = given.named in cc)
  long_object (Some (CompileWith file)) bytes outcome given call long = absurd (let e = given.named in cc)
  long_object (Some (Bulk n)) bytes outcome given call long = absurd (let e = given.named in cc)
  long_object (Some command) bytes outcome given call long = objects.long_object (DoesOf command) (working command) (command_object (Some command)) shelf old new bytes given outcome call long

  pub faulty_object : (command : Option Command) (bytes : List ℕ) (outcome : Outcome) → IsGiven (command_object command) shelf.holds shelf.before shelf.after bytes
      → IsSeen command shelf old new outcome → ((word : List ℕ) → second_file command ≡ Some word → (others : List ℕ) × IsReadyFile (Some word) shelf.holds shelf.before shelf.after others)
      → (f : ObjectFault) → length bytes ≤ 16777216 → RefusesBytes bytes f → IsOrMemory outcome (Refused f)
  faulty_object (Some (Audit name log)) bytes outcome given call second f short refused =
      let other = second log refl in
      both.faulty_object (AuditOf old new) (IsUntouched old new) (Some name) (Some log) shelf bytes given other.0 other.1.given other.1.short outcome call f short refused
  faulty_object (Some (Patch name unit mode donor)) bytes outcome given call second f short refused =
      let other = second donor refl in
      both.faulty_object (DonorOf unit mode old new) (new.written ≡ old.written) (Some name) (Some donor) shelf bytes given other.0 other.1.given other.1.short outcome call.1 f short refused
  faulty_object None bytes outcome given call second f short refused = absurd (let e = given.named in cc)
  faulty_object (Some (Go name)) bytes outcome given call second f short refused = absurd (let e = given.named in cc)
  faulty_object (Some Compile) bytes outcome given call second f short refused = absurd (let e = given.named in cc)
  faulty_object (Some (CompileWith file)) bytes outcome given call second f short refused = absurd (let e = given.named in cc)
  faulty_object (Some (Bulk n)) bytes outcome given call second f short refused = absurd (let e = given.named in cc)
  faulty_object (Some command) bytes outcome given call second f short refused =
      objects.faulty_object (DoesOf command) (working command) (command_object (Some command)) shelf old new bytes given outcome call f short refused

module _ (shelf : Files) (old new : Streams) (outcome : Outcome) (name : List ℕ) where
  -- ---- what is done with an accepted object

  module _ (Does : Work) (work : IsWork Does) (call : IsOnObject Does (Some name) shelf old new outcome) where
    -- where the answer isn't Memory it was done
    did : (other : Outcome) → outcome ≡ other → objects.IsOfWork other → (other ≡ Memory → ⊥) → IsAcceptedFile (Some name) shelf.holds (λ o. Does o old new other)
    did other same is apart = objects.done_with Does work (Some name) shelf old new other (subst (λ (o : Outcome). IsOnObject Does (Some name) shelf old new o) same call) is apart

    -- and what follows from it
    did_map : (other : Outcome) → outcome ≡ other → objects.IsOfWork other → (other ≡ Memory → ⊥) → (Fact : Object → Type 0) → ((o : Object) → Does o old new other → Fact o)
        → IsAcceptedFile (Some name) shelf.holds Fact
    did_map other same is apart Fact f = objects.IsAcceptedFile-map (Some name) shelf.holds (λ o. Does o old new other) Fact f (did other same is apart)

    -- with an object that is ready it is done, or there was no memory
    ready : {A : Type 0} (o : Object) → IsReadyObject (Some name) shelf.holds shelf.before shelf.after o → (Does o old new outcome → A ⊎ (outcome ≡ Memory)) → A ⊎ (outcome ≡ Memory)
    ready o is f = elim (objects.ready Does work (Some name) shelf old new o is outcome call) [ inl d ↦ f d | inr m ↦ inr m ]

  -- ---- `run`, `jobs` and `code`

  pub run_rows : (show : Shown) → IsOnObject (RunOf show) (Some name) shelf old new outcome → RunRows show name shelf old new outcome
  run_rows show call = record {
    done = λ same. did_map (RunOf show) (running show) call Done same tt done_memory
        (λ o. IsWholeRun show o.tables o old.rest new.rest old.written new.written) (λ o r. done_run show o.tables o old new r.result (sym r.is) r.came);
    script = λ f same. did_map (RunOf show) (running show) call (Script f) same tt (script_memory f)
        (λ o. IsFaultyRun show o.tables o old.rest new.rest old.written new.written f) (λ o r. faulty_run show o.tables o old new r.result f (sym r.is) r.came);
    read = λ same.
        let a = did (RunOf show) (running show) call Read same tt read_memory in
        let cut = λ (o : Object) (r : RunOf show o old new Read). read_run show o.tables o old new r.result (sym r.is) r.came in
        ((cut a.object a.fact).0, did_map (RunOf show) (running show) call Read same tt read_memory (λ o. IsCutRun show o.tables o old.rest old.written new.written) (λ o r. (cut o r).1));
    write = λ same.
        let a = did (RunOf show) (running show) call Write same tt write_memory in
        let cut = λ (o : Object) (r : RunOf show o old new Write). write_run show o.tables o old new r.result (sym r.is) r.came in
        ((cut a.object a.fact).0, did_map (RunOf show) (running show) call Write same tt write_memory (λ o. IsCutRun show o.tables o old.rest old.written new.written) (λ o r. (cut o r).1));
    bad_script = λ o is s f events told bad quiet still. ready (RunOf show) (running show) call o is
        (λ r. must run_as (IsRun show o.tables o old new) outcome (Script f) r (bad_run show o.tables o old new s told f events bad quiet still));
    complete = λ o is s events end told whole quiet still. ready (RunOf show) (running show) call o is
        (λ r. must run_as (IsRun show o.tables o old new) outcome Done r (whole_run show o.tables o old new s told events end whole quiet still));
  }

  -- ---- a text of an object

  module _ (text : Object → List ℕ) (call : IsOnObject (TextOf text) (Some name) shelf old new outcome) where
    text_whole : outcome ≡ Done → IsAcceptedFile (Some name) shelf.holds (λ o. new.written ≡ append_known old.written (text o))
    text_whole same = did_map (TextOf text) (telling text) call Done same tt done_memory (λ o. new.written ≡ append_known old.written (text o)) (λ o d. texts.whole (text o) old new d.1)

    text_part : outcome ≡ Write → Rose old.write_faults new.write_faults × IsAcceptedFile (Some name) shelf.holds (λ o. AppendsPrefix old.written new.written (text o))
    text_part same =
        let a = did (TextOf text) (telling text) call Write same tt write_memory in (
          (texts.part (text a.object) old new a.fact.1).0,
          did_map (TextOf text) (telling text) call Write same tt write_memory (λ o. AppendsPrefix old.written new.written (text o)) (λ o d. (texts.part (text o) old new d.1).1),
        )

    text_unread : new.rest ≡ old.rest
    text_unread = elim call [ inl a ↦ a.fact.0 | inr s ↦ s.1.rest ]

    text_complete : (o : Object) → IsReadyObject (Some name) shelf.holds shelf.before shelf.after o → (Rose old.write_faults new.write_faults → ⊥) → IsOrMemory outcome Done
    text_complete o is still = ready (TextOf text) (telling text) call o is (λ d. texts.complete (text o) old new outcome d.1 still)

  pub check_rows : IsOnObject IsChecked (Some name) shelf old new outcome → CheckRows name shelf old new outcome
  check_rows call =
      let text : Object → List ℕ = λ o. check_text o.tables in
      record { done = text_whole text call; write = text_part text call; unread = text_unread text call; complete = text_complete text call }

  pub show_rows : IsOnObject IsShown (Some name) shelf old new outcome → ShowRows name shelf old new outcome
  show_rows call =
      record { done = text_whole show_text call; write = text_part show_text call; unread = text_unread show_text call; complete = text_complete show_text call }

  -- ---- `plan`

  pub plan_rows : IsOnObject PlanOf (Some name) shelf old new outcome → PlanRows name shelf old new outcome
  plan_rows call = record {
    done = λ same. did_map PlanOf planning call Done same tt done_memory
        (λ o. IsWholePlan o old.rest new.rest old.written new.written) (λ o r. done_plan o old new r.result (sym r.is) r.came);
    write = λ same.
        let a = did PlanOf planning call Write same tt write_memory in
        let cut = λ (o : Object) (r : PlanOf o old new Write). write_plan o old new r.result (sym r.is) r.came in
        ((cut a.object a.fact).0, did_map PlanOf planning call Write same tt write_memory (λ o. IsCutPlan o old.rest old.written new.written) (λ o r. (cut o r).1));
    script = λ f same.
        let a = did PlanOf planning call (Script f) same tt (script_memory f) in
        let bad = λ (o : Object) (r : PlanOf o old new (Script f)). faulty_plan o old new r.result f (sym r.is) r.came in
        (did_map PlanOf planning call (Script f) same tt (script_memory f) (λ o. IsBadSelection o old.rest f) (λ o r. (bad o r).0), (bad a.object a.fact).1);
    read = λ same. let a = did PlanOf planning call Read same tt read_memory in read_plan a.object old new a.fact.result (sym a.fact.is) a.fact.came;
    bad_selection = λ o is s f told bad quiet still. ready PlanOf planning call o is
        (λ r. must run_as (IsPlanned o old new) outcome (Script f) r (bad_input o old new s f told bad quiet still));
    complete = λ o is s modes told whole quiet still. ready PlanOf planning call o is
        (λ r. must run_as (IsPlanned o old new) outcome Done r (whole_input o old new s modes told whole quiet still));
  }

  -- ---- `slack`

  pub slack_rows : (owner task : List ℕ) → IsOnObject (IsSlacked owner task) (Some name) shelf old new outcome → SlackRows name owner task shelf old new outcome
  slack_rows owner task call = record {
    done = λ same. did_map (IsSlacked owner task) (slack_work owner task) call Done same tt done_memory
        (λ o. HasSlack o.tables owner task (λ text. new.written ≡ append_known old.written text)) (λ o d. slacking.whole owner task o old new d);
    write = λ same. (
      let a = did (IsSlacked owner task) (slack_work owner task) call Write same tt write_memory in (slacking.part owner task a.object old new a.fact).0,
      did_map (IsSlacked owner task) (slack_work owner task) call Write same tt write_memory
          (λ o. HasSlack o.tables owner task (λ text. AppendsPrefix old.written new.written text)) (λ o d. (slacking.part owner task o old new d).1),
    );
    unread = elim call [ inl a ↦ a.fact.0 | inr s ↦ s.1.rest ];
    unknown_task = λ o is none. ready (IsSlacked owner task) (slack_work owner task) call o is (λ d. slacking.no_task owner task o old new outcome none d);
    complete = λ o is k named still. ready (IsSlacked owner task) (slack_work owner task) call o is (λ d. slacking.slack_done owner task o old new k outcome named still d);
  }

  -- ---- `patch`

  pub patch_rows : (unit mode donor : List ℕ) → PatchingAs unit mode (Some name) (Some donor) shelf old new outcome → PatchRows name unit mode donor shelf old new outcome
  patch_rows unit mode donor call = record {
    done = λ same. did Done same (λ u. u) (λ o bytes. HasPatch o unit mode bytes (λ p. new.written ≡ append_known old.written (object_bytes p)))
        (λ o bytes r e is. patched.told_whole o unit mode bytes old.written new.written old.write_faults new.write_faults r e is);
    write = λ same.
        let a = did Write same (λ u. u) (λ o bytes. Rose old.write_faults new.write_faults × HasPatch o unit mode bytes (λ p. AppendsPrefix old.written new.written (object_bytes p)))
        (λ o bytes r e is. patched.told_part o unit mode bytes old.written new.written old.write_faults new.write_faults r e is) in (
          a.fact.fact.0,
          both.AreFilesOf-map (Some name) (Some donor) shelf
              (λ o bytes. Rose old.write_faults new.write_faults × HasPatch o unit mode bytes (λ p. AppendsPrefix old.written new.written (object_bytes p)))
              (λ o bytes. HasPatch o unit mode bytes (λ p. AppendsPrefix old.written new.written (object_bytes p))) (λ o bytes t. t.1) a,
        );
    unread = call.0;
    long_donor = λ host bytes had gift long.
        both.long_second (DonorOf unit mode old new) (new.written ≡ old.written) (Some name) (Some donor) shelf host had.given bytes gift outcome call.1 had.short long;
    faulty_donor = λ bytes o is gift small f faulty. patching.faulty_donor unit mode (Some name) (Some donor) shelf old new o is bytes gift small f faulty outcome call;
    complete = λ bytes o d g is gift small has can still. patching.complete unit mode (Some name) (Some donor) shelf old new o d g is bytes gift small has can still outcome call;
  }
    where
      did : (other : Outcome) → outcome ≡ other → (UnhadAs (Some name) (Some donor) shelf other → ⊥) → (Fact : Object → List ℕ → Type 0)
          → ((o : Object) (bytes : List ℕ) (r : Ended DonorStop) → other ≡ ended_as donor_as r → IsDonorTold o unit mode bytes old.written new.written old.write_faults new.write_faults r
          → Fact o bytes) → AreFilesOf (Some name) (Some donor) shelf.holds Fact
      did other same had Fact f = elim (subst (λ (o : Outcome). PatchingAs unit mode (Some name) (Some donor) shelf old new o) same call).1 [
        | inl a ↦ both.AreFilesOf-map (Some name) (Some donor) shelf (λ o bytes. DonorOf unit mode old new o bytes other) Fact (λ o bytes d. f o bytes d.result d.is d.came) a
        | inr s ↦ absurd (had s.0)
      ]

-- ---- answers of one command alone

module _ (shelf : Files) (old new : Streams) where
  pub task_cause : (command : Option Command) → IsSeen command shelf old new Task → IsTaskCause command shelf.holds
  task_cause None call = let e = call.0 in cc
  task_cause (Some (Slack name owner task)) call = elim call [
    | inl a ↦
        objects.IsAcceptedFile-map (Some name) shelf.holds (λ o. IsSlacked owner task o old new Task) (λ o. NamesNoTask o.tables owner task) (λ o d. slacking.unknown owner task o old new d) a
    | inr s ↦ absurd s.0
  ]
  task_cause (Some (Run show name)) call = elim call [ inl a ↦ not_task a.fact.result (sym a.fact.is) | inr s ↦ s.0 ]
  task_cause (Some (Check name)) call = elim call [ inl a ↦ texts.no_put (λ (o : Object). check_text o.tables) a.object old new Task a.fact | inr s ↦ s.0 ]
  task_cause (Some (Plan name)) call = elim call [ inl a ↦ not_task a.fact.result (sym a.fact.is) | inr s ↦ s.0 ]
  task_cause (Some (Show name)) call = elim call [ inl a ↦ texts.no_put show_text a.object old new Task a.fact | inr s ↦ s.0 ]
  task_cause (Some command) call = tells shelf old new command Task call (λ w. w)

  pub patch_cause : (command : Option Command) (f : PatchFault) → IsSeen command shelf old new (Unpatched f) → IsPatchCause command shelf.holds f
  patch_cause None f call = let e = call.0 in cc
  patch_cause (Some (Patch name unit mode donor)) f call = elim call.1 [
    | inl a ↦
        both.AreFilesOf-map (Some name) (Some donor) shelf (λ o bytes. DonorOf unit mode old new o bytes (Unpatched f)) (λ o bytes. IsDonorFault o unit mode bytes f)
        (λ o bytes d. (patched.told_fault o unit mode bytes old.written new.written old.write_faults new.write_faults f d.result d.is d.came).0) a
    | inr s ↦ absurd s.0
  ]
  patch_cause (Some command) f call = tells shelf old new command (Unpatched f) call (λ w. w)
