-- From the answer of a command to the clauses of the top call that all commands share.
use Rattle.std.proofs.Common.{◌≡◌, ◌⊎◌, ℕ, List, Option, None, Some, refl, sym, subst, inl, inr}
use Rattle.std.specs.Prelude.{◌↔◌}
use Rattle.htl_top.proofs.Vocabulary.{MAX_SOURCE, MAX_OBJECT, CompileFault, ObjectFault, PlatformFault, ScriptFault, Files, Streams, IsBeforeScript, IsBeforeRun, IsFaultOf, IsLongFile, check_text, IsCompileCause, IsPlatformCause, IsRefusedFile, IsStopped, Work, show_text, answer_of, Command, Go, Compile, CompileWith, Run, Check, Plan, Show, Bulk, Slack, Audit, Patch, RunsObject, source_of, platform_file, command_object, second_file, Outcome, Done, Usage, Platform, Refused, Script, Shelf, Read, Write, Memory, ShelfCause, Failed, TooLong}
use Rattle.htl_compile.specs.declared.compiling.CompileFault.TheVariants as compile
use Rattle.htl_top.proofs.Auditing as auditing
use Rattle.htl_top.proofs.{Auditing.IsOfAudit, BothFiles.UnhadAs, Compiling.CompilingAs, CompilingOn.CompilingOnAs, ObjectAnswering.IsOfWork, ObjectAnswering.IsWork, Patching.IsOfDonor, Planning.PlanOf, Planning.planning}
use Rattle.htl_top.proofs.Bulking as bulking
use Rattle.htl_top.proofs.Compiling as compiling
use Rattle.htl_top.proofs.CompilingOn as platforms
use Rattle.htl_top.proofs.Going as going
use Rattle.htl_top.proofs.ObjectAnswering as objects
use Rattle.htl_top.proofs.Patching as patching
use Rattle.htl_top.proofs.{Running.RunOf, Running.memory_run, Running.running, Seen.IsChecked, Seen.IsSeen, Seen.IsShown, Slacking.IsSlacked, Slacking.slacking, Telling.IsOfPut, Telling.telling}

pub checking : IsWork IsChecked
checking = telling (λ o. check_text o.tables)

pub showing : IsWork IsShown
showing = telling show_text

pub some_not_none : (A : Type 0) (o : Option A) (x : A) → o ≡ Some x → o ≡ None → ⊥
some_not_none A o x p q = cc

pub done_memory : Done ≡ Memory → ⊥
done_memory e = cc

pub write_memory : Write ≡ Memory → ⊥
write_memory e = cc

pub read_memory : Read ≡ Memory → ⊥
read_memory e = cc

pub script_memory : (f : ScriptFault) → Script f ≡ Memory → ⊥
script_memory f e = cc

-- what a command does with its object, where that is the one file that it reads
abbrev pub DoesOf : Command → Work
DoesOf (Run show name) = RunOf show
DoesOf (Check name) = IsChecked
DoesOf (Plan name) = PlanOf
DoesOf (Show name) = IsShown
DoesOf (Slack name owner task) = IsSlacked owner task
DoesOf _ = λ o old new outcome. ⊥

pub working : (command : Command) → IsWork (DoesOf command)
working (Run show name) = running show
working (Check name) = checking
working (Plan name) = planning
working (Show name) = showing
working (Slack name owner task) = slacking owner task
working _ = record { only = λ o old new outcome d. absurd d; unwritten = λ o old new outcome d early. absurd d; unread = λ o old new d. absurd d }

-- answers that a command has once its files were had
abbrev pub IsOwn : Command → Outcome → Type 0
IsOwn (Bulk n) outcome = IsOfPut outcome
IsOwn (Audit name log) outcome = IsOfAudit outcome
IsOwn (Patch name unit mode donor) outcome = IsOfDonor outcome
IsOwn (Go name) outcome = ⊥
IsOwn Compile outcome = ⊥
IsOwn (CompileWith file) outcome = ⊥
IsOwn _ outcome = IsOfWork outcome

module _ (shelf : Files) (old new : Streams) where
  -- what any other answer tells
  abbrev pub Tells : Command → Outcome → Type 0
  Tells (Go name) outcome = going.Told (Some name) shelf old new outcome
  Tells Compile outcome = CompilingAs old new outcome
  Tells (CompileWith file) outcome = CompilingOnAs (Some file) shelf old new outcome
  Tells (Bulk n) outcome = ⊥
  Tells (Audit name log) outcome = UnhadAs (Some name) (Some log) shelf outcome
  Tells (Patch name unit mode donor) outcome = UnhadAs (Some name) (Some donor) shelf outcome
  Tells command outcome = IsStopped (command_object (Some command)) shelf outcome

  pub tells : (command : Command) (outcome : Outcome) → IsSeen (Some command) shelf old new outcome → (IsOwn command outcome → ⊥) → Tells command outcome
  tells (Go name) outcome call none = going.tells (Some name) shelf old new outcome call
  tells Compile outcome call none = call
  tells (CompileWith file) outcome call none = call
  tells (Bulk n) outcome call none = none (bulking.only n old new outcome call)
  tells (Audit name log) outcome call none = auditing.stopped name log shelf old new outcome call none
  tells (Patch name unit mode donor) outcome call none = patching.stopped unit mode (Some name) (Some donor) shelf old new outcome call none
  tells command outcome call none = objects.stopped (DoesOf command) (working command) (command_object (Some command)) shelf old new outcome call none

  -- ---- of the words

  -- no command answers so
  no_usage : (command : Command) → IsSeen (Some command) shelf old new Usage → ⊥
  no_usage Compile call = call
  no_usage command call = tells command Usage call (λ w. w)

  pub usage : (command : Option Command) (outcome : Outcome) → IsSeen command shelf old new outcome → (outcome ≡ Usage) ↔ (command ≡ None)
  usage None outcome call = (λ e. refl, λ e. call.0)
  usage (Some command) outcome call =
      (λ e. absurd (no_usage command (subst (λ (o : Outcome). IsSeen (Some command) shelf old new o) e call)), λ e. absurd (some_not_none Command (Some command) command refl e))

  -- ---- of an answer

  pub shelf_failed : (command : Option Command) → IsSeen command shelf old new (Shelf Failed)
      → IsFaultOf (source_of command) shelf.before shelf.after ⊎ IsFaultOf (command_object command) shelf.before shelf.after ⊎ IsFaultOf (platform_file command) shelf.before shelf.after
      ⊎ IsFaultOf (second_file command) shelf.before shelf.after
  shelf_failed None call = absurd (let e = call.0 in cc)
  shelf_failed (Some (Go name)) call = inl (tells (Go name) (Shelf Failed) call (λ w. w))
  shelf_failed (Some (CompileWith file)) call = inr (inr (inl call.0))
  shelf_failed (Some (Audit name log)) call = elim (tells (Audit name log) (Shelf Failed) call (λ w. w)) [ inl s ↦ inr (inl s) | inr s ↦ inr (inr (inr s.1)) ]
  shelf_failed (Some (Patch name unit mode donor)) call = elim (tells (Patch name unit mode donor) (Shelf Failed) call (λ w. w)) [ inl h ↦ inr (inl h) | inr d ↦ inr (inr (inr d.1)) ]
  shelf_failed (Some Compile) call = absurd call
  shelf_failed (Some (Bulk n)) call = absurd (tells (Bulk n) (Shelf Failed) call (λ w. w))
  shelf_failed (Some command) call = inr (inl (tells command (Shelf Failed) call (λ w. w)))

  pub shelf_long : (command : Option Command) (seen : ℕ) → IsSeen command shelf old new (Shelf (TooLong seen))
      → IsLongFile MAX_SOURCE (source_of command) shelf.holds seen ⊎ IsLongFile MAX_OBJECT (command_object command) shelf.holds seen ⊎ IsLongFile MAX_SOURCE (platform_file command) shelf.holds seen
      ⊎ IsLongFile MAX_OBJECT (second_file command) shelf.holds seen
  shelf_long None seen call = absurd (let e = call.0 in cc)
  shelf_long (Some (Go name)) seen call = inl (tells (Go name) (Shelf (TooLong seen)) call (λ w. w))
  shelf_long (Some (CompileWith file)) seen call = inr (inr (inl call.0))
  shelf_long (Some (Audit name log)) seen call = elim (tells (Audit name log) (Shelf (TooLong seen)) call (λ w. w)) [ inl s ↦ inr (inl s) | inr s ↦ inr (inr (inr s.1)) ]
  shelf_long (Some (Patch name unit mode donor)) seen call = elim (tells (Patch name unit mode donor) (Shelf (TooLong seen)) call (λ w. w)) [ inl h ↦ inr (inl h) | inr d ↦ inr (inr (inr d.1)) ]
  shelf_long (Some Compile) seen call = absurd call
  shelf_long (Some (Bulk n)) seen call = absurd (tells (Bulk n) (Shelf (TooLong seen)) call (λ w. w))
  shelf_long (Some command) seen call = inr (inl (tells command (Shelf (TooLong seen)) call (λ w. w)))

  pub cause : (command : Option Command) (f : CompileFault) → (f ≡ compile.Memory → ⊥) → IsSeen command shelf old new (answer_of f) → IsCompileCause command shelf.holds old.rest f
  cause command compile.Memory told call = absurd (told refl)
  cause (Some (Go name)) f told call = going.cause (Some name) shelf old new f told call
  cause (Some Compile) f told call = compiling.cause old new f told call
  cause (Some (CompileWith file)) f told call = platforms.cause (Some file) shelf old new f told call
  cause None f told call = let e = call.0 in cc
  cause (Some command) f told call = tells command (answer_of f) call (λ w. w)

  pub platform : (command : Option Command) (f : PlatformFault) → IsSeen command shelf old new (Platform f) → IsPlatformCause command shelf.holds old.rest f
  platform None f call = absurd (let e = call.0 in cc)
  platform (Some (CompileWith file)) f call = call.0
  platform (Some command) f call = absurd (tells command (Platform f) call (λ w. w))

  pub object : (command : Option Command) (f : ObjectFault) → IsSeen command shelf old new (Refused f) → IsRefusedFile (command_object command) shelf.holds f
  object None f call = absurd (let e = call.0 in cc)
  object (Some (Go name)) f call = absurd (tells (Go name) (Refused f) call (λ w. w))
  object (Some Compile) f call = absurd call
  object (Some (CompileWith file)) f call = absurd call
  object (Some (Bulk n)) f call = absurd (tells (Bulk n) (Refused f) call (λ w. w))
  object (Some (Audit name log)) f call = (tells (Audit name log) (Refused f) call (λ w. w)).0
  object (Some (Patch name unit mode donor)) f call = (tells (Patch name unit mode donor) (Refused f) call (λ w. w)).0
  object (Some command) f call = tells command (Refused f) call (λ w. w)

  -- ---- what stays as it was

  pub unread : (command : Option Command) (outcome : Outcome) → IsSeen command shelf old new outcome → (command ≡ Some Compile → ⊥) → ((file : List ℕ) → command ≡ Some (CompileWith file) → ⊥)
      → IsBeforeScript outcome → new.rest ≡ old.rest
  unread None outcome call other apart early = call.1.rest
  unread (Some (Go name)) outcome call other apart early = going.unread (Some name) shelf old new outcome call early
  unread (Some Compile) outcome call other apart early = absurd (other refl)
  unread (Some (CompileWith file)) outcome call other apart early = absurd (apart file refl)
  unread (Some (Audit name log)) outcome call other apart early = auditing.unread name log shelf old new outcome call early
  unread (Some (Patch name unit mode donor)) outcome call other apart early = call.0
  unread (Some (Bulk n)) outcome call other apart early = call.0
  unread (Some command) outcome call other apart early = objects.unread (DoesOf command) (working command) (command_object (Some command)) shelf old new outcome call early

  pub unfetched : (command : Option Command) (outcome : Outcome) → IsSeen command shelf old new outcome → (why : ShelfCause) → outcome ≡ Shelf why → new.rest ≡ old.rest
  unfetched command outcome call why is = by command why (subst (λ (o : Outcome). IsSeen command shelf old new o) is call)
    where
      by : (command : Option Command) (why : ShelfCause) → IsSeen command shelf old new (Shelf why) → new.rest ≡ old.rest
      by None why call = call.1.rest
      by (Some (Go name)) why call = going.unread (Some name) shelf old new (Shelf why) call tt
      by (Some Compile) why call = absurd call
      by (Some (CompileWith file)) Failed call = call.1.rest
      by (Some (CompileWith file)) (TooLong seen) call = call.1.rest
      by (Some (Audit name log)) why call = auditing.unread name log shelf old new (Shelf why) call tt
      by (Some (Patch name unit mode donor)) why call = call.0
      by (Some (Bulk n)) why call = call.0
      by (Some command) why call = objects.unread (DoesOf command) (working command) (command_object (Some command)) shelf old new (Shelf why) call tt

  pub unwritten : (command : Option Command) (outcome : Outcome) → IsSeen command shelf old new outcome → IsBeforeRun outcome → new.written ≡ old.written
  unwritten None outcome call early = call.1.written
  unwritten (Some (Go name)) outcome call early = going.unwritten (Some name) shelf old new outcome call early
  unwritten (Some Compile) outcome call early = compiling.unwritten old new outcome call early
  unwritten (Some (CompileWith file)) outcome call early = platforms.unwritten (Some file) shelf old new outcome call early
  unwritten (Some (Audit name log)) outcome call early = auditing.unwritten name log shelf old new outcome call early
  unwritten (Some (Patch name unit mode donor)) outcome call early = patching.unwritten unit mode (Some name) (Some donor) shelf old new outcome call early
  unwritten (Some (Bulk n)) outcome call early = bulking.unwritten n old new outcome call early
  unwritten (Some command) outcome call early = objects.unwritten (DoesOf command) (working command) (command_object (Some command)) shelf old new outcome call early

  -- want of memory comes before the first byte of a script is read
  pub memory_unread : (command : Option Command) → IsSeen command shelf old new Memory → RunsObject command → new.rest ≡ old.rest
  memory_unread (Some (Go name)) call runs = going.tells (Some name) shelf old new Memory call
  memory_unread (Some (Run show name)) call runs = elim call [
    | inl a ↦ (memory_run show a.object.tables a.object old new a.fact.result (sym a.fact.is) a.fact.came).rest
    | inr s ↦ s.1.rest
  ]
  memory_unread (Some (Audit name log)) call runs = auditing.memory_unread name log shelf old new call
  memory_unread _ call runs = absurd runs
