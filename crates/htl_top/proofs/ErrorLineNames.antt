-- The line that tells of an answer has names of the tables that it speaks of.
use Rattle.std.proofs.Common.{◌≡◌, List, ℕ, Option, Some, Err, refl, sym, ap, ◌∙◌, subst}
use Rattle.htl_top.proofs.Vocabulary.{coded, Holdings, ObjectFault, Tables, FormFault, patched, PatchFault, with_worst, Files, Streams, HasSource, HasObject, IsAudit, IsCompiling, IsCompilingOn, IsObjectTables, IsPatchOfFiles, SpeaksOfObject, HasPatchedTables, IsPatchedTables, SpeaksOfPatch, IsGoing, IsTypedInput, IsTypedProgram, IsTypedOn, fault_line, SpeaksOf, IsFaultTold, IsPatchFaultTold, IsLineTold, Command, Go, Compile, CompileWith, Run, Check, Plan, Show, Slack, Audit, Patch, Outcome}
use Rattle.htl_top.proofs.{Telling.IsOfPut, BothFiles.unhad_speaks, PatchedObjects.in_both_files}
use Rattle.htl_load.specs.declared.fault.ObjectFault.TheVariants as fault
use Rattle.htl_patch.specs.declared.fault.PatchFault.TheVariants as patch
use Rattle.htl_top.specs.{declared.outcome.Outcome.TheVariants.IllFormed, declared.outcome.Outcome.TheVariants.Patch as Unpatched, declared.outcome.Outcome.TheVariants.Object, declared.stop.AuditStop.AuditStop, declared.stop.GoStop.GoStop}
use Rattle.htl_compile.specs.declared.stop.SourceStop.TheVariants as stop
use Rattle.htl_open.specs.declared.stop.FetchStop.TheVariants as fetch
use Rattle.htl_patch.specs.declared.fault.PatchStop.TheVariants as patching
use Rattle.htl_top.specs.Stops.{Ended, audit_as, compile_as, compile_tables, compile_with_as, compile_with_tables, donor_as, donor_tables, ended_as, ended_tables, go_as, go_tables, no_tables, object_as, object_tables, run_as}
use Rattle.htl_top.specs.declared.input.InputStop.TheVariants as input
use Rattle.htl_top.specs.declared.stop.AuditStop.TheVariants as audit
use Rattle.htl_top.specs.{declared.stop.CompileStop.CompileStop, declared.stop.CompileWithStop.CompileWithStop, declared.stop.DonorStop.DonorStop, declared.stop.OnObject.OnObject, declared.stop.RunStop.RunStop}
use Rattle.htl_top.specs.declared.stop.CompileStop.TheVariants as compile
use Rattle.htl_top.specs.declared.stop.CompileWithStop.TheVariants as for_file
use Rattle.htl_top.specs.declared.stop.DonorStop.TheVariants as donor_stop
use Rattle.htl_top.specs.declared.stop.OnObject.TheVariants as on
use Rattle.htl_top.specs.declared.stop.PutStop.TheVariants as put_stop
use Rattle.htl_top.specs.declared.stop.GoStop.TheVariants as go
use Rattle.htl_top.specs.declared.stop.RunStop.TheVariants as run_stop

-- what stops a run breaks no form rule
pub SpeaksOf-run : (Sources Objects : (Tables → Type 0) → Type 0) (s : RunStop) (told : Option Tables) → SpeaksOf Sources Objects (run_as s) told
SpeaksOf-run Sources Objects run_stop.Memory told = tt
SpeaksOf-run Sources Objects _ told = tt

-- nor does a generated program
pub SpeaksOf-put : (Sources Objects : (Tables → Type 0) → Type 0) (outcome : Outcome) (told : Option Tables) → IsOfPut outcome → SpeaksOf Sources Objects outcome told
SpeaksOf-put Sources Objects (Unpatched f) told put = absurd put
SpeaksOf-put Sources Objects (IllFormed f) told put = absurd put
SpeaksOf-put Sources Objects (Object f) told put = absurd put
SpeaksOf-put Sources Objects _ told put = tt

-- what stops `go` speaks of the tables of its file
speaks_go : (Objects : (Tables → Type 0) → Type 0) (name : Option (List ℕ)) (shelf : Files) (old new : Streams) (r : Ended GoStop) → IsGoing name shelf old new r
    → SpeaksOf (IsTypedProgram name shelf.holds) Objects (ended_as go_as r) (ended_tables go_tables r)
speaks_go Objects name shelf old new (Err (go.Source (stop.IllFormed f u))) is =
    let t = is.0.stopped.1 in
    record { bytes = is.0.bytes; source = is.0.source; has = record { tables = t.tables; of = t.of; can = t.can; fact = ap Some t.fact } }
speaks_go Objects name shelf old new (Err (go.File fetch.Memory)) is = tt
speaks_go Objects name shelf old new (Err (go.Run run_stop.Memory)) is = tt
speaks_go Objects name shelf old new _ is = tt

pub SpeaksOf-go : (Objects : (Tables → Type 0) → Type 0) (name : Option (List ℕ)) (shelf : Files) (old new : Streams) (r : Ended GoStop) (outcome : Outcome) (told : Option Tables)
    → outcome ≡ ended_as go_as r → told ≡ ended_tables go_tables r → IsGoing name shelf old new r → SpeaksOf (IsTypedProgram name shelf.holds) Objects outcome told
SpeaksOf-go Objects name shelf old new r outcome told is same going =
    subst (λ (o : Outcome). SpeaksOf (IsTypedProgram name shelf.holds) Objects o told) (sym is)
    (subst (λ (t : Option Tables). SpeaksOf (IsTypedProgram name shelf.holds) Objects (ended_as go_as r) t) (sym same) (speaks_go Objects name shelf old new r going))

SpeaksOfPatch-source : (Sources Others : (Tables → Type 0) → Type 0) (f : PatchFault) (told : Option Tables) → ((Fact : Tables → Type 0) → Sources Fact → Others Fact)
    → SpeaksOfPatch Sources f told → SpeaksOfPatch Others f told
SpeaksOfPatch-source Sources Others (patch.IllFormed f) told map speaks = map (λ t. told ≡ Some t) speaks
SpeaksOfPatch-source Sources Others _ told map speaks = tt

-- what a command came to speaks of is what its answer does
spoken : (Sources Objects : (Tables → Type 0) → Type 0) (outcome other : Outcome) (told tables : Option Tables) → outcome ≡ other → told ≡ tables → SpeaksOf Sources Objects other tables
    → SpeaksOf Sources Objects outcome told
spoken Sources Objects outcome other told tables is same speaks =
    subst (λ (o : Outcome). SpeaksOf Sources Objects o told) (sym is) (subst (λ (t : Option Tables). SpeaksOf Sources Objects other t) (sym same) speaks)

-- what stops `compile` speaks of the tables of its input
speaks_compile : (Objects : (Tables → Type 0) → Type 0) (old new : Streams) (r : Ended CompileStop) → IsCompiling old new r
    → SpeaksOf (IsTypedInput old.rest) Objects (ended_as compile_as r) (ended_tables compile_tables r)
speaks_compile Objects old new (Err (compile.Source (stop.IllFormed f u))) is =
    let t = is.0.fact.1 in record { bytes = is.0.bytes; input = is.0.input; has = record { tables = t.tables; of = t.of; can = t.can; fact = ap Some t.fact } }
speaks_compile Objects old new (Err (compile.Input input.Memory)) is = tt
speaks_compile Objects old new _ is = tt

pub SpeaksOf-compile : (Objects : (Tables → Type 0) → Type 0) (old new : Streams) (r : Ended CompileStop) (outcome : Outcome) (told : Option Tables) → outcome ≡ ended_as compile_as r
    → told ≡ ended_tables compile_tables r → IsCompiling old new r → SpeaksOf (IsTypedInput old.rest) Objects outcome told
SpeaksOf-compile Objects old new r outcome told is same came =
    spoken (IsTypedInput old.rest) Objects outcome (ended_as compile_as r) told (ended_tables compile_tables r) is same (speaks_compile Objects old new r came)

-- and what stops `compile with`, of those with the platform's worst cases
speaks_compile_with : (Objects : (Tables → Type 0) → Type 0) (name : Option (List ℕ)) (shelf : Files) (old new : Streams) (r : Ended CompileWithStop) → IsCompilingOn name shelf old new r
    → SpeaksOf (IsTypedOn name shelf.holds old.rest) Objects (ended_as compile_with_as r) (ended_tables compile_with_tables r)
speaks_compile_with Objects name shelf old new (Err (for_file.Compile (compile.Source (stop.IllFormed f u)))) is =
    let p = is.fact.0 in
    let t = p.fact.1 in
    record {
      file = is.bytes;
      held = is.source;
      bytes = p.bytes;
      input = p.input;
      has = record { tables = t.tables; of = t.of; platform = t.platform; says = t.says; can = t.can; fact = ap Some t.fact };
    }
speaks_compile_with Objects name shelf old new (Err (for_file.Compile (compile.Input input.Memory))) is = tt
speaks_compile_with Objects name shelf old new (Err (for_file.File fetch.Memory)) is = tt
speaks_compile_with Objects name shelf old new _ is = tt

pub SpeaksOf-compile-with : (Objects : (Tables → Type 0) → Type 0) (name : Option (List ℕ)) (shelf : Files) (old new : Streams) (r : Ended CompileWithStop) (outcome : Outcome)
    (told : Option Tables) → outcome ≡ ended_as compile_with_as r → told ≡ ended_tables compile_with_tables r → IsCompilingOn name shelf old new r
    → SpeaksOf (IsTypedOn name shelf.holds old.rest) Objects outcome told
SpeaksOf-compile-with Objects name shelf old new r outcome told is same came =
    spoken (IsTypedOn name shelf.holds old.rest) Objects outcome (ended_as compile_with_as r) told (ended_tables compile_with_tables r) is same
    (speaks_compile_with Objects name shelf old new r came)

-- what stops `audit` speaks of the object's
speaks_audit : (Sources : (Tables → Type 0) → Type 0) (name log : List ℕ) (shelf : Files) (old new : Streams) (r : Ended (OnObject AuditStop)) → IsAudit name log shelf old new r
    → SpeaksOf Sources (IsObjectTables (Some name) shelf.holds) (ended_as (object_as audit_as) r) (ended_tables (object_tables no_tables) r)
speaks_audit Sources name log shelf old new (Err (on.Open s)) is = unhad_speaks Sources (Some name) (Some log) shelf s is.0
speaks_audit Sources name log shelf old new (Err (on.Work (audit.Run run_stop.Memory))) is = tt
speaks_audit Sources name log shelf old new _ is = tt

pub SpeaksOf-audit : (Sources : (Tables → Type 0) → Type 0) (name log : List ℕ) (shelf : Files) (old new : Streams) (r : Ended (OnObject AuditStop)) (outcome : Outcome)
    (told : Option Tables) → outcome ≡ ended_as (object_as audit_as) r → told ≡ ended_tables (object_tables no_tables) r → IsAudit name log shelf old new r
    → SpeaksOf Sources (IsObjectTables (Some name) shelf.holds) outcome told
SpeaksOf-audit Sources name log shelf old new r outcome told is same came =
    spoken Sources (IsObjectTables (Some name) shelf.holds) outcome (ended_as (object_as audit_as) r) told (ended_tables (object_tables no_tables) r) is same
    (speaks_audit Sources name log shelf old new r came)

-- and what stops `patch`, or of those with the donor's refinement
module _ (name unit mode donor : List ℕ) (shelf : Files) (old new : Option (List ℕ)) (before now : ℕ) where
  speaks_patch : (r : Ended (OnObject DonorStop)) → IsPatchOfFiles unit mode (Some name) (Some donor) shelf old new before now r
      → SpeaksOf (IsPatchedTables name unit mode donor shelf.holds) (IsObjectTables (Some name) shelf.holds) (ended_as (object_as donor_as) r) (ended_tables (object_tables donor_tables) r)
  speaks_patch (Err (on.Open s)) is = unhad_speaks (IsPatchedTables name unit mode donor shelf.holds) (Some name) (Some donor) shelf s is.0
  speaks_patch (Err (on.Work (donor_stop.Patch (patching.Refused f t)))) is =
      SpeaksOfPatch-source (HasPatchedTables is.object unit mode is.fact.bytes) (IsPatchedTables name unit mode donor shelf.holds) f t
      (in_both_files name unit mode donor shelf.holds is.bytes is.fact.bytes is.object is.file is.fact.file is.has is.accepted) is.fact.fact.1
  speaks_patch (Err (on.Work (donor_stop.Put put_stop.Memory))) is = tt
  speaks_patch _ is = tt

  pub SpeaksOf-patch : (r : Ended (OnObject DonorStop)) (outcome : Outcome) (tables : Option Tables) → outcome ≡ ended_as (object_as donor_as) r
      → tables ≡ ended_tables (object_tables donor_tables) r → IsPatchOfFiles unit mode (Some name) (Some donor) shelf old new before now r
      → SpeaksOf (IsPatchedTables name unit mode donor shelf.holds) (IsObjectTables (Some name) shelf.holds) outcome tables
  SpeaksOf-patch r outcome tables is same came =
      spoken (IsPatchedTables name unit mode donor shelf.holds) (IsObjectTables (Some name) shelf.holds) outcome (ended_as (object_as donor_as) r) tables
      (ended_tables (object_tables donor_tables) r) is same (speaks_patch r came)

-- ---- the line

-- what is had with a fact is had with another that follows
abbrev Maps : ((Tables → Type 0) → Type 0) → Type 1
Maps Has = (Fact Other : Tables → Type 0) → ((t : Tables) → Fact t → Other t) → Has Fact → Has Other

program_maps : (name : Option (List ℕ)) (holds : Option Holdings) → Maps (IsTypedProgram name holds)
program_maps name holds Fact Other f p =
    record { bytes = p.bytes; source = p.source; has = record { tables = p.has.tables; of = p.has.of; can = p.has.can; fact = f p.has.tables p.has.fact } }

input_maps : (rest : Option (List ℕ)) → Maps (IsTypedInput rest)
input_maps rest Fact Other f p =
    record { bytes = p.bytes; input = p.input; has = record { tables = p.has.tables; of = p.has.of; can = p.has.can; fact = f p.has.tables p.has.fact } }

platform_maps : (name : Option (List ℕ)) (holds : Option Holdings) (rest : Option (List ℕ)) → Maps (IsTypedOn name holds rest)
platform_maps name holds rest Fact Other f p =
    record {
      file = p.file;
      held = p.held;
      bytes = p.bytes;
      input = p.input;
      has = record {
        tables = p.has.tables;
        of = p.has.of;
        platform = p.has.platform;
        says = p.has.says;
        can = p.has.can;
        fact = f (with_worst p.has.tables p.has.platform.worst) p.has.fact;
      };
    }

object_maps : (name : Option (List ℕ)) (holds : Option Holdings) → Maps (IsObjectTables name holds)
object_maps name holds Fact Other f t =
    record { bytes = t.bytes; file = t.file; has = record { object = t.has.object; has = t.has.has; fact = f t.has.object.tables t.has.fact } }

patched_maps : (name unit mode donor : List ℕ) (holds : Option Holdings) → Maps (IsPatchedTables name unit mode donor holds)
patched_maps name unit mode donor holds Fact Other f a =
    let b = a.fact in
    let p = b.fact in
    let q : HasPatchedTables a.object unit mode b.bytes Other = record { donor = p.donor; has = p.has; replacement = p.replacement; modes = p.modes; fact = f (patched p.replacement) p.fact } in
    record { bytes = a.bytes; file = a.file; object = a.object; has = a.has; accepted = a.accepted; fact = record { bytes = b.bytes; file = b.file; fact = q } }

source_of_maps : (command : Option Command) (holds : Option Holdings) (rest : Option (List ℕ)) → Maps (HasSource command holds rest)
source_of_maps (Some (Go name)) holds rest Fact Other f h = program_maps (Some name) holds Fact Other f h
source_of_maps (Some Compile) holds rest Fact Other f h = input_maps rest Fact Other f h
source_of_maps (Some (CompileWith file)) holds rest Fact Other f h = platform_maps (Some file) holds rest Fact Other f h
source_of_maps (Some (Patch name unit mode donor)) holds rest Fact Other f h = patched_maps name unit mode donor holds Fact Other f h
source_of_maps _ holds rest Fact Other f h = h

object_of_maps : (command : Option Command) (holds : Option Holdings) → Maps (HasObject command holds)
object_of_maps (Some (Run show name)) holds Fact Other f h = object_maps (Some name) holds Fact Other f h
object_of_maps (Some (Check name)) holds Fact Other f h = object_maps (Some name) holds Fact Other f h
object_of_maps (Some (Plan name)) holds Fact Other f h = object_maps (Some name) holds Fact Other f h
object_of_maps (Some (Show name)) holds Fact Other f h = object_maps (Some name) holds Fact Other f h
object_of_maps (Some (Slack name owner task)) holds Fact Other f h = object_maps (Some name) holds Fact Other f h
object_of_maps (Some (Audit name log)) holds Fact Other f h = object_maps (Some name) holds Fact Other f h
object_of_maps (Some (Patch name unit mode donor)) holds Fact Other f h = object_maps (Some name) holds Fact Other f h
object_of_maps _ holds Fact Other f h = h

-- the names of tables with code are those of the tables
names_of : (t : Tables) (f : FormFault) → fault_line (Some (coded t)) (IllFormed f) ≡ fault_line (Some t) (IllFormed f)
names_of t f = refl

module _ (command : Option Command) (holds : Option Holdings) (rest : Option (List ℕ)) (Told : List ℕ → Type 0) (tables : Option Tables) where
  fault_told : (f : ObjectFault) → SpeaksOfObject (HasObject command holds) f tables → Told (fault_line tables (Object f)) → IsFaultTold (HasObject command holds) Told f
  fault_told (fault.IllFormed f) speaks told =
      object_of_maps command holds (λ t. tables ≡ Some t) (λ t. Told (fault_line (Some t) (Object (fault.IllFormed f))))
      (λ t same. subst (λ (o : Option Tables). Told (fault_line o (Object (fault.IllFormed f)))) same told) speaks
  fault_told _ speaks told = told

  patch_told : (f : PatchFault) → SpeaksOfPatch (HasSource command holds rest) f tables → Told (fault_line tables (Unpatched f)) → IsPatchFaultTold (HasSource command holds rest) Told f
  patch_told (patch.IllFormed f) speaks told =
      source_of_maps command holds rest (λ t. tables ≡ Some t) (λ t. Told (fault_line (Some t) (Unpatched (patch.IllFormed f))))
      (λ t same. subst (λ (o : Option Tables). Told (fault_line o (Unpatched (patch.IllFormed f)))) same told) speaks
  patch_told _ speaks told = told

  pub IsLineTold-report : (outcome : Outcome) → SpeaksOf (HasSource command holds rest) (HasObject command holds) outcome tables → Told (fault_line tables outcome)
      → IsLineTold (HasSource command holds rest) (HasObject command holds) Told outcome
  IsLineTold-report (Unpatched f) speaks told = patch_told f speaks told
  IsLineTold-report (IllFormed f) speaks told =
      source_of_maps command holds rest (λ t. tables ≡ Some (coded t)) (λ t. Told (fault_line (Some t) (IllFormed f)))
      (λ t same. subst Told (ap (λ (o : Option Tables). fault_line o (IllFormed f)) same ∙ names_of t f) told) speaks
  IsLineTold-report (Object f) speaks told = fault_told f speaks told
  IsLineTold-report _ speaks told = told
