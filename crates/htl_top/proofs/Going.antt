-- What `go` answers, by its source.
use Rattle.std.proofs.Common.{arith, ◌≡◌, ◌≤◌, ◌<◌, ◌⊎◌, ℕ, List, length, Option, None, Some, Ok, Err, refl, sym, ap, ◌∙◌, subst, inl, inr}
use Rattle.htl_top.proofs.Vocabulary.{get, MAX_SOURCE, built_accepted, compile_only_memory, one_compile_fault, tables_unique, IsCompileFault, IsCompiledTo, built, IsTablesOf, CompileFault, Jobs, Holdings, HoldsUnder, HasBytes, IsLoadedAs, LoadFault, ObjectFault, Rose, Tables, IsAccepted, ObjectOf, Files, Streams, IsBeforeScript, IsBeforeRun, IsFaultOf, IsLongFile, IsSource, IsGiven, IsOrMemory, IsGoing, IsReadySource, IsRun, IsWholeRun, IsFaultyRun, IsCutRun, IsProgram, IsFaultyProgram, IsNotCompiled, answer_of, Outcome, Done, Source, IllFormed, Unschedulable, Script, Shelf, Read, Write, Memory, Failed, TooLong, SourceStop}
use Rattle.htl_compile.specs.declared.compiling.CompileFault.TheVariants as compile
use Rattle.htl_compile.specs.declared.stop.SourceStop.TheVariants as stop
use Rattle.htl_load.specs.declared.fault.LoadFault.TheVariants as load
use Rattle.htl_open.specs.declared.stop.FetchStop.TheVariants as fetch
use Rattle.htl_top.proofs.{Running.IsRun-source, Stops.must}
use Rattle.htl_top.specs.{Causes.IsFileStop, Stops.Came, Stops.Ended, Stops.ended_as, Stops.go_as, Stops.run_as, Stops.source_as, declared.stop.GoStop.GoStop, declared.stop.RunStop.RunStop}
use Rattle.htl_top.specs.declared.stop.GoStop.TheVariants as go
use Rattle.htl_top.specs.declared.stop.RunStop.TheVariants as run_stop

-- ---- the bytes that were made

made : (source bytes : List ℕ) (compiled : IsCompiledTo source bytes) → HasBytes bytes (built compiled.tables)
made source bytes compiled = record { object = compiled.object; spelled = compiled.is }

-- they are not refused
pub not_refused : (source bytes : List ℕ) (e : LoadFault) (f : ObjectFault) (compiled : IsCompiledTo source bytes) → ((o : ObjectOf) → HasBytes bytes o → IsAccepted o → IsLoadedAs o (Err e))
    → e ≡ load.Refused f → ⊥
not_refused source bytes e f compiled only is =
    subst (λ (g : LoadFault). IsLoadedAs (built compiled.tables) (Err g)) is
    (only (built compiled.tables) (made source bytes compiled) (built_accepted None compiled.tables compiled.can))

-- and their object is run
pub run_made : (bytes : List ℕ) (l : ObjectOf) (old new : Streams) (r : Ended RunStop) → ((o : ObjectOf) → HasBytes bytes o → IsAccepted o → IsLoadedAs o (Ok l))
    → IsRun Jobs l.tables l old new r → (source : List ℕ) (compiled : IsCompiledTo source bytes) → IsRun Jobs compiled.tables (built compiled.tables) old new r
run_made bytes l old new r only run source compiled =
    let same : l ≡ built compiled.tables = only (built compiled.tables) (made source bytes compiled) (built_accepted None compiled.tables compiled.can) in
    IsRun-source Jobs compiled.tables (built compiled.tables) old new r (subst (λ (o : ObjectOf). IsRun Jobs o.tables o old new r) same run)

pub program_run : (name : Option (List ℕ)) (shelf : Files) (bytes object slice : List ℕ) (old new : Streams) (r : Ended RunStop) → IsSource name shelf.holds bytes
    → slice ≡ object → IsCompiledTo bytes object
    → ((source : List ℕ) (compiled : IsCompiledTo source slice) → IsRun Jobs compiled.tables (built compiled.tables) old new r)
    → IsProgram name shelf.holds (λ t. IsRun Jobs t (built t) old new r)
program_run name shelf bytes object slice old new r source same compiled run =
    let here : IsCompiledTo bytes slice = subst (IsCompiledTo bytes) (sym same) compiled in
    record { bytes = bytes; source = source; has = record { tables = here.tables; of = here.of; can = here.can; fact = run bytes here } }

-- what stops a source is want of memory, or a fault of it
stop_fault : (bytes : List ℕ) (s : SourceStop) → IsNotCompiled bytes s
    → (source_as s ≡ Memory) ⊎ ((g : CompileFault) × (source_as s ≡ answer_of g) × (g ≡ compile.Memory → ⊥) × IsCompileFault bytes g)
stop_fault bytes (stop.Fault f) is = inr (compile.Source f, refl, (λ e. cc), is)
stop_fault bytes (stop.IllFormed f u) is = inr (compile.IllFormed f, refl, (λ e. cc), is.0)
stop_fault bytes (stop.Unschedulable sel a b demand) is = inr (compile.Unschedulable sel a b demand, refl, (λ e. cc), is)
stop_fault bytes (stop.Platform f) is = absurd is
stop_fault bytes stop.Memory is = inl refl

-- ---- the clauses

IsProgram-map : (name : Option (List ℕ)) (holds : Option Holdings) (Fact Other : Tables → Type 0) → ((t : Tables) → Fact t → Other t)
    → IsProgram name holds Fact → IsProgram name holds Other
IsProgram-map name holds Fact Other f p =
    record { bytes = p.bytes; source = p.source; has = record { tables = p.has.tables; of = p.has.of; can = p.has.can; fact = f p.has.tables p.has.fact } }

module _ (name : Option (List ℕ)) (shelf : Files) (old new : Streams) where
  -- what each answer tells
  abbrev pub Told : Outcome → Type 0
  Told Done = IsProgram name shelf.holds (λ t. IsWholeRun Jobs t (built t) old.rest new.rest old.written new.written)
  Told (Script f) = IsProgram name shelf.holds (λ t. IsFaultyRun Jobs t (built t) old.rest new.rest old.written new.written f)
  Told Read = Rose old.read_faults new.read_faults × IsProgram name shelf.holds (λ t. IsCutRun Jobs t (built t) old.rest old.written new.written)
  Told Write = Rose old.write_faults new.write_faults × IsProgram name shelf.holds (λ t. IsCutRun Jobs t (built t) old.rest old.written new.written)
  Told (Source f) = IsFaultyProgram name shelf.holds (compile.Source f)
  Told (IllFormed f) = IsFaultyProgram name shelf.holds (compile.IllFormed f)
  Told (Unschedulable sel a b demand) = IsFaultyProgram name shelf.holds (compile.Unschedulable sel a b demand)
  Told (Shelf why) = IsFileStop name shelf (fetch.Shelf why)
  Told Memory = new.rest ≡ old.rest
  Told _ = ⊥

  cut : (r : Ended RunStop) → ((t : Tables) → IsRun Jobs t (built t) old new r → IsCutRun Jobs t (built t) old.rest old.written new.written)
      → IsProgram name shelf.holds (λ t. IsRun Jobs t (built t) old new r) → IsProgram name shelf.holds (λ t. IsCutRun Jobs t (built t) old.rest old.written new.written)
  cut r f p = IsProgram-map name shelf.holds (λ t. IsRun Jobs t (built t) old new r) (λ t. IsCutRun Jobs t (built t) old.rest old.written new.written) f p

  told : (r : Ended GoStop) → IsGoing name shelf old new r → Told (ended_as go_as r)
  told (Ok done) p = p
  told (Err (go.Run (run_stop.Script f))) p = p
  told (Err (go.Run run_stop.Read)) p = (p.has.fact.0, cut (Err run_stop.Read) (λ t r. r.1) p)
  told (Err (go.Run run_stop.Write)) p = (p.has.fact.0, cut (Err run_stop.Write) (λ t r. r.1) p)
  told (Err (go.Run run_stop.Memory)) p = p.has.fact.rest
  told (Err (go.File (fetch.Shelf why))) is = is.0
  told (Err (go.File fetch.Memory)) is = is.1.rest
  told (Err (go.Source (stop.Fault f))) is = record { bytes = is.0.bytes; source = is.0.source; fault = is.0.stopped }
  told (Err (go.Source (stop.IllFormed f u))) is = record { bytes = is.0.bytes; source = is.0.source; fault = is.0.stopped.0 }
  told (Err (go.Source (stop.Unschedulable sel a b demand))) is = record { bytes = is.0.bytes; source = is.0.source; fault = is.0.stopped }
  told (Err (go.Source (stop.Platform f))) is = absurd is.0.stopped
  told (Err (go.Source stop.Memory)) is = is.1.rest

  unread_by : (r : Ended GoStop) → IsGoing name shelf old new r → IsBeforeScript (ended_as go_as r) → new.rest ≡ old.rest
  unread_by (Err (go.File s)) is early = is.1.rest
  unread_by (Err (go.Source s)) is early = is.1.rest
  unread_by (Err (go.Run run_stop.Memory)) p early = p.has.fact.rest
  unread_by _ p early = absurd early

  unwritten_by : (r : Ended GoStop) → IsGoing name shelf old new r → IsBeforeRun (ended_as go_as r) → new.written ≡ old.written
  unwritten_by (Err (go.File s)) is early = is.1.written
  unwritten_by (Err (go.Source s)) is early = is.1.written
  unwritten_by (Err (go.Run run_stop.Memory)) p early = p.has.fact.written
  unwritten_by _ p early = absurd early

  abbrev pub Gone : Outcome → Type 0
  Gone = Came go_as (IsGoing name shelf old new)

  pub tells : (outcome : Outcome) → Gone outcome → Told outcome
  tells outcome call = subst Told (sym call.is) (told call.result call.came)

  pub cause : (f : CompileFault) → (f ≡ compile.Memory → ⊥) → Gone (answer_of f) → IsFaultyProgram name shelf.holds f
  cause compile.Memory known call = absurd (known refl)
  cause (compile.Source f) known call = tells (Source f) call
  cause (compile.IllFormed f) known call = tells (IllFormed f) call
  cause (compile.Unschedulable sel a b demand) known call = tells (Unschedulable sel a b demand) call

  pub unread : (outcome : Outcome) → Gone outcome → IsBeforeScript outcome → new.rest ≡ old.rest
  unread outcome call early = unread_by call.result call.came (subst IsBeforeScript call.is early)

  pub unwritten : (outcome : Outcome) → Gone outcome → IsBeforeRun outcome → new.written ≡ old.written
  unwritten outcome call early = unwritten_by call.result call.came (subst IsBeforeRun call.is early)

  -- ---- of bytes that are given

  module _ (bytes : List ℕ) (given : IsGiven name shelf.holds shelf.before shelf.after bytes) where
    same_bytes : (others : List ℕ) → IsSource name shelf.holds others → others ≡ bytes
    same_bytes others source =
        let same : source.word ≡ given.word = let p = source.named in let q = given.named in cc in
        let told : get given.held source.word ≡ Some others = subst (λ (holds : Option Holdings). HoldsUnder holds source.word others) given.told source.held in
        let file = given.file in
        cc

    short : (others : List ℕ) → IsSource name shelf.holds others → length bytes ≤ 1048576
    short others source = subst (λ (bs : List ℕ). length bs ≤ 1048576) (same_bytes others source) source.short

    no_fault : IsFaultOf name shelf.before shelf.after → ⊥
    no_fault f = given.no_fault (subst (λ (o : Option (List ℕ)). IsFaultOf o shelf.before shelf.after) given.named f)

    seen_long : (seen : ℕ) → IsLongFile MAX_SOURCE name shelf.holds seen → (1048576 < length bytes) × (seen ≡ length bytes)
    seen_long seen is =
        let long : IsLongFile MAX_SOURCE (Some given.word) (Some given.held) seen =
        subst (λ (o : Option (List ℕ)). IsLongFile MAX_SOURCE o (Some given.held) seen) given.named (subst (λ (holds : Option Holdings). IsLongFile MAX_SOURCE name holds seen) given.told is) in
        let same : long.1.0 ≡ bytes = let p = long.1.1 in let q = given.file in cc in
        let length_seen : seen ≡ length bytes = long.1.2 ∙ ap length same in
        (omega (arith, long.0, length_seen), length_seen)

    fault_here : (others : List ℕ) (f : CompileFault) → IsSource name shelf.holds others → IsCompileFault others f → IsCompileFault bytes f
    fault_here others f source fault = subst (λ (bs : List ℕ). IsCompileFault bs f) (same_bytes others source) fault

    -- the file is too long
    long_by : 1048576 < length bytes → (r : Ended GoStop) → IsGoing name shelf old new r → IsOrMemory (ended_as go_as r) (Shelf (TooLong (length bytes)))
    long_by long (Ok done) p = absurd (omega (arith, long, short p.bytes p.source))
    long_by long (Err (go.Run s)) p = absurd (omega (arith, long, short p.bytes p.source))
    long_by long (Err (go.Source s)) is = absurd (omega (arith, long, short is.0.bytes is.0.source))
    long_by long (Err (go.File (fetch.Shelf Failed))) is = absurd (no_fault is.0)
    long_by long (Err (go.File (fetch.Shelf (TooLong seen)))) is = inl (ap (λ (n : ℕ). Shelf (TooLong n)) (seen_long seen is.0).1)
    long_by long (Err (go.File fetch.Memory)) is = inr refl

    pub long_file : (outcome : Outcome) → Gone outcome → 1048576 < length bytes → IsOrMemory outcome (Shelf (TooLong (length bytes)))
    long_file outcome call long = must go_as (IsGoing name shelf old new) outcome (Shelf (TooLong (length bytes))) call (long_by long)

    -- the source has a fault
    module _ (f : CompileFault) (known : f ≡ compile.Memory → ⊥) (is : IsCompileFault bytes f) (few : length bytes ≤ 1048576) where
      no_program : (Fact : Tables → Type 0) → IsProgram name shelf.holds Fact → ⊥
      no_program Fact p =
          known
          (compile_only_memory p.bytes p.has.tables f p.has.of p.has.can.can.typed p.has.can.formed p.has.can.schedulable
          (subst (λ (bs : List ℕ). IsCompileFault bs f) (sym (same_bytes p.bytes p.source)) is))

      faulty_by : (r : Ended GoStop) → IsGoing name shelf old new r → IsOrMemory (ended_as go_as r) (answer_of f)
      faulty_by (Ok done) p = absurd (no_program (λ t. IsRun Jobs t (built t) old new (Ok done)) p)
      faulty_by (Err (go.Run s)) p = absurd (no_program (λ t. IsRun Jobs t (built t) old new (Err s)) p)
      faulty_by (Err (go.Source s)) u = elim (stop_fault u.0.bytes s u.0.stopped) [
        | inl none ↦ inr none
        | inr g ↦ inl (g.1 ∙ ap answer_of (one_compile_fault bytes g.0 f g.2 known (fault_here u.0.bytes g.0 u.0.source g.3) is))
      ]
      faulty_by (Err (go.File (fetch.Shelf Failed))) u = absurd (no_fault u.0)
      faulty_by (Err (go.File (fetch.Shelf (TooLong seen)))) u = absurd (omega (arith, few, (seen_long seen u.0).0))
      faulty_by (Err (go.File fetch.Memory)) u = inr refl

      pub faulty_source : (outcome : Outcome) → Gone outcome → IsOrMemory outcome (answer_of f)
      faulty_source outcome call = must go_as (IsGoing name shelf old new) outcome (answer_of f) call faulty_by

  -- ---- of tables that are given

  module _ (t : Tables) (ready : IsReadySource name shelf.holds shelf.before shelf.after t) (wanted : Outcome)
      (ran : (r : Ended RunStop) → IsRun Jobs t (built t) old new r → IsOrMemory (ended_as run_as r) wanted) where
    same_run : (r : Ended RunStop) → IsProgram name shelf.holds (λ u. IsRun Jobs u (built u) old new r) → IsRun Jobs t (built t) old new r
    same_run r p =
        let same : p.has.tables ≡ t =
        tables_unique ready.bytes p.has.tables t (subst (λ (bs : List ℕ). IsTablesOf bs p.has.tables) (same_bytes ready.bytes ready.given p.bytes p.source) p.has.of) ready.of in
        subst (λ (u : Tables). IsRun Jobs u (built u) old new r) same p.has.fact

    ready_by : (r : Ended GoStop) → IsGoing name shelf old new r → IsOrMemory (ended_as go_as r) wanted
    ready_by (Ok done) p = ran (Ok done) (same_run (Ok done) p)
    ready_by (Err (go.Run s)) p = ran (Err s) (same_run (Err s) p)
    ready_by (Err (go.Source s)) u = elim (stop_fault u.0.bytes s u.0.stopped) [
      | inl none ↦ inr none
      | inr g ↦ absurd (g.2 (compile_only_memory ready.bytes t g.0 ready.of ready.typed ready.formed ready.schedulable (fault_here ready.bytes ready.given u.0.bytes g.0 u.0.source g.3)))
    ]
    ready_by (Err (go.File (fetch.Shelf Failed))) u = absurd (no_fault ready.bytes ready.given u.0)
    ready_by (Err (go.File (fetch.Shelf (TooLong seen)))) u = absurd (omega (arith, ready.short, (seen_long ready.bytes ready.given seen u.0).0))
    ready_by (Err (go.File fetch.Memory)) u = inr refl

    pub of_ready : (outcome : Outcome) → Gone outcome → IsOrMemory outcome wanted
    of_ready outcome call = must go_as (IsGoing name shelf old new) outcome wanted call ready_by
