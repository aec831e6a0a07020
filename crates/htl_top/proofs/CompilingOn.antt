-- What `compile with` came to, by its outcome, its platform file and its input.
use Rattle.std.proofs.Common.{arith, ◌≡◌, ◌≤◌, ◌<◌, ℕ, List, length, Option, Some, Ok, Err, refl, sym, ◌∙◌, ap, subst, inl, inr}
use Rattle.htl_top.proofs.Vocabulary.{get, IfSome, append_known, MAX_SOURCE, only_memory, one_with_fault, AreSchedulable, AreTyped, IsWithFault, IsTablesOf, CompileFault, WithFault, Rose, AppendsPrefix, none_left, Holdings, HoldsUnder, Formed, Tables, with_worst, platform_of, PlatformOf, Files, Streams, IsBeforeRun, IsFaultOf, IsLongFile, IsSource, IsGiven, IsOrMemory, HasBuilt, IsBuiltOn, IsUnbuiltOn, IsUntouched, IsCompilingOn, IsInputCompiled, compiled_on, IsInput, IsInputOf, answer_of, IsProgramOn, IsFaultyOn, IsInputFaultOn, answer_on, Outcome, Done, Source, IllFormed, Unschedulable, Platform, Shelf, Read, Write, Memory, Failed, TooLong}
use Rattle.htl_compile.specs.declared.compiling.CompileFault.TheVariants as compile
use Rattle.htl_compile.specs.declared.compiling_on.WithFault.TheVariants as on
use Rattle.htl_compile.specs.declared.source_fault.SourceFault.TheVariants as source
use Rattle.htl_compile.specs.declared.stop.SourceStop.TheVariants as stop
use Rattle.htl_open.specs.declared.stop.FetchStop.TheVariants as fetch
use Rattle.htl_top.specs.{Stops.Came, Stops.Ended, Stops.compile_as, Stops.compile_with_as, Stops.ended_as, declared.stop.CompileStop.CompileStop, declared.stop.CompileWithStop.CompileWithStop}
use Rattle.htl_top.specs.declared.input.InputStop.TheVariants as unread
use Rattle.htl_top.specs.declared.stop.CompileStop.TheVariants as stopped
use Rattle.htl_top.specs.declared.stop.CompileWithStop.TheVariants as for_file

-- ---- by outcomes

abbrev pub CompilingOnAs : Option (List ℕ) → Files → Streams → Streams → Outcome → Type 0
CompilingOnAs name shelf old new Done =
    (new.rest ≡ none_left old.rest) × IsProgramOn name shelf.holds old.rest (λ p t. new.written ≡ append_known old.written (compiled_on p t))
CompilingOnAs name shelf old new Write =
    Rose old.write_faults new.write_faults × IsProgramOn name shelf.holds old.rest (λ p t. AppendsPrefix old.written new.written (compiled_on p t))
CompilingOnAs name shelf old new (Shelf Failed) = IsFaultOf name shelf.before shelf.after × IsUntouched old new
CompilingOnAs name shelf old new (Shelf (TooLong seen)) = IsLongFile MAX_SOURCE name shelf.holds seen × IsUntouched old new
CompilingOnAs name shelf old new Read = ((file : List ℕ) × IsSource name shelf.holds file) × Rose old.read_faults new.read_faults × (new.written ≡ old.written)
CompilingOnAs name shelf old new (Source f) = IsInputFaultOn name shelf.holds old.rest (on.Compile (compile.Source f)) × (new.written ≡ old.written)
CompilingOnAs name shelf old new (Platform f) = IsFaultyOn name shelf.holds old.rest (on.Platform f) × (new.written ≡ old.written)
CompilingOnAs name shelf old new (IllFormed f) = IsInputFaultOn name shelf.holds old.rest (on.Compile (compile.IllFormed f)) × (new.written ≡ old.written)
CompilingOnAs name shelf old new (Unschedulable sel a b demand) =
    IsInputFaultOn name shelf.holds old.rest (on.Compile (compile.Unschedulable sel a b demand)) × (new.written ≡ old.written)
CompilingOnAs name shelf old new Memory = new.written ≡ old.written
CompilingOnAs name shelf old new _ = ⊥

module _ (name : Option (List ℕ)) (shelf : Files) (old new : Streams) where
  module _ (file : List ℕ) (held : IsSource name shelf.holds file) where
    program : (Fact : List ℕ → Type 0) → IsInputOf old.rest (HasBuilt (IsBuiltOn file) Fact) → IsProgramOn name shelf.holds old.rest (λ p t. Fact (compiled_on p t))
    program Fact p =
        let c = p.fact.1 in
        record {
          file = file;
          held = held;
          bytes = p.bytes;
          input = p.input;
          tables = c.tables;
          of = c.of;
          typed = c.typed;
          platform = c.platform;
          says = c.says;
          can = c.can;
          fact = subst Fact c.is p.fact.2;
        }

    faulty : (f : WithFault) → IsInputOf old.rest (λ source. IsWithFault source file f) → IsFaultyOn name shelf.holds old.rest f
    faulty f p = record { file = file; held = held; bytes = p.bytes; input = p.input; fault = p.fact }

    compiling_for : (r : Ended CompileStop) → IsInputCompiled (IsBuiltOn file) (IsUnbuiltOn file) old new r → CompilingOnAs name shelf old new (ended_as compile_as r)
    compiling_for (Ok done) is = (is.0, program (λ (object : List ℕ). new.written ≡ append_known old.written object) is.1)
    compiling_for (Err stopped.Write) is = (is.0, program (λ (object : List ℕ). AppendsPrefix old.written new.written object) is.1)
    compiling_for (Err (stopped.Input unread.Read)) is = ((file, held), is.0, is.1)
    compiling_for (Err (stopped.Input unread.TooLong)) is =
        (inl (record { file = file; held = held; fault = compile.Source (source.TooLong 1048577); is = refl; long = record { is = refl; long = is.0 } }), is.1)
    compiling_for (Err (stopped.Input unread.Memory)) is = is
    compiling_for (Err (stopped.Source (stop.Fault f))) is = (inr (faulty (on.Compile (compile.Source f)) is.0), is.1)
    compiling_for (Err (stopped.Source (stop.Platform f))) is = (faulty (on.Platform f) is.0, is.1)
    compiling_for (Err (stopped.Source (stop.IllFormed f u))) is =
        let p = is.0 in (inr (faulty (on.Compile (compile.IllFormed f)) (record { bytes = p.bytes; input = p.input; fact = p.fact.0 })), is.1)
    compiling_for (Err (stopped.Source (stop.Unschedulable sel a b demand))) is = (inr (faulty (on.Compile (compile.Unschedulable sel a b demand)) is.0), is.1)
    compiling_for (Err (stopped.Source stop.Memory)) is = is.1

  compiling_by : (r : Ended CompileWithStop) → IsCompilingOn name shelf old new r → CompilingOnAs name shelf old new (ended_as compile_with_as r)
  compiling_by (Ok done) is = compiling_for is.bytes is.source (Ok done) is.fact
  compiling_by (Err (for_file.Compile s)) is = compiling_for is.bytes is.source (Err s) is.fact
  compiling_by (Err (for_file.File (fetch.Shelf Failed))) is = is
  compiling_by (Err (for_file.File (fetch.Shelf (TooLong seen)))) is = is
  compiling_by (Err (for_file.File fetch.Memory)) is = is.1.written

  pub seen_compile_with : (outcome : Outcome) → Came compile_with_as (IsCompilingOn name shelf old new) outcome → CompilingOnAs name shelf old new outcome
  seen_compile_with outcome call = subst (λ (o : Outcome). CompilingOnAs name shelf old new o) (sym call.is) (compiling_by call.result call.came)

-- ---- the clauses

module _ (name : Option (List ℕ)) (shelf : Files) (old new : Streams) where
  pub cause : (f : CompileFault) → (f ≡ compile.Memory → ⊥) → CompilingOnAs name shelf old new (answer_of f) → IsInputFaultOn name shelf.holds old.rest (on.Compile f)
  cause compile.Memory told compiling = absurd (told refl)
  cause _ told compiling = compiling.0

  pub unwritten : (outcome : Outcome) → CompilingOnAs name shelf old new outcome → IsBeforeRun outcome → new.written ≡ old.written
  unwritten Done compiling early = absurd early
  unwritten Write compiling early = absurd early
  unwritten Read compiling early = compiling.2
  unwritten (Source f) compiling early = compiling.1
  unwritten (Platform f) compiling early = compiling.1
  unwritten (IllFormed f) compiling early = compiling.1
  unwritten (Unschedulable sel a b demand) compiling early = compiling.1
  unwritten (Shelf Failed) compiling early = compiling.1.written
  unwritten (Shelf (TooLong seen)) compiling early = compiling.1.written
  unwritten Memory compiling early = compiling
  unwritten _ compiling early = absurd compiling

  -- ---- of a platform file that is given

  module _ (file : List ℕ) (given : IsGiven name shelf.holds shelf.before shelf.after file) where
    same_file : (others : List ℕ) → IsSource name shelf.holds others → others ≡ file
    same_file others held =
        let same : held.word ≡ given.word = let p = held.named in let q = given.named in cc in
        let told : get given.held held.word ≡ Some others = subst (λ (holds : Option Holdings). HoldsUnder holds held.word others) given.told held.held in
        let other = given.file in
        cc

    short_file : (others : List ℕ) → IsSource name shelf.holds others → length file ≤ 1048576
    short_file others held = subst (λ (bs : List ℕ). length bs ≤ 1048576) (same_file others held) held.short

    seen_long : (seen : ℕ) → IsLongFile MAX_SOURCE name shelf.holds seen → (1048576 < length file) × (seen ≡ length file)
    seen_long seen is =
        let long : IsLongFile MAX_SOURCE (Some given.word) (Some given.held) seen =
        subst (λ (o : Option (List ℕ)). IsLongFile MAX_SOURCE o (Some given.held) seen) given.named (subst (λ (holds : Option Holdings). IsLongFile MAX_SOURCE name holds seen) given.told is) in
        let same : long.1.0 ≡ file = let p = long.1.1 in let q = given.file in cc in
        let length_seen : seen ≡ length file = long.1.2 ∙ ap length same in
        (omega (arith, long.0, length_seen), length_seen)

    no_fault : IsFaultOf name shelf.before shelf.after → ⊥
    no_fault is = given.no_fault (subst (λ (o : Option (List ℕ)). IsFaultOf o shelf.before shelf.after) given.named is)

    -- the file is too long
    module _ (long : 1048576 < length file) where
      no_file : (others : List ℕ) → IsSource name shelf.holds others → ⊥
      no_file others held = omega (arith, long, short_file others held)

      no_input_fault : (f : WithFault) → IsInputFaultOn name shelf.holds old.rest f → ⊥
      no_input_fault f (inl l) = no_file l.file l.held
      no_input_fault f (inr p) = no_file p.file p.held

      pub long_platform : (outcome : Outcome) → CompilingOnAs name shelf old new outcome → IsOrMemory outcome (Shelf (TooLong (length file)))
      long_platform Done compiling = absurd (no_file compiling.1.file compiling.1.held)
      long_platform Write compiling = absurd (no_file compiling.1.file compiling.1.held)
      long_platform Read compiling = absurd (no_file compiling.0.0 compiling.0.1)
      long_platform (Source f) compiling = absurd (no_input_fault (on.Compile (compile.Source f)) compiling.0)
      long_platform (Platform f) compiling = absurd (no_file compiling.0.file compiling.0.held)
      long_platform (IllFormed f) compiling = absurd (no_input_fault (on.Compile (compile.IllFormed f)) compiling.0)
      long_platform (Unschedulable sel a b demand) compiling = absurd (no_input_fault (on.Compile (compile.Unschedulable sel a b demand)) compiling.0)
      long_platform (Shelf Failed) compiling = absurd (no_fault compiling.0)
      long_platform (Shelf (TooLong seen)) compiling = inl (ap (λ (n : ℕ). Shelf (TooLong n)) (seen_long seen compiling.0).1)
      long_platform Memory compiling = inr refl
      long_platform _ compiling = absurd compiling

    -- ---- and of an input that is told

    module _ (small : length file ≤ 1048576) (bytes : List ℕ) (told : old.rest ≡ Some bytes) where
      of_input : (P : List ℕ → Type 0) → IfSome old.rest P → P bytes
      of_input P is = subst (λ (rest : Option (List ℕ)). IfSome rest P) told is

      same_bytes : (others : List ℕ) → IsInput old.rest others → others ≡ bytes
      same_bytes others input = sym (of_input (λ bs. bs ≡ others) input.told)

      short : (others : List ℕ) → IsInput old.rest others → length bytes ≤ 1048576
      short others input = subst (λ (bs : List ℕ). length bs ≤ 1048576) (same_bytes others input) input.short

      fault_of : (f : WithFault) → IsFaultyOn name shelf.holds old.rest f → IsWithFault bytes file f
      fault_of f p = subst (λ (bs : List ℕ). IsWithFault bs file f) (same_bytes p.bytes p.input) (subst (λ (other : List ℕ). IsWithFault p.bytes other f) (same_file p.file p.held) p.fault)

      -- the input is too long
      module _ (long : 1048576 < length bytes) where
        no_input : (others : List ℕ) → IsInput old.rest others → ⊥
        no_input others input = omega (arith, long, short others input)

        long_fault : (f : CompileFault) → IsInputFaultOn name shelf.holds old.rest (on.Compile f) → answer_of f ≡ Source (source.TooLong 1048577)
        long_fault f (inl l) = let same : f ≡ l.fault = (let e = l.is in cc) in ap answer_of same ∙ ap answer_of l.long.is
        long_fault f (inr p) = absurd (no_input p.bytes p.input)

        pub long_input : (outcome : Outcome) → CompilingOnAs name shelf old new outcome → (Rose old.read_faults new.read_faults → ⊥) → IsOrMemory outcome (Source (source.TooLong 1048577))
        long_input Done compiling quiet = absurd (no_input compiling.1.bytes compiling.1.input)
        long_input Write compiling quiet = absurd (no_input compiling.1.bytes compiling.1.input)
        long_input Read compiling quiet = absurd (quiet compiling.1)
        long_input (Source f) compiling quiet = inl (long_fault (compile.Source f) compiling.0)
        long_input (Platform f) compiling quiet = absurd (no_input compiling.0.bytes compiling.0.input)
        long_input (IllFormed f) compiling quiet = inl (long_fault (compile.IllFormed f) compiling.0)
        long_input (Unschedulable sel a b demand) compiling quiet = inl (long_fault (compile.Unschedulable sel a b demand) compiling.0)
        long_input (Shelf Failed) compiling quiet = absurd (no_fault compiling.0)
        long_input (Shelf (TooLong seen)) compiling quiet = absurd (omega (arith, small, (seen_long seen compiling.0).0))
        long_input Memory compiling quiet = inr refl
        long_input _ compiling quiet = absurd compiling

      -- it isn't, so its fault is none of length
      module _ (few : length bytes ≤ 1048576) where
        fault_told : (f : WithFault) → IsInputFaultOn name shelf.holds old.rest f → IsWithFault bytes file f
        fault_told f (inl l) = absurd (omega (arith, few, of_input (λ bs. 1048576 < length bs) l.long.long))
        fault_told f (inr p) = fault_of f p

        -- there is a fault
        module _ (f : WithFault) (known : f ≡ on.Compile compile.Memory → ⊥) (is : IsWithFault bytes file f) where
          this : (g : WithFault) → (g ≡ on.Compile compile.Memory → ⊥) → IsWithFault bytes file g → answer_on g ≡ answer_on f
          this g other h = ap answer_on (one_with_fault bytes file f g known other is h)

          no_program : (Fact : PlatformOf → Tables → Type 0) → IsProgramOn name shelf.holds old.rest Fact → ⊥
          no_program Fact p =
              let bytes_are = same_bytes p.bytes p.input in
              let file_is = same_file p.file p.held in
              let of : IsTablesOf bytes p.tables = subst (λ (bs : List ℕ). IsTablesOf bs p.tables) bytes_are p.of in
              let says : platform_of p.tables file ≡ Ok p.platform = subst (λ (other : List ℕ). platform_of p.tables other ≡ Ok p.platform) file_is p.says in
              known (only_memory bytes file p.tables p.platform of says p.typed p.can.formed p.can.schedulable f is)

          pub faulty_on : (outcome : Outcome) → CompilingOnAs name shelf old new outcome → (Rose old.read_faults new.read_faults → ⊥) → IsOrMemory outcome (answer_on f)
          faulty_on Done compiling quiet = absurd (no_program (λ p t. new.written ≡ append_known old.written (compiled_on p t)) compiling.1)
          faulty_on Write compiling quiet = absurd (no_program (λ p t. AppendsPrefix old.written new.written (compiled_on p t)) compiling.1)
          faulty_on Read compiling quiet = absurd (quiet compiling.1)
          faulty_on (Source g) compiling quiet = inl (this (on.Compile (compile.Source g)) (λ e. cc) (fault_told (on.Compile (compile.Source g)) compiling.0))
          faulty_on (Platform g) compiling quiet = inl (this (on.Platform g) (λ e. cc) (fault_of (on.Platform g) compiling.0))
          faulty_on (IllFormed g) compiling quiet = inl (this (on.Compile (compile.IllFormed g)) (λ e. cc) (fault_told (on.Compile (compile.IllFormed g)) compiling.0))
          faulty_on (Unschedulable sel a b demand) compiling quiet =
              inl (this (on.Compile (compile.Unschedulable sel a b demand)) (λ e. cc) (fault_told (on.Compile (compile.Unschedulable sel a b demand)) compiling.0))
          faulty_on (Shelf Failed) compiling quiet = absurd (no_fault compiling.0)
          faulty_on (Shelf (TooLong seen)) compiling quiet = absurd (omega (arith, small, (seen_long seen compiling.0).0))
          faulty_on Memory compiling quiet = inr refl
          faulty_on _ compiling quiet = absurd compiling

        -- an object is built of it on the platform
        module _ (t : Tables) (p : PlatformOf) (of : IsTablesOf bytes t) (typed : AreTyped t) (says : platform_of t file ≡ Ok p)
            (formed : Formed (with_worst t p.worst)) (free : AreSchedulable (with_worst t p.worst)) where
          none_of : (g : WithFault) → (g ≡ on.Compile compile.Memory → ⊥) → IsWithFault bytes file g → ⊥
          none_of g other h = other (only_memory bytes file t p of says typed formed free g h)

          pub complete : (outcome : Outcome) → CompilingOnAs name shelf old new outcome → (Rose old.read_faults new.read_faults → ⊥) → (Rose old.write_faults new.write_faults → ⊥)
              → IsOrMemory outcome Done
          complete Done compiling quiet still = inl refl
          complete Write compiling quiet still = absurd (still compiling.0)
          complete Read compiling quiet still = absurd (quiet compiling.1)
          complete (Source g) compiling quiet still = absurd (none_of (on.Compile (compile.Source g)) (λ e. cc) (fault_told (on.Compile (compile.Source g)) compiling.0))
          complete (Platform g) compiling quiet still = absurd (none_of (on.Platform g) (λ e. cc) (fault_of (on.Platform g) compiling.0))
          complete (IllFormed g) compiling quiet still = absurd (none_of (on.Compile (compile.IllFormed g)) (λ e. cc) (fault_told (on.Compile (compile.IllFormed g)) compiling.0))
          complete (Unschedulable sel a b demand) compiling quiet still =
              absurd (none_of (on.Compile (compile.Unschedulable sel a b demand)) (λ e. cc) (fault_told (on.Compile (compile.Unschedulable sel a b demand)) compiling.0))
          complete (Shelf Failed) compiling quiet still = absurd (no_fault compiling.0)
          complete (Shelf (TooLong seen)) compiling quiet still = absurd (omega (arith, small, (seen_long seen compiling.0).0))
          complete Memory compiling quiet still = inr refl
          complete _ compiling quiet still = absurd compiling
