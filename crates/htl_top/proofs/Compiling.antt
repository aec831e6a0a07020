-- What `compile` came to, by its outcome and its input.
use Rattle.std.proofs.Common.{arith, ◌≡◌, ◌≤◌, ◌<◌, ℕ, List, length, Option, Some, Ok, Err, refl, sym, ap, subst, inl, inr}
use Rattle.htl_top.proofs.Vocabulary.{IfSome, append_known, compile_only_memory, one_compile_fault, IsCompiledTo, IsCompileFault, AreSchedulable, AreTyped, IsTablesOf, CompileFault, Rose, AppendsPrefix, none_left, Formed, Tables, Streams, IsBeforeRun, IsOrMemory, IsCompiling, IsInputCompiled, compiled_bytes, IsInput, IsInputProgram, IsFaultyInput, IsLongInput, IsInputFault, answer_of, Outcome, Done, Source, IllFormed, Unschedulable, Read, Write, Memory, SourceStop}
use Rattle.htl_compile.specs.declared.compiling.CompileFault.TheVariants as compile
use Rattle.htl_compile.specs.declared.source_fault.SourceFault.TheVariants as source
use Rattle.htl_compile.specs.declared.stop.SourceStop.TheVariants as stop
use Rattle.htl_top.specs.{Stops.Came, Stops.Ended, Stops.compile_as, Stops.ended_as, declared.input.InputStop.InputStop, declared.stop.CompileStop.CompileStop}
use Rattle.htl_top.specs.declared.input.InputStop.TheVariants as unread
use Rattle.htl_top.specs.declared.stop.CompileStop.TheVariants as stopped

-- ---- from the source to the input

-- the input has a program whose object has these bytes
program : (rest : Option (List ℕ)) (bytes object : List ℕ) (Fact : List ℕ → Type 0) → IsInput rest bytes → IsCompiledTo bytes object → Fact object → IsInputProgram rest (λ t. Fact (compiled_bytes t))
program rest bytes object Fact input c fact =
    record { bytes = bytes; input = input; has = record { tables = c.tables; of = c.of; can = c.can; fact = subst Fact c.is fact } }

-- ---- by outcomes

abbrev pub CompilingAs : Streams → Streams → Outcome → Type 0
CompilingAs old new Done = (new.rest ≡ none_left old.rest) × IsInputProgram old.rest (λ t. new.written ≡ append_known old.written (compiled_bytes t))
CompilingAs old new Write = Rose old.write_faults new.write_faults × IsInputProgram old.rest (λ t. AppendsPrefix old.written new.written (compiled_bytes t))
CompilingAs old new Read = Rose old.read_faults new.read_faults × (new.written ≡ old.written)
CompilingAs old new (Source f) = IsInputFault old.rest (compile.Source f) × (new.written ≡ old.written)
CompilingAs old new (IllFormed f) = IsInputFault old.rest (compile.IllFormed f) × (new.written ≡ old.written)
CompilingAs old new (Unschedulable sel a b demand) = IsInputFault old.rest (compile.Unschedulable sel a b demand) × (new.written ≡ old.written)
CompilingAs old new Memory = new.written ≡ old.written
CompilingAs old new _ = ⊥

module _ (old new : Streams) where
  compiling_by : (r : Ended CompileStop) → IsCompiling old new r → CompilingAs old new (ended_as compile_as r)
  compiling_by (Ok done) is = let p = is.1 in (is.0, program old.rest p.bytes p.fact.0 (λ object. new.written ≡ append_known old.written object) p.input p.fact.1 p.fact.2)
  compiling_by (Err stopped.Write) is = let p = is.1 in (is.0, program old.rest p.bytes p.fact.0 (λ object. AppendsPrefix old.written new.written object) p.input p.fact.1 p.fact.2)
  compiling_by (Err (stopped.Input unread.Read)) is = is
  compiling_by (Err (stopped.Input unread.TooLong)) is = (inl (record { is = refl; long = is.0 }), is.1)
  compiling_by (Err (stopped.Input unread.Memory)) is = is
  compiling_by (Err (stopped.Source stop.Memory)) is = is.1
  compiling_by (Err (stopped.Source (stop.Platform f))) is = absurd is.0.fact
  compiling_by (Err (stopped.Source (stop.IllFormed f u))) is = (inr (record { bytes = is.0.bytes; input = is.0.input; fault = is.0.fact.0 }), is.1)
  compiling_by (Err (stopped.Source (stop.Fault f))) is = (inr (record { bytes = is.0.bytes; input = is.0.input; fault = is.0.fact }), is.1)
  compiling_by (Err (stopped.Source (stop.Unschedulable sel a b demand))) is = (inr (record { bytes = is.0.bytes; input = is.0.input; fault = is.0.fact }), is.1)

  pub seen_compile : (outcome : Outcome) → Came compile_as (IsCompiling old new) outcome → CompilingAs old new outcome
  seen_compile outcome call = subst (λ (o : Outcome). CompilingAs old new o) (sym call.is) (compiling_by call.result call.came)

-- ---- what is done

-- the input wasn't had whole
pub unread_stop : (IsBuilt : List ℕ → List ℕ → Type 0) (IsUnbuilt : List ℕ → SourceStop → Type 0) (old new : Streams) (s : InputStop) → new.written ≡ old.written
    → (s ≡ unread.TooLong → IfSome old.rest (λ given. 1048576 < length given)) → (s ≡ unread.Read → Rose old.read_faults new.read_faults)
    → IsInputCompiled IsBuilt IsUnbuilt old new (Err (stopped.Input s))
unread_stop IsBuilt IsUnbuilt old new unread.TooLong same long failed = (long refl, same)
unread_stop IsBuilt IsUnbuilt old new unread.Read same long failed = (failed refl, same)
unread_stop IsBuilt IsUnbuilt old new unread.Memory same long failed = same

-- ---- the clauses

module _ (old new : Streams) where
  pub cause : (f : CompileFault) → (f ≡ compile.Memory → ⊥) → CompilingAs old new (answer_of f) → IsInputFault old.rest f
  cause compile.Memory told compiling = absurd (told refl)
  cause _ told compiling = compiling.0

  pub unwritten : (outcome : Outcome) → CompilingAs old new outcome → IsBeforeRun outcome → new.written ≡ old.written
  unwritten Done compiling early = absurd early
  unwritten Write compiling early = absurd early
  unwritten Read compiling early = compiling.1
  unwritten (Source f) compiling early = compiling.1
  unwritten (IllFormed f) compiling early = compiling.1
  unwritten (Unschedulable sel a b demand) compiling early = compiling.1
  unwritten Memory compiling early = compiling
  unwritten _ compiling early = absurd compiling

  -- ---- of an input that is told

  module _ (bytes : List ℕ) (told : old.rest ≡ Some bytes) where
    given : (P : List ℕ → Type 0) → IfSome old.rest P → P bytes
    given P is = subst (λ (rest : Option (List ℕ)). IfSome rest P) told is

    same_bytes : (others : List ℕ) → IsInput old.rest others → others ≡ bytes
    same_bytes others input = sym (given (λ bs. bs ≡ others) input.told)

    short : (others : List ℕ) → IsInput old.rest others → length bytes ≤ 1048576
    short others input = subst (λ (bs : List ℕ). length bs ≤ 1048576) (same_bytes others input) input.short

    is_long : (f : CompileFault) → IsLongInput old.rest f → 1048576 < length bytes
    is_long f l = given (λ bs. 1048576 < length bs) l.long

    fault_of : (f : CompileFault) → IsFaultyInput old.rest f → IsCompileFault bytes f
    fault_of f p = subst (λ (bs : List ℕ). IsCompileFault bs f) (same_bytes p.bytes p.input) p.fault

    -- the input is too long
    long_fault : (f : CompileFault) → 1048576 < length bytes → IsInputFault old.rest f → answer_of f ≡ Source (source.TooLong 1048577)
    long_fault f long (inl l) = ap answer_of l.is
    long_fault f long (inr p) = absurd (omega (arith, long, short p.bytes p.input))

    pub long_input : (outcome : Outcome) → CompilingAs old new outcome → 1048576 < length bytes → (Rose old.read_faults new.read_faults → ⊥)
        → IsOrMemory outcome (Source (source.TooLong 1048577))
    long_input Done compiling long quiet = absurd (omega (arith, long, short compiling.1.bytes compiling.1.input))
    long_input Write compiling long quiet = absurd (omega (arith, long, short compiling.1.bytes compiling.1.input))
    long_input Read compiling long quiet = absurd (quiet compiling.0)
    long_input (Source f) compiling long quiet = inl (long_fault (compile.Source f) long compiling.0)
    long_input (IllFormed f) compiling long quiet = inl (long_fault (compile.IllFormed f) long compiling.0)
    long_input (Unschedulable sel a b demand) compiling long quiet = inl (long_fault (compile.Unschedulable sel a b demand) long compiling.0)
    long_input Memory compiling long quiet = inr refl
    long_input _ compiling long quiet = absurd compiling

    -- it has a fault
    module _ (few : length bytes ≤ 1048576) (f : CompileFault) (known : f ≡ compile.Memory → ⊥) (is : IsCompileFault bytes f) where
      this : (g : CompileFault) → (g ≡ compile.Memory → ⊥) → IsInputFault old.rest g → answer_of g ≡ answer_of f
      this g other (inl l) = absurd (omega (arith, few, is_long g l))
      this g other (inr p) = ap answer_of (one_compile_fault bytes g f other known (fault_of g p) is)

      no_program : (Fact : Tables → Type 0) → IsInputProgram old.rest Fact → ⊥
      no_program Fact p =
          known
          (compile_only_memory p.bytes p.has.tables f p.has.of p.has.can.can.typed p.has.can.formed p.has.can.schedulable (subst (λ (bs : List ℕ). IsCompileFault bs f) (sym (same_bytes p.bytes p.input)) is))

      pub faulty_input : (outcome : Outcome) → CompilingAs old new outcome → (Rose old.read_faults new.read_faults → ⊥) → IsOrMemory outcome (answer_of f)
      faulty_input Done compiling quiet = absurd (no_program (λ t. new.written ≡ append_known old.written (compiled_bytes t)) compiling.1)
      faulty_input Write compiling quiet = absurd (no_program (λ t. AppendsPrefix old.written new.written (compiled_bytes t)) compiling.1)
      faulty_input Read compiling quiet = absurd (quiet compiling.0)
      faulty_input (Source g) compiling quiet = inl (this (compile.Source g) (λ e. cc) compiling.0)
      faulty_input (IllFormed g) compiling quiet = inl (this (compile.IllFormed g) (λ e. cc) compiling.0)
      faulty_input (Unschedulable sel a b demand) compiling quiet = inl (this (compile.Unschedulable sel a b demand) (λ e. cc) compiling.0)
      faulty_input Memory compiling quiet = inr refl
      faulty_input _ compiling quiet = absurd compiling

    -- an object is built of it
    module _ (few : length bytes ≤ 1048576) (t : Tables) (of : IsTablesOf bytes t) (typed : AreTyped t) (formed : Formed t) (free : AreSchedulable t) where
      no_fault : (g : CompileFault) → (g ≡ compile.Memory → ⊥) → IsInputFault old.rest g → ⊥
      no_fault g other (inl l) = omega (arith, few, is_long g l)
      no_fault g other (inr p) = other (compile_only_memory bytes t g of typed formed free (fault_of g p))

      pub complete : (outcome : Outcome) → CompilingAs old new outcome → (Rose old.read_faults new.read_faults → ⊥) → (Rose old.write_faults new.write_faults → ⊥) → IsOrMemory outcome Done
      complete Done compiling quiet still = inl refl
      complete Write compiling quiet still = absurd (still compiling.0)
      complete Read compiling quiet still = absurd (quiet compiling.0)
      complete (Source g) compiling quiet still = absurd (no_fault (compile.Source g) (λ e. cc) compiling.0)
      complete (IllFormed g) compiling quiet still = absurd (no_fault (compile.IllFormed g) (λ e. cc) compiling.0)
      complete (Unschedulable sel a b demand) compiling quiet still = absurd (no_fault (compile.Unschedulable sel a b demand) (λ e. cc) compiling.0)
      complete Memory compiling quiet still = inr refl
      complete _ compiling quiet still = absurd compiling
