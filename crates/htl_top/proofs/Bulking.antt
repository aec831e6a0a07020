-- What `bulk` writes and answers.
use Rattle.std.proofs.Common.{◌≡◌, ◌≤◌, ℕ, zero, suc, ◌*◌, List, [], ◌∷◌, ◌++◌, length, get_or, Option, None, Result, Ok, Err, ℤ, refl, sym, ap, ap₂, ◌∙◌, subst, inl, inr}
use Rattle.htl_top.proofs.Vocabulary.{AreSchedulable, AreTyped, Formed, IsCompileFault, IsNotCompiled, IsTablesOf, SourceStop, bulk_events, bulk_has_tables, bulk_sensor, comm_item, compile_only_memory, readings_of, sensor_comm, pos, slice_get, built_accepted, coded_runs, IsCompiledTo, bulk_bytes, built, CanBuild, coded, CompileFault, Rose, Puts, one_line, HasBytes, IsLoadedAs, sense_end, Seen, IsFinished, IsSensorValue, length-list_to, lines_text, line_text, up_to, History, first_value, history, newest, next_value, past, sense, state, Tables, Event, Line, ValueLine, State, IsAccepted, ObjectOf, flat_map, Streams, append_known, AppendsPrefix, IsBeforeRun, IsOrMemory, HasTables, Outcome, Done, Write}
use mathlib.Core.Path.{fun_ext}
use Rattle.htl_compile.specs.declared.compiling.CompileFault.TheVariants as compile
use Rattle.htl_compile.specs.declared.stop.SourceStop.TheVariants as stop
use Rattle.htl_model.specs.declared.event.Event.TheVariants as event
use Rattle.htl_top.proofs.{Executing.finished_totals, Meaning.line_same, Telling.IsOfPut}
use Rattle.htl_top.specs.Bulk.{value_at, values_text, totals_text, object_text, rounds_text, bulk_text, value_seen, seen_text, IsOutOfMemory, IsPut, IsBulkPut, IsBulked}
use Rattle.htl_top.specs.{Stops.Ended, Stops.ended_as, Stops.put_as, declared.stop.PutStop.PutStop}
use Rattle.htl_top.specs.declared.stop.PutStop.TheVariants as put

-- ---- what a finished machine has

-- the end among the events changes no value
state_end : (t : Tables) (es : List Event) (end now : ℕ) → state t es now ≡ state t (es ++ event.End end ∷ []) now
state_end t es end now =
    let shown : sense t es ≡ sense t (es ++ event.End end ∷ []) = fun_ext (λ c. fun_ext (λ u. sym (sense_end t es end c u))) in
    ap (λ (s : ℕ → ℕ → ℤ). newest (history t s now)) shown

module _ (m : Seen) (es : List Event) (end : ℕ) (done : IsFinished m es end) where
  value_is : (c : ℕ) → value_seen m c ≡ value_at m.object.tables (es ++ event.End end ∷ []) end c
  value_is c =
      ap₂ (λ (at : ℕ) (vs : List ℤ). ValueLine at c (get_or vs c (pos 0)) ∷ []) done.reading
      (done.values ∙ ap (λ (s : State). s.values) (state_end m.object.tables es end end))

  seen_is : seen_text m.object.tables m ≡ values_text m.object.tables (es ++ event.End end ∷ []) end ++ totals_text m.object (es ++ event.End end ∷ []) end
  seen_is =
      ap₂ (λ (a b : List ℕ). a ++ b)
      (ap (λ (f : ℕ → List Line). lines_text m.object.tables (up_to f (length m.object.tables.comms))) (fun_ext value_is)) (finished_totals m es end done)

pub seen_behind : (m : Seen) (t : Tables) (o : ObjectOf) (rounds : ℕ) → m.object ≡ o → t ≡ o.tables → IsFinished m (readings_of rounds) (1000 * rounds) → seen_text t m ≡ object_text rounds o
unfolding object_text
seen_behind m t o rounds same tables done =
    ap (λ (u : Tables). seen_text u m) (tables ∙ ap (λ (p : ObjectOf). p.tables) (sym same)) ∙ seen_is m (readings_of rounds) (1000 * rounds) done
    ∙ ap (λ (p : ObjectOf). values_text p.tables (bulk_events rounds) (1000 * rounds) ++ totals_text p (bulk_events rounds) (1000 * rounds)) same

-- each communicator has a value
state_count : (t : Tables) (es : List Event) (now : ℕ) → length (state t es now).values ≡ length t.comms
state_count t es zero = length-list_to (λ c. first_value (sense t es) c (slice_get t.comms c)) (length t.comms)
state_count t es (suc n) =
    let h = history t (sense t es) n in
    length-list_to (λ c. next_value t (sense t es) (past h) (newest h).stays (newest h).values (suc n) c (slice_get t.comms c)) (length t.comms)

pub values_count : (m : Seen) (t : Tables) (es : List Event) (end : ℕ) → t ≡ m.object.tables → IsFinished m es end → length m.run_state.world.values ≡ length t.comms
values_count m t es end tables done =
    ap (λ (vs : List ℤ). length vs) done.values ∙ state_count m.object.tables es end ∙ ap (λ (u : Tables). length u.comms) (sym tables)

-- the line of a value
pub value_put : {T E : Type 0} (t : Tables) (m : Seen) (c : ℕ) (w w1 : Option (List ℕ)) (f f1 : ℕ) (r : Result T E)
    → Puts w w1 f f1 (line_text t (ValueLine m.run_state.reading c (get_or m.run_state.world.values c (pos 0)))) r → Puts w w1 f f1 (lines_text t (value_seen m c)) r
value_put t m c w w1 f f1 r puts =
    subst (λ (bs : List ℕ). Puts w w1 f f1 bs r) (sym (one_line t (ValueLine m.run_state.reading c (get_or m.run_state.world.values c (pos 0))))) puts

-- ---- the object of a source

values_same : (t : Tables) (es : List Event) (at : ℕ) → CanBuild t → values_text (coded t) es at ≡ values_text t es at
values_same t es at can =
    let same : (c : ℕ) → value_at (coded t) es at c ≡ value_at t es at c =
    λ c. ap (λ (h : History). ValueLine at c (get_or (newest h).values c (pos 0)) ∷ []) (sym ((coded_runs t can.can.tables.ranges).states (sense t es) at)) in
    ap (λ (f : ℕ → List Line). lines_text (coded t) (up_to f (length t.comms))) (fun_ext same)
    ∙ ap (λ (f : Line → List ℕ). flat_map f (up_to (value_at t es at) (length t.comms))) (fun_ext (line_same t))

pub built_text : (rounds : ℕ) (t : Tables) → CanBuild t → object_text rounds (built t) ≡ rounds_text rounds t
unfolding object_text rounds_text
built_text rounds t can =
    ap (λ (bs : List ℕ). bs ++ totals_text (built t) (bulk_events rounds) (1000 * rounds)) (values_same t (bulk_events rounds) (1000 * rounds) can)

-- the object that was loaded is that of the source's tables
pub loaded_is : (source bytes : List ℕ) (l : ObjectOf) (compiled : IsCompiledTo source bytes) → ((o : ObjectOf) → HasBytes bytes o → IsAccepted o → IsLoadedAs o (Ok l)) → l ≡ built compiled.tables
loaded_is source bytes l compiled only =
    only (built compiled.tables) (record { object = compiled.object; spelled = compiled.is }) (built_accepted None compiled.tables compiled.can)

-- of the generated source alone want of memory is told
pub only_memory : (n : ℕ) (s : SourceStop) → 1 ≤ n → n ≤ 64 → IsNotCompiled (bulk_bytes n) s → IsOutOfMemory s
only_memory n s some few fault = by s fault (λ f. compile_only_memory (bulk_bytes n) has.0 f has.1 has.2 has.3 has.4)
  where
    has : (t : Tables) × IsTablesOf (bulk_bytes n) t × AreTyped t × Formed t × AreSchedulable t
    has = bulk_has_tables n some few

    by : (s : SourceStop) → IsNotCompiled (bulk_bytes n) s → ((f : CompileFault) → IsCompileFault (bulk_bytes n) f → f ≡ compile.Memory) → IsOutOfMemory s
    by (stop.Fault f) h only = let no = only (compile.Source f) h in let z : ⊥ = cc in z
    by (stop.IllFormed f tables) h only = let no = only (compile.IllFormed f) h.0 in let z : ⊥ = cc in z
    by (stop.Unschedulable sel a b demand) h only = let no = only (compile.Unschedulable sel a b demand) h in let z : ⊥ = cc in z
    by (stop.Platform f) h only = h
    by stop.Memory h only = tt

-- the first communicator of its tables is its sensor, which takes every value
sensor_first : (n : ℕ) (t : Tables) → 1 ≤ n → n ≤ 64 → IsTablesOf (bulk_bytes n) t → (x : ℤ) → IsSensorValue (coded t) 0 x
sensor_first n t some few of x =
    record {
      comm = comm_item bulk_sensor;
      known = ap (λ (u : Tables). slice_get u.comms 0) of.is ∙ sensor_comm n some few of.list of.programs of.reads.tokens of.spelled;
      sensor = refl;
      fits = tt;
    }

-- so it is that of the object
pub loaded_sensor : (n : ℕ) (bytes : List ℕ) (l : ObjectOf) (compiled : IsCompiledTo (bulk_bytes n) bytes) → 1 ≤ n → n ≤ 64
    → ((o : ObjectOf) → HasBytes bytes o → IsAccepted o → IsLoadedAs o (Ok l)) → (x : ℤ) → IsSensorValue l.tables 0 x
loaded_sensor n bytes l compiled some few only x =
    subst (λ (o : ObjectOf). IsSensorValue o.tables 0 x) (sym (loaded_is (bulk_bytes n) bytes l compiled only)) (sensor_first n compiled.tables some few compiled.of x)

-- and its text is theirs
pub put_built : (bytes : List ℕ) (l : ObjectOf) (old new : Option (List ℕ)) (before now : ℕ) (r : Ended PutStop) → ((o : ObjectOf) → HasBytes bytes o → IsAccepted o → IsLoadedAs o (Ok l))
    → IsPut (object_text 100 l) old new before now r → (source : List ℕ) (compiled : IsCompiledTo source bytes) → IsPut (bulk_text compiled.tables) old new before now r
put_built bytes l old new before now r only put source compiled =
    let same = loaded_is source bytes l compiled only in
    subst (λ (bs : List ℕ). IsPut bs old new before now r) (ap (object_text 100) same ∙ built_text 100 compiled.tables compiled.can) put

of_compiled : (n : ℕ) (slice : List ℕ) (here : IsCompiledTo (bulk_bytes n) slice) (old new : Option (List ℕ)) (before now : ℕ) (r : Ended PutStop)
    → IsPut (bulk_text here.tables) old new before now r → IsBulkPut n old new before now r
of_compiled n slice here old new before now (Ok done) is = record { tables = here.tables; of = here.of; can = here.can; fact = is }
of_compiled n slice here old new before now (Err put.Write) is = (is.0, record { tables = here.tables; of = here.of; can = here.can; fact = is.1 })
of_compiled n slice here old new before now (Err put.Memory) is = is

pub bulk_put : (n : ℕ) (object slice : List ℕ) (old new : Option (List ℕ)) (before now : ℕ) (r : Ended PutStop) → slice ≡ object → IsCompiledTo (bulk_bytes n) object
    → ((k : ℕ) (compiled : IsCompiledTo (bulk_bytes k) slice) → IsPut (bulk_text compiled.tables) old new before now r) → IsBulkPut n old new before now r
bulk_put n object slice old new before now r same compiled told =
    let here : IsCompiledTo (bulk_bytes n) slice = subst (IsCompiledTo (bulk_bytes n)) (sym same) compiled in
    of_compiled n slice here old new before now r (told n here)

-- ---- the answers

pub ended_put : (r : Ended PutStop) → IsOfPut (ended_as put_as r)
ended_put (Ok done) = tt
ended_put (Err put.Write) = tt
ended_put (Err put.Memory) = tt

module _ (n : ℕ) (old new : Streams) where
  abbrev Told : Ended PutStop → Type 0
  Told r = IsBulkPut n old.written new.written old.write_faults new.write_faults r

  unwritten_by : (r : Ended PutStop) (outcome : Outcome) → outcome ≡ ended_as put_as r → Told r → IsBeforeRun outcome → new.written ≡ old.written
  unwritten_by (Ok done) outcome is told early = absurd (subst IsBeforeRun is early)
  unwritten_by (Err put.Write) outcome is told early = absurd (subst IsBeforeRun is early)
  unwritten_by (Err put.Memory) outcome is told early = told

  whole_by : (r : Ended PutStop) → Done ≡ ended_as put_as r → Told r → HasTables (bulk_bytes n) (λ t. new.written ≡ append_known old.written (bulk_text t))
  whole_by (Ok done) is told = told
  whole_by (Err put.Memory) is told = absurd (let p = is in cc)
  whole_by _ is told = absurd (let p = is in cc)

  part_by : (r : Ended PutStop) → Write ≡ ended_as put_as r → Told r
      → Rose old.write_faults new.write_faults × HasTables (bulk_bytes n) (λ t. AppendsPrefix old.written new.written (bulk_text t))
  part_by (Err put.Write) is told = told
  part_by _ is told = absurd (let p = is in cc)

  complete_by : (r : Ended PutStop) (outcome : Outcome) → outcome ≡ ended_as put_as r → (Rose old.write_faults new.write_faults → ⊥) → Told r → IsOrMemory outcome Done
  complete_by (Ok done) outcome is still told = inl is
  complete_by (Err put.Write) outcome is still told = absurd (still told.0)
  complete_by (Err put.Memory) outcome is still told = inr is

  -- it has no answers but these
  pub only : (outcome : Outcome) → IsBulked n old new outcome → IsOfPut outcome
  only outcome b = subst IsOfPut (sym b.1.is) (ended_put b.1.result)

  pub unwritten : (outcome : Outcome) → IsBulked n old new outcome → IsBeforeRun outcome → new.written ≡ old.written
  unwritten outcome b early = unwritten_by b.1.result outcome b.1.is b.1.came early

  pub whole : IsBulked n old new Done → HasTables (bulk_bytes n) (λ t. new.written ≡ append_known old.written (bulk_text t))
  whole b = whole_by b.1.result b.1.is b.1.came

  pub part : IsBulked n old new Write → Rose old.write_faults new.write_faults × HasTables (bulk_bytes n) (λ t. AppendsPrefix old.written new.written (bulk_text t))
  part b = part_by b.1.result b.1.is b.1.came

  pub complete : (outcome : Outcome) → (Rose old.write_faults new.write_faults → ⊥) → IsBulked n old new outcome → IsOrMemory outcome Done
  complete outcome still b = complete_by b.1.result outcome b.1.is still b.1.came
