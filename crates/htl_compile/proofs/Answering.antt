-- Where a cause stands, its answer comes, or want of memory.
use Rattle.std.proofs.Common.{◌≡◌, ◌⊎◌, ℕ, List, Result, Ok, Err, IfOk, IfErr, MatchResult, refl, ◌∙◌, ap, inl, inr}
use Rattle.htl_compile.proofs.{Completeness.back_only_memory, Completeness.compile_only_memory, Completeness.one_back_fault, Completeness.one_compile_fault, SourceLaws.tables_unique, SourceLaws.typed_or_fault, SourceLaws.fault_unique}
use Rattle.htl_compile.proofs.Words.{IsBackFault, IsCompileFault, IsCompiledTo, built, AreSchedulable, coded, AreTyped, IsTablesOf, IsFrontFault, IsRead, BackFault, CompileFault, FrontFault, Formed, AreInRange, Tables, object_bytes, Object}
use Rattle.htl_compile.specs.declared.building.BackFault.TheVariants as back
use Rattle.htl_compile.specs.declared.compiling.CompileFault.TheVariants as compile
use Rattle.htl_compile.specs.declared.source.FrontFault.TheVariants as front

-- ---- front

pub front_only : (bytes : List ℕ) (t : Tables) → IsTablesOf bytes t → AreTyped t → (r : Result Tables FrontFault) → IsRead bytes r
    → MatchResult r (λ u. u ≡ coded t) (λ f. f ≡ front.Memory)
front_only bytes t source typed (Ok u) h = h.is ∙ ap coded (tables_unique bytes h.tables t h.source source)
front_only bytes t source typed (Err (front.Source f)) h = absurd (typed_or_fault bytes t f source typed h)
front_only bytes t source typed (Err front.Memory) h = refl

pub front_refused : (bytes : List ℕ) (f : FrontFault) → (f ≡ front.Memory → ⊥) → IsFrontFault bytes f → (r : Result Tables FrontFault) → IsRead bytes r
    → MatchResult r (λ _. ⊥) (λ g. (g ≡ f) ⊎ (g ≡ front.Memory))
front_refused bytes front.Memory told is r h = absurd (told refl)
front_refused bytes (front.Source f) told is (Ok u) h = typed_or_fault bytes h.tables f h.source h.can.typed is
front_refused bytes (front.Source f) told is (Err (front.Source g)) h = inl (ap front.Source (fault_unique bytes g f h is))
front_refused bytes (front.Source f) told is (Err front.Memory) h = inr refl

-- ---- back

pub back_only : (t : Tables) → Formed t → AreSchedulable t → (r : Result Object (Tables × BackFault)) → IfErr r (λ e. (e.0 ≡ t) × IsBackFault t e.1)
    → IfErr r (λ e. e.1 ≡ back.Memory)
back_only t formed free (Ok o) h = tt
back_only t formed free (Err e) h = back_only_memory t e.1 formed free h.1

one_of_back : (t : Tables) (f g : BackFault) → AreInRange t → (f ≡ back.Memory → ⊥) → IsBackFault t f → IsBackFault t g → (g ≡ f) ⊎ (g ≡ back.Memory)
one_of_back t f (back.IllFormed g) range told is other = inl (one_back_fault t (back.IllFormed g) f range (λ e. cc) told other is)
one_of_back t f (back.Unschedulable sel a b demand) range told is other = inl (one_back_fault t (back.Unschedulable sel a b demand) f range (λ e. cc) told other is)
one_of_back t f back.Memory range told is other = inr refl

pub back_refused : (t : Tables) (f : BackFault) → (f ≡ back.Memory → ⊥) → IsBackFault t f → AreInRange t → (r : Result Object (Tables × BackFault))
    → IfOk r (λ _. Formed t) → IfOk r (λ _. AreSchedulable t) → IfErr r (λ e. (e.0 ≡ t) × IsBackFault t e.1)
    → MatchResult r (λ _. ⊥) (λ e. (e.1 ≡ f) ⊎ (e.1 ≡ back.Memory))
back_refused t f told is range (Ok o) formed free h = told (back_only_memory t f formed free is)
back_refused t f told is range (Err e) formed free h = one_of_back t f e.1 range told is h.1

-- ---- compile

pub compile_only : {V : Type 0} (items : V → List ℕ) (bytes : List ℕ) (t : Tables) → IsTablesOf bytes t → AreTyped t → Formed t → AreSchedulable t → (r : Result V CompileFault)
    → IfOk r (λ v. IsCompiledTo bytes (items v)) → IfErr r (IsCompileFault bytes) → MatchResult r (λ v. items v ≡ object_bytes (built t)) (λ f. f ≡ compile.Memory)
compile_only items bytes t source typed formed free (Ok v) h i = h.is ∙ ap (λ (u : Tables). object_bytes (built u)) (tables_unique bytes h.tables t h.of source)
compile_only items bytes t source typed formed free (Err e) h i = compile_only_memory bytes t e source typed formed free i

one_of_compile : (bytes : List ℕ) (f g : CompileFault) → (f ≡ compile.Memory → ⊥) → IsCompileFault bytes f → IsCompileFault bytes g → (g ≡ f) ⊎ (g ≡ compile.Memory)
one_of_compile bytes f (compile.Source g) told is other = inl (one_compile_fault bytes (compile.Source g) f (λ e. cc) told other is)
one_of_compile bytes f (compile.IllFormed g) told is other = inl (one_compile_fault bytes (compile.IllFormed g) f (λ e. cc) told other is)
one_of_compile bytes f (compile.Unschedulable sel a b demand) told is other = inl (one_compile_fault bytes (compile.Unschedulable sel a b demand) f (λ e. cc) told other is)
one_of_compile bytes f compile.Memory told is other = inr refl

pub compile_refused : {V : Type 0} (items : V → List ℕ) (bytes : List ℕ) (f : CompileFault) → (f ≡ compile.Memory → ⊥) → IsCompileFault bytes f → (r : Result V CompileFault)
    → IfOk r (λ v. IsCompiledTo bytes (items v)) → IfErr r (IsCompileFault bytes) → MatchResult r (λ _. ⊥) (λ g. (g ≡ f) ⊎ (g ≡ compile.Memory))
compile_refused items bytes f told is (Ok v) h i = told (compile_only_memory bytes h.tables f h.of h.can.can.typed h.can.formed h.can.schedulable is)
compile_refused items bytes f told is (Err e) h i = one_of_compile bytes f e told is i
