-- What has no fault but want of memory, and that there is one fault at most.
use Rattle.std.proofs.Common.{◌≡◌, ◌<◌, ◌⊎◌, ℕ, List, refl, sym, ◌∙◌, ap, subst, pos, inl, inr}
use Rattle.htl_compile.proofs.{SourceLaws.tables_unique, SourceLaws.typed_or_fault, SourceLaws.fault_unique, SourceTables.source_tables_fit}
use Rattle.htl_compile.proofs.Words.{IsBackFault, IsFirstOverload, HasBackFault, unbuilt_of, FrontOnlyMemory, BackOnlyMemory, CompileOnlyMemory, OneFrontFault, OneBackFault, OneCompileFault, IsTablesOf, IsSourceFault, SourceFault, BackFault, one_report, tightened, Reported, site_of, Tables, FormFault, formed, one_first_broken, path_jobs, cases_less_same}
use Rattle.htl_compile.specs.declared.building.BackFault.TheVariants as back
use Rattle.htl_compile.specs.declared.compiling.CompileFault.TheVariants as compile
use Rattle.htl_compile.specs.declared.source.FrontFault.TheVariants as front

-- ---- completeness

pub front_only_memory : FrontOnlyMemory
front_only_memory bytes t (front.Source f) source typed h = absurd (typed_or_fault bytes t f source typed h)
front_only_memory bytes t front.Memory source typed h = refl

pub back_only_memory : BackOnlyMemory
back_only_memory t (back.IllFormed f) formed free h = absurd (formed h.law (site_of f h.part) f.have f.need h.broken)
back_only_memory t (back.Unschedulable sel a b demand) formed free h = absurd (free sel h.1.there a (pos b) demand h.1.here.over)
back_only_memory t back.Memory formed free h = refl

-- a fault of the source's tables is a fault of these tables
of_these : (bytes : List ℕ) (t : Tables) (f : BackFault) → IsTablesOf bytes t → HasBackFault bytes f → IsBackFault t f
of_these bytes t f source h = subst (λ (u : Tables). IsBackFault u f) (tables_unique bytes h.tables t h.of source) h.fault

pub compile_only_memory : CompileOnlyMemory
compile_only_memory bytes t (compile.Source f) source typed formed free h = absurd (typed_or_fault bytes t f source typed h)
compile_only_memory bytes t (compile.IllFormed f) source typed formed free h =
    absurd (let no : back.IllFormed f ≡ back.Memory = back_only_memory t (back.IllFormed f) formed free (of_these bytes t (back.IllFormed f) source h) in cc)
compile_only_memory bytes t (compile.Unschedulable sel a b demand) source typed formed free h =
    let f : BackFault = back.Unschedulable sel a b demand in
    absurd (let no : back.Unschedulable sel a b demand ≡ back.Memory = back_only_memory t f formed free (of_these bytes t f source h) in cc)
compile_only_memory bytes t compile.Memory source typed formed free h = refl

-- ---- one fault

pub one_front_fault : OneFrontFault
one_front_fault bytes (front.Source f) (front.Source g) p q h i = ap front.Source (fault_unique bytes f g h i)
one_front_fault bytes (front.Source f) front.Memory p q h i = absurd (q refl)
one_front_fault bytes front.Memory g p q h i = absurd (p refl)

-- a first overload is one
one_overload : (t : Tables) (j k a c b d m n : ℕ) → IsFirstOverload t j a b m → IsFirstOverload t k c d n
    → ◌≡◌ {A = BackFault} (back.Unschedulable j a b m) (back.Unschedulable k c d n)
one_overload t j k a c b d m n p q = by (cases_less_same j k)
  where
    by : (j < k) ⊎ (j ≡ k) ⊎ (k < j) → ◌≡◌ {A = BackFault} (back.Unschedulable j a b m) (back.Unschedulable k c d n)
    by (inl less) = absurd (q.free j less a (pos b) m p.here.over)
    by (inr (inr more)) = absurd (p.free k more c (pos d) n q.here.over)
    by (inr (inl same)) =
        let other : Reported (tightened (path_jobs t j)) c (pos d) n = subst (λ (s : ℕ). Reported (tightened (path_jobs t s)) c (pos d) n) (sym same) q.here in
        let one = one_report (tightened (path_jobs t j)) a c (pos b) (pos d) m n p.here other in
        let from : a ≡ c = one.0 in
        let to : pos b ≡ pos d = one.1 in
        let demand : m ≡ n = one.2 in
        let end : b ≡ d = cc in
        ap (λ (s : ℕ). back.Unschedulable s a b m) same ∙ ap (λ (x : ℕ). back.Unschedulable k x b m) from ∙ ap (λ (x : ℕ). back.Unschedulable k c x m) end
        ∙ ap (back.Unschedulable k c d) demand

pub one_back_fault : OneBackFault
one_back_fault t (back.IllFormed f) (back.IllFormed g) range p q h i = ap back.IllFormed (one_first_broken t range f g h i)
one_back_fault t (back.IllFormed f) (back.Unschedulable sel a b demand) range p q h i = absurd (i.0 h.law (site_of f h.part) f.have f.need h.broken)
one_back_fault t (back.Unschedulable sel a b demand) (back.IllFormed g) range p q h i = absurd (h.0 i.law (site_of g i.part) g.have g.need i.broken)
one_back_fault t (back.Unschedulable j a b m) (back.Unschedulable k c d n) range p q h i = one_overload t j k a c b d m n h.1 i.1
one_back_fault t back.Memory g range p q h i = absurd (p refl)
one_back_fault t _ back.Memory range p q h i = absurd (q refl)

-- a fault of its tables is no fault of a source
not_both : (bytes : List ℕ) (f : SourceFault) (g : BackFault) → IsSourceFault bytes f → HasBackFault bytes g → ⊥
not_both bytes f g h i = typed_or_fault bytes i.tables f i.of i.typed h

-- two faults of a source's tables
two_faults : (bytes : List ℕ) (f g : BackFault) → (f ≡ back.Memory → ⊥) → (g ≡ back.Memory → ⊥) → HasBackFault bytes f → HasBackFault bytes g → f ≡ g
two_faults bytes f g p q h i = one_back_fault i.tables f g (source_tables_fit bytes i.tables i.short i.of).ranges p q (of_these bytes i.tables f i.of h) i.fault

ill_formed_told : (f : FormFault) → back.IllFormed f ≡ back.Memory → ⊥
ill_formed_told f e = cc

unschedulable_told : (sel a b demand : ℕ) → back.Unschedulable sel a b demand ≡ back.Memory → ⊥
unschedulable_told sel a b demand e = cc

pub one_compile_fault : OneCompileFault
one_compile_fault bytes (compile.Source f) (compile.Source g) p q h i = ap compile.Source (fault_unique bytes f g h i)
one_compile_fault bytes (compile.Source f) (compile.IllFormed g) p q h i = absurd (not_both bytes f (back.IllFormed g) h i)
one_compile_fault bytes (compile.Source f) (compile.Unschedulable k c d n) p q h i = absurd (not_both bytes f (back.Unschedulable k c d n) h i)
one_compile_fault bytes (compile.IllFormed f) (compile.Source g) p q h i = absurd (not_both bytes g (back.IllFormed f) i h)
one_compile_fault bytes (compile.IllFormed f) (compile.IllFormed g) p q h i =
    ap unbuilt_of (two_faults bytes (back.IllFormed f) (back.IllFormed g) (ill_formed_told f) (ill_formed_told g) h i)
one_compile_fault bytes (compile.IllFormed f) (compile.Unschedulable k c d n) p q h i =
    ap unbuilt_of (two_faults bytes (back.IllFormed f) (back.Unschedulable k c d n) (ill_formed_told f) (unschedulable_told k c d n) h i)
one_compile_fault bytes (compile.Unschedulable j a b m) (compile.Source g) p q h i = absurd (not_both bytes g (back.Unschedulable j a b m) i h)
one_compile_fault bytes (compile.Unschedulable j a b m) (compile.IllFormed g) p q h i =
    ap unbuilt_of (two_faults bytes (back.Unschedulable j a b m) (back.IllFormed g) (unschedulable_told j a b m) (ill_formed_told g) h i)
one_compile_fault bytes (compile.Unschedulable j a b m) (compile.Unschedulable k c d n) p q h i =
    ap unbuilt_of (two_faults bytes (back.Unschedulable j a b m) (back.Unschedulable k c d n) (unschedulable_told j a b m) (unschedulable_told k c d n) h i)
one_compile_fault bytes compile.Memory g p q h i = absurd (p refl)
one_compile_fault bytes _ compile.Memory p q h i = absurd (q refl)
