-- What compiling a source on a platform answers.
use Rattle.std.proofs.Common.{◌≡◌, ◌≤◌, ◌⊎◌, ℕ, List, length, Some, Result, Ok, Err, IfOk, IfErr, MatchResult, refl, sym, ◌∙◌, ap, subst, inl, inr}
use Rattle.htl_compile.proofs.{Completeness.back_only_memory, Completeness.one_back_fault, FromSource.uncoded, FromSource.uncoded_built, SourceLaws.tables_unique, SourceLaws.typed_or_fault, SourceLaws.fault_unique}
use Rattle.htl_compile.proofs.{PlatformTables.platform_spans, PlatformTables.coded_with, PlatformTables.source_tables_with, PlatformTables.can_code_with, SourceTables.source_tables_fit}
use Rattle.htl_compile.proofs.Words.{IsBackFault, IsObjectOf, unbuilt_of, object_for, AreSchedulable, coded, AreTyped, CanCode, built_on, IsOn, IsNoPlatform, IsCompiledOn, HasPlatformFault, HasBackFaultOn, IsWithFault, IsTablesOf, IsFront, IsSourceFault, BackFault, CompileFault, WithFault, SourceFault, Formed, Tables, IsObject, object_bytes, IsPlatform, with_worst, platform_of, PlatformFault, PlatformStop, Platform}
use Rattle.htl_compile.specs.declared.building.BackFault.TheVariants as back
use Rattle.htl_compile.specs.declared.compiling.CompileFault.TheVariants as compile
use Rattle.htl_compile.specs.declared.compiling_on.WithFault.TheVariants as on
use Rattle.htl_platform.specs.declared.fault.PlatformStop.TheVariants as stop

-- ---- from tables with code to their source

-- the platform that a file says for tables with code is that for the tables
module _ (source file : List ℕ) (u v : Tables) (name : List ℕ) (short : length source ≤ 1048576) (h : IsFront source u) (p : IsOn u file v name) where
  pub says : platform_of h.tables file ≡ Ok p.platform
  says = subst (λ (t : Tables). platform_of t file ≡ Ok p.platform) h.is p.says

  -- the tables with its worst cases and with code
  pub placed : v ≡ coded (with_worst h.tables p.platform.worst)
  placed = p.applied ∙ ap (λ (t : Tables). with_worst t p.platform.worst) h.is ∙ coded_with h.tables p.platform.worst

  has_back : (f : BackFault) → IsBackFault v f → HasBackFaultOn source file f
  has_back f is =
      record {
        short = short;
        tables = h.tables;
        of = h.source;
        typed = h.can.typed;
        platform = p.platform;
        says = says;
        fault = uncoded (with_worst h.tables p.platform.worst) f (subst (λ (t : Tables). IsBackFault t f) placed is);
      }

  pub by_back : (f : BackFault) → IsBackFault v f → IsWithFault source file (on.Compile (unbuilt_of f))
  by_back (back.IllFormed f) is = has_back (back.IllFormed f) is
  by_back (back.Unschedulable sel a b demand) is = has_back (back.Unschedulable sel a b demand) is
  by_back back.Memory is = tt

  -- the functions of the tables on the platform can be compiled
  pub can_code_on : CanCode (with_worst h.tables p.platform.worst)
  can_code_on = can_code_with h.tables p.platform.worst h.can (platform_spans h.tables file p.platform h.can.tables.ranges says)

  pub compiled_on : (bytes : List ℕ) → IsObjectOf (Some name) v bytes → IsCompiledOn source file bytes
  compiled_on bytes o =
      let same : object_for (Some name) v ≡ built_on p.platform h.tables =
      ap (λ (t : Tables). object_for (Some name) t) placed ∙ ap (λ (n : List ℕ). object_for (Some n) (coded (with_worst h.tables p.platform.worst))) p.named in
      record {
        tables = h.tables;
        of = h.source;
        platform = p.platform;
        says = says;
        typed = h.can.typed;
        can =
            uncoded_built (with_worst h.tables p.platform.worst) can_code_on (subst Formed placed o.formed) (subst AreSchedulable placed o.schedulable);
        object = subst IsObject same o.object;
        is = o.is ∙ ap object_bytes same;
      }

pub refused_on : (t : Tables) (file : List ℕ) (s : PlatformStop) → IsPlatform t file (Err s) → IsNoPlatform t file s
refused_on t file (stop.Refused f) h = h
refused_on t file stop.Memory h = tt

pub no_platform_on : (source file : List ℕ) (u : Tables) (f : PlatformFault) → length source ≤ 1048576 → IsFront source u → platform_of u file ≡ Err f → HasPlatformFault source file f
no_platform_on source file u f short h says = record {
  short = short;
  tables = h.tables;
  of = h.source;
  typed = h.can.typed;
  says = subst (λ (t : Tables). platform_of t file ≡ Err f) h.is says;
}

-- where a fault stands: in the source, in the platform file, or in the tables
data Stage (source file : List ℕ) (f : WithFault) : Type 0 where
  text : (g : SourceFault) → IsSourceFault source g → on.Compile (compile.Source g) ≡ f → Stage source file f
  platform : (g : PlatformFault) → HasPlatformFault source file g → on.Platform g ≡ f → Stage source file f
  tables : (g : BackFault) → (g ≡ back.Memory → ⊥) → HasBackFaultOn source file g → on.Compile (unbuilt_of g) ≡ f → Stage source file f

-- ---- completeness

module _ (source file : List ℕ) where
  abbrev Memory : WithFault
  Memory = on.Compile compile.Memory

  same_platform : (t u : Tables) (p : Platform) (r : Result Platform PlatformFault) → u ≡ t → platform_of u file ≡ Ok p → platform_of t file ≡ r → r ≡ Ok p
  same_platform t u p r same says other = sym other ∙ ap (λ (v : Tables). platform_of v file) (sym same) ∙ says

  -- the tables of the source on the platform that the file says
  module _ (t : Tables) (p : Platform) (of : IsTablesOf source t) (says : platform_of t file ≡ Ok p) where
    of_these : (f : BackFault) → HasBackFaultOn source file f → IsBackFault (with_worst t p.worst) f
    of_these f h =
        let same : h.tables ≡ t = tables_unique source h.tables t h.of of in
        let ok : Ok p ≡ Ok h.platform = same_platform t h.tables h.platform (Ok p) same h.says says in
        let platform : h.platform ≡ p = cc in
        subst (λ (u : Tables). IsBackFault (with_worst u p.worst) f) same (subst (λ (q : Platform). IsBackFault (with_worst h.tables q.worst) f) platform h.fault)

    no_platform_fault : (f : PlatformFault) → HasPlatformFault source file f → ⊥
    no_platform_fault f h =
        let no : Err f ≡ Ok p = sym h.says ∙ ap (λ (v : Tables). platform_of v file) (tables_unique source h.tables t h.of of) ∙ says in cc

    -- without a fault of the tables on the platform there is none but want of memory
    pub only_memory : AreTyped t → Formed (with_worst t p.worst) → AreSchedulable (with_worst t p.worst) → (f : WithFault) → IsWithFault source file f → f ≡ Memory
    only_memory typed formed free (on.Compile (compile.Source f)) h = absurd (typed_or_fault source t f of typed h)
    only_memory typed formed free (on.Platform f) h = absurd (no_platform_fault f h)
    only_memory typed formed free (on.Compile (compile.IllFormed f)) h =
        absurd (let no : back.IllFormed f ≡ back.Memory = back_only_memory (with_worst t p.worst) (back.IllFormed f) formed free (of_these (back.IllFormed f) h) in cc)
    only_memory typed formed free (on.Compile (compile.Unschedulable sel a b demand)) h =
        let f : BackFault = back.Unschedulable sel a b demand in
        absurd (let no : back.Unschedulable sel a b demand ≡ back.Memory = back_only_memory (with_worst t p.worst) f formed free (of_these f h) in cc)
    only_memory typed formed free (on.Compile compile.Memory) h = refl

    same_bytes : (bytes : List ℕ) → IsCompiledOn source file bytes → bytes ≡ object_bytes (built_on p t)
    same_bytes bytes h =
        let same : h.tables ≡ t = tables_unique source h.tables t h.of of in
        let ok : Ok p ≡ Ok h.platform = same_platform t h.tables h.platform (Ok p) same h.says says in
        let platform : h.platform ≡ p = cc in
        h.is ∙ ap (λ (q : Platform). object_bytes (built_on q h.tables)) platform ∙ ap (λ (u : Tables). object_bytes (built_on p u)) same

    pub with_only : {V : Type 0} (items : V → List ℕ) → AreTyped t → Formed (with_worst t p.worst) → AreSchedulable (with_worst t p.worst) → (r : Result V WithFault)
        → IfOk r (λ v. IsCompiledOn source file (items v)) → IfErr r (IsWithFault source file) → MatchResult r (λ v. items v ≡ object_bytes (built_on p t)) (λ f. f ≡ Memory)
    with_only items typed formed free (Ok v) h i = same_bytes (items v) h
    with_only items typed formed free (Err e) h i = only_memory typed formed free e i

  -- ---- one fault

  stage : (f : WithFault) → (f ≡ Memory → ⊥) → IsWithFault source file f → Stage source file f
  stage (on.Compile (compile.Source f)) told h = text f h refl
  stage (on.Platform f) told h = platform f h refl
  stage (on.Compile (compile.IllFormed f)) told h = tables (back.IllFormed f) (λ e. cc) h refl
  stage (on.Compile (compile.Unschedulable sel a b demand)) told h = tables (back.Unschedulable sel a b demand) (λ e. cc) h refl
  stage (on.Compile compile.Memory) told h = absurd (told refl)

  not_platform : (f : PlatformFault) (g : BackFault) → HasPlatformFault source file f → HasBackFaultOn source file g → ⊥
  not_platform f g h i = no_platform_fault i.tables i.platform i.of i.says f h

  one_platform : (f g : PlatformFault) → HasPlatformFault source file f → HasPlatformFault source file g → f ≡ g
  one_platform f g h i =
      let both : Err f ≡ Err g = sym h.says ∙ ap (λ (v : Tables). platform_of v file) (tables_unique source h.tables i.tables h.of i.of) ∙ i.says in cc

  one_of_tables : (f g : BackFault) → (f ≡ back.Memory → ⊥) → (g ≡ back.Memory → ⊥) → HasBackFaultOn source file f → HasBackFaultOn source file g → f ≡ g
  one_of_tables f g p q h i =
      let fit = source_tables_fit source i.tables i.short i.of in
      let range = source_tables_with i.tables i.platform.worst fit (platform_spans i.tables file i.platform fit.ranges i.says) in
      one_back_fault (with_worst i.tables i.platform.worst) f g range.ranges p q (of_these i.tables i.platform i.of i.says f h) i.fault

  one : (f g : WithFault) → Stage source file f → Stage source file g → g ≡ f
  one f g (text x h d) (text y i e) = sym e ∙ ap (λ (z : SourceFault). on.Compile (compile.Source z)) (fault_unique source y x i h) ∙ d
  one f g (text x h d) (platform y i e) = absurd (typed_or_fault source i.tables x i.of i.typed h)
  one f g (text x h d) (tables y told i e) = absurd (typed_or_fault source i.tables x i.of i.typed h)
  one f g (platform x h d) (text y i e) = absurd (typed_or_fault source h.tables y h.of h.typed i)
  one f g (platform x h d) (platform y i e) = sym e ∙ ap on.Platform (one_platform y x i h) ∙ d
  one f g (platform x h d) (tables y told i e) = absurd (not_platform x y h i)
  one f g (tables x told h d) (text y i e) = absurd (typed_or_fault source h.tables y h.of h.typed i)
  one f g (tables x told h d) (platform y i e) = absurd (not_platform y x i h)
  one f g (tables x told h d) (tables y other i e) = sym e ∙ ap (λ (b : BackFault). on.Compile (unbuilt_of b)) (one_of_tables y x other told i h) ∙ d

  pub one_with_fault : (f g : WithFault) → (f ≡ Memory → ⊥) → (g ≡ Memory → ⊥) → IsWithFault source file f → IsWithFault source file g → g ≡ f
  one_with_fault f g known other is h = one f g (stage f known is) (stage g other h)

  is_memory : (f : WithFault) → (f ≡ Memory) ⊎ (f ≡ Memory → ⊥)
  is_memory (on.Compile compile.Memory) = inl refl
  is_memory _ = inr (λ e. cc)

  pub with_refused : {V : Type 0} (items : V → List ℕ) (f : WithFault) → (f ≡ Memory → ⊥) → IsWithFault source file f → (r : Result V WithFault)
      → IfOk r (λ v. IsCompiledOn source file (items v)) → IfErr r (IsWithFault source file) → MatchResult r (λ _. ⊥) (λ g. (g ≡ f) ⊎ (g ≡ Memory))
  with_refused items f told is (Ok v) h i = told (only_memory h.tables h.platform h.of h.says h.typed h.can.formed h.can.schedulable f is)
  with_refused items f told is (Err e) h i = by (is_memory e)
    where
      by : (e ≡ Memory) ⊎ (e ≡ Memory → ⊥) → (e ≡ f) ⊎ (e ≡ Memory)
      by (inl memory) = inr memory
      by (inr other) = inl (one_with_fault f e told other is i)
