-- What stops a source: a fault of its own, of the platform file, or of its tables with code; with the tables and without.
use Rattle.std.proofs.Common.{◌≡◌, ◌≤◌, ℕ, List, length, Some, Result, IfOk, IfErr, sym, subst}
use Rattle.std.proofs.lemmas.Result.{IfErr-weaker, IfOk-weaker}
use Rattle.htl_compile.proofs.{FromSource.back_of_source, OnPlatform.placed, OnPlatform.says, OnPlatform.by_back, OnPlatform.can_code_on, OnPlatform.compiled_on, OnPlatform.no_platform_on}
use Rattle.htl_compile.proofs.Words.{IsBackFault, IsCompiledOn, IsObjectOf, IsOn, IsNoPlatform, IsFront, BackFault, PlatformStop, Tables}
use Rattle.htl_compile.specs.{Stops.IsNotCompiled, Stops.IsNotCompiledOn, Stops.IsUnbuilt, Stops.unplaced_of, Stops.stop_of, declared.stop.SourceStop.SourceStop}
use Rattle.htl_compile.specs.declared.building.BackFault.TheVariants as back
use Rattle.htl_platform.specs.declared.fault.PlatformStop.TheVariants as placing

-- ---- for no platform

by_fault : (bytes : List ℕ) (u : Tables) (f : BackFault) → length bytes ≤ 1048576 → IsFront bytes u → IsBackFault u f → IsNotCompiled bytes (stop_of u f)
by_fault bytes u (back.IllFormed f) short front is =
    (back_of_source bytes u (back.IllFormed f) short front is, record { tables = front.tables; of = front.source; can = front.can; fact = front.is })
by_fault bytes u (back.Unschedulable sel a b demand) short front is = back_of_source bytes u (back.Unschedulable sel a b demand) short front is
by_fault bytes u back.Memory short front is = tt

pub IsNotCompiled-unbuilt : (bytes : List ℕ) (u : Tables) (s : SourceStop) → length bytes ≤ 1048576 → IsFront bytes u → IsUnbuilt u s → IsNotCompiled bytes s
IsNotCompiled-unbuilt bytes u s short front h = subst (IsNotCompiled bytes) (sym h.is) (by_fault bytes u h.fault short front h.has)

pub all_unbuilt : {V : Type 0} (bytes : List ℕ) (u : Tables) → length bytes ≤ 1048576 → IsFront bytes u → (r : Result V SourceStop) → IfErr r (IsUnbuilt u) → IfErr r (IsNotCompiled bytes)
all_unbuilt bytes u short front r h = IfErr-weaker r (IsUnbuilt u) (IsNotCompiled bytes) (λ s i. IsNotCompiled-unbuilt bytes u s short front i) h

-- ---- for a platform

pub IsNotCompiledOn-unplaced : (bytes file : List ℕ) (u : Tables) (s : PlatformStop) → length bytes ≤ 1048576 → IsFront bytes u → IsNoPlatform u file s → IsNotCompiledOn bytes file (unplaced_of s)
IsNotCompiledOn-unplaced bytes file u (placing.Refused f) short h is = no_platform_on bytes file u f short h is
IsNotCompiledOn-unplaced bytes file u placing.Memory short h is = tt

module _ (bytes file : List ℕ) (u v : Tables) (name : List ℕ) (short : length bytes ≤ 1048576) (front : IsFront bytes u) (on : IsOn u file v name) where
  by_fault_on : (f : BackFault) → IsBackFault v f → IsNotCompiledOn bytes file (stop_of v f)
  by_fault_on (back.IllFormed f) is = (
    by_back bytes file u v name short front on (back.IllFormed f) is,
    record {
      tables = front.tables;
      of = front.source;
      platform = on.platform;
      says = says bytes file u v name short front on;
      can = can_code_on bytes file u v name short front on;
      fact = placed bytes file u v name short front on;
    },
  )
  by_fault_on (back.Unschedulable sel a b demand) is = by_back bytes file u v name short front on (back.Unschedulable sel a b demand) is
  by_fault_on back.Memory is = tt

  pub IsNotCompiledOn-unbuilt : (s : SourceStop) → IsUnbuilt v s → IsNotCompiledOn bytes file s
  IsNotCompiledOn-unbuilt s h = subst (IsNotCompiledOn bytes file) (sym h.is) (by_fault_on h.fault h.has)

  pub all_unbuilt_on : {V : Type 0} (r : Result V SourceStop) → IfErr r (IsUnbuilt v) → IfErr r (IsNotCompiledOn bytes file)
  all_unbuilt_on r h = IfErr-weaker r (IsUnbuilt v) (IsNotCompiledOn bytes file) IsNotCompiledOn-unbuilt h

  pub all_compiled_on : {V E : Type 0} (items : V → List ℕ) (r : Result V E) → IfOk r (λ x. IsObjectOf (Some name) v (items x)) → IfOk r (λ x. IsCompiledOn bytes file (items x))
  all_compiled_on items r h =
      IfOk-weaker r (λ x. IsObjectOf (Some name) v (items x)) (λ x. IsCompiledOn bytes file (items x)) (λ x o. compiled_on bytes file u v name short front on (items x) o) h
