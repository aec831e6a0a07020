-- From what the tables with code say to what their source says.
use Rattle.std.proofs.Common.{◌≡◌, ◌≤◌, List, ℕ, length, Option, None, Result, Ok, Err, IfOk, refl, sym, ◌∙◌, ap, subst}
use Rattle.htl_compile.proofs.{CodedLaws.first_coded, PlanLaws.overload_same, PlanLaws.free_same}
use Rattle.htl_compile.proofs.Words.{IsBackFault, HasBackFault, IsCompileFault, IsCompiledTo, IsObjectOf, unbuilt_of, object_for, object_of, built, AreSchedulable, CanBuild, coded, codes, CanCode, IsFront, BackFault, formed_same, Formed, Tables, IsObject, object_bytes, Object, formed}
use Rattle.htl_compile.specs.declared.building.BackFault.TheVariants as back

-- a fault of the tables with code is one of the tables
pub uncoded : (t : Tables) (f : BackFault) → IsBackFault (coded t) f → IsBackFault t f
uncoded t (back.IllFormed f) x = first_coded t f x
uncoded t (back.Unschedulable sel a b demand) x = (formed_same t (codes t) t.functions x.0, overload_same t (codes t) sel a b demand x.1)
uncoded t back.Memory x = tt

-- and one of the source
pub back_of_source : (bytes : List ℕ) (u : Tables) (f : BackFault) → length bytes ≤ 1048576 → IsFront bytes u → IsBackFault u f → IsCompileFault bytes (unbuilt_of f)
back_of_source bytes u f short h i = by f (uncoded h.tables f (subst (λ (v : Tables). IsBackFault v f) h.is i))
  where
    has : (g : BackFault) → IsBackFault h.tables g → HasBackFault bytes g
    has g x = record { short = short; tables = h.tables; of = h.source; typed = h.can.typed; fault = x }

    by : (g : BackFault) → IsBackFault h.tables g → IsCompileFault bytes (unbuilt_of g)
    by (back.IllFormed g) x = has (back.IllFormed g) x
    by (back.Unschedulable sel a b demand) x = has (back.Unschedulable sel a b demand) x
    by back.Memory x = tt

-- what can be built of the tables with code can be built of the tables
pub uncoded_built : (t : Tables) → CanCode t → Formed (coded t) → AreSchedulable (coded t) → CanBuild t
uncoded_built t can formed free = record { can = can; formed = formed_same t (codes t) t.functions formed; schedulable = free_same t (codes t) free }

pub source_built : (bytes : List ℕ) (u : Tables) → (h : IsFront bytes u) → Formed u → AreSchedulable u → CanBuild h.tables
source_built bytes u h formed free = uncoded_built h.tables h.can (subst Formed h.is formed) (subst AreSchedulable h.is free)

-- the bytes of what is built of the tables with code are those of the object of the source's tables
pub compiled_to : (source bytes : List ℕ) (u : Tables) (o : Object) → IsFront source u → o ≡ object_of u → Formed u → AreSchedulable u → IsObject o → bytes ≡ object_bytes o
    → IsCompiledTo source bytes
compiled_to source bytes u o h is formed free object spelled =
    let same : o ≡ built h.tables = is ∙ ap object_of h.is in
    record {
      tables = h.tables;
      of = h.source;
      can = source_built source u h formed free;
      object = subst IsObject same object;
      is = spelled ∙ ap object_bytes same;
    }

pub object_compiled : (source bytes : List ℕ) (u : Tables) → IsFront source u → IsObjectOf None u bytes → IsCompiledTo source bytes
object_compiled source bytes u h o = compiled_to source bytes u (object_of u) h refl o.formed o.schedulable o.object o.is

-- what comes of the tables with code of a source is what comes of the source
pub all_compiled : {V E : Type 0} (items : V → List ℕ) (source : List ℕ) (u : Tables) → IsFront source u → (r : Result V E) → IfOk r (λ v. IsObjectOf None u (items v)) → IfOk r (λ v. IsCompiledTo source (items v))
all_compiled items source u h (Ok v) o = object_compiled source (items v) u h o
all_compiled items source u h (Err e) o = tt

-- what is built of tables with code and spelled is their object
pub object_spelled : (platform : Option (List ℕ)) (u : Tables) (o : Object) (bytes : List ℕ) → o ≡ object_for platform u → Formed u → AreSchedulable u → IsObject o → bytes ≡ object_bytes o
    → IsObjectOf platform u bytes
object_spelled platform u o bytes is formed free object spelled =
    record { formed = formed; schedulable = free; object = subst IsObject is object; is = spelled ∙ ap object_bytes is }
