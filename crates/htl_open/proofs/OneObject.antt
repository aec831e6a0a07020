-- Bytes have one object, or one fault.
use Rattle.std.proofs.Common.{◌≡◌, ℕ, List, Option, Some, Ok, sym, ap, ◌∙◌}
use Rattle.htl_edge.specs.Holdings.{Holdings}
use Rattle.htl_load.proofs.OneAnswer.{not_both, accepted_bytes, bad_field_told, fault_told}
use Rattle.htl_load.proofs.Words.{HasBytes, RefusesBytes, RefusesObject, IsAccepted, first_bad, whole_at, object_in, Malformed, Object, Tables}
use Rattle.htl_load.specs.declared.fault.ObjectFault.{ObjectFault}
use Rattle.htl_load.specs.declared.fault.ObjectFault.TheVariants as fault
use Rattle.htl_object.proofs.ObjectLaws.{one_object, says_itself}
use Rattle.htl_open.specs.{Files.IsObjectFile, Objects.HasObjectTables, Objects.IsAcceptedFile, Objects.IsObjectTables, Objects.SpeaksOfObject}

pub one_of_bytes : (bytes : List ℕ) (o p : Object) → HasBytes bytes o → HasBytes bytes p → o ≡ p
one_of_bytes bytes o p h k = one_object o p h.object k.object (sym h.spelled ∙ k.spelled)

said : (bytes : List ℕ) (o : Object) → HasBytes bytes o → object_in bytes ≡ Ok o
said bytes o h = ap object_in h.spelled ∙ says_itself o h.object

pub accepted_or_refused : (bytes : List ℕ) (o : Object) (f : ObjectFault) → HasBytes bytes o → IsAccepted o → RefusesBytes bytes f → ⊥
accepted_or_refused bytes o f h accepted refused = accepted_bytes bytes o (said bytes o h) (λ p k. one_of_bytes bytes o p h k) accepted f refused

-- bytes of an object have no bad field
pub object_or_bad : (bytes : List ℕ) (o : Object) (m : Malformed) → HasBytes bytes o → first_bad bytes ≡ Some m → ⊥
object_or_bad bytes o m h bad = not_both bytes (whole_at bytes) o m (said bytes o h) bad

of_object : (bytes : List ℕ) (f g : ObjectFault) → RefusesObject bytes g → RefusesBytes bytes f → f ≡ g
of_object bytes f g r refused =
    fault_told bytes r.object (said bytes r.object r.has) (λ p k. one_of_bytes bytes r.object p r.has k) r.has.object.ranges g r.refused f refused

-- they are refused for one fault
pub one_refusal : (bytes : List ℕ) (f g : ObjectFault) → RefusesBytes bytes f → RefusesBytes bytes g → f ≡ g
one_refusal bytes f (fault.Malformed m) p q = bad_field_told bytes m q (λ o h. not_both bytes (whole_at bytes) o m (said bytes o h) q) f p
one_refusal bytes f (fault.IllFormed g) p q = of_object bytes f (fault.IllFormed g) q p
one_refusal bytes f (fault.Function k) p q = of_object bytes f (fault.Function k) q p
one_refusal bytes f (fault.ECode e) p q = of_object bytes f (fault.ECode e) q p
one_refusal bytes f (fault.Schedule sel m) p q = of_object bytes f (fault.Schedule sel m) q p

-- ---- the file

-- what is known of an accepted object
pub IsAcceptedFile-map : (name : Option (List ℕ)) (holds : Option Holdings) (Fact Other : Object → Type 0) → ((o : Object) → Fact o → Other o)
    → IsAcceptedFile name holds Fact → IsAcceptedFile name holds Other
IsAcceptedFile-map name holds Fact Other f a =
    record { bytes = a.bytes; file = a.file; object = a.object; has = a.has; accepted = a.accepted; fact = f a.object a.fact }

-- the object is that of the words
pub SpeaksOfObject-file : (name : Option (List ℕ)) (holds : Option Holdings) (bytes : List ℕ) (f : ObjectFault) (told : Option Tables)
    → IsObjectFile name holds bytes → SpeaksOfObject (HasObjectTables bytes) f told → SpeaksOfObject (IsObjectTables name holds) f told
SpeaksOfObject-file name holds bytes (fault.IllFormed f) told file speaks = record { bytes = bytes; file = file; has = speaks }
SpeaksOfObject-file name holds bytes _ told file speaks = tt
