-- Files as accepted objects.
use Rattle.std.specs.Prelude.{ℕ, ◌≡◌, ◌≤◌, Option, Some, List, length, Ok, Err}
use Rattle.std.specs.declared.result.Result.{Result}
use Rattle.htl_base.specs.declared.limits.TheConstants.{MAX_OBJECT}
use Rattle.htl_edge.specs.Holdings.{Holdings}
use Rattle.htl_load.specs.{Loading.HasBytes, Loading.RefusesBytes, declared.fault.ObjectFault.ObjectFault}
use Rattle.htl_load.specs.declared.fault.ObjectFault.TheVariants as fault
use Rattle.htl_model.specs.Tables.{Tables}
use Rattle.htl_object.specs.{Accepted.IsAccepted, declared.object.Object.Object}
use Rattle.htl_open.specs.{Files.IsGiven, Files.IsObjectFile, declared.object.ObjectStop.ObjectStop}
use Rattle.htl_open.specs.declared.object.ObjectStop.TheVariants as stop

-- ---- reading bytes

-- The object with these bytes, of whose tables the fact holds.
pub record HasObjectTables (bytes : List ℕ) (Fact : Tables → Type 0) : Type 0 where
  pub object : Object
  pub has : HasBytes bytes object
  pub fact : Fact object.tables

-- The tables that the line of a fault speaks of: those of the object, where they break a form rule.
abbrev pub SpeaksOfObject : ((Tables → Type 0) → Type 0) → ObjectFault → Option Tables → Type 0
SpeaksOfObject HasObject (fault.IllFormed f) tables = HasObject (λ t. tables ≡ Some t)
SpeaksOfObject HasObject _ tables = Unit {0}

-- what reading bytes as an accepted object answers
abbrev pub IsObjectRead : List ℕ → Result Object ObjectStop → Type 0
IsObjectRead bytes (Ok o) = HasBytes bytes o × IsAccepted o
IsObjectRead bytes (Err (stop.Refused f tables)) = RefusesBytes bytes f × SpeaksOfObject (HasObjectTables bytes) f tables
IsObjectRead bytes (Err stop.Memory) = Unit {0}

-- ---- the file

-- The words name a file, and its bytes are refused for this fault: no object has them, or the one that has them isn't accepted.
pub record IsRefusedFile (name : Option (List ℕ)) (holds : Option Holdings) (f : ObjectFault) : Type 0 where
  pub bytes : List ℕ
  pub file : IsObjectFile name holds bytes
  pub refused : RefusesBytes bytes f

-- The words name a file whose bytes an accepted object has, of which the fact holds.
pub record IsAcceptedFile (name : Option (List ℕ)) (holds : Option Holdings) (Fact : Object → Type 0) : Type 0 where
  pub bytes : List ℕ
  pub file : IsObjectFile name holds bytes
  pub object : Object
  pub has : HasBytes bytes object
  pub accepted : IsAccepted object
  pub fact : Fact object

-- The words name a file whose bytes an object has, of whose tables the fact holds.
pub record IsObjectTables (name : Option (List ℕ)) (holds : Option Holdings) (Fact : Tables → Type 0) : Type 0 where
  pub bytes : List ℕ
  pub file : IsObjectFile name holds bytes
  pub has : HasObjectTables bytes Fact

-- The words name a file of at most 16,777,216 bytes, the shelf tells that it holds it, counted no fault of it, and an accepted object has its bytes.
pub record IsReadyObject (name : Option (List ℕ)) (holds : Option Holdings) (before after : List ℕ → ℕ) (o : Object) : Type 0 where
  pub bytes : List ℕ
  pub given : IsGiven name holds before after bytes
  pub short : length bytes ≤ MAX_OBJECT
  pub has : HasBytes bytes o
  pub accepted : IsAccepted o
