-- What loading answers.
use Rattle.std.specs.Prelude.{◌≡◌, ℕ, List, Some, Result, Ok, Err}
use Rattle.htl_load.specs.{Faults.IsRefused, declared.fault.LoadFault.LoadFault, declared.fault.ObjectFault.ObjectFault}
use Rattle.htl_load.specs.declared.fault.LoadFault.TheVariants as load
use Rattle.htl_load.specs.declared.fault.ObjectFault.TheVariants as fault
use Rattle.htl_object.specs.{Files.first_bad, Objects.IsObject, Objects.object_bytes, declared.object.Object.Object}

-- the object, which is in range, has these bytes
pub record HasBytes (bytes : List ℕ) (o : Object) : Type 0 where
  pub object : IsObject o
  pub spelled : bytes ≡ object_bytes o

-- the object with these bytes isn't accepted, for this fault
pub record RefusesObject (bytes : List ℕ) (f : ObjectFault) : Type 0 where
  pub object : Object
  pub has : HasBytes bytes object
  pub refused : IsRefused object f

-- no object has these bytes, and this is their first bad field; or the object that has them isn't accepted
abbrev pub RefusesBytes : List ℕ → ObjectFault → Type 0
RefusesBytes bytes (fault.Malformed m) = first_bad bytes ≡ Some m
RefusesBytes bytes (fault.IllFormed f) = RefusesObject bytes (fault.IllFormed f)
RefusesBytes bytes (fault.Function k) = RefusesObject bytes (fault.Function k)
RefusesBytes bytes (fault.ECode e) = RefusesObject bytes (fault.ECode e)
RefusesBytes bytes (fault.Schedule sel m) = RefusesObject bytes (fault.Schedule sel m)

-- want of memory is free
abbrev pub IsLoadFault : List ℕ → LoadFault → Type 0
IsLoadFault bytes (load.Refused f) = RefusesBytes bytes f
IsLoadFault bytes load.Memory = Unit {0}

-- this object, unless memory runs out
abbrev pub IsLoadedAs : Object → Result Object LoadFault → Type 0
IsLoadedAs o (Ok l) = l ≡ o
IsLoadedAs o (Err (load.Refused f)) = ⊥
IsLoadedAs o (Err load.Memory) = Unit {0}

-- refused for this fault, unless memory runs out
abbrev pub IsRefusedFor : ObjectFault → Result Object LoadFault → Type 0
IsRefusedFor f (Ok l) = ⊥
IsRefusedFor f (Err (load.Refused g)) = f ≡ g
IsRefusedFor f (Err load.Memory) = Unit {0}
