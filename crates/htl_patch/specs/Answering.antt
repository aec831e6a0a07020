-- What patching answers.
use Rattle.std.specs.Prelude.{◌≡◌, ℕ, List, Option, Some, None, Result, Ok, Err}
use Rattle.htl_model.specs.Tables.{Tables}
use Rattle.htl_object.specs.declared.object.Object.{Object}
use Rattle.htl_patch.specs.{Joining.replacement_of, Object.patched_object, Object.CanPatch, Patched.patched, Stops.IsPatchFault, Stops.IsHandedBack, Combined.Replacement, declared.fault.PatchFault.PatchFault}
use Rattle.htl_patch.specs.declared.fault.PatchStop.{PatchStop}
use Rattle.htl_patch.specs.declared.fault.PatchStop.TheVariants as stop

-- the object in which the refinement of the mode of these names is the donor's
abbrev pub IsPatched : Object → Object → List ℕ → List ℕ → Object → Type 0
IsPatched o donor unit mode l = (g : Replacement) × CanPatch o donor unit mode g × (l ≡ patched_object o g)

-- the new tables, where there are any, come with the form rule that they break, and with nothing else
abbrev pub IsHandedBackBy : Option Replacement → PatchFault → Option Tables → Type 0
IsHandedBackBy None f t = t ≡ None
IsHandedBackBy (Some g) f t = IsHandedBack (patched g) f t

-- the first fault; want of memory is free
abbrev pub IsPatchStop : Object → Object → List ℕ → List ℕ → PatchStop → Type 0
IsPatchStop o donor unit mode (stop.Refused f t) = IsPatchFault o donor unit mode f × IsHandedBackBy (replacement_of o.tables donor.tables unit mode) f t
IsPatchStop o donor unit mode stop.Memory = Unit {0}

-- this object, unless memory runs out
abbrev pub IsPatchedAs : Object → Result Object PatchStop → Type 0
IsPatchedAs o (Ok l) = l ≡ o
IsPatchedAs o (Err (stop.Refused f t)) = ⊥
IsPatchedAs o (Err stop.Memory) = Unit {0}

-- refused for this fault, unless memory runs out
abbrev pub PatchIsRefusedFor : PatchFault → Result Object PatchStop → Type 0
PatchIsRefusedFor f (Ok l) = ⊥
PatchIsRefusedFor f (Err (stop.Refused h t)) = f ≡ h
PatchIsRefusedFor f (Err stop.Memory) = Unit {0}
