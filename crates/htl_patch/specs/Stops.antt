-- Why a refinement isn't replaced.
use Rattle.std.specs.Prelude.{◌≡◌, ℕ, List, Option, Some, None}
use Rattle.htl_ecode.specs.Layout.{layout}
use Rattle.htl_load.specs.{Unfit.IsFirstUnfit, declared.fault.ObjectFault.ObjectFault}
use Rattle.htl_load.specs.declared.fault.ObjectFault.TheVariants as object_fault
use Rattle.htl_model.specs.{Broken.Formed, Broken.IsFirstBroken, FunctionTypes.FitPlaces, Tables.Tables}
use Rattle.htl_object.specs.declared.object.Object.{Object}
use Rattle.htl_patch.specs.{Joining.replacement_of, Joining.IsFirstDifference, Joining.first_unmatched, Joining.first_twice, Joining.first_limit, Joining.Joins, Patched.patched, Combined.Replacement, declared.fault.PatchFault.PatchFault}
use Rattle.htl_patch.specs.declared.fault.PatchFault.TheVariants as fault
use Rattle.htl_patch.specs.declared.fault.PatchStop.{PatchStop}
use Rattle.htl_patch.specs.declared.fault.PatchStop.TheVariants as stop

-- ---- the first fault of a replacement

-- why the refinement isn't taken over: the first cause, each presupposing that none of those before it stands
abbrev pub IsReplacementFault : Replacement → PatchFault → Type 0
IsReplacementFault g (fault.Comms place) = IsFirstDifference g.host.comms g.donor.comms place
IsReplacementFault g (fault.Parent inv) = (g.host.comms ≡ g.donor.comms) × (first_unmatched g ≡ Some inv)
IsReplacementFault g (fault.Twice unit) = (g.host.comms ≡ g.donor.comms) × (first_unmatched g ≡ None) × (first_twice g ≡ Some unit)
IsReplacementFault g (fault.Limit which count) =
    (g.host.comms ≡ g.donor.comms) × (first_unmatched g ≡ None) × (first_twice g ≡ None) × (first_limit (patched g) ≡ Some (which, count))
IsReplacementFault g (fault.IllFormed f) = Joins g × IsFirstBroken (patched g) f
IsReplacementFault g (fault.Function k) = Joins g × Formed (patched g) × IsFirstUnfit (patched g) k
IsReplacementFault g _ = ⊥

-- communicators, parents and names have no fault
pub record AreMatched (g : Replacement) : Type 0 where
  pub comms : g.host.comms ≡ g.donor.comms
  pub parents : first_unmatched g ≡ None
  pub names : first_twice g ≡ None

-- the first fault of them
abbrev pub IsJoinFault : Replacement → PatchFault → Type 0
IsJoinFault g (fault.Comms place) = IsReplacementFault g (fault.Comms place)
IsJoinFault g (fault.Parent inv) = IsReplacementFault g (fault.Parent inv)
IsJoinFault g (fault.Twice unit) = IsReplacementFault g (fault.Twice unit)
IsJoinFault g _ = ⊥

-- the first fault, where it comes before the form rules
abbrev pub IsEarlyFault : Replacement → PatchFault → Type 0
IsEarlyFault g (fault.Comms place) = IsReplacementFault g (fault.Comms place)
IsEarlyFault g (fault.Parent inv) = IsReplacementFault g (fault.Parent inv)
IsEarlyFault g (fault.Twice unit) = IsReplacementFault g (fault.Twice unit)
IsEarlyFault g (fault.Limit which count) = IsReplacementFault g (fault.Limit which count)
IsEarlyFault g _ = ⊥

-- one of the two has no mode of these names, or both have one and this is the first fault
abbrev pub IsFaultBy : Option Replacement → PatchFault → Type 0
IsFaultBy None f = f ≡ fault.Mode
IsFaultBy (Some g) f = IsReplacementFault g f

abbrev pub IsPatchFault : Object → Object → List ℕ → List ℕ → PatchFault → Type 0
IsPatchFault o donor unit mode f = IsFaultBy (replacement_of o.tables donor.tables unit mode) f

-- the new tables come with the form rule that they break, and with nothing else
abbrev pub IsHandedBack : Tables → PatchFault → Option Tables → Type 0
IsHandedBack t (fault.IllFormed f) o = o ≡ Some t
IsHandedBack t _ o = o ≡ None

-- ---- the new tables

-- the object of tables, with another's schedules and platform
abbrev pub object_with : Object → Tables → Object
object_with o t = record { tables = t; ecode = layout t; schedules = o.schedules; platform = o.platform }

abbrev pub IsTablesFault : Tables → PatchFault → Option Tables → Type 0
IsTablesFault t (fault.IllFormed f) o = IsFirstBroken t f × (o ≡ Some t)
IsTablesFault t (fault.Function k) o = Formed t × IsFirstUnfit t k × (o ≡ None)
IsTablesFault t _ o = ⊥

-- the first form rule that the tables break, or else the first function that doesn't fit its place; want of memory is free
abbrev pub IsTablesStop : Tables → PatchStop → Type 0
IsTablesStop t (stop.Refused f o) = IsTablesFault t f o
IsTablesStop t stop.Memory = Unit {0}

-- tables that are accepted with another's schedules
abbrev pub IsAcceptedWith : Object → Tables → Object → Type 0
IsAcceptedWith o t l = (l ≡ object_with o t) × Formed t × FitPlaces t

-- ---- a fault of the loader's

abbrev pub IsMisfit : ObjectFault → Type 0
IsMisfit (object_fault.Function k) = Unit {0}
IsMisfit _ = ⊥

abbrev pub misfit_of : ObjectFault → PatchFault
misfit_of (object_fault.Function k) = fault.Function k
misfit_of _ = fault.Mode
