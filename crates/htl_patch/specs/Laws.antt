-- What holds of replaced refinements.
use Rattle.std.specs.Prelude.{◌≡◌, ℕ, List}
use Rattle.htl_load.specs.Alike.{AskTheSame}
use Rattle.htl_object.specs.{Accepted.IsAccepted, Ranges.IsInRange, declared.object.Object.Object}
use Rattle.htl_patch.specs.{Object.patched_object, Object.CanPatch, Patched.patched, Stops.IsPatchFault, Combined.Replacement, declared.fault.PatchFault.PatchFault}

-- an accepted object whose refinement is replaced by one that keeps the form rules and has right functions is accepted
abbrev pub PatchedIsAccepted : Type 0
PatchedIsAccepted = (o donor : Object) (unit mode : List ℕ) (g : Replacement) → IsAccepted o → IsInRange donor → CanPatch o donor unit mode g → IsAccepted (patched_object o g)

-- patched tables ask the processor for what those of the host ask for: along each path the same jobs of root modules, with their windows
-- and worst cases, at the same positions; nodes and starts stay
abbrev pub PatchedAsksTheSame : Type 0
PatchedAsksTheSame =
    (o donor : Object) (unit mode : List ℕ) (g : Replacement) → IsAccepted o → IsInRange donor → CanPatch o donor unit mode g → AskTheSame (patched g) o.tables

-- what can be patched has no fault
abbrev pub PatchableIsNotRefused : Type 0
PatchableIsNotRefused = (o donor : Object) (unit mode : List ℕ) (g : Replacement) (f : PatchFault) → CanPatch o donor unit mode g → IsPatchFault o donor unit mode f → ⊥

-- there is one first fault at most
abbrev pub OneFault : Type 0
OneFault =
    (o donor : Object) (unit mode : List ℕ) → IsAccepted o → IsInRange donor → (f h : PatchFault) → IsPatchFault o donor unit mode f → IsPatchFault o donor unit mode h → f ≡ h
