-- Refusals of the loader.
use Rattle.std.specs.Prelude.{◌≡◌, ◌≢◌}
use Rattle.htl_model.specs.declared.form_fault.FormFault.{FormFault}
use Rattle.htl_object.specs.{Accepted.IsAccepted, Ranges.IsInRange, declared.object.Object.Object}
use Rattle.htl_load.specs.{Faults.IsRefused, declared.fault.ObjectFault.ObjectFault}
use Rattle.htl_load.specs.declared.fault.ObjectFault.TheVariants as fault

-- an accepted object has no fault
abbrev pub AcceptedIsNotRefused : Type 0
AcceptedIsNotRefused = (o : Object) (f : ObjectFault) → IsAccepted o → IsRefused o f → ⊥

-- an object in range has one first fault at most
abbrev pub OneFault : Type 0
OneFault = (o : Object) (f g : ObjectFault) → IsInRange o → IsRefused o f → IsRefused o g → f ≡ g

-- an object in range exceeds no limit of frames, so that form rule 2 is never what is told of it
abbrev pub NoFrameFault : Type 0
NoFrameFault = (o : Object) (f : FormFault) → IsInRange o → IsRefused o (fault.IllFormed f) → f.rule ≢ 2
